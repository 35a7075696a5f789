use Rattle.lq_classes.proofs.FormedLemmas.{formed_is_small}
use Rattle.lq_classes.proofs.map.classes.Goals as goal

pub classes_of_small-requires : goal.classes_of_small-requires
classes_of_small-requires c = formed_is_small c.args.program.now c.requires
