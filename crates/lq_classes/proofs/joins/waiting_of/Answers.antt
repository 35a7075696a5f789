use Rattle.std.proofs.Common.{arith, subst}
use Rattle.std.specs.Prelude.{Contains}
use Rattle.std.proofs.lemmas.List.Elements.{Contains-get_or}
use Rattle.lq_classes.specs.declared.links.Link.{Link}
use Rattle.lq_classes.proofs.joins.waiting_of.Goals as goal

pub pair_of-requires-clause-fields : goal.pair_of-requires-clause-fields
pair_of-requires-clause-fields c = λ base field value is. c.requires.fields base field value (subst (λ (l : Link). Contains c.args.links.now l) is (Contains-get_or c.args.links.now c.loop-link.link-index _ (omega (arith, c.loop-link-test.true))))
