use Rattle.lq_plain.proofs.Named.{sound_where_named}
use Rattle.lq_plain.proofs.Ruled.{sequential_ruled, never_unruled}
use Rattle.lq_plain.proofs.laws.meanings_have_rules.Goals as goal

pub returns : goal.returns
returns c = λ p named stored fuel words input.
    let sound = sound_where_named p named stored in
    never_unruled _ (sequential_ruled p fuel sound.regular.0 sound.outside words input sound.main)
