use Rattle.lq_plain.proofs.KeptFunctions.{keeps}
use Rattle.lq_plain.proofs.Named.{sound_where_named}
use Rattle.lq_plain.proofs.laws.meaning_stays.Goals as goal

pub returns : goal.returns
returns c = λ p named stored. keeps p (sound_where_named p named stored).regular
