use Rattle.std.proofs.Common.{refl}
use Rattle.lq_parser.proofs.OneProgram.{one_program}
use Rattle.lq_parser.proofs.laws.tree_is_one.Goals as goal

pub returns : goal.returns
returns c = λ text tokens tree other x y. one_program x y refl
