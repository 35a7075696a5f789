use Rattle.std.proofs.Common.{ap, ◌∙◌, arith}
use Rattle.std.specs.List.{range_with_len}
use Rattle.lq_runner.proofs.Sizes.{ordinals_follow}
use Rattle.lq_runner.proofs.laws.chunks_cover_the_ordinals.Goals as goal

pub returns : goal.returns
returns c = λ n most chunks are. (ordinals_follow 0 n chunks are.whole).1 ∙ ap (range_with_len 0) (omega arith)
