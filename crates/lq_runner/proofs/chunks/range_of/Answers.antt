use Rattle.std.proofs.Common.{◌+◌, ◌*◌, ◌/◌, ◌%◌, ◌∙◌, arith}
use Rattle.lq_runner.proofs.Sizes.{chunk_of, same_chunk, start_at, size_at}
use Rattle.lq_runner.proofs.chunks.range_of.Goals as goal

pub returns-then-number-larger : goal.returns-then-number-larger
returns-then-number-larger c =
    let n = c.args.n in
    let count = c.min-count.result in
    let number = c.args.number in
    λ chunks are.
    chunk_of n c.args.most count chunks are (omega arith) (omega arith) number (omega arith)
    ∙ same_chunk (start_at (n / count) (n % count) number) (size_at (n / count) (n % count) number) (number * (n / count + 1)) (n / count + 1) (omega arith) (omega arith)

pub returns-else-number-larger : goal.returns-else-number-larger
returns-else-number-larger c =
    let n = c.args.n in
    let count = c.min-count.result in
    let number = c.args.number in
    λ chunks are.
    chunk_of n c.args.most count chunks are (omega arith) (omega arith) number (omega arith)
    ∙ same_chunk (start_at (n / count) (n % count) number) (size_at (n / count) (n % count) number) (number * (n / count) + n % count) (n / count) (omega arith) (omega arith)
