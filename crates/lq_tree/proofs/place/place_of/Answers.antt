use Rattle.std.proofs.Common.{arith, not, take, length-take}
use Rattle.std.proofs.lemmas.List.Sums.{suffix_len-le-length}
use Rattle.lq_tree.specs.Place.{ends_line}
use Rattle.lq_tree.proofs.place.place_of.Goals as goal

-- a column is at most one more than the number of bytes so far
pub overflow_add-place-else-byte-eq10 : goal.overflow_add-place-else-byte-eq10
overflow_add-place-else-byte-eq10 c =
    let front = take c.loop-byte.byte-index (take c.args.at c.args.text.now) in
    omega (arith, suffix_len-le-length (λ byte. not (ends_line byte)) front, length-take c.loop-byte.byte-index (take c.args.at c.args.text.now), length-take c.args.at c.args.text.now)
