-- What is gone from `rest` has been written.
use Rattle.std.proofs.Common.{◌≡◌, ℕ, length, take, drop}
use Rattle.std.specs.Io.KnownBytes.{Appends}
use Rattle.lq_shelf.proofs.writer_sink.write_whole.Given as goal

abbrev pub invariant-pieces : goal.invariant-pieces
invariant-pieces g l = (done : ℕ) × (l.rest ≡ drop done l.bytes) × Appends (g.W.Write.contents l.initial.to) (g.W.Write.contents l.to) (take done l.bytes)

abbrev pub decreases-pieces : goal.decreases-pieces
decreases-pieces g l = length l.rest
