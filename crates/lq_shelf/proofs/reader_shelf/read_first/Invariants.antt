-- What is in `bytes` is what the reader has given, and there is room for more.
use Rattle.std.proofs.Common.{◌-◌, ◌<◌, ◌≤◌, vec_len}
use Rattle.std.specs.Io.KnownBytes.{Consumes}
use Rattle.lq_shelf.proofs.reader_shelf.read_first.Given as goal

abbrev pub invariant-pieces : goal.invariant-pieces
invariant-pieces g l = record {
  room : 0 < vec_len l.piece;
  within : vec_len l.bytes ≤ l.most;
  given : Consumes (g.F.Read.remaining l.initial.from) (g.F.Read.remaining l.from) l.bytes.items;
}

abbrev pub decreases-pieces : goal.decreases-pieces
decreases-pieces g l = l.most - vec_len l.bytes
