use Rattle.std.proofs.Common.{◌≡◌, take}
use Rattle.lq_tree.specs.Place.{line_of, column_of}
use Rattle.lq_tree.proofs.place.place_of.Given as goal

-- the place so far is that of the bytes so far
abbrev pub invariant-loop-byte : goal.invariant-loop-byte
invariant-loop-byte l = record {
  line : l.place.line ≡ line_of (take l.byte-index l.byte-items);
  column : l.place.col ≡ column_of (take l.byte-index l.byte-items);
}
