use Rattle.std.proofs.Common.{◌≡◌, ◌+◌, length, take}
use Rattle.lq_linear.specs.Item.{rows_of}
use Rattle.lq_cert.proofs.PlaceLemmas.{total}
use Rattle.lq_cert.proofs.locate.locate.Given as goal

abbrev pub invariant-loop-index : goal.invariant-loop-index
invariant-loop-index l = l.number ≡ total (λ x. length (rows_of x)) (take l.index l.items) + l.place + 1
