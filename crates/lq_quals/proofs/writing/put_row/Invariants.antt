use Rattle.std.proofs.Common.{◌≡◌, ◌++◌, true, drop}
use Rattle.lq_quals.specs.Writing.{terms_text}
use Rattle.lq_quals.proofs.writing.put_row.Given as goal

abbrev pub invariant-loop-symbol : goal.invariant-loop-symbol
invariant-loop-symbol l = l.out.items ++ terms_text l.at_front l.atoms (drop l.symbol-index l.symbol-items) ≡ l.fn.out.items ++ terms_text true l.atoms l.symbol-items
