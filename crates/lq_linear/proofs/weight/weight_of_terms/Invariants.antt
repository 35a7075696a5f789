use Rattle.std.proofs.Common.{◌≡◌, ◌*◌, ◌^◌, ◌+ℤ◌, drop}
use Rattle.lq_linear.specs.Terms.{IsWithin, terms_value}
use Rattle.lq_linear.specs.Weight.{symbol_weight}
use Rattle.lq_linear.proofs.weight.weight_of_terms.Given as goal

abbrev pub invariant-loop-symbol : goal.invariant-loop-symbol
invariant-loop-symbol l = record {
  rest : l.total +ℤ terms_value symbol_weight (drop l.symbol-index l.terms) ≡ terms_value symbol_weight l.terms;
  within : IsWithin (2 ^ 77 * l.symbol-index) l.total;
}
