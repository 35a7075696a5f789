use Rattle.std.proofs.Common.{drop}
use Rattle.lq_linear.proofs.FormLemmas.{Rising}
use Rattle.lq_linear.proofs.form.are_terms.Given as goal

abbrev pub invariant-loop-symbol : goal.invariant-loop-symbol
invariant-loop-symbol l = record {
  whole : Rising l.least (drop l.symbol-index l.terms) → Rising 0 l.terms;
  part : Rising 0 l.terms → Rising l.least (drop l.symbol-index l.terms);
}
