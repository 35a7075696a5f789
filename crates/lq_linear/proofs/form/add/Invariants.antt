use Rattle.std.proofs.Common.{◌*◌, ◌+◌, ◌^◌, ◌++◌, take}
use Rattle.std.specs.List.{AllByRecursion}
use Rattle.lq_linear.specs.Terms.{AreAlike, IsCollected, IsWithin}
use Rattle.lq_linear.proofs.form.add.Given as goal

abbrev pub invariant-loop-symbol : goal.invariant-loop-symbol
invariant-loop-symbol l = record {
  alike : AreAlike l.terms.items (l.a.terms ++ take l.symbol-index l.symbol-items);
  collected : IsCollected l.terms.items;
  near : AllByRecursion (λ t. IsWithin (2 ^ 16 * (l.symbol-index + 1)) t.1) l.terms.items;
}
