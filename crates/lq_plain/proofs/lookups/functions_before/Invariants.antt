use Rattle.std.proofs.Common.{◌≡◌, ◌+◌, drop}
use Rattle.lq_tree.specs.Lookup as lookup
use Rattle.lq_plain.proofs.lookups.functions_before.Given as goal

abbrev pub invariant-loop-func : goal.invariant-loop-func
invariant-loop-func l = record {
  counted : l.number ≡ l.func-index;
  so_far : l.number + lookup.number_of (drop l.func-index l.funcs) l.name ≡ lookup.number_of l.funcs l.name;
}
