use Rattle.std.proofs.Common.{◌≡◌, [], ◌∷◌, ◌++◌, take}
use Rattle.std.specs.List.{flat_map}
use Rattle.lq_quals.specs.Writing.{qualifier_text}
use Rattle.lq_quals.proofs.writing.write_quals.Given as goal

abbrev pub invariant-loop-qualifier : goal.invariant-loop-qualifier
invariant-loop-qualifier l = l.out.items ≡ flat_map (λ each. qualifier_text l.quals.atoms each ++ 10 ∷ []) (take l.qualifier-index l.qualifier-items)
