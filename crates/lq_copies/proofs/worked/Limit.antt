-- A later call where there are 255 functions, and where there are 256.
use Rattle.std.proofs.Common.{◌≡◌, refl}
use Rattle.std.specs.Prelude.{ℕ, [], ◌∷◌, ◌++◌, replicate, Some, codes}
use Rattle.lq_tree.specs.declared.program.Func.{Func}
use Rattle.lq_copies.proofs.worked.Digits.{one}
use Rattle.lq_copies.specs.Copied.{Copying, later_call}
use Rattle.lq_copies.proofs.worked.Words.{void}

abbrev f : Func
f = void 1 "f" []

abbrev with_functions : ℕ → Copying
with_functions n = record { funcs = replicate n f; kept = codes "f" ∷ []; made = [] }

one-more : later_call [] (Some f) (codes "f") (with_functions 255)
    ≡ (codes "f@1", record { funcs = replicate 255 f ++ void 1 "f@1" [] ∷ []; kept = codes "f" ∷ []; made = codes "f" ∷ [] })
one-more = rw one

full : later_call [] (Some f) (codes "f") (with_functions 256) ≡ (codes "f", with_functions 256)
full = refl
