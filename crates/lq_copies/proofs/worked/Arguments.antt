-- Calls in the arguments of others, and in the parts of a `for`: the order of the text.
use Prim.Native.String.{String}
use Rattle.std.proofs.Common.{◌≡◌}
use Rattle.std.specs.Prelude.{[], ◌∷◌, Some}
use Rattle.lq_tree.specs.declared.expr.BinOp.TheVariants.{Add, Lt}
use Rattle.lq_tree.specs.declared.stmt.StmtKind.{Print, Return}
use Rattle.lq_tree.specs.declared.program.Func.{Func}
use Rattle.lq_meaning.proofs.worked.SourceWords.{int, num, var, bin, call, stmt, block, set, local_set, for, param, func, program}
use Rattle.lq_copies.proofs.worked.Digits.{one, three, two}
use Rattle.lq_copies.specs.Copied.{copied}

-- int f(int x) { return x; }
abbrev same_number : String → Func
same_number name = func 1 1 (Some (int 0)) name (param (int 0) "x" ∷ []) (stmt 1 16 (Return (Some (var "x"))) ∷ [])

-- int main(void) { print(f(f(1)) + f(2)); }
abbrev sum_main : (outer inner second : String) → Func
sum_main outer inner second =
    func 2 1 (Some (int 0)) "main" []
    (stmt 2 18 (Print (bin Add (call outer (call inner (num 1 ∷ []) ∷ [])) (call second (num 2 ∷ [])))) ∷ [])

-- the outer call comes before the one in its arguments
sum-copied :
    copied (program [] (same_number "f" ∷ sum_main "f" "f" "f" ∷ []))
    ≡ program [] (same_number "f" ∷ sum_main "f" "f@1" "f@2" ∷ same_number "f@1" ∷ same_number "f@2" ∷ [])
sum-copied = rw (one, two)

-- int main(void) { for (int i = f(0); i < f(3); i = f(i + 1)) { print(f(i)); } }
abbrev loop_main : (first condition third body : String) → Func
loop_main first condition third body =
    func 2 1 (Some (int 0)) "main" []
    (stmt 2 18
    (for (Some (stmt 2 23 (local_set (int 0) "i" (call first (num 0 ∷ [])))))
    (Some (bin Lt (var "i") (call condition (num 3 ∷ []))))
    (Some (stmt 2 47 (set "i" (call third (bin Add (var "i") (num 1) ∷ [])))))
    (stmt 2 61 (block (stmt 2 63 (Print (call body (var "i" ∷ []))) ∷ [])))) ∷
    [])

-- the third part of a `for` stands in front of its body
loop-copied :
    copied (program [] (same_number "f" ∷ loop_main "f" "f" "f" "f" ∷ []))
    ≡ program [] (same_number "f" ∷ loop_main "f" "f@1" "f@2" "f@3" ∷ same_number "f@1" ∷ same_number "f@2" ∷ same_number "f@3" ∷ [])
loop-copied = rw (one, two, three)
