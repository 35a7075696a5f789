-- A chain of three functions, at whose head there are three calls.
use Prim.Native.String.{String}
use Rattle.std.proofs.Common.{◌≡◌, refl}
use Rattle.std.specs.Prelude.{ℕ, List, [], ◌∷◌, ◌++◌, None, codes, decimal}
use Rattle.lq_tree.specs.declared.stmt.Stmt.{Stmt}
use Rattle.lq_tree.specs.declared.stmt.StmtKind.{Call}
use Rattle.lq_tree.specs.declared.program.Func.{Func}
use Rattle.lq_tree.specs.declared.program.Program.{Program}
use Rattle.lq_meaning.proofs.worked.SourceWords.{at, stmt, program}
use Rattle.lq_copies.specs.Copied.{copied}
use Rattle.lq_copies.proofs.worked.Words.{calling, void, main}

-- void a(void) { }
-- void b(void) { a(); }
-- void c(void) { b(); }
-- int main(void) { c(); c(); c(); }
abbrev chain : Program
chain =
    program []
    (void 1 "a" []
    ∷ void 2 "b" (calling 2 16 "a" ∷ [])
    ∷ void 3 "c" (calling 3 16 "b" ∷ [])
    ∷ main 4 (calling 4 18 "c" ∷ calling 4 23 "c" ∷ calling 4 28 "c" ∷ [])
    ∷ [])

-- a call of a copy, and a copy: `name` is the name of the function with its `@`
abbrev calling_copy : (line col : ℕ) → (name : String) → (k : ℕ) → Stmt
calling_copy line col name k = stmt line col (Call (codes name ++ decimal k) [])

abbrev copy : (line : ℕ) → (name : String) → (k : ℕ) → List Stmt → Func
copy line name k body = record { at = at line 1; result = None; name = codes name ++ decimal k; params = []; body = body }

-- each copy calls copies of its own, which stand behind those that were made before
abbrev chain_copy : Program
chain_copy =
    program []
    (void 1 "a" []
    ∷ void 2 "b" (calling 2 16 "a" ∷ [])
    ∷ void 3 "c" (calling 3 16 "b" ∷ [])
    ∷ main 4 (calling 4 18 "c" ∷ calling_copy 4 23 "c@" 1 ∷ calling_copy 4 28 "c@" 2 ∷ [])
    ∷ copy 3 "c@" 1 (calling_copy 3 16 "b@" 1 ∷ [])
    ∷ copy 3 "c@" 2 (calling_copy 3 16 "b@" 2 ∷ [])
    ∷ copy 2 "b@" 1 (calling_copy 2 16 "a@" 1 ∷ [])
    ∷ copy 2 "b@" 2 (calling_copy 2 16 "a@" 2 ∷ [])
    ∷ copy 1 "a@" 1 []
    ∷ copy 1 "a@" 2 []
    ∷ [])

chain-copied : copied chain ≡ chain_copy
chain-copied = refl
