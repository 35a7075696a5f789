-- A load from an input that may be empty.
use Rattle.std.proofs.Common.{◌≡◌, refl}
use Rattle.std.specs.Prelude.{negsuc, [], ◌∷◌, None, Some}
use Rattle.lq_tree.specs.declared.expr.BinOp.TheVariants.{Gt}
use Rattle.lq_tree.specs.declared.stmt.StmtKind.{Print, Return}
use Rattle.lq_tree.specs.declared.program.Func.{Func}
use Rattle.lq_tree.specs.declared.program.Program.{Program}
use Rattle.lq_meaning.specs.Ending.{Outcome, Done, Spent, Strayed}
use Rattle.lq_meaning.specs.Control.{loop, iterations}
use Rattle.lq_meaning.proofs.worked.Outcomes.{memory_block, outcome}
use Rattle.lq_meaning.proofs.worked.SourceWords.{at, int, num, var, bin, index, stmt, block, arm, if_arms, param, func, program}
use Rattle.lq_meaning.specs.Meaning.{sequential, called}

-- int main(int *in, int n) {
--   print(in[0]);
--   return 0;
-- }
abbrev unguarded_main : Func
unguarded_main =
    func 1 1 (Some (int 0)) "main" (param (int 1) "in" ∷ param (int 0) "n" ∷ []) (
    stmt 2 3 (Print (index (var "in") (num 0))) ∷ stmt 3 3 (Return (Some (num 0))) ∷ [])

abbrev pub unguarded : Program
unguarded = program [] (unguarded_main ∷ [])

-- null has no element
abbrev pub stray_outcome : Outcome
stray_outcome = outcome (Strayed (at 2 3)) [] 100 1 []

stray : sequential 1000 100 unguarded [] ≡ stray_outcome
unfolding called loop iterations
stray = refl

-- without fuel for it there is no stray
abbrev pub short_outcome : Outcome
short_outcome = outcome Spent [] 100 0 []

short : sequential 0 100 unguarded [] ≡ short_outcome
unfolding called loop iterations
short = refl

-- a number that is there
abbrev pub read_outcome : Outcome
read_outcome = outcome Done (memory_block 1 (negsuc 5 ∷ []) ∷ []) 99 2 (negsuc 5 ∷ [])

read : sequential 1000 100 unguarded (negsuc 5 ∷ []) ≡ read_outcome
unfolding called loop iterations
read = refl

-- int main(int *in, int n) {
--   if (n > 0) { print(in[0]); }
--   return 0;
-- }
abbrev guarded_main : Func
guarded_main =
    func 1 1 (Some (int 0)) "main" (param (int 1) "in" ∷ param (int 0) "n" ∷ []) (
    stmt 2 3
    (if_arms
    (arm (bin Gt (var "n") (num 0)) (stmt 2 14 (block (stmt 2 16 (Print (index (var "in") (num 0))) ∷ []))) ∷
    [])
    None) ∷
    stmt 3 3 (Return (Some (num 0))) ∷
    [])

abbrev pub guarded : Program
guarded = program [] (guarded_main ∷ [])

-- a test before it
abbrev pub nothing_outcome : Outcome
nothing_outcome = outcome Done [] 100 0 []

nothing : sequential 1000 100 guarded [] ≡ nothing_outcome
unfolding called loop iterations
nothing = refl
