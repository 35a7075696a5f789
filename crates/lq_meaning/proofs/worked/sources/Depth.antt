-- At most 1,024 functions are active.
use Rattle.std.proofs.Common.{◌≡◌, refl}
use Rattle.std.specs.Prelude.{[], ◌∷◌, None, Some}
use Rattle.lq_tree.specs.declared.trap.TrapKind.TheVariants.{Depth}
use Rattle.lq_tree.specs.declared.stmt.StmtKind.{Return}
use Rattle.lq_tree.specs.declared.program.Func.{Func}
use Rattle.lq_tree.specs.declared.program.Program.{Program}
use Rattle.lq_meaning.specs.Ending.{Outcome, Spent}
use Rattle.lq_meaning.specs.Control.{trapped, loop, iterations}
use Rattle.lq_meaning.proofs.worked.Outcomes.{outcome}
use Rattle.lq_meaning.proofs.worked.SourceWords.{at, int, num, stmt, call_statement, func, program}
use Rattle.lq_meaning.specs.Meaning.{sequential, called}

-- void f(void) { f(); }
-- int main(void) { f(); return 0; }
abbrev deeper_f : Func
deeper_f = func 1 1 None "f" [] (stmt 1 16 (call_statement "f" []) ∷ [])

abbrev deeper_main : Func
deeper_main =
    func 2 1 (Some (int 0)) "main" [] (stmt 2 18 (call_statement "f" []) ∷ stmt 2 23 (Return (Some (num 0))) ∷ [])

abbrev pub deeper : Program
deeper = program [] (deeper_f ∷ deeper_main ∷ [])

-- the call that is one too many is counted
abbrev pub depth_outcome : Outcome
depth_outcome = outcome (trapped Depth (at 1 16)) [] 100 1024 []

depth : sequential 1024 100 deeper [] ≡ depth_outcome
unfolding called loop iterations
depth = refl

-- and with less fuel not reached
abbrev pub spent_outcome : Outcome
spent_outcome = outcome Spent [] 100 1023 []

spent : sequential 1023 100 deeper [] ≡ spent_outcome
unfolding called loop iterations
spent = refl
