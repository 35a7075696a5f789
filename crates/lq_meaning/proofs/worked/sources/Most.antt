-- The most iterations of a `foreach`.
use Rattle.std.proofs.Common.{◌≡◌, ℕ, suc, ◌+◌, ℤ, pos, ◌+ℤ◌, List, [], ◌∷◌, Option, None, Some, refl, ap}
use Rattle.lq_tree.specs.declared.trap.TrapKind.TheVariants.{Range}
use Rattle.lq_tree.specs.declared.stmt.StmtKind.{Empty, Return}
use Rattle.lq_tree.specs.declared.stmt.Stmt.{Stmt}
use Rattle.lq_tree.specs.declared.program.Func.{Func}
use Rattle.lq_tree.specs.declared.program.Program.{Program}
use Rattle.lq_meaning.specs.World.{World}
use Rattle.lq_meaning.specs.Entry.{start}
use Rattle.lq_meaning.specs.Ending.{Trap, Outcome, Spent}
use Rattle.lq_meaning.specs.Control.{trapped, Gives, Stops, Came, Run, go_on, unless_returned, joined, iterations, returned, ended}
use Rattle.lq_meaning.specs.Meaning.{Locals, sequential, called, context, exec_all}
use Rattle.lq_meaning.proofs.worked.Outcomes.{outcome}
use Rattle.lq_meaning.proofs.worked.SourceWords.{at, int, num, stmt, block, foreach_by, func, program}

-- where the first iteration goes on and for the second there is no fuel, those behind make no difference
pub second_spent : (n : ℕ) (index : ℤ) (step : ℕ) (iteration : ℤ → Run (Option Trap)) (w v : World)
    → iteration index w ≡ Gives None v → iteration (index +ℤ pos step) v ≡ Stops Spent v → iterations (suc (suc n)) index step iteration w ≡ Stops Spent v
unfolding iterations
second_spent n index step iteration w v first second = rw first (rw second refl)

-- the statements behind the `foreach`
abbrev behind : List Stmt
behind = stmt 3 3 (Return (Some (num 0))) ∷ []

-- `main` with such a `foreach`, whose block stands in this column
abbrev foreach_main : (step high col : ℕ) → Func
foreach_main step high col =
    func 1 1 (Some (int 0)) "main" [] (
    stmt 2 3 (foreach_by step "i" (num 0) (num high) (stmt 2 col (block (stmt 2 (col + 2) Empty ∷ [])))) ∷ behind)

-- goes on from the iterations
abbrev then_behind : Program → Came (Option Trap) → Outcome
then_behind p came = ended (go_on (go_on (go_on came (joined {L = Locals} [])) (unless_returned (exec_all (context p 1) behind))) returned)

-- the first iteration starts, and for the second there is no fuel
abbrev pub spent_outcome : Outcome
spent_outcome = outcome Spent [] 100 1 []

-- none starts
abbrev pub range_outcome : Outcome
range_outcome = outcome (trapped Range (at 2 3)) [] 100 0 []

-- int main(void) {
--   foreach (i, 0, 1048576) { ; }
--   return 0;
-- }
abbrev pub most : Program
most = program [] (foreach_main 1 1048576 27 ∷ [])

most-spent : sequential 1 100 most [] ≡ spent_outcome
unfolding called
most-spent = ap (then_behind most) (second_spent 1048574 (pos 0) 1 _ (start 100) _ refl refl)

-- int main(void) {
--   foreach (i, 0, 1048577) { ; }
--   return 0;
-- }
abbrev pub too_many : Program
too_many = program [] (foreach_main 1 1048577 27 ∷ [])

too_many-range : sequential 1 100 too_many [] ≡ range_outcome
unfolding called
too_many-range = refl

-- int main(void) {
--   foreach (i, 0, 2097152, 2) { ; }
--   return 0;
-- }
abbrev pub most_by_two : Program
most_by_two = program [] (foreach_main 2 2097152 30 ∷ [])

most_by_two-spent : sequential 1 100 most_by_two [] ≡ spent_outcome
unfolding called
most_by_two-spent = ap (then_behind most_by_two) (second_spent 1048574 (pos 0) 2 _ (start 100) _ refl refl)

-- int main(void) {
--   foreach (i, 0, 2097153, 2) { ; }
--   return 0;
-- }
abbrev pub too_many_by_two : Program
too_many_by_two = program [] (foreach_main 2 2097153 30 ∷ [])

too_many_by_two-range : sequential 1 100 too_many_by_two [] ≡ range_outcome
unfolding called
too_many_by_two-range = refl
