-- Where a line stands, and what that says of its task.
use Rattle.std.proofs.Common.{◌≡◌, ℕ, zero, suc, ℤ, List, [], ◌∷◌, length, refl, ap}
use Rattle.lq_tree.specs.declared.plain.PProgram.{PProgram}
use Rattle.lq_tree.specs.declared.plain.Branch.{Branch}
use Rattle.lq_meaning.specs.declared.line.Line.{Line}
use Rattle.lq_meaning.specs.declared.line.Stop.{Stop}
use Rattle.lq_meaning.specs.declared.line.Stop.TheVariants.{Done as DoneStop, Trapped as TrappedStop, Unruled as UnruledStop, Word, Call, Test as TestStop, Branches, Iterations}
use Rattle.lq_meaning.specs.PlainMeaning.{Slots}
use Rattle.lq_meaning.specs.Task.{Task}
use Rattle.lq_meaning.specs.Behaviour.{Context, iterations}
use Rattle.lq_meaning.specs.Line.{task_of, answered, children_of, behind_of, standing_of, standing_at, left_of, StandsAt, all_branches, size_of}

-- a line that stands for a reason stands as the reason says
stands_by : (p : PProgram) (turns : ℕ) (branch : List ℕ) (passed : ℕ) (line : Line) (stop : Stop)
    → StandsAt (standing_at (left_of line) stop) p turns branch passed (record line { stop = stop })
unfolding task_of answered children_of behind_of
stands_by p turns branch passed line DoneStop = refl
stands_by p turns branch passed line UnruledStop = refl
stands_by p turns branch passed line (TrappedStop kind at) = refl
stands_by p turns branch passed line (Word action at to) = refl
stands_by p turns branch passed line (Call at function words to) = refl
stands_by p turns branch passed line (TestStop loop' made holds) = refl
stands_by p turns branch passed line (Branches blocks) = refl
stands_by p turns branch passed line (Iterations at slot low step count body) = refl

pub stands : (p : PProgram) (turns : ℕ) (branch : List ℕ) (passed : ℕ) (line : Line) → StandsAt (standing_of line) p turns branch passed line
unfolding standing_of
stands p turns branch passed line = stands_by p turns branch passed line line.stop

-- how many branches a `cobegin` makes
pub size-all_branches : (c : Context) (passed number : ℕ) (blocks : List Branch) (slots : Slots) → size_of (all_branches c passed number blocks slots) ≡ length blocks
size-all_branches c passed number [] slots = refl
size-all_branches c passed number (body ∷ blocks) slots = ap suc (size-all_branches c passed (suc number) blocks slots)

-- how many branches a `foreach` makes
pub size-iterations : (n number : ℕ) (index : ℤ) (step : ℕ) (iteration : (number : ℕ) → ℤ → Task) → size_of (iterations n number index step iteration) ≡ n
unfolding iterations
size-iterations zero number index step iteration = refl
size-iterations (suc n) number index step iteration = ap suc (size-iterations n (suc number) _ step iteration)
