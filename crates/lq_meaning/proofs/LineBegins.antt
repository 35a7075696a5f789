-- How a line begins.
use Rattle.std.proofs.Common.{◌≡◌, ℕ, zero, suc, ◌+◌, ◌-◌, ◌*◌, ◌<◌, ◌≤◌, ℤ, pos, ◌+ℤ◌, true, false, List, [], ◌∷◌, ◌++◌, None, Some, refl, ap, ap₂, ◌∙◌, sym, arith}
use Rattle.std.specs.Prelude.{slice_get, slice_set}
use Rattle.std.specs.Borrow.{Bor}
use Rattle.std.proofs.lemmas.Int.{ints}
use Rattle.lq_tree.specs.declared.place.Place.{Place}
use Rattle.lq_tree.specs.declared.plain.PStmt.{PStmt}
use Rattle.lq_tree.specs.declared.plain.PFunc.{PFunc}
use Rattle.lq_tree.specs.declared.plain.Branch.{Branch, out-Branch}
use Rattle.lq_tree.specs.declared.plain.PProgram.{PProgram}
use Rattle.lq_meaning.specs.declared.action.Action.TheVariants.{Start}
use Rattle.lq_meaning.specs.declared.line.Line.{Line}
use Rattle.lq_meaning.specs.declared.line.Stop.{Stop}
use Rattle.lq_meaning.specs.declared.line.Stop.TheVariants.{Done as DoneStop, Trapped as TrappedStop, Unruled as UnruledStop, Word, Call, Test, Branches, Iterations}
use Rattle.lq_meaning.specs.Ending.{Done, Unruled}
use Rattle.lq_meaning.specs.PlainMeaning.{Slots, bound}
use Rattle.lq_meaning.specs.Task.{Task, Ended, Due, none}
use Rattle.lq_meaning.specs.TaskControl.{Line as LineOf, leaf, ends, returned}
use Rattle.lq_meaning.specs.Control.{Flow}
use Rattle.lq_meaning.specs.Behaviour.{Context, child, iterations, exec_all, exec_branch, in_function}
use Rattle.lq_meaning.specs.Line.{context_from, all_branches, iteration, forks, task_at, task_of}
use Rattle.lq_meaning.specs.Moves.{moving}
use Rattle.lq_meaning.proofs.LineRows.{exec_branch-body}

-- a function as the first of all
pub begins-main : (p : PProgram) (main : PFunc) (words : List ℤ) (line : Line) (row : Bor (List PStmt)) (slots : Slots) → row.now ≡ main.body → slots ≡ bound main words
    → (turns : ℕ) (branch : List ℕ) (passed : ℕ)
    → moving p (record { alloc = line.alloc; most = 1023; in_branch = false; callers = []; frame = record { row = row; parts = []; slots = slots }; stop = UnruledStop }) turns branch passed
    ≡ in_function (context_from p turns branch 1023) (Some main) words (λ word passed. Ended Done) passed
begins-main p main words line row slots body bind turns branch passed =
    ap₂ (λ (body : List PStmt) (slots : Slots). exec_all (context_from p turns branch 1023) body slots (λ flow. returned flow (λ word passed. Ended Done)) passed) body bind

-- a block of a `cobegin`
pub begins-block : (p : PProgram) (block : Branch) (line : Line) (most : ℕ) (row : Bor (List PStmt)) (slots : Slots) → row.now ≡ (out-Branch block).body
    → (turns : ℕ) (branch : List ℕ) (passed number : ℕ)
    → moving p (record { alloc = line.alloc; most = most; in_branch = true; callers = []; frame = record { row = row; parts = []; slots = slots }; stop = UnruledStop }) turns (branch ++ passed ∷ number ∷ []) 0
    ≡ leaf (exec_branch (child (context_from p turns branch most) passed number) block slots)
begins-block p block line most row slots body turns branch passed number =
    let c : Context = child (context_from p turns branch most) passed number in
    let whole : most - 0 ≡ most = omega arith in
    ap (λ (n : ℕ). exec_all (context_from p turns (branch ++ passed ∷ number ∷ []) n) row.now slots ends 0) whole
    ∙ ap (λ (body : List PStmt). exec_all c body slots ends 0) body
    ∙ sym (ap (λ (run : LineOf (Flow Slots)). run ends 0) (exec_branch-body c block slots))

-- an iteration of a `foreach`
pub begins-iteration : (p : PProgram) (body : Branch) (line : Line) (most : ℕ) (row : Bor (List PStmt)) (slots : Slots) (at : Place) (slot : ℕ) (index : ℤ) (set : Slots) → row.now ≡ (out-Branch body).body → set ≡ slice_set slots slot index
    → (turns : ℕ) (branch : List ℕ) (passed number : ℕ)
    → task_of p turns (branch ++ passed ∷ number ∷ []) 0 (record { alloc = line.alloc; most = most; in_branch = true; callers = []; frame = record { row = row; parts = []; slots = set }; stop = Word Start at None })
    ≡ iteration (context_from p turns branch most) passed at slot body slots number index
unfolding task_of
begins-iteration p body line most row slots at slot index set is put turns branch passed number =
    let c : Context = child (context_from p turns branch most) passed number in
    let path : List ℕ = (branch ++ passed ∷ number ∷ []) ++ 0 ∷ [] in
    let inside : exec_all (context_from p turns (branch ++ passed ∷ number ∷ []) (most - 0)) row.now set ends 0 ≡ exec_branch c body (slice_set slots slot index) ends 0 =
    (let whole : most - 0 ≡ most = omega arith in
    ap (λ (n : ℕ). exec_all (context_from p turns (branch ++ passed ∷ number ∷ []) n) row.now set ends 0) whole
    ∙ ap₂ (λ (body : List PStmt) (slots : Slots). exec_all c body slots ends 0) is put
    ∙ sym (ap (λ (run : LineOf (Flow Slots)). run ends 0) (exec_branch-body c body (slice_set slots slot index)))) in
    ap (λ (task : Task). Due (record { path = path; place = at }) Start (λ word. task)) inside

-- the block with a number
block_at : (c : Context) (passed first number : ℕ) (blocks : List Branch) (slots : Slots) (block : Branch) → slice_get blocks number ≡ Some block
    → task_at (all_branches c passed first blocks slots) number ≡ leaf (exec_branch (child c passed (first + number)) block slots)
block_at c passed first number [] slots block found = absurd (cc found)
block_at c passed first zero (b ∷ blocks) slots block found =
    let same : b ≡ block = cc found in let e : first ≡ first + 0 = omega arith in ap₂ (λ (n : ℕ) (block : Branch). leaf (exec_branch (child c passed n) block slots)) e same
block_at c passed first (suc number) (b ∷ blocks) slots block found =
    let e : suc first + number ≡ first + suc number = omega arith in
    block_at c passed (suc first) number blocks slots block found ∙ ap (λ (n : ℕ). leaf (exec_branch (child c passed n) block slots)) e

pub first_block_at : (c : Context) (passed number : ℕ) (blocks : List Branch) (slots : Slots) (block : Branch) → slice_get blocks number ≡ Some block
    → task_at (all_branches c passed 0 blocks slots) number ≡ leaf (exec_branch (child c passed number) block slots)
first_block_at c passed number blocks slots block found =
    let e : 0 + number ≡ number = omega arith in block_at c passed 0 number blocks slots block found ∙ ap (λ (n : ℕ). leaf (exec_branch (child c passed n) block slots)) e

-- there is none
pub no_block_at : (c : Context) (passed first number : ℕ) (blocks : List Branch) (slots : Slots) → slice_get blocks number ≡ None → task_at (all_branches c passed first blocks slots) number ≡ Ended Unruled
no_block_at c passed first number [] slots missing = refl
no_block_at c passed first zero (b ∷ blocks) slots missing = absurd (cc missing)
no_block_at c passed first (suc number) (b ∷ blocks) slots missing = no_block_at c passed (suc first) number blocks slots missing

-- the iteration with a number
iteration_at : (n first number : ℕ) (low : ℤ) (step : ℕ) (iteration : (number : ℕ) → ℤ → Task) → number < n
    → task_at (iterations n first low step iteration) number ≡ iteration (first + number) (low +ℤ pos (number * step))
unfolding iterations
iteration_at zero first number low step iteration below = absurd (omega arith)
iteration_at (suc n) first zero low step iteration below =
    let e : first ≡ first + 0 = omega arith in let i : low ≡ low +ℤ pos (0 * step) = omega (arith, ints) in ap₂ iteration e i
iteration_at (suc n) first (suc number) low step iteration below =
    let e : suc first + number ≡ first + suc number = omega arith in
    let i : (low +ℤ pos step) +ℤ pos (number * step) ≡ low +ℤ pos (suc number * step) = omega (arith, ints) in
    iteration_at n (suc first) number (low +ℤ pos step) step iteration (omega arith) ∙ ap₂ iteration e i

pub first_iteration_at : (n number : ℕ) (low : ℤ) (step : ℕ) (iteration : (number : ℕ) → ℤ → Task) (index : ℤ) → number < n → index ≡ low +ℤ pos (number * step)
    → iteration number index ≡ task_at (iterations n 0 low step iteration) number
first_iteration_at n number low step iteration index below is =
    let e : number ≡ 0 + number = omega arith in ap₂ iteration e is ∙ sym (iteration_at n 0 number low step iteration below)

past : (n first number : ℕ) (low : ℤ) (step : ℕ) (iteration : (number : ℕ) → ℤ → Task) → n ≤ number → task_at (iterations n first low step iteration) number ≡ Ended Unruled
unfolding iterations
past zero first number low step iteration above = refl
past (suc n) first zero low step iteration above = absurd (omega arith)
past (suc n) first (suc number) low step iteration above = past n (suc first) number (low +ℤ pos step) step iteration (omega arith)

-- there is none with this number
pub no_iteration_at : (n number : ℕ) (low : ℤ) (step : ℕ) (iteration : (number : ℕ) → ℤ → Task) → n ≤ number → task_at (iterations n 0 low step iteration) number ≡ Ended Unruled
no_iteration_at n number low step iteration above = past n 0 number low step iteration above

-- a line that stands elsewhere has no branches
pub forks-none : (c : Context) (passed : ℕ) (slots : Slots) (stop : Stop) → ((blocks : Bor (List Branch)) → stop ≡ Branches blocks → ⊥)
    → ((at : Place) (slot : ℕ) (low : ℤ) (step count : ℕ) (body : Bor Branch) → stop ≡ Iterations at slot low step count body → ⊥) → forks c passed slots stop ≡ none
forks-none c passed slots DoneStop no_blocks no_iterations = refl
forks-none c passed slots UnruledStop no_blocks no_iterations = refl
forks-none c passed slots (TrappedStop kind at) no_blocks no_iterations = refl
forks-none c passed slots (Word action at to) no_blocks no_iterations = refl
forks-none c passed slots (Call at function words to) no_blocks no_iterations = refl
forks-none c passed slots (Test repeat made holds) no_blocks no_iterations = refl
forks-none c passed slots (Branches blocks) no_blocks no_iterations = absurd (no_blocks blocks refl)
forks-none c passed slots (Iterations at slot low step count body) no_blocks no_iterations = absurd (no_iterations at slot low step count body refl)
