-- What a plain program does, as a task (docs/LANGUAGE.md, "Task tree", "Steps and picks" and "Races"). Free moves are made
-- until an action is due. The same names stand for the same statements as in the plain meaning.
use Rattle.std.specs.Prelude.{ℕ, zero, suc, ◌^◌, ℤ, pos, ◌+ℤ◌, nat_abs, nat_lt, if◌then◌else◌, List, [], ◌∷◌, ◌++◌, slice_get, slice_set, Option, None, Some}
use Rattle.lq_tree.specs.declared.place.Place.{Place}
use Rattle.lq_tree.specs.declared.trap.TrapKind.TheVariants.{Words, Range}
use Rattle.lq_tree.specs.declared.plain.PExpr.{PExpr}
use Rattle.lq_tree.specs.declared.plain.PKind.{PKind, Set, Load, Store, Calloc, Call, If', While', Cobegin', Foreach, Print, Return, Row_of-PStmt, end_of-PStmt, more_of-PStmt, Row_of-Branch, end_of-Branch, more_of-Branch}
use Rattle.lq_tree.specs.declared.plain.PStmt.{PStmt}
use Rattle.lq_tree.specs.declared.plain.Branch.{Branch, Branch'}
use Rattle.lq_tree.specs.declared.plain.PFunc.{PFunc}
use Rattle.lq_tree.specs.declared.plain.PProgram.{PProgram}
use Rattle.lq_tree.specs.Layout.{fields_of}
use Rattle.lq_meaning.specs.declared.action.Action.TheVariants.{Allocate, Print as PrintNumber, Enter, Start}
use Rattle.lq_meaning.specs.World.{World}
use Rattle.lq_meaning.specs.Ending.{Done, Unruled}
use Rattle.lq_meaning.specs.Control.{trapped, by_truth, Returns, iteration_count}
use Rattle.lq_meaning.specs.Entry.{start, enter}
use Rattle.lq_meaning.specs.PlainMeaning.{Slots, value, into, target, bound}
use Rattle.lq_meaning.specs.Task.{Task, Ended, Tasks, none, more}
use Rattle.lq_meaning.specs.TaskControl.{Line, give, stop, ◌⨾◌, computed, due, load, store, together, Statement, done_with, ◌then_do◌, tested, loop, returned, leaf}

-- What stays the same while a function is active in a branch: the program, more turns than a loop can make within the
-- fuel, the path of the branch, and what a call of the function with this number does at a place in a branch.
pub record Context : Type 0 where
  pub program : PProgram
  pub turns : ℕ
  pub branch : List ℕ
  pub call : (branch : List ℕ) → Place → ℕ → List ℤ → Line ℤ

-- the context in the branch with this number of the fork behind so many
abbrev pub child : Context → (passed number : ℕ) → Context
child c passed number = record c { branch = c.branch ++ passed ∷ number ∷ [] }

abbrev pub eval : Place → Slots → PExpr → Line ℤ
eval at slots e = computed at (value slots e)

-- arguments, from left to right
abbrev pub eval_list : Place → Slots → List PExpr → Line (List ℤ)
eval_list at slots [] = give []
eval_list at slots (e ∷ args) = eval at slots e ⨾ λ word. eval_list at slots args ⨾ λ words. give (word ∷ words)

-- the iterations that are left, each a leaf whose start is due
unfoldable pub iterations : ℕ → (number : ℕ) → (index : ℤ) → (step : ℕ) → (iteration : (number : ℕ) → ℤ → Task) → Tasks
iterations zero number index step iteration = none
iterations (suc n) number index step iteration = more (iteration number index) (iterations n (suc number) (index +ℤ pos step) step iteration)

-- a `foreach` without iterations makes no fork; too many are a trap
abbrev pub each : Place → (count : ℕ) → (children : ℕ → (passed : ℕ) → Tasks) → Line (Unit {0})
each at zero children = give tt
each at (suc n) children = if nat_lt (2 ^ 20) (suc n) then stop (trapped Range at) else together (children (suc n))

abbrev mutual
  pub exec : Context → Place → PKind → Statement Slots
  exec c at (Set to e) slots = eval at slots e ⨾ λ word. done_with (into (Some to) slots word)
  exec c at (Load to base index field) slots =
      eval at slots index ⨾ λ i. load c.branch at (target slots base field i) ⨾ λ word. done_with (into (Some to) slots word)
  exec c at (Store base index field e) slots =
      eval at slots index ⨾ λ i. eval at slots e ⨾ λ word. store c.branch at (target slots base field i) word ⨾ λ _. done_with slots
  exec c at (Calloc to count type) slots =
      eval at slots count ⨾ λ n. due c.branch at (Allocate n (fields_of c.program.structs type)) ⨾ λ word. done_with (into (Some to) slots word)
  exec c at (Call to function args) slots = eval_list at slots args ⨾ c.call c.branch at function ⨾ λ word. done_with (into to slots word)
  exec c at (If' e n body m other) slots = eval at slots e ⨾ λ word. by_truth word (exec_row c body slots) (exec_row c other slots)
  exec c at (While' n head e m body) slots = loop c.turns (exec_row c head) (λ slots. tested c.branch at (eval at slots e)) (exec_row c body) slots
  exec c at (Print e) slots = eval at slots e ⨾ λ number. due c.branch at (PrintNumber number) ⨾ λ _. done_with slots
  exec c at (Return None) slots = give (Returns (pos 0))
  exec c at (Return (Some e)) slots = eval at slots e ⨾ λ word. give (Returns word)
  exec c at (Cobegin' n blocks) slots = together (λ passed. branches c passed 0 blocks slots) ⨾ λ _. done_with slots
  exec c at (Foreach index low high step body) slots =
      eval at slots low ⨾ λ low. eval at slots high ⨾ λ high.
      each at (iteration_count low high (nat_abs step)) (λ count passed. iterations count 0 low (nat_abs step) (λ number i.
      leaf (due (child c passed number).branch at Start ⨾ λ _. exec_branch (child c passed number) body (slice_set slots index i)))) ⨾ λ _. done_with slots

  -- one statement after another
  pub exec_row : {n : _} → Context → Row_of-PStmt n → Statement Slots
  exec_row c end_of-PStmt slots = done_with slots
  exec_row c (more_of-PStmt at kind rest) slots = exec c at kind slots then_do exec_row c rest

  pub exec_branch : Context → Branch → Statement Slots
  exec_branch c (Branch' at n body) slots = exec_row c body slots

  -- the branches of a `cobegin`, from this number on
  pub branches : {n : _} → Context → (passed number : ℕ) → Row_of-Branch n → Slots → Tasks
  branches c passed number end_of-Branch slots = none
  branches c passed number (more_of-Branch body rest) slots =
      more (leaf (exec_branch (child c passed number) body slots)) (branches c passed (suc number) rest slots)

-- the statements of a function's body
abbrev pub exec_all : Context → List PStmt → Statement Slots
exec_all c [] slots = done_with slots
exec_all c (s ∷ body) slots = exec c s.at s.kind slots then_do exec_all c body

-- the body of a function on its arguments
abbrev pub in_function : Context → Option PFunc → List ℤ → Line ℤ
in_function c None words = stop Unruled
in_function c (Some f) words = exec_all c f.body (bound f words) ⨾ returned

-- a call where so many more functions may become active
unfoldable pub called : PProgram → (turns left : ℕ) → (branch : List ℕ) → Place → ℕ → List ℤ → Line ℤ
called p turns zero branch at function words = due branch at (Enter 0)
called p turns (suc left) branch at function words =
    due branch at (Enter (suc left)) ⨾ λ _.
    in_function (record { program = p; turns = turns; branch = branch; call = called p turns left }) (slice_get p.funcs function) words

-- `main` is the first of the 1,024 functions that may be active
abbrev pub context : PProgram → (turns : ℕ) → Context
context p turns = record { program = p; turns = turns; branch = []; call = called p turns 1023 }

-- what the run of a program begins with
pub record Beginning : Type 0 where
  pub task : Task
  pub world : World

abbrev pub begins : Task → World → Beginning
begins task w = record { task = task; world = w }

-- `main` on these arguments
abbrev pub main_task : Context → Option PFunc → List ℤ → Task
main_task c f words = in_function c f words (λ word passed. Ended Done) 0

abbrev pub enter_main : Context → Option PFunc → (words : ℕ) → List ℤ → Beginning
enter_main c None words input = begins (Ended Unruled) (start words)
enter_main c (Some f) words input =
    enter (begins (Ended (trapped Words f.at))) (λ arguments. begins (main_task c (Some f) arguments)) f.params words input

-- the task of a program on an input, with loops of at most so many turns
abbrev pub bounded : (turns words : ℕ) → PProgram → (input : List ℤ) → Beginning
bounded turns words p input = enter_main (context p turns) (slice_get p.funcs p.main) words input

-- the task of a program on an input, for runs with at most this fuel
abbrev pub beginning : (fuel words : ℕ) → PProgram → (input : List ℤ) → Beginning
beginning fuel words p input = bounded (suc fuel) words p input
