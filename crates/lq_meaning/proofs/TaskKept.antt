-- What each way of putting parts together keeps, the run and the task of a plain program keep.
use Rattle.std.proofs.Common.{◌≡◌, ℕ, zero, suc, ◌<◌, ◌^◌, ◌++◌, ℤ, pos, negsuc, ◌+ℤ◌, nat_abs, nat_lt, if◌then◌else◌, List, [], ◌∷◌, Option, None, Some, arith}
use Rattle.std.specs.Prelude.{slice_set, slice_get}
use Rattle.lq_tree.specs.declared.place.Place.{Place}
use Rattle.lq_tree.specs.declared.trap.TrapKind.TheVariants.{Range}
use Rattle.lq_tree.specs.declared.plain.PExpr.{PExpr}
use Rattle.lq_tree.specs.declared.plain.PKind.{PKind, Set, Load, Store, Calloc, Call, If', While', Cobegin', Foreach, Print, Return, Row_of-PStmt, end_of-PStmt, more_of-PStmt, Row_of-Branch, end_of-Branch, more_of-Branch}
use Rattle.lq_tree.specs.declared.plain.PStmt.{PStmt}
use Rattle.lq_tree.specs.declared.plain.Branch.{Branch, Branch'}
use Rattle.lq_tree.specs.declared.plain.PFunc.{PFunc}
use Rattle.lq_tree.specs.declared.plain.PProgram.{PProgram}
use Rattle.lq_tree.specs.Layout.{fields_of}
use Rattle.lq_meaning.specs.declared.action.Action.{Action}
use Rattle.lq_meaning.specs.declared.action.Action.TheVariants.{Allocate, Load as LoadWord, Store as StoreWord, Print as PrintNumber, Enter, Start, Test}
use Rattle.lq_meaning.specs.World.{World}
use Rattle.lq_meaning.specs.Ending.{Trap, Ending, Trapped, Spent, Unruled}
use Rattle.lq_meaning.specs.Operators.{Computed, Computes, Fails}
use Rattle.lq_meaning.specs.Control.{trapped, Run, give, stop, ◌⨾◌, computed, due, by_truth, Flow, GoesOn, Returns, Statement, unless_returned, loop, branch, before, joined, iterations, iteration_count, returned}
use Rattle.lq_meaning.specs.PlainMeaning.{Slots, word_of, value, eval, eval_list, Context, exec, exec_row, exec_branch, branches, exec_all, bound, in_function, called}
use Rattle.lq_meaning.specs.PlainLaws.{CallsGrow}
use Rattle.lq_meaning.specs.Task.{Tasks, none, more}
use Rattle.lq_meaning.specs.TaskControl.{Line, together, leaf}
use Rattle.lq_meaning.specs.TaskControl as line
use Rattle.lq_meaning.specs.Behaviour as tree
use Rattle.lq_meaning.proofs.Growing.{growing}
use Rattle.lq_meaning.proofs.Kept.{either}
use Rattle.lq_meaning.proofs.PlainKept.{called_kept}
use Rattle.lq_meaning.proofs.PlainTurns.{with_bounds}

-- how a line stops: by a trap, at the bound of its definition, or at a form without a rule
abbrev pub IsStop : Ending → Type 0
IsStop (Trapped trap) = Unit {0}
IsStop Spent = Unit {0}
IsStop Unruled = Unit {0}
IsStop ending = ⊥

-- Each way of putting parts together keeps the relation of a run and a line that stands in a branch, and that of a run and
-- the children of a fork from a number on.
pub record IsTaskKept (fuel turns : ℕ) (K : (path : List ℕ) (X : Type 0) → Run X → Line X → Type 0) (J : (path : List ℕ) (passed number : ℕ) → Run (Option Trap) → Tasks → Type 0) : Type 1 where
  pub gives : {path : List ℕ} {X : Type 0} (x : X) → K path X (give x) (line.give x)
  pub stops : {path : List ℕ} {X : Type 0} (ending : Ending) → IsStop ending → K path X (stop ending) (line.stop ending)
  pub due : {path : List ℕ} (at : Place) (action : Action) → K path ℤ (due fuel at action) (line.due path at action)
  pub goes : {path : List ℕ} {X Y : Type 0} {first : Run X} {first' : Line X} {next : X → Run Y} {next' : X → Line Y}
      → K path X first first' → ((x : X) → K path Y (next x) (next' x)) → K path Y (first ⨾ next) (λ then' passed. first' (λ x. next' x then') passed)
  pub forks : {path : List ℕ} {L : Type 0} {runs : Run (Option Trap)} {children : ℕ → Tasks} (locals : L)
      → ((passed : ℕ) → J path passed 0 runs (children passed)) → K path (Flow L) (runs ⨾ joined locals) (λ then' passed. together children (λ _. then' (GoesOn locals)) passed)
  pub nothing : {path : List ℕ} {passed number : ℕ} → J path passed number (give None) none
  pub beside : {path : List ℕ} {passed number : ℕ} {L : Type 0} {run : Run (Flow L)} {own : Line (Flow L)} {others : Run (Option Trap)} {tasks : Tasks}
      → K (path ++ passed ∷ number ∷ []) (Flow L) run own → J path passed (suc number) others tasks → J path passed number (before (branch run) others) (more (leaf own) tasks)
  -- a run may be put for another that is the same where the turns are more than the fuel
  pub same : {path : List ℕ} {X : Type 0} {run other : Run X} {own : Line X} → (fuel < turns → (w : World) → run w ≡ other w) → K path X other own → K path X run own

module _ {fuel turns : ℕ} {K : (path : List ℕ) (X : Type 0) → Run X → Line X → Type 0} {J : (path : List ℕ) (passed number : ℕ) → Run (Option Trap) → Tasks → Type 0} (k : IsTaskKept fuel turns K J) where
  computed_kept : (path : List ℕ) (at : Place) (c : Computed) → K path ℤ (computed at c) (line.computed at c)
  computed_kept path at (Computes x) = k.gives x
  computed_kept path at (Fails kind) = k.stops (trapped kind at) tt

  by_truth_kept : {path : List ℕ} {X : Type 0} {holds fails : Run X} {holds' fails' : Line X} (word : ℤ) → K path X holds holds' → K path X fails fails' → K path X (by_truth word holds fails) (by_truth word holds' fails')
  by_truth_kept (pos zero) holds fails = fails
  by_truth_kept (pos (suc n)) holds fails = holds
  by_truth_kept (negsuc n) holds fails = holds

  unless_returned_kept : {path : List ℕ} {L : Type 0} {next : Statement L} {next' : line.Statement L} → ((locals : L) → K path (Flow L) (next locals) (next' locals)) → (flow : Flow L)
      → K path (Flow L) (unless_returned next flow) (line.unless_returned next' flow)
  unless_returned_kept nexts (GoesOn locals) = nexts locals
  unless_returned_kept nexts (Returns word) = k.gives (Returns word)

  -- a loop of as many turns
  loop_kept : {path : List ℕ} {L : Type 0} {head body : Statement L} {head' body' : line.Statement L} {test : L → Run ℤ} {test' : L → Line ℤ} (n : ℕ)
      → ((locals : L) → K path (Flow L) (head locals) (head' locals)) → ((locals : L) → K path ℤ (test locals) (test' locals)) → ((locals : L) → K path (Flow L) (body locals) (body' locals))
      → (locals : L) → K path (Flow L) (loop n head test body locals) (line.loop n head' test' body' locals)
  unfolding loop line.loop
  loop_kept zero heads tests bodies locals = k.stops Spent tt
  loop_kept (suc n) heads tests bodies locals =
      k.goes (heads locals) (unless_returned_kept (λ inner. k.goes (tests inner) (λ word.
      by_truth_kept word (k.goes (bodies inner) (unless_returned_kept (loop_kept n heads tests bodies))) (k.gives (GoesOn inner)))))

  -- the iterations of a `foreach` from a number on
  iterations_kept : {path : List ℕ} {passed : ℕ} {L : Type 0} {body : ℤ → Run (Flow L)} {body' : ℕ → ℤ → Line (Flow L)} (n number : ℕ) (index : ℤ) (step : ℕ)
      → ((number : ℕ) (i : ℤ) → K (path ++ passed ∷ number ∷ []) (Flow L) (body i) (body' number i))
      → J path passed number (iterations n index step (λ i. branch (body i))) (tree.iterations n number index step (λ number i. leaf (body' number i)))
  unfolding iterations tree.iterations
  iterations_kept zero number index step bodies = k.nothing
  iterations_kept (suc n) number index step bodies = k.beside (bodies number index) (iterations_kept n (suc number) (index +ℤ pos step) step bodies)

  -- all of them
  each_kept : {path : List ℕ} {L M : Type 0} {body : ℤ → Run (Flow L)} {body' : (passed number : ℕ) → ℤ → Line (Flow L)} (at : Place) (count : ℕ) (low : ℤ) (step : ℕ) (locals : M)
      → ((passed number : ℕ) (i : ℤ) → K (path ++ passed ∷ number ∷ []) (Flow L) (body i) (body' passed number i))
      → K path (Flow M) ((if nat_lt (2 ^ 20) count then stop (trapped Range at) else iterations count low step (λ i. branch (body i))) ⨾ joined locals)
      (λ then' passed. tree.each at count (λ count passed. tree.iterations count 0 low step (λ number i. leaf (body' passed number i))) (λ _. then' (GoesOn locals)) passed)
  unfolding iterations
  each_kept at zero low step locals bodies = k.gives (GoesOn locals)
  each_kept {path} {L} {M} {body} {body'} at (suc n) low step locals bodies =
      either (λ (run : Run (Option Trap)) (own : Line (Unit {0})). K path (Flow M) (run ⨾ joined locals) (λ then' passed. own (λ _. then' (GoesOn locals)) passed)) (nat_lt (2 ^ 20) (suc n))
      (k.stops (trapped Range at) tt)
      (k.forks locals (λ passed. iterations_kept (suc n) 0 low step (bodies passed)))

  returned_kept : {path : List ℕ} {L : Type 0} (flow : Flow L) → K path ℤ (returned flow) (line.returned flow)
  returned_kept (GoesOn locals) = k.gives (pos 0)
  returned_kept (Returns word) = k.gives word

  eval_kept : (path : List ℕ) (at : Place) (slots : Slots) (e : PExpr) → K path ℤ (eval at slots e) (tree.eval at slots e)
  eval_kept path at slots e = computed_kept path at (value slots e)

  eval_list_kept : (path : List ℕ) (at : Place) (slots : Slots) (args : List PExpr) → K path (List ℤ) (eval_list at slots args) (tree.eval_list at slots args)
  eval_list_kept path at slots [] = k.gives []
  eval_list_kept path at slots (e ∷ args) = k.goes (eval_kept path at slots e) (λ word. k.goes (eval_list_kept path at slots args) (λ words. k.gives (word ∷ words)))

  module _ (p : PProgram) (call : Place → ℕ → List ℤ → Run ℤ) (call' : List ℕ → Place → ℕ → List ℤ → Line ℤ)
      (grows : CallsGrow (record { program = p; fuel = fuel; call = call }))
      (calls : (path : List ℕ) (at : Place) (function : ℕ) (words : List ℤ) → K path ℤ (call at function words) (call' path at function words)) where
    -- the contexts of the run and of the line in a branch
    abbrev here : Context
    here = record { program = p; fuel = fuel; call = call }

    abbrev there : List ℕ → tree.Context
    there path = record { program = p; turns = turns; branch = path; call = call' }

    mutual
      exec_kept : (path : List ℕ) (at : Place) (kind : PKind) (slots : Slots) → K path (Flow Slots) (exec here at kind slots) (tree.exec (there path) at kind slots)
      exec_kept path at (Set to e) slots = k.goes (eval_kept path at slots e) (λ word. k.gives _)
      exec_kept path at (Load to base index field) slots =
          k.goes (eval_kept path at slots index) (λ i. k.goes (k.due at (LoadWord (word_of slots base) i field)) (λ word. k.gives _))
      exec_kept path at (Store base index field e) slots =
          k.goes (eval_kept path at slots index) (λ i. k.goes (eval_kept path at slots e) (λ word.
          k.goes (k.due at (StoreWord (word_of slots base) i field word)) (λ _. k.gives (GoesOn slots))))
      exec_kept path at (Calloc to count type) slots =
          k.goes (eval_kept path at slots count) (λ n. k.goes (k.due at (Allocate n (fields_of p.structs type))) (λ word. k.gives _))
      exec_kept path at (Call to function args) slots = k.goes (k.goes (eval_list_kept path at slots args) (calls path at function)) (λ word. k.gives _)
      exec_kept path at (If' e n body m other) slots = k.goes (eval_kept path at slots e) (λ word. by_truth_kept word (exec_row_kept path body slots) (exec_row_kept path other slots))
      exec_kept path at (While' n head e m body) slots =
          k.same (λ below w. with_bounds here grows (λ _. turns) (λ w. omega arith) at (While' n head e m body) slots w)
          (loop_kept turns (exec_row_kept path head) (λ slots. k.goes (eval_kept path at slots e) (λ word. k.goes (k.due at Test) (λ _. k.gives word))) (exec_row_kept path body) slots)
      exec_kept path at (Print e) slots = k.goes (eval_kept path at slots e) (λ number. k.goes (k.due at (PrintNumber number)) (λ _. k.gives (GoesOn slots)))
      exec_kept path at (Return None) slots = k.gives (Returns (pos 0))
      exec_kept path at (Return (Some e)) slots = k.goes (eval_kept path at slots e) (λ word. k.gives (Returns word))
      exec_kept path at (Cobegin' n blocks) slots = k.forks slots (λ passed. branches_kept path passed 0 blocks slots)
      exec_kept path at (Foreach index low high step body) slots =
          k.goes (eval_kept path at slots low) (λ low. k.goes (eval_kept path at slots high) (λ high.
          each_kept at (iteration_count low high (nat_abs step)) low (nat_abs step) slots (λ passed number i.
          k.goes (k.due at Start) (λ _. exec_branch_kept (path ++ passed ∷ number ∷ []) body (slice_set slots index i)))))

      exec_row_kept : {n : _} (path : List ℕ) (row : Row_of-PStmt n) (slots : Slots) → K path (Flow Slots) (exec_row here row slots) (tree.exec_row (there path) row slots)
      exec_row_kept path end_of-PStmt slots = k.gives (GoesOn slots)
      exec_row_kept path (more_of-PStmt at kind rest) slots = k.goes (exec_kept path at kind slots) (unless_returned_kept (exec_row_kept path rest))

      exec_branch_kept : (path : List ℕ) (body : Branch) (slots : Slots) → K path (Flow Slots) (exec_branch here body slots) (tree.exec_branch (there path) body slots)
      exec_branch_kept path (Branch' at n body) slots = exec_row_kept path body slots

      branches_kept : {n : _} (path : List ℕ) (passed number : ℕ) (row : Row_of-Branch n) (slots : Slots) → J path passed number (branches here row slots) (tree.branches (there path) passed number row slots)
      branches_kept path passed number end_of-Branch slots = k.nothing
      branches_kept path passed number (more_of-Branch body rest) slots =
          k.beside (exec_branch_kept (path ++ passed ∷ number ∷ []) body slots) (branches_kept path passed (suc number) rest slots)

    exec_all_kept : (path : List ℕ) (body : List PStmt) (slots : Slots) → K path (Flow Slots) (exec_all here body slots) (tree.exec_all (there path) body slots)
    exec_all_kept path [] slots = k.gives (GoesOn slots)
    exec_all_kept path (s ∷ body) slots = k.goes (exec_kept path s.at s.kind slots) (unless_returned_kept (exec_all_kept path body))

    in_function_kept : (path : List ℕ) (f : Option PFunc) (words : List ℤ) → K path ℤ (in_function here f words) (tree.in_function (there path) f words)
    in_function_kept path None words = k.stops Unruled tt
    in_function_kept path (Some f) words = k.goes (exec_all_kept path f.body (bound f words)) returned_kept

  module _ (p : PProgram) where
    task_called_kept : (deep : ℕ) (path : List ℕ) (at : Place) (function : ℕ) (words : List ℤ) → K path ℤ (called p fuel deep at function words) (tree.called p turns deep path at function words)
    unfolding called tree.called
    task_called_kept zero path at function words = k.due at (Enter 0)
    task_called_kept (suc deep) path at function words =
        k.goes (k.due at (Enter (suc deep))) (λ _.
        in_function_kept p (called p fuel deep) (tree.called p turns deep) (called_kept (growing fuel) p (omega arith) deep) (task_called_kept deep) path (slice_get p.funcs function) words)

    -- of `main`
    pub main_kept : (f : Option PFunc) (arguments : List ℤ)
        → K [] ℤ (in_function (record { program = p; fuel = fuel; call = called p fuel 1023 }) f arguments) (tree.in_function (tree.context p turns) f arguments)
    main_kept f arguments =
        in_function_kept p (called p fuel 1023) (tree.called p turns 1023) (called_kept (growing fuel) p (omega arith) 1023) (task_called_kept 1023) [] f arguments
