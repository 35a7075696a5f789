-- The tasks of a plain program by two bounds on the turns of loops are the same for as many actions.
use Rattle.std.proofs.Common.{◌≡◌, ℕ, zero, suc, ◌≤◌, ◌^◌, ◌++◌, ℤ, pos, negsuc, ◌+ℤ◌, nat_abs, nat_lt, ◌&&◌, if◌then◌else◌, List, [], ◌∷◌, Option, None, Some, refl, subst, arith}
use Rattle.std.specs.Prelude.{slice_set, slice_get}
use Rattle.std.specs.Option.{option_or}
use Rattle.lq_tree.specs.declared.place.Place.{Place}
use Rattle.lq_tree.specs.declared.trap.TrapKind.TheVariants.{Words, Range}
use Rattle.lq_tree.specs.declared.plain.PExpr.{PExpr}
use Rattle.lq_tree.specs.declared.plain.PKind.{PKind, Set, Load, Store, Calloc, Call, If', While', Cobegin', Foreach, Print, Return, Row_of-PStmt, end_of-PStmt, more_of-PStmt, Row_of-Branch, end_of-Branch, more_of-Branch}
use Rattle.lq_tree.specs.declared.plain.PStmt.{PStmt}
use Rattle.lq_tree.specs.declared.plain.Branch.{Branch, Branch'}
use Rattle.lq_tree.specs.declared.plain.PFunc.{PFunc}
use Rattle.lq_tree.specs.declared.plain.PProgram.{PProgram}
use Rattle.lq_tree.specs.Layout.{fields_of}
use Rattle.lq_meaning.specs.declared.action.Action.{Action}
use Rattle.lq_meaning.specs.declared.action.Action.TheVariants.{Allocate, Load as LoadWord, Store as StoreWord, Print as PrintNumber, Enter, Start, Test}
use Rattle.lq_meaning.specs.Ending.{Trap, Ending, Done, Trapped, Unruled}
use Rattle.lq_meaning.specs.Operators.{Computed, Computes, Fails}
use Rattle.lq_meaning.specs.Control.{trapped, by_truth, Flow, GoesOn, Returns, iteration_count}
use Rattle.lq_meaning.specs.PlainMeaning.{Slots, word_of, value, bound}
use Rattle.lq_meaning.specs.Task.{Spot, Task, Ended, Due, Fork, Tasks, none, more, has_ended, all_ended, trap_of, first_trap, behind_all, forked}
use Rattle.lq_meaning.specs.TaskControl.{Line, give, stop, ◌⨾◌, computed, due, together, Statement, done_with, unless_returned, ◌then_do◌, tested, loop, returned, ends, leaf}
use Rattle.lq_meaning.specs.Behaviour.{Context, eval_list, iterations, each, exec, exec_row, exec_branch, branches, exec_all, in_function, called, context, Beginning, begins, main_task, enter_main, bounded}
use Rattle.lq_meaning.proofs.Kept.{either, enter_kept}

-- two tasks are the same for so many actions
mutual
  pub data SameFor : ℕ → Task → Task → Type 0 where
    unseen : {task other : Task} → SameFor 0 task other
    both_ended : {n : ℕ} (ending : Ending) → SameFor n (Ended ending) (Ended ending)
    both_due : {n : ℕ} {at : Spot} {action : Action} {next next' : ℤ → Task} → ((word : ℤ) → SameFor n (next word) (next' word)) → SameFor (suc n) (Due at action next) (Due at action next')
    both_fork : {n : ℕ} {children children' : Tasks} {behind behind' : Task} → AllSameFor (suc n) children children' → SameFor (suc n) behind behind' → SameFor (suc n) (Fork children behind) (Fork children' behind')

  pub data AllSameFor : ℕ → Tasks → Tasks → Type 0 where
    both_none : {n : ℕ} → AllSameFor n none none
    both_more : {n : ℕ} {task other : Task} {tasks others : Tasks} → SameFor n task other → AllSameFor n tasks others → AllSameFor n (more task tasks) (more other others)

-- and for fewer
mutual
  pub same_for_fewer : {n : ℕ} {task other : Task} → SameFor (suc n) task other → SameFor n task other
  same_for_fewer (both_ended ending) = both_ended ending
  same_for_fewer {n = zero} (both_due same) = unseen
  same_for_fewer {n = suc n} (both_due same) = both_due (λ word. same_for_fewer (same word))
  same_for_fewer {n = zero} (both_fork all same) = unseen
  same_for_fewer {n = suc n} (both_fork all same) = both_fork (all_same_for_fewer all) (same_for_fewer same)

  pub all_same_for_fewer : {n : ℕ} {tasks others : Tasks} → AllSameFor (suc n) tasks others → AllSameFor n tasks others
  all_same_for_fewer both_none = both_none
  all_same_for_fewer (both_more same all) = both_more (same_for_fewer same) (all_same_for_fewer all)

-- where one has ended, so has the other, by the same trap
pub same_has_ended : {n : ℕ} {task other : Task} → SameFor (suc n) task other → has_ended task ≡ has_ended other
same_has_ended (both_ended ending) = refl
same_has_ended (both_due same) = refl
same_has_ended (both_fork all same) = refl

same_trap_of : {n : ℕ} {task other : Task} → SameFor (suc n) task other → trap_of task ≡ trap_of other
same_trap_of (both_ended ending) = refl
same_trap_of (both_due same) = refl
same_trap_of (both_fork all same) = refl

same_all_ended : {n : ℕ} {tasks others : Tasks} → AllSameFor (suc n) tasks others → all_ended tasks ≡ all_ended others
same_all_ended both_none = refl
same_all_ended (both_more same all) = λ i. same_has_ended same i && same_all_ended all i

same_first_trap : {n : ℕ} {tasks others : Tasks} → AllSameFor (suc n) tasks others → first_trap tasks ≡ first_trap others
same_first_trap both_none = refl
same_first_trap (both_more same all) = λ i. option_or (same_trap_of same i) (same_first_trap all i)

same_behind_all : {n : ℕ} {behind behind' : Task} (trap : Option Trap) → SameFor n behind behind' → SameFor n (behind_all trap behind) (behind_all trap behind')
same_behind_all None same = same
same_behind_all (Some trap) same = both_ended (Trapped trap)

-- so forks of the same children are the same
pub forked_same : (n : ℕ) (children children' : Tasks) (behind behind' : Task) → AllSameFor n children children' → SameFor n behind behind' → SameFor n (forked children behind) (forked children' behind')
forked_same zero children children' behind behind' all same = unseen
forked_same (suc n) children children' behind behind' all same =
    subst (λ ended. SameFor (suc n) (forked children behind) (if ended then behind_all (first_trap children') behind' else Fork children' behind')) (same_all_ended all)
    (subst (λ trap. SameFor (suc n) (forked children behind) (if all_ended children then behind_all trap behind' else Fork children' behind')) (same_first_trap all)
    (either (SameFor (suc n)) (all_ended children) (same_behind_all (first_trap children) same) (both_fork all same)))

-- up to a bound on actions two lines make the same tasks, where what comes next is the same
pub record SameLine (bound : ℕ) (X : Type 0) (own other : Line X) : Type 0 where
  pub keeps : (m : ℕ) → m ≤ bound → (next next' : X → ℕ → Task) → ((x : X) (passed k : ℕ) → k ≤ m → SameFor k (next x passed) (next' x passed))
      → (passed : ℕ) → SameFor m (own next passed) (other next' passed)

module _ {bound : ℕ} where
  gives : {X : Type 0} (x : X) → SameLine bound X (give x) (give x)
  gives x = record { keeps = λ m below next next' nexts passed. nexts x passed m (omega arith) }

  stops : {X : Type 0} (ending : Ending) → SameLine bound X (stop ending) (stop ending)
  stops ending = record { keeps = λ m below next next' nexts passed. both_ended ending }

  goes : {X Y : Type 0} {first first' : Line X} {then' then'' : X → Line Y} → SameLine bound X first first' → ((x : X) → SameLine bound Y (then' x) (then'' x)) → SameLine bound Y (first ⨾ then') (first' ⨾ then'')
  goes {then' = then'} {then''} firsts thens = record {
    keeps = λ m below next next' nexts passed.
        firsts.keeps m below (λ x. then' x next) (λ x. then'' x next') (λ x between k fits. (thens x).keeps k (omega arith) next next' (λ y forks j less. nexts y forks j (omega arith)) between) passed;
  }

  due_same : (path : List ℕ) (at : Place) (action : Action) → SameLine bound ℤ (due path at action) (due path at action)
  due_same path at action = record { keeps = acts } where
    acts : (m : ℕ) → m ≤ bound → (next next' : ℤ → ℕ → Task) → ((x : ℤ) (passed k : ℕ) → k ≤ m → SameFor k (next x passed) (next' x passed))
        → (passed : ℕ) → SameFor m (due path at action next passed) (due path at action next' passed)
    acts zero below next next' nexts passed = unseen
    acts (suc m) below next next' nexts passed = both_due (λ word. nexts word passed m (omega arith))

  -- behind an action there is one action less
  counted : {Y : Type 0} (path : List ℕ) (at : Place) (action : Action) {then' then'' : ℤ → Line Y} → ((word : ℤ) → SameLine bound Y (then' word) (then'' word))
      → SameLine (suc bound) Y (due path at action ⨾ then') (due path at action ⨾ then'')
  counted {Y} path at action {then'} {then''} thens = record { keeps = acts } where
    acts : (m : ℕ) → m ≤ suc bound → (next next' : Y → ℕ → Task) → ((y : Y) (passed k : ℕ) → k ≤ m → SameFor k (next y passed) (next' y passed))
        → (passed : ℕ) → SameFor m (due path at action (λ word. then' word next) passed) (due path at action (λ word. then'' word next') passed)
    acts zero below next next' nexts passed = unseen
    acts (suc m) below next next' nexts passed = both_due (λ word. (thens word).keeps m (omega arith) next next' (λ y forks k less. nexts y forks k (omega arith)) passed)

  computed_same : (at : Place) (c : Computed) → SameLine bound ℤ (computed at c) (computed at c)
  computed_same at (Computes x) = gives x
  computed_same at (Fails kind) = stops (trapped kind at)

  by_truth_same : {X : Type 0} (word : ℤ) {holds holds' fails fails' : Line X} → SameLine bound X holds holds' → SameLine bound X fails fails' → SameLine bound X (by_truth word holds fails) (by_truth word holds' fails')
  by_truth_same (pos zero) holds fails = fails
  by_truth_same (pos (suc n)) holds fails = holds
  by_truth_same (negsuc n) holds fails = holds

  then_do_same : {L : Type 0} {first first' : Line (Flow L)} {next next' : Statement L} → SameLine bound (Flow L) first first' → ((locals : L) → SameLine bound (Flow L) (next locals) (next' locals))
      → SameLine bound (Flow L) (first then_do next) (first' then_do next')
  then_do_same {L} {first} {first'} {next} {next'} firsts nexts = goes firsts unless where
    unless : (flow : Flow L) → SameLine bound (Flow L) (unless_returned next flow) (unless_returned next' flow)
    unless (GoesOn locals) = nexts locals
    unless (Returns word) = gives (Returns word)

  returned_same : {L : Type 0} (flow : Flow L) → SameLine bound ℤ (returned flow) (returned flow)
  returned_same (GoesOn locals) = gives (pos 0)
  returned_same (Returns word) = gives word

-- a lower bound
narrower : {X : Type 0} (low : ℕ) {high : ℕ} → low ≤ high → {own other : Line X} → SameLine high X own other → SameLine low X own other
narrower low less same = record { keeps = λ m below. same.keeps m (omega arith) }

-- for no actions all lines are the same
for_nothing : {X : Type 0} (own other : Line X) → SameLine 0 X own other
for_nothing own other = record { keeps = λ m below next next' nexts passed. let none_left : 0 ≡ m = omega arith in subst (λ k. SameFor k (own next passed) (other next' passed)) none_left unseen }

-- loops of two numbers of turns are the same for as many actions
loop_same : {L : Type 0} {bound : ℕ} (n turns other : ℕ) → n ≤ turns → n ≤ other → n ≤ bound → (path : List ℕ) (at : Place) {head head' body body' : Statement L} {condition condition' : L → Line ℤ}
    → ((locals : L) → SameLine bound (Flow L) (head locals) (head' locals)) → ((locals : L) → SameLine bound ℤ (condition locals) (condition' locals)) → ((locals : L) → SameLine bound (Flow L) (body locals) (body' locals))
    → (locals : L) → SameLine n (Flow L) (loop turns head (λ locals. tested path at (condition locals)) body locals) (loop other head' (λ locals. tested path at (condition' locals)) body' locals)
unfolding loop
loop_same zero turns other most many fits path at heads conditions bodies locals = for_nothing _ _
loop_same (suc n) zero other most many fits path at heads conditions bodies locals = absurd (omega arith)
loop_same (suc n) (suc turns) zero most many fits path at heads conditions bodies locals = absurd (omega arith)
loop_same (suc n) (suc turns) (suc other) most many fits path at heads conditions bodies locals =
    then_do_same (narrower (suc n) fits (heads locals)) (λ inside.
    goes (narrower (suc n) fits (conditions inside)) (λ word.
    counted path at Test (λ _.
    by_truth_same word (then_do_same (narrower n (omega arith) (bodies inside)) (loop_same n turns other (omega arith) (omega arith) (omega arith) path at heads conditions bodies)) (gives (GoesOn inside)))))

ends_same : {L : Type 0} (n : ℕ) (flow : Flow L) (passed : ℕ) → SameFor n (ends flow passed) (ends flow passed)
ends_same n (GoesOn locals) passed = both_ended Done
ends_same n (Returns word) passed = both_ended Unruled

leaf_same : {L : Type 0} {bound : ℕ} (m : ℕ) → m ≤ bound → {own other : Line (Flow L)} → SameLine bound (Flow L) own other → SameFor m (leaf own) (leaf other)
leaf_same m below same = same.keeps m below ends ends (λ flow passed k less. ends_same k flow passed) 0

-- children that are the same up to a bound
abbrev SameChildren : (bound : ℕ) → Tasks → Tasks → Type 0
SameChildren bound children others = (m : ℕ) → m ≤ bound → AllSameFor m children others

together_same : {L : Type 0} {bound : ℕ} (children children' : ℕ → Tasks) (locals : L) → ((passed : ℕ) → SameChildren bound (children passed) (children' passed))
    → SameLine bound (Flow L) (together children ⨾ λ _. done_with locals) (together children' ⨾ λ _. done_with locals)
together_same children children' locals all = record {
  keeps = λ m below next next' nexts passed.
      forked_same m (children passed) (children' passed) (next (GoesOn locals) (suc passed)) (next' (GoesOn locals) (suc passed)) (all passed m below) (nexts (GoesOn locals) (suc passed) m (omega arith));
}

iterations_same : {bound : ℕ} (n number : ℕ) (index : ℤ) (step : ℕ) (iteration iteration' : ℕ → ℤ → Task) → ((number : ℕ) (i : ℤ) (m : ℕ) → m ≤ bound → SameFor m (iteration number i) (iteration' number i))
    → SameChildren bound (iterations n number index step iteration) (iterations n number index step iteration')
unfolding iterations
iterations_same zero number index step iteration iteration' same m below = both_none
iterations_same (suc n) number index step iteration iteration' same m below =
    both_more (same number index m below) (iterations_same n (suc number) (index +ℤ pos step) step iteration iteration' same m below)

each_same : {L : Type 0} {bound : ℕ} (at : Place) (count : ℕ) (children children' : ℕ → ℕ → Tasks) (locals : L) → ((count passed : ℕ) → SameChildren bound (children count passed) (children' count passed))
    → SameLine bound (Flow L) (each at count children ⨾ λ _. done_with locals) (each at count children' ⨾ λ _. done_with locals)
each_same at zero children children' locals all = gives (GoesOn locals)
each_same {L} {bound} at (suc n) children children' locals all =
    either (λ (own other : Line (Unit {0})). SameLine bound (Flow L) (own ⨾ λ _. done_with locals) (other ⨾ λ _. done_with locals)) (nat_lt (2 ^ 20) (suc n))
    (stops (trapped Range at)) (together_same (children (suc n)) (children' (suc n)) locals (all (suc n)))

eval_list_same : {bound : ℕ} (at : Place) (slots : Slots) (args : List PExpr) → SameLine bound (List ℤ) (eval_list at slots args) (eval_list at slots args)
eval_list_same at slots [] = gives []
eval_list_same at slots (e ∷ args) = goes (computed_same at (value slots e)) (λ word. goes (eval_list_same at slots args) (λ words. gives (word ∷ words)))

module _ (least turns other : ℕ) (most : least ≤ turns) (many : least ≤ other) (p : PProgram) where
  module _ (call call' : List ℕ → Place → ℕ → List ℤ → Line ℤ) (calls : (path : List ℕ) (at : Place) (function : ℕ) (words : List ℤ) → SameLine least ℤ (call path at function words) (call' path at function words)) where
    abbrev here : List ℕ → Context
    here path = record { program = p; turns = turns; branch = path; call = call }

    abbrev there : List ℕ → Context
    there path = record { program = p; turns = other; branch = path; call = call' }

    mutual
      exec_same : (path : List ℕ) (at : Place) (kind : PKind) (slots : Slots) → SameLine least (Flow Slots) (exec (here path) at kind slots) (exec (there path) at kind slots)
      exec_same path at (Set to e) slots = goes (computed_same at (value slots e)) (λ word. gives _)
      exec_same path at (Load to base index field) slots =
          goes (computed_same at (value slots index)) (λ i. goes (due_same path at (LoadWord (word_of slots base) i field)) (λ word. gives _))
      exec_same path at (Store base index field e) slots =
          goes (computed_same at (value slots index)) (λ i. goes (computed_same at (value slots e)) (λ word.
          goes (due_same path at (StoreWord (word_of slots base) i field word)) (λ _. gives (GoesOn slots))))
      exec_same path at (Calloc to count type) slots =
          goes (computed_same at (value slots count)) (λ n. goes (due_same path at (Allocate n (fields_of p.structs type))) (λ word. gives _))
      exec_same path at (Call to function args) slots = goes (goes (eval_list_same at slots args) (calls path at function)) (λ word. gives _)
      exec_same path at (If' e n body m others) slots = goes (computed_same at (value slots e)) (λ word. by_truth_same word (exec_row_same path body slots) (exec_row_same path others slots))
      exec_same path at (While' n head e m body) slots =
          loop_same least turns other most many (omega arith) path at (exec_row_same path head) (λ slots. computed_same at (value slots e)) (exec_row_same path body) slots
      exec_same path at (Print e) slots = goes (computed_same at (value slots e)) (λ number. goes (due_same path at (PrintNumber number)) (λ _. gives (GoesOn slots)))
      exec_same path at (Return None) slots = gives (Returns (pos 0))
      exec_same path at (Return (Some e)) slots = goes (computed_same at (value slots e)) (λ word. gives (Returns word))
      exec_same path at (Cobegin' n blocks) slots =
          together_same (λ passed. branches (here path) passed 0 blocks slots) (λ passed. branches (there path) passed 0 blocks slots) slots (λ passed. branches_same path passed 0 blocks slots)
      exec_same path at (Foreach index low high step body) slots =
          goes (computed_same at (value slots low)) (λ low. goes (computed_same at (value slots high)) (λ high.
          each_same at (iteration_count low high (nat_abs step)) _ _ slots (λ count passed.
          iterations_same count 0 low (nat_abs step) _ _ (λ number i m below.
          leaf_same m below (goes (due_same (path ++ passed ∷ number ∷ []) at Start) (λ _. exec_branch_same (path ++ passed ∷ number ∷ []) body (slice_set slots index i)))))))

      exec_row_same : {n : _} (path : List ℕ) (row : Row_of-PStmt n) (slots : Slots) → SameLine least (Flow Slots) (exec_row (here path) row slots) (exec_row (there path) row slots)
      exec_row_same path end_of-PStmt slots = gives (GoesOn slots)
      exec_row_same path (more_of-PStmt at kind rest) slots = then_do_same (exec_same path at kind slots) (exec_row_same path rest)

      exec_branch_same : (path : List ℕ) (body : Branch) (slots : Slots) → SameLine least (Flow Slots) (exec_branch (here path) body slots) (exec_branch (there path) body slots)
      exec_branch_same path (Branch' at n body) slots = exec_row_same path body slots

      branches_same : {n : _} (path : List ℕ) (passed number : ℕ) (row : Row_of-Branch n) (slots : Slots) → SameChildren least (branches (here path) passed number row slots) (branches (there path) passed number row slots)
      branches_same path passed number end_of-Branch slots m below = both_none
      branches_same path passed number (more_of-Branch body rest) slots m below =
          both_more (leaf_same m below (exec_branch_same (path ++ passed ∷ number ∷ []) body slots)) (branches_same path passed (suc number) rest slots m below)

    exec_all_same : (path : List ℕ) (body : List PStmt) (slots : Slots) → SameLine least (Flow Slots) (exec_all (here path) body slots) (exec_all (there path) body slots)
    exec_all_same path [] slots = gives (GoesOn slots)
    exec_all_same path (s ∷ body) slots = then_do_same (exec_same path s.at s.kind slots) (exec_all_same path body)

    in_function_same : (path : List ℕ) (f : Option PFunc) (words : List ℤ) → SameLine least ℤ (in_function (here path) f words) (in_function (there path) f words)
    in_function_same path None words = stops Unruled
    in_function_same path (Some f) words = goes (exec_all_same path f.body (bound f words)) returned_same

  called_same : (deep : ℕ) (path : List ℕ) (at : Place) (function : ℕ) (words : List ℤ) → SameLine least ℤ (called p turns deep path at function words) (called p other deep path at function words)
  unfolding called
  called_same zero path at function words = due_same path at (Enter 0)
  called_same (suc deep) path at function words =
      goes (due_same path at (Enter (suc deep))) (λ _. in_function_same (called p turns deep) (called p other deep) (called_same deep) path (slice_get p.funcs function) words)

  main_same : (f : Option PFunc) (arguments : List ℤ) → SameFor least (main_task (context p turns) f arguments) (main_task (context p other) f arguments)
  main_same f arguments =
      (in_function_same (called p turns 1023) (called p other 1023) (called_same 1023) [] f arguments).keeps least (omega arith) (λ word passed. Ended Done) (λ word passed. Ended Done)
      (λ word passed k less. both_ended Done) 0

-- two beginnings are in the same world
pub record SameBeginning (n : ℕ) (b other : Beginning) : Type 0 where
  pub tasks : SameFor n b.task other.task
  pub worlds : b.world ≡ other.world

module _ (least turns other : ℕ) (most : least ≤ turns) (many : least ≤ other) (p : PProgram) where
  enter_main_same : (f : Option PFunc) (words : ℕ) (input : List ℤ) → SameBeginning least (enter_main (context p turns) f words input) (enter_main (context p other) f words input)
  enter_main_same None words input = record { tasks = both_ended Unruled; worlds = refl }
  enter_main_same (Some f) words input =
      let refused = begins (Ended (trapped Words f.at)) in
      enter_kept (SameBeginning least) {refused = refused} {refused' = refused}
      {entered = λ arguments. begins (main_task (context p turns) (Some f) arguments)} {entered' = λ arguments. begins (main_task (context p other) (Some f) arguments)}
      f.params words input (λ w opens. record { tasks = both_ended (trapped Words f.at); worlds = refl })
      (λ arguments w opens. record { tasks = main_same least turns other most many p (Some f) arguments; worlds = refl })

  pub bounded_same : (words : ℕ) (input : List ℤ) → SameBeginning least (bounded turns words p input) (bounded other words p input)
  bounded_same words input = enter_main_same (slice_get p.funcs p.main) words input
