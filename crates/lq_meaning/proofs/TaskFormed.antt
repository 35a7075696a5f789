-- The task of a formed plain program is regular.
use Rattle.std.proofs.Common.{◌≡◌, ℕ, zero, suc, ◌++◌, ℤ, pos, nat_abs, Bool, true, false, not, List, [], ◌∷◌, Option, None, Some, refl, sym, subst, arith}
use Rattle.std.specs.Prelude.{slice_set, slice_get, ◌||◌, ◌==◌}
use Rattle.std.specs.List.{AllByRecursion, list_any, list_all}
use Rattle.std.proofs.lemmas.Bool.{and_parts, or_parts, not-true, not-false}
use Rattle.std.proofs.lemmas.List.Sums.{AllPass-from_list_all}
use Rattle.std.proofs.lemmas.List.Elements.{recursion_from_All}
use Rattle.lq_text.proofs.Lists.{all_left, all_right}
use Rattle.lq_tree.specs.declared.place.Place.{Place}
use Rattle.lq_tree.specs.declared.trap.TrapKind.TheVariants.{Words}
use Rattle.lq_tree.specs.declared.plain.PExpr.{PExpr}
use Rattle.lq_tree.specs.declared.plain.PKind.{PKind, Set, Load, Store, Calloc, Call, If', While', Cobegin', Foreach, Print, Return, Row_of-PStmt, end_of-PStmt, more_of-PStmt, Row_of-Branch, end_of-Branch, more_of-Branch}
use Rattle.lq_tree.specs.declared.plain.PStmt.{PStmt}
use Rattle.lq_tree.specs.declared.plain.Branch.{Branch, Branch'}
use Rattle.lq_tree.specs.declared.plain.PFunc.{PFunc}
use Rattle.lq_tree.specs.declared.plain.PProgram.{PProgram}
use Rattle.lq_tree.specs.declared.plain.Slot.{Slot}
use Rattle.lq_tree.specs.Layout.{fields_of}
use Rattle.lq_tree.specs.PlainWalk.{statement, inside, within_row, within_branch, within_branches, statements}
use Rattle.lq_tree.specs.PlainShape.{is_loud, is_return, keeps_quiet}
use Rattle.lq_tree.specs.PlainTypes.{is_typed, call_fits}
use Rattle.lq_tree.specs.Formed.{IsFormedFunc, IsFormed}
use Rattle.lq_meaning.specs.declared.action.Action.TheVariants.{Allocate, Load as LoadWord, Store as StoreWord, Print as PrintNumber, Enter, Start}
use Rattle.lq_meaning.specs.Ending.{Done}
use Rattle.lq_meaning.specs.Control.{trapped, Flow, GoesOn, Returns, iteration_count}
use Rattle.lq_meaning.specs.PlainMeaning.{Slots, word_of, value, bound}
use Rattle.lq_meaning.specs.Task.{Ended}
use Rattle.lq_meaning.specs.TaskControl.{Line}
use Rattle.lq_meaning.specs.Behaviour.{Context, eval_list, exec, exec_row, exec_branch, branches, exec_all, in_function, called, context, Beginning, begins, main_task, enter_main, bounded}
use Rattle.lq_meaning.specs.Tasks.{IsRegular}
use Rattle.lq_meaning.proofs.Kept.{enter_kept}
use Rattle.lq_meaning.proofs.TaskRegular.{done_regular, trapped_regular, LineIsRegular, any, Flows, gives, goes, due_regular, computed_regular, by_truth_regular, then_do_regular, returned_regular, loop_regular, leaf_regular, ChildrenAreRegular, together_regular, iterations_regular, each_regular}

-- a test that each passes
passing : {X : Type 0} (test : X → Bool) (xs : List X) → list_all test xs ≡ true → AllByRecursion (λ x. test x ≡ true) xs
passing test xs all = recursion_from_All (λ x. test x ≡ true) xs (AllPass-from_list_all test xs all)

-- and one that none passes
failing : {X : Type 0} (test : X → Bool) (xs : List X) → list_any test xs ≡ false → AllByRecursion (λ x. test x ≡ false) xs
failing test [] none = tt
failing test (x ∷ xs) none = let parts = or_parts (test x) (list_any test xs) none in (parts.0, failing test xs parts.1)

-- where a statement of a formed function may stand: `parallel` is true in what branches do, and `inner` in the branches themselves
record Stands (p : PProgram) (f : PFunc) (quiet : ℕ → Bool) (parallel inner : Bool) (s : PStmt) : Type 0 where
  typed : is_typed p f s.kind ≡ true
  hushed : keeps_quiet quiet s.kind ≡ true
  silent : parallel ≡ true → is_loud quiet s.kind ≡ false
  stays : inner ≡ true → is_return s.kind ≡ false

-- the statements of a function, in what a branch does or not
body_stands : (p : PProgram) (f : PFunc) (quiet : ℕ → Bool) (parallel : Bool) (xs : List PStmt) → AllByRecursion (λ (s : PStmt). is_typed p f s.kind ≡ true) xs
    → AllByRecursion (λ (s : PStmt). keeps_quiet quiet s.kind ≡ true) xs → (parallel ≡ true → AllByRecursion (λ (s : PStmt). is_loud quiet s.kind ≡ false) xs) → AllByRecursion (Stands p f quiet parallel false) xs
body_stands p f quiet parallel [] typed hushed silent = tt
body_stands p f quiet parallel (s ∷ xs) typed hushed silent =
    (record { typed = typed.0; hushed = hushed.0; silent = λ is. (silent is).0; stays = λ is. absurd cc }, body_stands p f quiet parallel xs typed.1 hushed.1 (λ is. (silent is).1))

-- and those of branches
branch_stands : (p : PProgram) (f : PFunc) (quiet : ℕ → Bool) (parallel inner : Bool) (xs : List PStmt) → AllByRecursion (Stands p f quiet parallel inner) xs
    → AllByRecursion (λ (s : PStmt). (is_loud quiet s.kind || is_return s.kind) ≡ false) xs → AllByRecursion (Stands p f quiet true true) xs
branch_stands p f quiet parallel inner [] stand hushed = tt
branch_stands p f quiet parallel inner (s ∷ xs) stand hushed =
    let parts = or_parts (is_loud quiet s.kind) (is_return s.kind) hushed.0 in
    (record { typed = stand.0.typed; hushed = stand.0.hushed; silent = λ is. parts.0; stays = λ is. parts.1 }, branch_stands p f quiet parallel inner xs stand.1 hushed.1)

parallel_stands : (p : PProgram) (f : PFunc) (quiet : ℕ → Bool) (parallel inner : Bool) (xs : List PStmt) → AllByRecursion (Stands p f quiet parallel inner) xs
    → not (list_any (λ (s : PStmt). is_loud quiet s.kind || is_return s.kind) xs) ≡ true → AllByRecursion (Stands p f quiet true true) xs
parallel_stands p f quiet parallel inner xs stand hushed =
    branch_stands p f quiet parallel inner xs stand (failing (λ (s : PStmt). is_loud quiet s.kind || is_return s.kind) xs (not-true _ hushed))

-- a function that is called is there
call_there : (slots : List Slot) (to : Option ℕ) (g : Option PFunc) (args : List PExpr) → call_fits slots to g args ≡ true → (f : PFunc) × (g ≡ Some f)
call_there slots to None args fits = absurd cc
call_there slots to (Some g) args fits = (g, refl)

eval_list_regular : {turns : ℕ} {parallel : Bool} (at : Place) (slots : Slots) (args : List PExpr) → LineIsRegular turns parallel (List ℤ) any (eval_list at slots args)
eval_list_regular at slots [] = gives [] tt
eval_list_regular at slots (e ∷ args) = goes (computed_regular at (value slots e)) (λ word _. goes (eval_list_regular at slots args) (λ words _. gives (word ∷ words) tt))

-- a return stands in no branch
returns_outside : (inner : Bool) → (inner ≡ true → true ≡ false) → inner ≡ false
returns_outside true stays = stays refl
returns_outside false stays = refl

module _ (turns : ℕ) (p : PProgram) (quiet : ℕ → Bool) where
  -- what calls of the functions that are there do is regular: of the quiet ones also in branches
  abbrev CallsAreRegular : (List ℕ → Place → ℕ → List ℤ → Line ℤ) → Type 0
  CallsAreRegular call =
      (parallel : Bool) (path : List ℕ) (at : Place) (function : ℕ) (words : List ℤ) → (parallel ≡ true → quiet function ≡ true) → (f : PFunc) → slice_get p.funcs function ≡ Some f
      → LineIsRegular turns parallel ℤ any (call path at function words)

  module _ (call : List ℕ → Place → ℕ → List ℤ → Line ℤ) (calls : CallsAreRegular call) (f : PFunc) where
    abbrev here : List ℕ → Context
    here path = record { program = p; turns = turns; branch = path; call = call }

    mutual
      exec_regular : (path : List ℕ) (parallel inner : Bool) (at : Place) (kind : PKind) (slots : Slots) → Stands p f quiet parallel inner (statement at kind)
          → AllByRecursion (Stands p f quiet parallel inner) (inside kind) → LineIsRegular turns parallel (Flow Slots) (Flows inner) (exec (here path) at kind slots)
      exec_regular path parallel inner at (Set to e) slots stands all = goes (computed_regular at (value slots e)) (λ word _. gives _ tt)
      exec_regular path parallel inner at (Load to base index field) slots stands all =
          goes (computed_regular at (value slots index)) (λ i _. goes (due_regular path at (LoadWord (word_of slots base) i field) (λ _. refl)) (λ word _. gives _ tt))
      exec_regular path parallel inner at (Store base index field e) slots stands all =
          goes (computed_regular at (value slots index)) (λ i _. goes (computed_regular at (value slots e)) (λ word _.
          goes (due_regular path at (StoreWord (word_of slots base) i field word) (λ _. refl)) (λ _ _. gives (GoesOn slots) tt)))
      exec_regular path parallel inner at (Calloc to count type) slots stands all =
          goes (computed_regular at (value slots count)) (λ n _.
          goes (due_regular path at (Allocate n (fields_of p.structs type)) (λ is. stands.silent is)) (λ word _. gives _ tt))
      exec_regular path parallel inner at (Call to function args) slots stands all =
          let fits = and_parts (not (function == p.main)) _ stands.typed in
          let there = call_there f.slots to (slice_get p.funcs function) args fits.1 in
          goes (goes (eval_list_regular at slots args) (λ words _. calls parallel path at function words (λ is. not-false _ (stands.silent is)) there.0 there.1)) (λ word _. gives _ tt)
      exec_regular path parallel inner at (If' e n body m other) slots stands all =
          goes (computed_regular at (value slots e)) (λ word _.
          by_truth_regular word (exec_row_regular path parallel inner body slots (all_left (Stands p f quiet parallel inner) (within_row body) (within_row other) all))
          (exec_row_regular path parallel inner other slots (all_right (Stands p f quiet parallel inner) (within_row body) (within_row other) all)))
      exec_regular path parallel inner at (While' n head e m body) slots stands all =
          loop_regular turns (omega arith) path at
          (λ slots. exec_row_regular path parallel inner head slots (all_left (Stands p f quiet parallel inner) (within_row head) (within_row body) all))
          (λ slots. computed_regular at (value slots e))
          (λ slots. exec_row_regular path parallel inner body slots (all_right (Stands p f quiet parallel inner) (within_row head) (within_row body) all)) slots
      exec_regular path parallel inner at (Print e) slots stands all =
          goes (computed_regular at (value slots e)) (λ number _. goes (due_regular path at (PrintNumber number) (λ is. stands.silent is)) (λ _ _. gives (GoesOn slots) tt))
      exec_regular path parallel inner at (Return None) slots stands all = gives (Returns (pos 0)) (returns_outside inner stands.stays)
      exec_regular path parallel inner at (Return (Some e)) slots stands all =
          goes (computed_regular at (value slots e)) (λ word _. gives (Returns word) (returns_outside inner stands.stays))
      exec_regular path parallel inner at (Cobegin' n blocks) slots stands all =
          together_regular (λ passed. branches (here path) passed 0 blocks slots) slots (λ passed.
          branches_regular path passed 0 blocks slots (parallel_stands p f quiet parallel inner (within_branches blocks) all stands.hushed))
      exec_regular path parallel inner at (Foreach index low high step body) slots stands all =
          goes (computed_regular at (value slots low)) (λ low _. goes (computed_regular at (value slots high)) (λ high _.
          each_regular at (iteration_count low high (nat_abs step)) _ slots (λ count passed.
          iterations_regular count 0 low (nat_abs step) _ (λ number i m below.
          leaf_regular m below (goes (due_regular (path ++ passed ∷ number ∷ []) at Start (λ _. refl)) (λ _ _.
          exec_branch_regular (path ++ passed ∷ number ∷ []) body (slice_set slots index i) (parallel_stands p f quiet parallel inner (within_branch body) all stands.hushed)))))))

      exec_row_regular : {n : _} (path : List ℕ) (parallel inner : Bool) (row : Row_of-PStmt n) (slots : Slots) → AllByRecursion (Stands p f quiet parallel inner) (within_row row)
          → LineIsRegular turns parallel (Flow Slots) (Flows inner) (exec_row (here path) row slots)
      exec_row_regular path parallel inner end_of-PStmt slots all = gives (GoesOn slots) tt
      exec_row_regular path parallel inner (more_of-PStmt at kind rest) slots all =
          then_do_regular (exec_regular path parallel inner at kind slots all.0 (all_left (Stands p f quiet parallel inner) (inside kind) (within_row rest) all.1))
          (λ slots. exec_row_regular path parallel inner rest slots (all_right (Stands p f quiet parallel inner) (inside kind) (within_row rest) all.1))

      exec_branch_regular : (path : List ℕ) (body : Branch) (slots : Slots) → AllByRecursion (Stands p f quiet true true) (within_branch body)
          → LineIsRegular turns true (Flow Slots) (Flows true) (exec_branch (here path) body slots)
      exec_branch_regular path (Branch' at n body) slots all = exec_row_regular path true true body slots all

      branches_regular : {n : _} (path : List ℕ) (passed number : ℕ) (row : Row_of-Branch n) (slots : Slots) → AllByRecursion (Stands p f quiet true true) (within_branches row)
          → ChildrenAreRegular turns (branches (here path) passed number row slots)
      branches_regular path passed number end_of-Branch slots all m below = tt
      branches_regular path passed number (more_of-Branch body rest) slots all m below = (
        leaf_regular m below (exec_branch_regular (path ++ passed ∷ number ∷ []) body slots (all_left (Stands p f quiet true true) (within_branch body) (within_branches rest) all)),
        branches_regular path passed (suc number) rest slots (all_right (Stands p f quiet true true) (within_branch body) (within_branches rest) all) m below,
      )

    exec_all_regular : (path : List ℕ) (parallel inner : Bool) (body : List PStmt) (slots : Slots) → AllByRecursion (Stands p f quiet parallel inner) (statements body)
        → LineIsRegular turns parallel (Flow Slots) (Flows inner) (exec_all (here path) body slots)
    exec_all_regular path parallel inner [] slots all = gives (GoesOn slots) tt
    exec_all_regular path parallel inner (s ∷ body) slots all =
        then_do_regular (exec_regular path parallel inner s.at s.kind slots all.0 (all_left (Stands p f quiet parallel inner) (inside s.kind) (statements body) all.1))
        (λ slots. exec_all_regular path parallel inner body slots (all_right (Stands p f quiet parallel inner) (inside s.kind) (statements body) all.1))

    function_regular : (path : List ℕ) (parallel : Bool) (number : ℕ) (words : List ℤ) → (parallel ≡ true → quiet number ≡ true) → IsFormedFunc p quiet number f
        → LineIsRegular turns parallel ℤ any (in_function (here path) (Some f) words)
    function_regular path parallel number words quiets formed =
        let typed = passing (λ (s : PStmt). is_typed p f s.kind) (statements f.body) formed.typed in
        let hushed = passing (λ (s : PStmt). keeps_quiet quiet s.kind) (statements f.body) formed.parallel in
        let silent = λ (is : parallel ≡ true). failing (λ (s : PStmt). is_loud quiet s.kind) (statements f.body) (not-true _ (formed.silent (quiets is))) in
        goes (exec_all_regular path parallel false f.body (bound f words) (body_stands p f quiet parallel (statements f.body) typed hushed silent)) (λ flow _. returned_regular flow)

  module _ (formed : (number : ℕ) (f : PFunc) → slice_get p.funcs number ≡ Some f → IsFormedFunc p quiet number f) where
    called_regular : (deep : ℕ) → CallsAreRegular (called p turns deep)
    unfolding called
    called_regular zero parallel path at function words quiets f there = due_regular path at (Enter 0) (λ _. refl)
    called_regular (suc deep) parallel path at function words quiets f there =
        goes (due_regular path at (Enter (suc deep)) (λ _. refl)) (λ _ _.
        subst (λ g. LineIsRegular turns parallel ℤ any (in_function (here (called p turns deep) (called_regular deep) f path) g words)) (sym there)
        (function_regular (called p turns deep) (called_regular deep) f path parallel function words quiets (formed function f there)))

    main_regular : (f : PFunc) → slice_get p.funcs p.main ≡ Some f → (arguments : List ℤ) → IsRegular (main_task (context p turns) (Some f) arguments) turns false
    main_regular f is_main arguments =
        (function_regular (called p turns 1023) (called_regular 1023) f [] false p.main arguments (λ is. absurd cc) (formed p.main f is_main)).keeps turns (omega arith)
        (λ word passed. Ended Done) (λ word _ passed k less. done_regular k false) 0

    enter_main_regular : (f : PFunc) → slice_get p.funcs p.main ≡ Some f → (words : ℕ) (input : List ℤ) → IsRegular (enter_main (context p turns) (Some f) words input).task turns false
    enter_main_regular f is_main words input =
        let refused = begins (Ended (trapped Words f.at)) in
        let entered = λ (arguments : List ℤ). begins (main_task (context p turns) (Some f) arguments) in
        enter_kept (λ (b : Beginning) (o : Beginning). IsRegular b.task turns false) {refused = refused} {refused' = refused} {entered = entered} {entered' = entered} f.params words input
        (λ w opens. trapped_regular turns false _) (λ arguments w opens. main_regular f is_main arguments)

-- with loops of at most so many turns, for as many actions
pub bounded_regular : (p : PProgram) → IsFormed p → (turns words : ℕ) (input : List ℤ) → IsRegular (bounded turns words p input).task turns false
bounded_regular p formed turns words input = rw formed.is_main (enter_main_regular turns p formed.quiet formed.funcs formed.main formed.is_main words input)
