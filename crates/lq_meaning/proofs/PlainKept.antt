-- What each way of putting parts together keeps, the runs of a plain program by two fuels keep.
use Rattle.std.proofs.Common.{◌≡◌, ℕ, zero, suc, ◌≤◌, ℤ, pos, nat_abs, List, [], ◌∷◌, refl, Option, None, Some, arith}
use Rattle.std.specs.Prelude.{slice_set, slice_get}
use Rattle.lq_tree.specs.declared.place.Place.{Place}
use Rattle.lq_tree.specs.declared.trap.TrapKind.TheVariants.{Words}
use Rattle.lq_tree.specs.declared.plain.PExpr.{PExpr}
use Rattle.lq_tree.specs.declared.plain.PKind.{PKind, Set, Load, Store, Calloc, Call, If', While', Cobegin', Foreach, Print, Return, Row_of-PStmt, end_of-PStmt, more_of-PStmt, Row_of-Branch, end_of-Branch, more_of-Branch}
use Rattle.lq_tree.specs.declared.plain.PStmt.{PStmt}
use Rattle.lq_tree.specs.declared.plain.Branch.{Branch, Branch'}
use Rattle.lq_tree.specs.declared.plain.PFunc.{PFunc}
use Rattle.lq_tree.specs.declared.plain.PProgram.{PProgram}
use Rattle.lq_tree.specs.Layout.{fields_of}
use Rattle.lq_meaning.specs.declared.action.Action.TheVariants.{Allocate, Load as LoadWord, Store as StoreWord, Print as PrintNumber, Enter}
use Rattle.lq_meaning.specs.World.{World}
use Rattle.lq_meaning.specs.Ending.{Trap, Unruled, Outcome}
use Rattle.lq_meaning.specs.Control.{trapped, Run, stop, Flow, GoesOn, Returns, ended}
use Rattle.lq_meaning.specs.Entry.{start}
use Rattle.lq_meaning.specs.PlainMeaning.{Slots, word_of, value, eval, eval_list, Context, exec, exec_row, exec_branch, branches, exec_all, bound, in_function, called, context, enter_main, sequential}
use Rattle.lq_meaning.proofs.Kept.{IsKept, computed_kept, by_truth_kept, then_do_kept, tested_kept, loop_kept, before_kept, joined_kept, each_kept, returned_kept, enter_kept}

-- a context by its parts
abbrev pub within : PProgram → ℕ → (Place → ℕ → List ℤ → Run ℤ) → Context
within p fuel call = record { program = p; fuel = fuel; call = call }

module _ {fuel more : ℕ} {K : (X : Type 0) → Run X → Run X → Type 0} (k : IsKept fuel more K) (p : PProgram) where
  pub eval_kept : (at : Place) (slots : Slots) (e : PExpr) → K ℤ (eval at slots e) (eval at slots e)
  eval_kept at slots e = computed_kept k at (value slots e)

  eval_list_kept : (at : Place) (slots : Slots) (args : List PExpr) → K (List ℤ) (eval_list at slots args) (eval_list at slots args)
  eval_list_kept at slots [] = k.gives []
  eval_list_kept at slots (e ∷ args) = k.goes (eval_kept at slots e) (λ word. k.goes (eval_list_kept at slots args) (λ words. k.gives (word ∷ words)))

  module _ (call call' : Place → ℕ → List ℤ → Run ℤ) (calls : (at : Place) (function : ℕ) (words : List ℤ) → K ℤ (call at function words) (call' at function words)) (below : fuel ≤ more) where
    -- the contexts of the two runs
    abbrev here : Context
    here = within p fuel call

    abbrev there : Context
    there = within p more call'

    mutual
      pub exec_kept : (at : Place) (kind : PKind) (slots : Slots) → K (Flow Slots) (exec here at kind slots) (exec there at kind slots)
      exec_kept at (Set to e) slots = k.goes (eval_kept at slots e) (λ word. k.gives _)
      exec_kept at (Load to base index field) slots =
          k.goes (eval_kept at slots index) (λ i. k.goes (k.due at (LoadWord (word_of slots base) i field)) (λ word. k.gives _))
      exec_kept at (Store base index field e) slots =
          k.goes (eval_kept at slots index) (λ i. k.goes (eval_kept at slots e) (λ word.
          k.goes (k.due at (StoreWord (word_of slots base) i field word)) (λ _. k.gives (GoesOn slots))))
      exec_kept at (Calloc to count type) slots =
          k.goes (eval_kept at slots count) (λ n. k.goes (k.due at (Allocate n (fields_of p.structs type))) (λ word. k.gives _))
      exec_kept at (Call to function args) slots = k.goes (k.goes (eval_list_kept at slots args) (calls at function)) (λ word. k.gives _)
      exec_kept at (If' e n body m other) slots = k.goes (eval_kept at slots e) (λ word. by_truth_kept k word (exec_row_kept body slots) (exec_row_kept other slots))
      exec_kept at (While' n head e m body) slots =
          loop_kept k (suc fuel) (suc more) (omega arith) (exec_row_kept head) (λ slots. tested_kept k at (eval_kept at slots e)) (exec_row_kept body) slots
      exec_kept at (Print e) slots = k.goes (eval_kept at slots e) (λ number. k.goes (k.due at (PrintNumber number)) (λ _. k.gives (GoesOn slots)))
      exec_kept at (Return None) slots = k.gives (Returns (pos 0))
      exec_kept at (Return (Some e)) slots = k.goes (eval_kept at slots e) (λ word. k.gives (Returns word))
      exec_kept at (Cobegin' n blocks) slots = k.goes (branches_kept blocks slots) (joined_kept k slots)
      exec_kept at (Foreach index low high step body) slots =
          k.goes (eval_kept at slots low) (λ low. k.goes (eval_kept at slots high) (λ high.
          k.goes (each_kept k at low high (nat_abs step) (λ i. exec_branch_kept body (slice_set slots index i))) (joined_kept k slots)))

      pub exec_row_kept : {n : _} (row : Row_of-PStmt n) (slots : Slots) → K (Flow Slots) (exec_row here row slots) (exec_row there row slots)
      exec_row_kept end_of-PStmt slots = k.gives (GoesOn slots)
      exec_row_kept (more_of-PStmt at kind rest) slots = then_do_kept k (exec_kept at kind slots) (exec_row_kept rest)

      exec_branch_kept : (body : Branch) (slots : Slots) → K (Flow Slots) (exec_branch here body slots) (exec_branch there body slots)
      exec_branch_kept (Branch' at n body) slots = exec_row_kept body slots

      branches_kept : {n : _} (row : Row_of-Branch n) (slots : Slots) → K (Option Trap) (branches here row slots) (branches there row slots)
      branches_kept end_of-Branch slots = k.gives None
      branches_kept (more_of-Branch body rest) slots = before_kept k (k.branch (exec_branch_kept body slots)) (branches_kept rest slots)

    exec_all_kept : (body : List PStmt) (slots : Slots) → K (Flow Slots) (exec_all here body slots) (exec_all there body slots)
    exec_all_kept [] slots = k.gives (GoesOn slots)
    exec_all_kept (s ∷ body) slots = then_do_kept k (exec_kept s.at s.kind slots) (exec_all_kept body)

    pub in_function_kept : (f : Option PFunc) (words : List ℤ) → K ℤ (in_function here f words) (in_function there f words)
    in_function_kept None words = k.stops Unruled
    in_function_kept (Some f) words = k.goes (exec_all_kept f.body (bound f words)) (returned_kept k)

  module _ (below : fuel ≤ more) where
    pub called_kept : (deep : ℕ) (at : Place) (function : ℕ) (words : List ℤ) → K ℤ (called p fuel deep at function words) (called p more deep at function words)
    unfolding called
    called_kept zero at function words = k.due at (Enter 0)
    called_kept (suc deep) at function words =
        k.goes (k.due at (Enter (suc deep))) (λ _. in_function_kept (called p fuel deep) (called p more deep) (called_kept deep) below (slice_get p.funcs function) words)

    -- what the relation says of how two runs end, where they begin at a world that cost nothing, holds of the outcomes
    module _ (O : Outcome → Outcome → Type 0) (ends : (run run' : Run ℤ) (w : World) → w.cost ≡ 0 → K ℤ run run' → O (ended (run w)) (ended (run' w))) (words : ℕ) (input : List ℤ) where
      enter_main_kept : (f : Option PFunc) → O (enter_main (context p fuel) f words input) (enter_main (context p more) f words input)
      enter_main_kept None = ends (stop Unruled) (stop Unruled) (start words) refl (k.stops Unruled)
      enter_main_kept (Some f) =
          enter_kept O f.params words input (λ w opens. ends (stop (trapped Words f.at)) (stop (trapped Words f.at)) w opens (k.stops (trapped Words f.at)))
          (λ arguments w opens. ends _ _ w opens (in_function_kept (called p fuel 1023) (called p more 1023) (called_kept 1023) below (Some f) arguments))

      pub sequential_kept : O (sequential fuel words p input) (sequential more words p input)
      sequential_kept = enter_main_kept (slice_get p.funcs p.main)
