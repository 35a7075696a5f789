-- What each way of putting parts together keeps, the runs of a source by two fuels keep.
use Rattle.std.proofs.Common.{◌≡◌, ℕ, zero, suc, ◌-◌, ◌≤◌, ℤ, pos, nat_abs, List, [], ◌∷◌, length, drop, refl, Bool, Option, None, Some, arith}
use Rattle.std.specs.Prelude.{codes}
use Rattle.lq_tree.specs.declared.place.Place.{Place}
use Rattle.lq_tree.specs.declared.trap.TrapKind.TheVariants.{Words}
use Rattle.lq_tree.specs.declared.expr.BinOp.{BinOp}
use Rattle.lq_tree.specs.declared.expr.BinOp.TheVariants.{And, Or}
use Rattle.lq_tree.specs.declared.expr.Expr.{Expr, Num, Var, Neg', Not', Bin', Index', Deref', Arrow', Dot', Call' as CallExpr', Calloc', Row_of-Expr, end_of-Expr, more_of-Expr}
use Rattle.lq_tree.specs.declared.stmt.StmtKind.{StmtKind, Empty, Block', Local as Declare, Set, Store, Call, If', While', For', Print, Return, Cobegin', Foreach', Row_of-Stmt, end_of-Stmt, more_of-Stmt, Row_of-Arm, end_of-Arm, more_of-Arm, None', Some', Held-StmtKind-If-1}
use Rattle.lq_tree.specs.declared.stmt.Stmt.{Stmt}
use Rattle.lq_tree.specs.declared.stmt.Arm.{Arm, Arm'}
use Rattle.lq_tree.specs.declared.program.Func.{Func}
use Rattle.lq_tree.specs.declared.program.Program.{Program}
use Rattle.lq_tree.specs.Lookup.{function_of}
use Rattle.lq_tree.specs.Types.{Number, element_of, is_pointer}
use Rattle.lq_tree.specs.Layout.{fields_of, field_number}
use Rattle.lq_meaning.specs.declared.action.Action.TheVariants.{Allocate, Load as LoadWord, Store as StoreWord, Print as PrintNumber, Enter}
use Rattle.lq_meaning.specs.World.{World}
use Rattle.lq_meaning.specs.Ending.{Trap, Unruled, Outcome}
use Rattle.lq_meaning.specs.Operators.{negation, truth, truth_of, is_zero, binary}
use Rattle.lq_meaning.specs.Control.{trapped, Run, stop, Target, Flow, GoesOn, Returns, Statement, ended}
use Rattle.lq_meaning.specs.Entry.{start}
use Rattle.lq_meaning.specs.Meaning.{Context, Locals, local, word_of, type_by, Found, Value, Names, target, value_of, target_of, operated, find, find_row, eval_row, eval_args, eval, eval_list, condition, without, scoped, looped, exec, exec_row, exec_held, exec_arms, exec_arm, branches, exec_all, bound, in_function, called, context, enter_main, sequential}
use Rattle.lq_meaning.proofs.Kept.{IsKept, computed_kept, by_truth_kept, then_do_kept, tested_kept, loop_kept, before_kept, joined_kept, each_kept, returned_kept, enter_kept}

-- a context by its parts
abbrev pub within : Program → ℕ → (Place → List ℕ → List ℤ → Run ℤ) → Context
within p fuel call = record { program = p; fuel = fuel; call = call }

module _ {fuel more : ℕ} {K : (X : Type 0) → Run X → Run X → Type 0} (k : IsKept fuel more K) (p : Program) where
  target_of_kept : (found : Found) → K Target (target_of found) (target_of found)
  target_of_kept (Value x) = k.stops Unruled
  target_of_kept (Names t) = k.gives t

  operated_kept : {left left' right right' : Run ℤ} (at : Place) (pointer : Bool) (op : BinOp) → K ℤ left left' → K ℤ right right' → K ℤ (operated at pointer op left right) (operated at pointer op left' right')
  operated_kept at pointer And lefts rights = k.goes lefts (λ x. by_truth_kept k x (k.goes rights (λ y. k.gives (truth_of y))) (k.gives (pos 0)))
  operated_kept at pointer Or lefts rights = k.goes lefts (λ x. by_truth_kept k x (k.gives (pos 1)) (k.goes rights (λ y. k.gives (truth_of y))))
  operated_kept at pointer op lefts rights = k.goes lefts (λ x. k.goes rights (λ y. computed_kept k at (binary pointer op x y)))

  pub scoped_kept : {body body' : Run (Flow Locals)} (locals : Locals) → K (Flow Locals) body body' → K (Flow Locals) (scoped locals body) (scoped locals body')
  scoped_kept locals bodies = k.goes bodies without_kept where
    without_kept : (flow : Flow Locals) → K (Flow Locals) (without locals flow) (without locals flow)
    without_kept (GoesOn inner) = k.gives (GoesOn (drop (length inner - length locals) inner))
    without_kept (Returns word) = k.gives (Returns word)

  module _ (call call' : Place → List ℕ → List ℤ → Run ℤ) (calls : (at : Place) (name : List ℕ) (words : List ℤ) → K ℤ (call at name words) (call' at name words)) where
    -- the contexts of the two runs
    abbrev here : Context
    here = within p fuel call

    abbrev there : Context
    there = within p more call'

    value_of_kept : (at : Place) (found : Found) → K ℤ (value_of here at found) (value_of there at found)
    value_of_kept at (Value x) = k.gives x
    value_of_kept at (Names t) = k.due at (LoadWord t.pointer t.index t.field)

    mutual
      pub find_kept : (at : Place) (locals : Locals) (e : Expr) → K Found (find here at locals e) (find there at locals e)
      find_kept at locals (Num n) = k.gives (Value n)
      find_kept at locals (Var name) = k.gives (Value (word_of locals name))
      find_kept at locals (Neg' q e) = k.goes (eval_row_kept at locals e) (λ x. k.goes (computed_kept k at (negation x)) (λ y. k.gives (Value y)))
      find_kept at locals (Not' q e) = k.goes (eval_row_kept at locals e) (λ x. k.gives (Value (truth (is_zero x))))
      find_kept at locals (Bin' op q a r b) =
          k.goes (operated_kept at (is_pointer (type_by here locals a)) op (eval_row_kept at locals a) (eval_row_kept at locals b)) (λ x. k.gives (Value x))
      find_kept at locals (Index' q base i index) =
          k.goes (eval_row_kept at locals base) (λ pointer. k.goes (eval_row_kept at locals index) (λ i. k.gives (Names (target pointer i 0))))
      find_kept at locals (Deref' q base) = k.goes (eval_row_kept at locals base) (λ pointer. k.gives (Names (target pointer (pos 0) 0)))
      find_kept at locals (Arrow' q base field) =
          k.goes (eval_row_kept at locals base) (λ pointer. k.gives (Names (target pointer (pos 0) (field_number p.structs (element_of (type_by here locals base)) field))))
      find_kept at locals (Dot' q element field) =
          k.goes (find_row_kept at locals element) (λ found. k.goes (target_of_kept found) (λ t.
          k.gives (Names (target t.pointer t.index (field_number p.structs (type_by here locals element) field)))))
      find_kept at locals (CallExpr' name n args) = k.goes (k.goes (eval_args_kept at locals args) (calls at name)) (λ x. k.gives (Value x))
      find_kept at locals (Calloc' n count type) =
          k.goes (eval_row_kept at locals count) (λ n. k.goes (k.due at (Allocate n (fields_of p.structs type))) (λ x. k.gives (Value x)))

      find_row_kept : {n : _} (at : Place) (locals : Locals) (row : Row_of-Expr n) → K Found (find_row here at locals row) (find_row there at locals row)
      find_row_kept at locals end_of-Expr = k.stops Unruled
      find_row_kept at locals (more_of-Expr e rest) = find_kept at locals e

      eval_row_kept : {n : _} (at : Place) (locals : Locals) (row : Row_of-Expr n) → K ℤ (eval_row here at locals row) (eval_row there at locals row)
      eval_row_kept at locals end_of-Expr = k.stops Unruled
      eval_row_kept at locals (more_of-Expr e rest) = k.goes (find_kept at locals e) (value_of_kept at)

      eval_args_kept : {n : _} (at : Place) (locals : Locals) (row : Row_of-Expr n) → K (List ℤ) (eval_args here at locals row) (eval_args there at locals row)
      eval_args_kept at locals end_of-Expr = k.gives []
      eval_args_kept at locals (more_of-Expr e rest) =
          k.goes (k.goes (find_kept at locals e) (value_of_kept at)) (λ word. k.goes (eval_args_kept at locals rest) (λ words. k.gives (word ∷ words)))

    pub eval_kept : (at : Place) (locals : Locals) (e : Expr) → K ℤ (eval here at locals e) (eval there at locals e)
    eval_kept at locals e = k.goes (find_kept at locals e) (value_of_kept at)

    eval_list_kept : (at : Place) (locals : Locals) (args : List Expr) → K (List ℤ) (eval_list here at locals args) (eval_list there at locals args)
    eval_list_kept at locals [] = k.gives []
    eval_list_kept at locals (e ∷ args) = k.goes (eval_kept at locals e) (λ word. k.goes (eval_list_kept at locals args) (λ words. k.gives (word ∷ words)))

    pub condition_kept : (at : Place) (e : Option Expr) (locals : Locals) → K ℤ (condition here at e locals) (condition there at e locals)
    condition_kept at None locals = k.gives (pos 1)
    condition_kept at (Some e) locals = eval_kept at locals e

    module _ (below : fuel ≤ more) where
      looped_kept : {body body' : Statement Locals} (at : Place) (e : Option Expr) → ((locals : Locals) → K (Flow Locals) (body locals) (body' locals)) → (locals : Locals) → K (Flow Locals) (looped here at e body locals) (looped there at e body' locals)
      looped_kept at e bodies = loop_kept k (suc fuel) (suc more) (omega arith) (λ locals. k.gives (GoesOn locals)) (λ locals. tested_kept k at (condition_kept at e locals)) bodies

      mutual
        pub exec_kept : (at : Place) (kind : StmtKind) (locals : Locals) → K (Flow Locals) (exec here at kind locals) (exec there at kind locals)
        exec_kept at Empty locals = k.gives (GoesOn locals)
        exec_kept at (Block' n body) locals = scoped_kept locals (exec_row_kept body locals)
        exec_kept at (Declare type name None) locals = k.gives _
        exec_kept at (Declare type name (Some e)) locals = k.goes (eval_kept at locals e) (λ word. k.gives _)
        exec_kept at (Set name e) locals = k.goes (eval_kept at locals e) (λ word. k.gives _)
        exec_kept at (Store into e) locals =
            k.goes (k.goes (find_kept at locals into) target_of_kept) (λ t. k.goes (eval_kept at locals e) (λ word.
            k.goes (k.due at (StoreWord t.pointer t.index t.field word)) (λ _. k.gives (GoesOn locals))))
        exec_kept at (Call name args) locals = k.goes (k.goes (eval_list_kept at locals args) (calls at name)) (λ _. k.gives (GoesOn locals))
        exec_kept at (If' n arms other) locals = exec_arms_kept at arms (λ locals. scoped_kept locals (exec_held_kept other locals)) locals
        exec_kept at (While' e q body) locals = looped_kept at (Some e) (λ locals. scoped_kept locals (exec_row_kept body locals)) locals
        exec_kept at (For' first e third q body) locals =
            scoped_kept locals (then_do_kept k (exec_held_kept first locals)
            (looped_kept at e (λ locals. then_do_kept k (scoped_kept locals (exec_row_kept body locals)) (λ locals. scoped_kept locals (exec_held_kept third locals)))))
        exec_kept at (Print e) locals = k.goes (eval_kept at locals e) (λ number. k.goes (k.due at (PrintNumber number)) (λ _. k.gives (GoesOn locals)))
        exec_kept at (Return None) locals = k.gives (Returns (pos 0))
        exec_kept at (Return (Some e)) locals = k.goes (eval_kept at locals e) (λ word. k.gives (Returns word))
        exec_kept at (Cobegin' n blocks) locals = k.goes (branches_kept blocks locals) (joined_kept k locals)
        exec_kept at (Foreach' index low high step q body) locals =
            k.goes (eval_kept at locals low) (λ low. k.goes (eval_kept at locals high) (λ high.
            k.goes (each_kept k at low high (nat_abs step) (λ i. exec_row_kept body (local index Number i ∷ locals))) (joined_kept k locals)))

        pub exec_row_kept : {n : _} (row : Row_of-Stmt n) (locals : Locals) → K (Flow Locals) (exec_row here row locals) (exec_row there row locals)
        exec_row_kept end_of-Stmt locals = k.gives (GoesOn locals)
        exec_row_kept (more_of-Stmt at kind rest) locals = then_do_kept k (exec_kept at kind locals) (exec_row_kept rest)

        pub exec_held_kept : (held : Held-StmtKind-If-1) (locals : Locals) → K (Flow Locals) (exec_held here held locals) (exec_held there held locals)
        exec_held_kept None' locals = k.gives (GoesOn locals)
        exec_held_kept (Some' q body) locals = exec_row_kept body locals

        exec_arms_kept : {n : _} (at : Place) (row : Row_of-Arm n) {otherwise otherwise' : Statement Locals} → ((locals : Locals) → K (Flow Locals) (otherwise locals) (otherwise' locals)) → (locals : Locals)
            → K (Flow Locals) (exec_arms here at row otherwise locals) (exec_arms there at row otherwise' locals)
        exec_arms_kept at end_of-Arm others locals = others locals
        exec_arms_kept at (more_of-Arm arm rest) others locals = exec_arm_kept at arm (exec_arms_kept at rest others) locals

        exec_arm_kept : (at : Place) (arm : Arm) {otherwise otherwise' : Statement Locals} → ((locals : Locals) → K (Flow Locals) (otherwise locals) (otherwise' locals)) → (locals : Locals)
            → K (Flow Locals) (exec_arm here at arm otherwise locals) (exec_arm there at arm otherwise' locals)
        exec_arm_kept at (Arm' e q body) others locals =
            k.goes (eval_kept at locals e) (λ word. by_truth_kept k word (scoped_kept locals (exec_row_kept body locals)) (others locals))

        branches_kept : {n : _} (row : Row_of-Stmt n) (locals : Locals) → K (Option Trap) (branches here row locals) (branches there row locals)
        branches_kept end_of-Stmt locals = k.gives None
        branches_kept (more_of-Stmt at kind rest) locals = before_kept k (k.branch (exec_kept at kind locals)) (branches_kept rest locals)

      exec_all_kept : (body : List Stmt) (locals : Locals) → K (Flow Locals) (exec_all here body locals) (exec_all there body locals)
      exec_all_kept [] locals = k.gives (GoesOn locals)
      exec_all_kept (s ∷ body) locals = then_do_kept k (exec_kept s.at s.kind locals) (exec_all_kept body)

      pub in_function_kept : (f : Option Func) (words : List ℤ) → K ℤ (in_function here f words) (in_function there f words)
      in_function_kept None words = k.stops Unruled
      in_function_kept (Some f) words = k.goes (exec_all_kept f.body (bound f.params words [])) (returned_kept k)

  module _ (below : fuel ≤ more) where
    pub called_kept : (deep : ℕ) (at : Place) (name : List ℕ) (words : List ℤ) → K ℤ (called p fuel deep at name words) (called p more deep at name words)
    unfolding called
    called_kept zero at name words = k.due at (Enter 0)
    called_kept (suc deep) at name words =
        k.goes (k.due at (Enter (suc deep))) (λ _. in_function_kept (called p fuel deep) (called p more deep) (called_kept deep) below (function_of p.funcs name) words)

    -- what the relation says of how two runs end, where they begin at a world that cost nothing, holds of the outcomes
    module _ (O : Outcome → Outcome → Type 0) (ends : (run run' : Run ℤ) (w : World) → w.cost ≡ 0 → K ℤ run run' → O (ended (run w)) (ended (run' w))) (words : ℕ) (input : List ℤ) where
      enter_main_kept : (f : Option Func) → O (enter_main (context p fuel) f words input) (enter_main (context p more) f words input)
      enter_main_kept None = ends (stop Unruled) (stop Unruled) (start words) refl (k.stops Unruled)
      enter_main_kept (Some f) =
          enter_kept O (length f.params) words input (λ w opens. ends (stop (trapped Words f.at)) (stop (trapped Words f.at)) w opens (k.stops (trapped Words f.at)))
          (λ arguments w opens. ends _ _ w opens (in_function_kept (called p fuel 1023) (called p more 1023) (called_kept 1023) below (Some f) arguments))

      pub sequential_kept : O (sequential fuel words p input) (sequential more words p input)
      sequential_kept = enter_main_kept (function_of p.funcs (codes "main"))
