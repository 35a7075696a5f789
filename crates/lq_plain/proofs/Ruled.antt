-- A regular source meets no form without a meaning.
use Rattle.std.proofs.Common.{◌≡◌, ◌≢◌, ℕ, zero, suc, ◌^◌, ℤ, pos, negsuc, nat_abs, ◌+ℤ◌, List, [], ◌∷◌, length, refl, sym, Bool, true, false, nat_lt, if◌then◌else◌, Option, None, Some, inl, inr, subst, map}
use Rattle.std.specs.Prelude.{codes, find as find_first}
use Rattle.std.proofs.lemmas.Bool.{cases_Bool}
use Rattle.std.specs.List.{AllByRecursion}
use Rattle.std.specs.Option.{option_or}
use Rattle.lq_tree.specs.declared.place.Place.{Place}
use Rattle.lq_tree.specs.declared.trap.TrapKind.TheVariants.{Words}
use Rattle.lq_tree.specs.declared.expr.BinOp.{BinOp}
use Rattle.lq_tree.specs.declared.expr.BinOp.TheVariants.{And, Or}
use Rattle.lq_tree.specs.declared.expr.Expr.{Expr, Num, Var, Neg', Not', Bin', Index', Deref', Arrow', Dot', Call' as CallExpr', Calloc', Row_of-Expr, end_of-Expr, more_of-Expr}
use Rattle.lq_tree.specs.declared.stmt.StmtKind.{StmtKind, Empty, Block', Local as Declare, Set, Store, Call, If', While', For', Print, Return, Cobegin', Foreach', Row_of-Stmt, end_of-Stmt, more_of-Stmt, Row_of-Arm, end_of-Arm, more_of-Arm, None', Some', Held-StmtKind-If-1}
use Rattle.lq_tree.specs.declared.stmt.Stmt.{Stmt}
use Rattle.lq_tree.specs.declared.stmt.Arm.{Arm, Arm'}
use Rattle.lq_tree.specs.declared.program.Func.{Func}
use Rattle.lq_tree.specs.declared.program.Program.{Program}
use Rattle.lq_tree.specs.Lookup.{function_of, same}
use Rattle.lq_tree.specs.Types.{Variable, Number, is_pointer}
use Rattle.lq_tree.specs.Layout.{fields_of}
use Rattle.lq_meaning.specs.declared.action.Action.{Action}
use Rattle.lq_meaning.specs.declared.action.Action.TheVariants.{Allocate, Load as LoadWord, Store as StoreWord, Print as PrintNumber, Enter, Start, Test}
use Rattle.lq_meaning.specs.World.{World, Acted, Answers, Traps, Strays, act}
use Rattle.lq_meaning.specs.Ending.{Trap, Ending, Done, Trapped, Strayed, Spent, Unruled, Outcome}
use Rattle.lq_meaning.specs.Operators.{Computed, Computes, Fails, negation, truth, truth_of, is_zero, binary}
use Rattle.lq_meaning.specs.Control.{trapped, Came, Gives, Stops, Run, give, stop, go_on, ◌⨾◌, computed, answered, due, by_truth, Flow, GoesOn, Returns, Statement, unless_returned, done_with, ◌then_do◌, loop, caught, branch, before, joined, iterations, iteration_count, each, returned, ended}
use Rattle.lq_meaning.specs.Entry.{enter, start, start_on, arguments}
use Rattle.lq_meaning.specs.Meaning.{Context, Locals, local, word_of, type_by, Found, Value, Names, target, value_of, target_of, operated, find, find_row, eval_row, eval_args, eval, eval_list, condition, without, scoped, looped, exec, exec_row, exec_held, exec_arms, exec_arm, branches, exec_all, bound, in_function, called, context, enter_main, sequential}
use Rattle.lq_plain.specs.Places.{is_place}
use Rattle.lq_plain.proofs.Regular.{parameter, is_place_row, Takes, IsRegular, IsRegularPart, AreRegular, IsRegularOption, variables_behind, variables_behind_held, IsRegularStatement, AreRegularStatements, AreRegularBlocks, AreRegularArms, IsRegularArm, IsRegularHeld, IsRegularBody, IsRegularFunction}
use Rattle.lq_plain.proofs.Outside.{ReturnsOutside, AllReturnOutside, ArmsReturnOutside, ArmReturnsOutside, HeldReturnsOutside, BodyReturnsOutside}

-- every way to end but by a form without a meaning
abbrev pub IsRuledEnding : Ending → Type 0
IsRuledEnding Unruled = ⊥
IsRuledEnding _ = Unit {0}

-- what came is a value with a property, or a ruled ending
abbrev IsRuledAs : {X : Type 0} → (X → Type 0) → Came X → Type 0
IsRuledAs P (Gives x w) = P x
IsRuledAs P (Stops ending w) = IsRuledEnding ending

-- so from every world
record RunsTo {X : Type 0} (P : X → Type 0) (run : Run X) : Type 0 where
  from : (w : World) → IsRuledAs P (run w)

-- any value
abbrev Any : {X : Type 0} → X → Type 0
Any x = Unit {0}

-- what is found is the name of something, where it has to be
abbrev Fits : (is_place : Bool) → Found → Type 0
Fits true (Value x) = ⊥
Fits _ found = Unit {0}

-- in a parallel statement nothing returns
abbrev Flows : {L : Type 0} → (parallel : Bool) → Flow L → Type 0
Flows true (Returns word) = ⊥
Flows _ flow = Unit {0}

gives : {X : Type 0} (P : X → Type 0) (x : X) → P x → RunsTo P (give x)
gives P x h = record { from = λ w. h }

stops : {X : Type 0} (P : X → Type 0) (ending : Ending) → IsRuledEnding ending → RunsTo P (stop ending)
stops P ending h = record { from = λ w. h }

came_then : {X Y : Type 0} (P : X → Type 0) (Q : Y → Type 0) (came : Came X) (next : X → Run Y) → IsRuledAs P came → ((x : X) → P x → RunsTo Q (next x)) → IsRuledAs Q (go_on came next)
came_then P Q (Gives x w) next h k = (k x h).from w
came_then P Q (Stops ending w) next h k = h

then_runs : {X Y : Type 0} {P : X → Type 0} (Q : Y → Type 0) {first : Run X} {next : X → Run Y} → RunsTo P first → ((x : X) → P x → RunsTo Q (next x)) → RunsTo Q (first ⨾ next)
then_runs {X} {Y} {P} Q {first} {next} h k = record { from = λ w. came_then P Q (first w) next (h.from w) k }

computed_runs : (at : Place) (c : Computed) → RunsTo Any (computed at c)
computed_runs at (Computes x) = gives Any x tt
computed_runs at (Fails kind) = stops Any (trapped kind at) tt

answered_ruled : (at : Place) (acted : Acted) → IsRuledAs Any (answered at acted)
answered_ruled at (Answers word w) = tt
answered_ruled at (Traps kind w) = tt
answered_ruled at (Strays w) = tt

-- one of two by a test
either : {X : Type 0} (P : X → Type 0) (test : Bool) {holds fails : X} → P holds → P fails → P (if test then holds else fails)
either P true holds fails = holds
either P false holds fails = fails

due_runs : (fuel : ℕ) (at : Place) (action : Action) → RunsTo Any (due fuel at action)
due_runs fuel at action = record { from = λ w. either (IsRuledAs Any) (nat_lt w.cost fuel) (answered_ruled at (act action w)) tt }

by_truth_runs : {X : Type 0} {P : X → Type 0} {holds fails : Run X} (word : ℤ) → RunsTo P holds → RunsTo P fails → RunsTo P (by_truth word holds fails)
by_truth_runs (pos zero) holds fails = fails
by_truth_runs (pos (suc n)) holds fails = holds
by_truth_runs (negsuc n) holds fails = holds

goes_on : {L : Type 0} (parallel : Bool) (locals : L) → RunsTo (Flows parallel) (done_with locals)
goes_on true locals = gives (Flows true) (GoesOn locals) tt
goes_on false locals = gives (Flows false) (GoesOn locals) tt

unless_runs : {L : Type 0} (parallel : Bool) {next : Statement L} → ((locals : L) → RunsTo (Flows parallel) (next locals)) → (flow : Flow L) → Flows parallel flow → RunsTo (Flows parallel) (unless_returned next flow)
unless_runs parallel k (GoesOn locals) f = k locals
unless_runs parallel k (Returns word) f = gives (Flows parallel) (Returns word) f

then_do_runs : {L : Type 0} (parallel : Bool) {first : Run (Flow L)} {next : Statement L} → RunsTo (Flows parallel) first → ((locals : L) → RunsTo (Flows parallel) (next locals)) → RunsTo (Flows parallel) (first then_do next)
then_do_runs parallel h k = then_runs (Flows parallel) h (unless_runs parallel k)

loop_runs : {L : Type 0} (parallel : Bool) (n : ℕ) {head body : Statement L} {test : L → Run ℤ} → ((locals : L) → RunsTo (Flows parallel) (head locals)) → ((locals : L) → RunsTo Any (test locals)) → ((locals : L) → RunsTo (Flows parallel) (body locals))
    → (locals : L) → RunsTo (Flows parallel) (loop n head test body locals)
unfolding loop
loop_runs parallel zero heads tests bodies locals = stops (Flows parallel) Spent tt
loop_runs parallel (suc n) heads tests bodies locals =
    then_do_runs parallel (heads locals) (λ inner. then_runs (Flows parallel) (tests inner) (λ word _.
    by_truth_runs word (then_do_runs parallel (bodies inner) (loop_runs parallel n heads tests bodies)) (goes_on parallel inner)))

caught_ruled : {L : Type 0} (came : Came (Flow L)) → IsRuledAs (Flows true) came → IsRuledAs Any (caught came)
caught_ruled (Gives (GoesOn inner) w) h = tt
caught_ruled (Gives (Returns word) w) h = absurd h
caught_ruled (Stops Done w) h = tt
caught_ruled (Stops (Trapped trap) w) h = tt
caught_ruled (Stops (Strayed at) w) h = tt
caught_ruled (Stops Spent w) h = tt
caught_ruled (Stops Unruled w) h = absurd h

branch_runs : {L : Type 0} {run : Run (Flow L)} → RunsTo (Flows true) run → RunsTo Any (branch run)
branch_runs {L} {run} h = record { from = λ w. caught_ruled (run w) (h.from w) }

before_runs : {first others : Run (Option Trap)} → RunsTo Any first → RunsTo Any others → RunsTo Any (before first others)
before_runs firsts others = then_runs Any firsts (λ trap _. then_runs Any others (λ later _. gives Any (option_or trap later) tt))

joined_runs : {L : Type 0} (parallel : Bool) (locals : L) (trap : Option Trap) → RunsTo (Flows parallel) (joined locals trap)
joined_runs parallel locals None = goes_on parallel locals
joined_runs parallel locals (Some trap) = stops (Flows parallel) (Trapped trap) tt

iterations_run : {iteration : ℤ → Run (Option Trap)} (n : ℕ) (index : ℤ) (step : ℕ) → ((i : ℤ) → RunsTo Any (iteration i)) → RunsTo Any (iterations n index step iteration)
unfolding iterations
iterations_run zero index step bodies = gives Any None tt
iterations_run (suc n) index step bodies = before_runs (bodies index) (iterations_run n (index +ℤ pos step) step bodies)

each_runs : {L : Type 0} {body : ℤ → Run (Flow L)} (fuel : ℕ) (at : Place) (low high : ℤ) (step : ℕ) → ((i : ℤ) → RunsTo (Flows true) (body i)) → RunsTo Any (each fuel at low high step body)
each_runs fuel at low high step bodies =
    either (RunsTo Any) (nat_lt (2 ^ 20) (iteration_count low high step)) (stops Any _ tt)
    (iterations_run (iteration_count low high step) low step (λ i. branch_runs (then_runs (Flows true) (due_runs fuel at Start) (λ _ _. bodies i))))

returned_runs : {L : Type 0} (flow : Flow L) → RunsTo Any (returned flow)
returned_runs (GoesOn locals) = gives Any (pos 0) tt
returned_runs (Returns word) = gives Any word tt

-- there is such a function
abbrev pub Exists : Option Func → Type 0
Exists None = ⊥
Exists (Some f) = Unit {0}

takes_exists : (f : Option Func) (count : ℕ) → Takes f count → Exists f
takes_exists None count h = h
takes_exists (Some f) count h = tt

target_of_runs : (found : Found) → Fits true found → RunsTo Any (target_of found)
target_of_runs (Value x) h = absurd h
target_of_runs (Names t) h = gives Any t tt

operated_runs : {left right : Run ℤ} (at : Place) (pointer : Bool) (op : BinOp) → RunsTo Any left → RunsTo Any right → RunsTo Any (operated at pointer op left right)
operated_runs at pointer And lefts rights = then_runs Any lefts (λ x _. by_truth_runs x (then_runs Any rights (λ y _. gives Any (truth_of y) tt)) (gives Any (pos 0) tt))
operated_runs at pointer Or lefts rights = then_runs Any lefts (λ x _. by_truth_runs x (gives Any (pos 1) tt) (then_runs Any rights (λ y _. gives Any (truth_of y) tt)))
operated_runs at pointer op lefts rights = then_runs Any lefts (λ x _. then_runs Any rights (λ y _. computed_runs at (binary pointer op x y)))

without_runs : (parallel : Bool) (locals : Locals) (flow : Flow Locals) → Flows parallel flow → RunsTo (Flows parallel) (without locals flow)
without_runs parallel locals (GoesOn inner) f = goes_on parallel _
without_runs parallel locals (Returns word) f = gives (Flows parallel) (Returns word) f

scoped_runs : (parallel : Bool) {body : Run (Flow Locals)} (locals : Locals) → RunsTo (Flows parallel) body → RunsTo (Flows parallel) (scoped locals body)
scoped_runs parallel locals h = then_runs (Flows parallel) h (without_runs parallel locals)

module _ (c : Context) (calls : (at : Place) (name : List ℕ) (words : List ℤ) → Exists (function_of c.program.funcs name) → RunsTo Any (c.call at name words)) where
  value_of_runs : (at : Place) (found : Found) → RunsTo Any (value_of c at found)
  value_of_runs at (Value x) = gives Any x tt
  value_of_runs at (Names t) = due_runs c.fuel at (LoadWord t.pointer t.index t.field)

  mutual
    find_runs : (at : Place) (locals : Locals) (scope : List Variable) (e : Expr) → IsRegular c.program scope e → RunsTo (Fits (is_place e)) (find c at locals e)
    find_runs at locals scope (Num n) h = gives (Fits false) (Value n) tt
    find_runs at locals scope (Var name) h = gives (Fits false) (Value (word_of locals name)) tt
    find_runs at locals scope (Neg' q e) h = then_runs (Fits false) (eval_row_runs at locals scope e h) (λ x _. then_runs (Fits false) (computed_runs at (negation x)) (λ y _. gives (Fits false) (Value y) tt))
    find_runs at locals scope (Not' q e) h = then_runs (Fits false) (eval_row_runs at locals scope e h) (λ x _. gives (Fits false) (Value (truth (is_zero x))) tt)
    find_runs at locals scope (Bin' op q a r b) h =
        then_runs (Fits false) (operated_runs at (is_pointer (type_by c locals a)) op (eval_row_runs at locals scope a h.0) (eval_row_runs at locals scope b h.1)) (λ x _. gives (Fits false) (Value x) tt)
    find_runs at locals scope (Index' q base r index) h =
        then_runs (Fits true) (eval_row_runs at locals scope base h.0) (λ pointer _. then_runs (Fits true) (eval_row_runs at locals scope index h.1) (λ i _. gives (Fits true) (Names (target pointer i 0)) tt))
    find_runs at locals scope (Deref' q base) h = then_runs (Fits true) (eval_row_runs at locals scope base h.0) (λ pointer _. gives (Fits true) (Names (target pointer (pos 0) 0)) tt)
    find_runs at locals scope (Arrow' q base field) h = then_runs (Fits true) (eval_row_runs at locals scope base h.0) (λ pointer _. gives (Fits true) (Names _) tt)
    find_runs at locals scope (Dot' q element field) h =
        then_runs (Fits true) (find_row_runs at locals scope element h.0 h.1) (λ found fits. then_runs (Fits true) (target_of_runs found fits) (λ t _. gives (Fits true) (Names _) tt))
    find_runs at locals scope (CallExpr' name n args) h =
        then_runs (Fits false) (then_runs Any (eval_args_run at locals scope args h.0) (λ words _. calls at name words (takes_exists _ _ h.1))) (λ x _. gives (Fits false) (Value x) tt)
    find_runs at locals scope (Calloc' n count type) h =
        then_runs (Fits false) (eval_row_runs at locals scope count h) (λ n _. then_runs (Fits false) (due_runs c.fuel at (Allocate n (fields_of c.program.structs type))) (λ x _. gives (Fits false) (Value x) tt))

    find_row_runs : {n : _} (at : Place) (locals : Locals) (scope : List Variable) (row : Row_of-Expr n) → IsRegularPart c.program scope row → is_place_row row ≡ true → RunsTo (Fits true) (find_row c at locals row)
    find_row_runs at locals scope end_of-Expr h e = absurd h
    find_row_runs at locals scope (more_of-Expr a rest) h e = rw (sym e) (find_runs at locals scope a h)

    eval_row_runs : {n : _} (at : Place) (locals : Locals) (scope : List Variable) (row : Row_of-Expr n) → IsRegularPart c.program scope row → RunsTo Any (eval_row c at locals row)
    eval_row_runs at locals scope end_of-Expr h = absurd h
    eval_row_runs at locals scope (more_of-Expr e rest) h = then_runs Any (find_runs at locals scope e h) (λ found _. value_of_runs at found)

    eval_args_run : {n : _} (at : Place) (locals : Locals) (scope : List Variable) (row : Row_of-Expr n) → AreRegular c.program scope row → RunsTo Any (eval_args c at locals row)
    eval_args_run at locals scope end_of-Expr h = gives Any [] tt
    eval_args_run at locals scope (more_of-Expr e rest) h =
        then_runs Any (then_runs Any (find_runs at locals scope e h.0) (λ found _. value_of_runs at found))
        (λ word _. then_runs Any (eval_args_run at locals scope rest h.1) (λ words _. gives Any (word ∷ words) tt))

  eval_runs : (at : Place) (locals : Locals) (scope : List Variable) (e : Expr) → IsRegular c.program scope e → RunsTo Any (eval c at locals e)
  eval_runs at locals scope e h = then_runs Any (find_runs at locals scope e h) (λ found _. value_of_runs at found)

  eval_list_runs : (at : Place) (locals : Locals) (scope : List Variable) (args : List Expr) → AllByRecursion (IsRegular c.program scope) args → RunsTo Any (eval_list c at locals args)
  eval_list_runs at locals scope [] h = gives Any [] tt
  eval_list_runs at locals scope (e ∷ args) h = then_runs Any (eval_runs at locals scope e h.0) (λ word _. then_runs Any (eval_list_runs at locals scope args h.1) (λ words _. gives Any (word ∷ words) tt))

  condition_runs : (at : Place) (locals : Locals) (scope : List Variable) (e : Option Expr) → IsRegularOption c.program scope e → RunsTo Any (condition c at e locals)
  condition_runs at locals scope None h = gives Any (pos 1) tt
  condition_runs at locals scope (Some e) h = eval_runs at locals scope e h

  looped_runs : (parallel : Bool) (at : Place) (scope : List Variable) (e : Option Expr) {body : Statement Locals} → IsRegularOption c.program scope e → ((locals : Locals) → RunsTo (Flows parallel) (body locals)) → (locals : Locals) → RunsTo (Flows parallel) (looped c at e body locals)
  looped_runs parallel at scope e h bodies =
      loop_runs parallel (suc c.fuel) (goes_on parallel)
      (λ locals. then_runs Any (condition_runs at locals scope e h) (λ word _. then_runs Any (due_runs c.fuel at Test) (λ _ _. gives Any word tt))) bodies

  stored_to : (at : Place) (locals : Locals) (scope : List Variable) (into : Expr) → IsRegular c.program scope into → is_place into ≡ true → RunsTo (Fits true) (find c at locals into)
  stored_to at locals scope into h e = rw (sym e) (find_runs at locals scope into h)

  mutual
    exec_runs : (parallel : Bool) (at : Place) (scope : List Variable) (kind : StmtKind) (locals : Locals) → IsRegularStatement c.program scope kind → ReturnsOutside parallel kind → RunsTo (Flows parallel) (exec c at kind locals)
    exec_runs parallel at scope Empty locals h o = goes_on parallel locals
    exec_runs parallel at scope (Block' n body) locals h o = scoped_runs parallel locals (exec_row_runs parallel scope body locals h o)
    exec_runs parallel at scope (Declare type name None) locals h o = goes_on parallel _
    exec_runs parallel at scope (Declare type name (Some e)) locals h o = then_runs (Flows parallel) (eval_runs at locals scope e h) (λ word _. goes_on parallel _)
    exec_runs parallel at scope (Set name e) locals h o = then_runs (Flows parallel) (eval_runs at locals scope e h.1) (λ word _. goes_on parallel _)
    exec_runs parallel at scope (Store into e) locals h o =
        then_runs (Flows parallel) (then_runs Any (stored_to at locals scope into h.0 h.1) target_of_runs) (λ t _.
        then_runs (Flows parallel) (eval_runs at locals scope e h.2) (λ word _.
        then_runs (Flows parallel) (due_runs c.fuel at (StoreWord t.pointer t.index t.field word)) (λ _ _. goes_on parallel locals)))
    exec_runs parallel at scope (Call name args) locals h o =
        then_runs (Flows parallel) (then_runs Any (eval_list_runs at locals scope args h.0) (λ words _. calls at name words (takes_exists _ _ h.1))) (λ _ _. goes_on parallel locals)
    exec_runs parallel at scope (If' n arms other) locals h o = exec_arms_runs parallel at scope arms h.0 o.0 (λ locals. scoped_runs parallel locals (exec_held_runs parallel scope other locals h.1 o.1)) locals
    exec_runs parallel at scope (While' e q body) locals h o =
        looped_runs parallel at scope (Some e) h.0 (λ locals. scoped_runs parallel locals (exec_row_runs parallel scope body locals h.1 o)) locals
    exec_runs parallel at scope (For' first e third q body) locals h o =
        let inner = variables_behind_held scope first in
        scoped_runs parallel locals (then_do_runs parallel (exec_held_runs parallel scope first locals h.0 o.0)
        (looped_runs parallel at inner e h.1 (λ locals. then_do_runs parallel (scoped_runs parallel locals (exec_row_runs parallel inner body locals h.3 o.2)) (λ locals. scoped_runs parallel locals (exec_held_runs parallel inner third locals h.2 o.1)))))
    exec_runs parallel at scope (Print e) locals h o = then_runs (Flows parallel) (eval_runs at locals scope e h) (λ number _. then_runs (Flows parallel) (due_runs c.fuel at (PrintNumber number)) (λ _ _. goes_on parallel locals))
    exec_runs true at scope (Return e) locals h o = absurd o
    exec_runs false at scope (Return None) locals h o = gives (Flows false) (Returns (pos 0)) tt
    exec_runs false at scope (Return (Some e)) locals h o = then_runs (Flows false) (eval_runs at locals scope e h) (λ word _. gives (Flows false) (Returns word) tt)
    exec_runs parallel at scope (Cobegin' n blocks) locals h o = then_runs (Flows parallel) (branches_run scope blocks locals h o) (λ trap _. joined_runs parallel locals trap)
    exec_runs parallel at scope (Foreach' index low high step q body) locals h o =
        then_runs (Flows parallel) (eval_runs at locals scope low h.0) (λ low _. then_runs (Flows parallel) (eval_runs at locals scope high h.1) (λ high _.
        then_runs (Flows parallel) (each_runs c.fuel at low high (nat_abs step) (λ i. exec_row_runs true _ body (local index Number i ∷ locals) h.2 o)) (λ trap _. joined_runs parallel locals trap)))

    exec_row_runs : {n : _} (parallel : Bool) (scope : List Variable) (row : Row_of-Stmt n) (locals : Locals) → AreRegularStatements c.program scope row → AllReturnOutside parallel row → RunsTo (Flows parallel) (exec_row c row locals)
    exec_row_runs parallel scope end_of-Stmt locals h o = goes_on parallel locals
    exec_row_runs parallel scope (more_of-Stmt at kind rest) locals h o =
        then_do_runs parallel (exec_runs parallel at scope kind locals h.0 o.0) (λ locals. exec_row_runs parallel (variables_behind scope kind) rest locals h.1 o.1)

    exec_held_runs : (parallel : Bool) (scope : List Variable) (held : Held-StmtKind-If-1) (locals : Locals) → IsRegularHeld c.program scope held → HeldReturnsOutside parallel held → RunsTo (Flows parallel) (exec_held c held locals)
    exec_held_runs parallel scope None' locals h o = goes_on parallel locals
    exec_held_runs parallel scope (Some' q body) locals h o = exec_row_runs parallel scope body locals h o

    exec_arms_runs : {n : _} (parallel : Bool) (at : Place) (scope : List Variable) (row : Row_of-Arm n) {otherwise : Statement Locals} → AreRegularArms c.program scope row → ArmsReturnOutside parallel row
        → ((locals : Locals) → RunsTo (Flows parallel) (otherwise locals)) → (locals : Locals) → RunsTo (Flows parallel) (exec_arms c at row otherwise locals)
    exec_arms_runs parallel at scope end_of-Arm h o others locals = others locals
    exec_arms_runs parallel at scope (more_of-Arm arm rest) h o others locals = exec_arm_runs parallel at scope arm h.0 o.0 (exec_arms_runs parallel at scope rest h.1 o.1 others) locals

    exec_arm_runs : (parallel : Bool) (at : Place) (scope : List Variable) (arm : Arm) {otherwise : Statement Locals} → IsRegularArm c.program scope arm → ArmReturnsOutside parallel arm
        → ((locals : Locals) → RunsTo (Flows parallel) (otherwise locals)) → (locals : Locals) → RunsTo (Flows parallel) (exec_arm c at arm otherwise locals)
    exec_arm_runs parallel at scope (Arm' e q body) h o others locals =
        then_runs (Flows parallel) (eval_runs at locals scope e h.0) (λ word _. by_truth_runs word (scoped_runs parallel locals (exec_row_runs parallel scope body locals h.1 o)) (others locals))

    branches_run : {n : _} (scope : List Variable) (row : Row_of-Stmt n) (locals : Locals) → AreRegularBlocks c.program scope row → AllReturnOutside true row → RunsTo Any (branches c row locals)
    branches_run scope end_of-Stmt locals h o = gives Any None tt
    branches_run scope (more_of-Stmt at kind rest) locals h o = before_runs (branch_runs (exec_runs true at scope kind locals h.0 o.0)) (branches_run scope rest locals h.1 o.1)

  exec_all_runs : (scope : List Variable) (body : List Stmt) (locals : Locals) → IsRegularBody c.program scope body → AllByRecursion (λ (s : Stmt). ReturnsOutside false s.kind) body → RunsTo (Flows false) (exec_all c body locals)
  exec_all_runs scope [] locals h o = goes_on false locals
  exec_all_runs scope (s ∷ body) locals h o = then_do_runs false (exec_runs false s.at scope s.kind locals h.0 o.0) (λ locals. exec_all_runs (variables_behind scope s.kind) body locals h.1 o.1)

  in_function_runs : (f : Func) (words : List ℤ) → IsRegularFunction c.program f → BodyReturnsOutside f → RunsTo Any (in_function c (Some f) words)
  in_function_runs f words h o = then_runs Any (exec_all_runs (map parameter f.params) f.body (bound f.params words []) h o) (λ flow _. returned_runs flow)

-- a test that finds one of these finds one with a property of all of them
found_has : (P : Func → Type 0) (test : Func → Bool) (funcs : List Func) (f : Func) → AllByRecursion P funcs → find_first test funcs ≡ Some f → P f
found_has P test [] f all e = absurd cc
found_has P test (g ∷ funcs) f all e = elim (cases_Bool (test g)) [
  | inl there ↦ let same : g ≡ f = cc in subst P same all.0
  | inr other ↦ found_has P test funcs f all.1 cc
]

module _ (p : Program) (fuel : ℕ) (regular : AllByRecursion (IsRegularFunction p) p.funcs) (outside : AllByRecursion BodyReturnsOutside p.funcs) where
  in_found_runs : (more : ℕ) (name : List ℕ) (words : List ℤ) → ((at : Place) (name : List ℕ) (words : List ℤ) → Exists (function_of p.funcs name) → RunsTo Any (called p fuel more at name words))
      → (f : Option Func) → function_of p.funcs name ≡ f → Exists f → RunsTo Any (in_function (record { program = p; fuel = fuel; call = called p fuel more }) f words)
  in_found_runs more name words calls None e h = absurd h
  in_found_runs more name words calls (Some f) e h = in_function_runs (record { program = p; fuel = fuel; call = called p fuel more }) calls f words
      (found_has (IsRegularFunction p) (λ (f : Func). same f.name name) p.funcs f regular e) (found_has BodyReturnsOutside (λ (f : Func). same f.name name) p.funcs f outside e)

  called_runs : (more : ℕ) (at : Place) (name : List ℕ) (words : List ℤ) → Exists (function_of p.funcs name) → RunsTo Any (called p fuel more at name words)
  unfolding called
  called_runs zero at name words there = due_runs fuel at (Enter 0)
  called_runs (suc more) at name words there = then_runs Any (due_runs fuel at (Enter (suc more))) (λ _ _. in_found_runs more name words (called_runs more) (function_of p.funcs name) refl there)

  ended_ruled : (came : Came ℤ) → IsRuledAs Any came → IsRuledEnding (ended came).ending
  ended_ruled (Gives word w) h = tt
  ended_ruled (Stops ending w) h = h

  main_runs : (f : Option Func) → function_of p.funcs (codes "main") ≡ f → Exists f → (arguments : List ℤ) → RunsTo Any (in_function (context p fuel) f arguments)
  main_runs f e h arguments = in_found_runs 1023 (codes "main") arguments (called_runs 1023) f e h

  entering : (f : Func) (params words : ℕ) (input : List ℤ) → ((arguments : List ℤ) → RunsTo Any (in_function (context p fuel) (Some f) arguments))
      → IsRuledEnding (enter (λ w. record { ending = trapped Words f.at; world = w }) (λ arguments w. ended (in_function (context p fuel) (Some f) arguments w)) params words input).ending
  entering f zero words input runs = ended_ruled _ ((runs []).from (start words))
  entering f (suc n) words input runs =
      either (λ (o : Outcome). IsRuledEnding o.ending) (nat_lt words (length input)) tt (ended_ruled _ ((runs (arguments input)).from (start_on words input)))

  enter_main_ruled : (f : Option Func) (words : ℕ) (input : List ℤ) → Exists f → ((arguments : List ℤ) → RunsTo Any (in_function (context p fuel) f arguments)) → IsRuledEnding (enter_main (context p fuel) f words input).ending
  enter_main_ruled None words input h runs = absurd h
  enter_main_ruled (Some f) words input h runs = entering f (length f.params) words input runs

  -- a run of a program with a `main`
  pub sequential_ruled : (words : ℕ) (input : List ℤ) → Exists (function_of p.funcs (codes "main")) → IsRuledEnding (sequential fuel words p input).ending
  sequential_ruled words input there = enter_main_ruled (function_of p.funcs (codes "main")) words input there (main_runs _ refl there)

pub never_unruled : (ending : Ending) → IsRuledEnding ending → ending ≢ Unruled
never_unruled Unruled h e = h
never_unruled Done h e = absurd cc
never_unruled (Trapped trap) h e = absurd cc
never_unruled (Strayed at) h e = absurd cc
never_unruled Spent h e = absurd cc
