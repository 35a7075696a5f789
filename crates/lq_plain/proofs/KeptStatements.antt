-- What a statement of a regular source does, its plain form does.
use mathlib.Core.Former.{Count, none_left, one_more}
use Rattle.std.proofs.Common.{◌≡◌, ℕ, ◌+◌, ◌<◌, ◌≤◌, ℤ, pos, Bool, true, List, [], ◌∷◌, length, Option, None, Some, refl, sym, ap, ◌∙◌, subst, arith, le_trans}
use Rattle.std.specs.List.{AllByRecursion}
use Rattle.lq_tree.specs.declared.place.Place.{Place}
use Rattle.lq_tree.specs.declared.expr.Expr.{Expr}
use Rattle.lq_tree.specs.declared.stmt.StmtKind.{StmtKind, Empty, Block', Local as Declare, Set, Store, Call, If', While', For', Print, Return, Cobegin', Foreach', Row_of-Stmt, end_of-Stmt, more_of-Stmt, Row_of-Arm, end_of-Arm, more_of-Arm, None', Some', Held-StmtKind-If-1}
use Rattle.lq_tree.specs.declared.stmt.Arm.{Arm, Arm'}
use Rattle.lq_tree.specs.declared.plain.Slot.{Slot}
use Rattle.lq_tree.specs.declared.plain.Branch.{Branch}
use Rattle.lq_tree.specs.declared.program.Param.{Param}
use Rattle.lq_tree.specs.Lookup.{function_of, number_of}
use Rattle.lq_tree.specs.Types.{Ty, Number, declared}
use Rattle.lq_tree.specs.Locals.{Local, type_of_local, what_of, variables_of}
use Rattle.lq_meaning.specs.World.{World}
use Rattle.lq_meaning.specs.Control.{Run, give, ◌⨾◌, store, Statement, done_with, ◌then_do◌, caught}
use Rattle.lq_meaning.specs.Meaning.{Context as Source, Locals, Found, target_of, find, eval, eval_list, condition, scoped, exec, exec_row, exec_held, exec_arms, exec_arm, branches}
use Rattle.lq_meaning.specs.PlainMeaning.{Slots, exec_branch}
use Rattle.lq_plain.specs.Flat.{Env, type_of, Made, with_slot, int_type, Flat, Is, Names, Gets, flat, operand, is_pure, wanted, params_of, first_type, other_params, atom, flatten}
use Rattle.lq_plain.specs.Plain.{fresh, flat_of, flat_as, stored, arguments, condition as plain_condition, plain, plain_row, plain_held, plain_arms, plain_arm, plain_branches, plain_iteration}
use Rattle.lq_plain.proofs.Regular.{Takes, IsRegular, IsRegularOption, variables_behind, variables_behind_row, variables_behind_held, IsRegularStatement, AreRegularStatements, AreRegularBlocks, AreRegularArms, IsRegularArm, IsRegularHeld}
use Rattle.lq_plain.proofs.Related.{Related, Bounded, bounded_above, there, one_more as one_variable_more}
use Rattle.lq_plain.proofs.Runs.{comes_still, then_do-done}
use Rattle.lq_plain.proofs.Taken.{after_none, after_slot, one_slot, beside, Evaluated, Flattened, atom_evaluated, flat_evaluated, operand_evaluated}
use Rattle.lq_plain.proofs.KeptForms.{IsNames, Given, given_none, given_more}
use Rattle.lq_plain.proofs.KeptExpressions.{CallsAgree, place_named, wanted_flat, flattened}
use Rattle.lq_plain.proofs.Alike.{Done, Stays, stays_done, done_on, stays_on, done_none, scoped_stays}
use Rattle.lq_plain.proofs.KeptSteps.{print_stays, return_stays, return_nothing, call_stays, put_word, put_empty, set_stays, declare_done, index_taken, store_stays, if_stays, loop_stays, BranchesAlike, branches_none, branches_more, branch_alike, cobegin_stays, foreach_stays}

-- a row of one
abbrev pub IsOne : Count → Type 0
IsOne none_left = ⊥
IsOne (one_more none_left) = Unit {0}
IsOne (one_more (one_more n)) = ⊥

below_end : {a b d e : ℕ} → b ≡ a + 1 → b ≤ d → d ≤ e → a < e
below_end one first second = omega arith

-- whether the expression of a condition is pure; a missing one is
abbrev pure_option : Option Expr → Bool
pure_option None = true
pure_option (Some e) = is_pure e

module _ (c : Source) (call : Place → ℕ → List ℤ → Run ℤ) (result : Ty) (calls : CallsAgree c call) where
  abbrev env : List (Local ℕ) → Env
  env scope = record { program = c.program; result = result; scope = scope }

  -- ---- what is in scope behind a statement

  pub scope_behind : (at : Place) (scope : List (Local ℕ)) (kind : StmtKind) (m : Made) → variables_of (plain (env scope) at kind m).scope ≡ variables_behind (variables_of scope) kind
  scope_behind at scope (Declare type name e) m = one_variable_more (record { name = name; type = declared type; what = length m.slots }) scope
  scope_behind at scope (Return None) m = refl
  scope_behind at scope (Return (Some e)) m = refl
  scope_behind at scope kind m = refl

  nothing_more : {n : _} (scope : List (Local ℕ)) (rest : Row_of-Stmt n) (m : Made) → IsOne (one_more n) → (plain_row (env scope) rest m).scope ≡ scope
  nothing_more scope end_of-Stmt m one = refl
  nothing_more scope (more_of-Stmt at kind rest) m one = absurd one

  row_scope : {n : _} (scope : List (Local ℕ)) (row : Row_of-Stmt n) (m : Made) → IsOne n → variables_of (plain_row (env scope) row m).scope ≡ variables_behind_row (variables_of scope) row
  row_scope scope end_of-Stmt m one = absurd one
  row_scope scope (more_of-Stmt at kind rest) m one =
      ap variables_of (nothing_more (plain (env scope) at kind m).scope rest (plain (env scope) at kind m).made one) ∙ scope_behind at scope kind m

  pub held_scope : (scope : List (Local ℕ)) (held : Held-StmtKind-If-1) (m : Made) → variables_of (plain_held (env scope) held m).scope ≡ variables_behind_held (variables_of scope) held
  held_scope scope None' m = refl
  held_scope scope (Some' p row) m = row_scope scope row m tt

  -- ---- expressions of statements

  module _ (at : Place) (scope : List (Local ℕ)) where
    flat_taken : (e : Expr) (m : Made) → Bounded scope (length m.slots) → IsRegular c.program (variables_of scope) e → Evaluated c call at scope true (is_pure e) m (λ l s. eval c at l e) (flat_of (env scope) at e m)
    flat_taken e m bounded regular = flat_evaluated c call at scope (type_of (env scope) e) (flatten (env scope) at e m) (flattened c call result scope at calls e m bounded regular)

    as_taken : (type : Ty) (e : Expr) (m : Made) → Bounded scope (length m.slots) → IsRegular c.program (variables_of scope) e → Evaluated c call at scope true (is_pure e) m (λ l s. eval c at l e) (flat_as (env scope) at type e m)
    as_taken type e m bounded regular =
        flat_evaluated c call at scope (type_of (env scope) e) (wanted type e (flatten (env scope) at e m) m) (wanted_flat c call result scope at type e m (flattened c call result scope at calls e m bounded regular))

    condition_taken : (e : Option Expr) (slots : List Slot) → Bounded scope (length slots) → IsRegularOption c.program (variables_of scope) e
        → Evaluated c call at scope true (pure_option e) (fresh slots) (λ l s. condition c at e l) (plain_condition (env scope) at e slots)
    condition_taken None slots bounded regular = record {
      new = [];
      after = after_none (fresh slots);
      comes = comes_still (beside c call) scope (length slots) (length slots) (λ l s related long. refl);
      closed = λ old new kept. refl;
      still = λ _. refl;
    }
    condition_taken (Some e) slots bounded regular = flat_taken e (fresh slots) bounded regular

    given_list : (params : List Param) (args : List Expr) (m : Made) → Bounded scope (length m.slots) → AllByRecursion (IsRegular c.program (variables_of scope)) args
        → Given c call at scope (length args) m (λ l. eval_list c at l args) (arguments (env scope) at params args m)
    given_list params [] m bounded regular = given_none c call at scope m
    given_list params (e ∷ args) m bounded regular =
        let v = atom at (type_of (env scope) e) (wanted (first_type params) e (flatten (env scope) at e m) m) in
        let first = atom_evaluated c call at scope (type_of (env scope) e) (wanted_flat c call result scope at (first_type params) e m (flattened c call result scope at calls e m bounded regular.0)) in
        given_more c call at scope (length args) (is_pure e) m (λ l. eval c at l e) (λ l. eval_list c at l args) v (arguments (env scope) at (other_params params) args v.made) first
        (given_list (other_params params) args v.made (bounded_above scope (length m.slots) (length v.made.slots) first.after.grows bounded) regular.1)

    stored_stays : (pure : Bool) (m : Made) (into : Locals → Run Found) (found : Flat) (type : Ty) (e : Expr) → Bounded scope (length m.slots) → IsRegular c.program (variables_of scope) e → IsNames found
        → Flattened c call at scope pure m into found → Stays c call scope m (λ l. into l ⨾ target_of ⨾ λ t. eval c at l e ⨾ λ word. store c.fuel at t word ⨾ λ _. done_with l) (stored (env scope) at type e found)
    stored_stays pure m into (Is v) type e bounded regular named flat = absurd named
    stored_stays pure m into (Gets kind k) type e bounded regular named flat = absurd named
    stored_stays pure m into (Names base index field) type e bounded regular named flat =
        let i = operand (is_pure e) at Number index in
        store_stays c call at scope (is_pure e) pure m into (λ l. eval c at l e) base index field (flat_as (env scope) at type e i.made) flat
        (as_taken type e i.made (bounded_above scope (length m.slots) (length i.made.slots) (le_trans flat.after.grows (index_taken c call at scope (is_pure e) Number index flat.closed.1).after.grows) bounded) regular)

  record IterationAlike (scope : List (Local ℕ)) (slots : List Slot) (run : Statement Locals) (made : Branch × List Slot) : Type 0 where
    pub grows : length slots ≤ length made.1
    pub same : (l : Locals) (s : Slots) (w : World) → Related scope l (length slots) s → length made.1 ≤ length s → caught (run l w) ≡ caught (exec_branch (beside c call) made.0 s w)

  nothing_runs : {n : _} (rest : Row_of-Stmt n) → IsOne (one_more n) → exec_row c rest ≡ done_with
  nothing_runs end_of-Stmt one = refl
  nothing_runs (more_of-Stmt at kind rest) one = absurd one

  mutual
    pub done : (at : Place) (scope : List (Local ℕ)) (kind : StmtKind) (m : Made) → Bounded scope (length m.slots) → IsRegularStatement c.program (variables_of scope) kind → Done c call scope m (exec c at kind) (plain (env scope) at kind m)
    done at scope Empty m bounded regular = done_none c call bounded
    done at scope (Block' n body) m bounded regular = stays_done c call bounded (scoped_stays c call (row_done scope body m bounded regular))
    done at scope (Declare type name None) m bounded regular =
        let k = with_slot (Some name) type m in
        declare_done c call at scope m k _ (λ l. give (pos 0)) name (declared type) bounded (after_slot (Some name) type m) (one_slot (Some name) type m) (put_empty c call at scope k (length m.slots) (declared type))
    done at scope (Declare type name (Some e)) m bounded regular =
        let k = with_slot (Some name) type m in
        declare_done c call at scope m k _ (λ l. eval c at l e) name (declared type) bounded (after_slot (Some name) type m) (one_slot (Some name) type m)
        (put_word c call at scope (is_pure e) k (λ l. find c at l e) (length m.slots) (wanted (declared type) e (flatten (env scope) at e k) k)
        (wanted_flat c call result scope at (declared type) e k (flattened c call result scope at calls e k (bounded_above scope (length m.slots) (length k.slots) (after_slot (Some name) type m).grows bounded) regular)))
    done at scope (Set name e) m bounded regular =
        stays_done c call bounded
        (set_stays c call at scope m _ (λ l. eval c at l e) name (there scope name regular.0)
        (put_word c call at scope (is_pure e) m (λ l. find c at l e) (what_of 0 scope name) (wanted (type_of_local scope name) e (flatten (env scope) at e m) m)
        (wanted_flat c call result scope at (type_of_local scope name) e m (flattened c call result scope at calls e m bounded regular.1))))
    done at scope (Store into e) m bounded regular =
        stays_done c call bounded
        (stored_stays at scope (is_pure into) m (λ l. find c at l into) (flatten (env scope) at into m) (type_of (env scope) into) e bounded regular.2
        (place_named c call result scope at into m regular.0 regular.1) (flattened c call result scope at calls into m bounded regular.0))
    done at scope (Call name args) m bounded regular =
        let params = params_of (function_of c.program.funcs name) in
        stays_done c call bounded
        (call_stays c call at scope (length args) m (λ l. eval_list c at l args) (arguments (env scope) at params args m) name (number_of c.program.funcs name)
        (λ words many. calls at name words (subst (Takes (function_of c.program.funcs name)) (sym many) regular.1)) (given_list at scope params args m bounded regular.0))
    done at scope (If' n arms other) m bounded regular =
        stays_done c call bounded
        (arms_stay at scope arms (λ l. scoped l (exec_held c other l)) (λ k. (plain_held (env scope) other k).made)
        (λ k below. scoped_stays c call (held_done scope other k below regular.1)) m bounded regular.0)
    done at scope (While' e p body) m bounded regular =
        let v = plain_condition (env scope) at (Some e) m.slots in
        let taken = condition_taken at scope (Some e) m.slots bounded regular.0 in
        stays_done c call bounded
        (loop_stays c call at scope (is_pure e) m (λ l. condition c at (Some e) l) v (λ l. scoped l (exec_row c body l)) _ bounded taken
        (scoped_stays c call (row_done scope body (fresh v.made.slots) (bounded_above scope (length m.slots) (length v.made.slots) taken.after.grows bounded) regular.1)))
    done at scope (For' first e third p body) m bounded regular =
        let opened = plain_held (env scope) first m in
        let opens = held_done scope first m bounded regular.0 in
        let inner = opened.scope in
        let variables : variables_behind_held (variables_of scope) first ≡ variables_of inner = sym (held_scope scope first m) in
        let v = plain_condition (env inner) at e opened.made.slots in
        let taken = condition_taken at inner e opened.made.slots opens.bounded (subst (λ list. IsRegularOption c.program list e) variables regular.1) in
        let below = bounded_above inner (length opened.made.slots) (length v.made.slots) taken.after.grows opens.bounded in
        let turn = scoped_stays c call (row_done inner body (fresh v.made.slots) below (subst (λ list. AreRegularStatements c.program list body) variables regular.3)) in
        let k = (plain_row (env inner) body (fresh v.made.slots)).made in
        let ends = scoped_stays c call
        (held_done inner third k (bounded_above inner (length v.made.slots) (length k.slots) turn.after.grows below) (subst (λ list. IsRegularHeld c.program list third) variables regular.2)) in
        stays_done c call bounded
        (scoped_stays c call (done_on c call opens
        (stays_done c call opens.bounded
        (loop_stays c call at inner (pure_option e) opened.made (λ l. condition c at e l) v (λ l. scoped l (exec_row c body l) then_do λ l. scoped l (exec_held c third l)) _ opens.bounded taken (stays_on c call turn ends)))))
    done at scope (Print e) m bounded regular =
        stays_done c call bounded (print_stays c call at scope (is_pure e) m (λ l. eval c at l e) (flat_of (env scope) at e m) (flat_taken at scope e m bounded regular))
    done at scope (Return None) m bounded regular = stays_done c call bounded (return_nothing c call at scope m)
    done at scope (Return (Some e)) m bounded regular =
        stays_done c call bounded (return_stays c call at scope (is_pure e) m (λ l. eval c at l e) (flat_as (env scope) at result e m) (as_taken at scope result e m bounded regular))
    done at scope (Cobegin' n blocks) m bounded regular =
        stays_done c call bounded (cobegin_stays c call at scope m (λ l. branches c blocks l) (plain_branches (env scope) blocks m.slots) (branches_alike at scope blocks m.slots bounded regular))
    done at scope (Foreach' index low high step p body) m bounded regular =
        let k = with_slot (Some index) int_type m in
        let v = operand (is_pure high) at Number (flatten (env scope) at low k) in
        let first = operand_evaluated c call at scope (is_pure high) Number (flatten (env scope) at low k)
        (flattened c call result scope at calls low k (bounded_above scope (length m.slots) (length k.slots) (after_slot (Some index) int_type m).grows bounded) regular.0) in
        let from = le_trans (after_slot (Some index) int_type m).grows first.after.grows in
        let u = flat_of (env scope) at high v.made in
        let second = flat_taken at scope high v.made (bounded_above scope (length m.slots) (length v.made.slots) from bounded) regular.1 in
        let inner : List (Local ℕ) = record { name = index; type = Number; what = length m.slots } ∷ scope in
        let iterates = iteration_alike inner body u.made.slots (below_end (one_slot (Some index) int_type m) first.after.grows second.after.grows, bounded) tt
        (subst (λ list. AreRegularStatements c.program list body) (sym (one_variable_more (record { name = index; type = Number; what = length m.slots }) scope)) regular.2) in
        let made = plain_iteration (env inner) body u.made.slots in
        stays_done c call bounded
        (foreach_stays c call at scope (is_pure high) (is_pure low) m index (λ l. eval c at l low) (λ l. eval c at l high) step v u (exec_row c body) made.0 made.1 first second iterates.grows (λ l s w. iterates.same l s w))

    pub row_done : {n : _} (scope : List (Local ℕ)) (row : Row_of-Stmt n) (m : Made) → Bounded scope (length m.slots) → AreRegularStatements c.program (variables_of scope) row → Done c call scope m (exec_row c row) (plain_row (env scope) row m)
    row_done scope end_of-Stmt m bounded regular = done_none c call bounded
    row_done scope (more_of-Stmt at kind rest) m bounded regular =
        let first = done at scope kind m bounded regular.0 in
        let b = plain (env scope) at kind m in
        done_on c call first (row_done b.scope rest b.made first.bounded (subst (λ list. AreRegularStatements c.program list rest) (sym (scope_behind at scope kind m)) regular.1))

    held_done : (scope : List (Local ℕ)) (held : Held-StmtKind-If-1) (m : Made) → Bounded scope (length m.slots) → IsRegularHeld c.program (variables_of scope) held → Done c call scope m (exec_held c held) (plain_held (env scope) held m)
    held_done scope None' m bounded regular = done_none c call bounded
    held_done scope (Some' p row) m bounded regular = row_done scope row m bounded regular

    arms_stay : {n : _} (at : Place) (scope : List (Local ℕ)) (row : Row_of-Arm n) (otherwise : Statement Locals) (other : Made → Made) → ((k : Made) → Bounded scope (length k.slots) → Stays c call scope k otherwise (other k)) → (m : Made)
        → Bounded scope (length m.slots) → AreRegularArms c.program (variables_of scope) row → Stays c call scope m (exec_arms c at row otherwise) (plain_arms (env scope) at row other m)
    arms_stay at scope end_of-Arm otherwise other others m bounded regular = others m bounded
    arms_stay at scope (more_of-Arm arm rest) otherwise other others m bounded regular =
        arm_stays at scope arm (exec_arms c at rest otherwise) (plain_arms (env scope) at rest other) (λ k below. arms_stay at scope rest otherwise other others k below regular.1) m bounded regular.0

    arm_stays : (at : Place) (scope : List (Local ℕ)) (arm : Arm) (otherwise : Statement Locals) (other : Made → Made) → ((k : Made) → Bounded scope (length k.slots) → Stays c call scope k otherwise (other k)) → (m : Made)
        → Bounded scope (length m.slots) → IsRegularArm c.program (variables_of scope) arm → Stays c call scope m (exec_arm c at arm otherwise) (plain_arm (env scope) at arm other m)
    arm_stays at scope (Arm' e p body) otherwise other others m bounded regular =
        let v = flat_of (env scope) at e m in
        let taken = flat_taken at scope e m bounded regular.0 in
        let below = bounded_above scope (length m.slots) (length v.made.slots) taken.after.grows bounded in
        let held = (plain_row (env scope) body (fresh v.made.slots)).made in
        let holds = scoped_stays c call (row_done scope body (fresh v.made.slots) below regular.1) in
        if_stays c call at scope (is_pure e) m (λ l. eval c at l e) v (λ l. scoped l (exec_row c body l)) otherwise held (other (fresh held.slots)) taken holds
        (others (fresh held.slots) (bounded_above scope (length v.made.slots) (length held.slots) holds.after.grows below))

    branches_alike : {n : _} (at : Place) (scope : List (Local ℕ)) (row : Row_of-Stmt n) (slots : List Slot) → Bounded scope (length slots) → AreRegularBlocks c.program (variables_of scope) row
        → BranchesAlike c call at scope slots (λ l. branches c row l) (plain_branches (env scope) row slots)
    branches_alike at scope end_of-Stmt slots bounded regular = branches_none c call at scope slots
    branches_alike at scope (more_of-Stmt at' kind rest) slots bounded regular =
        let first = done at' scope kind (fresh slots) bounded regular.0 in
        let b = plain (env scope) at' kind (fresh slots) in
        branches_more c call at' at scope slots (exec c at' kind) (λ l. branches c rest l) b (plain_branches (env scope) rest b.made.slots) first
        (branches_alike at scope rest b.made.slots (bounded_above scope (length slots) (length b.made.slots) first.after.grows bounded) regular.1)

    iteration_alike : {n : _} (scope : List (Local ℕ)) (row : Row_of-Stmt n) (slots : List Slot) → Bounded scope (length slots) → IsOne n → AreRegularStatements c.program (variables_of scope) row
        → IterationAlike scope slots (exec_row c row) (plain_iteration (env scope) row slots)
    iteration_alike scope end_of-Stmt slots bounded one regular = absurd one
    iteration_alike scope (more_of-Stmt at kind rest) slots bounded one regular =
        let first = done at scope kind (fresh slots) bounded regular.0 in
        let b = plain (env scope) at kind (fresh slots) in
        record {
          grows = first.after.grows;
          same = λ l s w related long.
              (λ i. caught ((exec c at kind l then_do nothing_runs rest one i) w)) ∙ (λ i. caught (then_do-done (exec c at kind l) i w))
              ∙ branch_alike c call at scope slots (exec c at kind) b first l s related long w;
        }
