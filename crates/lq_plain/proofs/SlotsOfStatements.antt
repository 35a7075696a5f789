-- What the plain statements of a regular source do to slots, where no local from outside is assigned in a parallel statement.
use mathlib.Core.Former.{one_more}
use Rattle.std.proofs.Common.{◌≡◌, ℕ, pos, List, [], ◌∷◌, ◌++◌, length, Option, None, Some, refl, sym, subst, arith}
use Rattle.std.specs.List.{flat_map}
use Rattle.lq_tree.specs.declared.place.Place.{Place}
use Rattle.lq_tree.specs.declared.expr.CType.{CType}
use Rattle.lq_tree.specs.declared.expr.Expr.{Expr}
use Rattle.lq_tree.specs.declared.stmt.StmtKind.{StmtKind, Empty, Block', Local as Declare, Set, Store, Call, If', While', For', Print, Return, Cobegin', Foreach', Row_of-Stmt, end_of-Stmt, more_of-Stmt, Row_of-Arm, end_of-Arm, more_of-Arm, None', Some', Held-StmtKind-If-1}
use Rattle.lq_tree.specs.declared.stmt.Stmt.{Stmt}
use Rattle.lq_tree.specs.declared.stmt.Arm.{Arm, Arm'}
use Rattle.lq_tree.specs.declared.plain.PExpr.{Num}
use Rattle.lq_tree.specs.declared.plain.Slot.{Slot}
use Rattle.lq_tree.specs.declared.program.Program.{Program}
use Rattle.lq_tree.specs.Lookup.{function_of}
use Rattle.lq_tree.specs.Types.{Ty, Number, Variable, declared}
use Rattle.lq_tree.specs.Locals.{Local, type_of_local, variables_of}
use Rattle.lq_tree.specs.PlainWalk.{slots_read}
use Rattle.lq_plain.specs.Flat.{Env, slot_of, type_of, Made, with_slot, int_type, Flat, Is, Names, Gets, operand, is_pure, wanted, params_of, flatten}
use Rattle.lq_plain.specs.Plain.{fresh, flat_of, flat_as, stored, arguments, condition, plain, plain_row, plain_held, plain_arms, plain_arm, plain_branches, plain_iteration, plain_all}
use Rattle.lq_plain.proofs.Regular.{IsRegular, IsRegularOption, variables_behind, variables_behind_row, variables_behind_held, IsRegularStatement, AreRegularStatements, AreRegularBlocks, AreRegularArms, IsRegularArm, IsRegularHeld, IsRegularBody}
use Rattle.lq_plain.proofs.Related.{one_more as one_variable_more}
use Rattle.lq_plain.proofs.KeptForms.{IsNames}
use Rattle.lq_plain.proofs.KeptExpressions.{place_named}
use Rattle.lq_plain.proofs.KeptStatements.{IsOne, scope_behind, held_scope}
use Rattle.lq_plain.proofs.Taken.{after_none}
use Rattle.lq_plain.proofs.Inside.{AssignsInside, AllAssignInside, EachAssignsInside, ArmsAssignInside, ArmAssignsInside, HeldAssignsInside, BodyAssignsInside}
use Rattle.lq_plain.proofs.SlotSets.{in_left, last_within}
use Rattle.lq_plain.proofs.SlotsKept.{Below, kept_none}
use Rattle.lq_plain.proofs.SlotsNested.{Branched, branched_none, branched_more}
use Rattle.lq_plain.proofs.SlotsOfValues.{slots_of, below_more, FlatKept, ValueKept, below_behind, longer, value_still, flat_kept, operand_kept, wanted_kept}
use Rattle.lq_plain.proofs.SlotsOfExpressions.{still_source, still_call, flatten_kept, arguments_kept}
use Rattle.lq_plain.proofs.SlotsOfSteps.{Owns, owns_none, StaysKept, Walked, stays_walked, walked_stays, below_walked, below_stays, stays_behind, walked_on, stays_on, stays_none, fresh_kept, stands_behind, put_kept, empty_kept, assigned_kept, declared_walked, store_kept, arm_kept, loop_kept, blocks_kept, IterationKept, iterations_kept}

-- ---- the variables behind statements

abbrev all_behind : {n : _} → List Variable → Row_of-Stmt n → List Variable
all_behind inner end_of-Stmt = inner
all_behind inner (more_of-Stmt at kind rest) = all_behind (variables_behind inner kind) rest

abbrev held_behind : List Variable → Held-StmtKind-If-1 → List Variable
held_behind inner None' = inner
held_behind inner (Some' q row) = all_behind inner row

nothing_behind : {n : _} (inner : List Variable) (rest : Row_of-Stmt n) → IsOne (one_more n) → all_behind inner rest ≡ inner
nothing_behind inner end_of-Stmt one = refl
nothing_behind inner (more_of-Stmt at kind rest) one = absurd one

one_behind : {n : _} (inner : List Variable) (row : Row_of-Stmt n) → IsOne n → all_behind inner row ≡ variables_behind_row inner row
one_behind inner end_of-Stmt one = absurd one
one_behind inner (more_of-Stmt at kind rest) one = nothing_behind (variables_behind inner kind) rest one

first_behind : (inner : List Variable) (held : Held-StmtKind-If-1) → held_behind inner held ≡ variables_behind_held inner held
first_behind inner None' = refl
first_behind inner (Some' q row) = one_behind inner row tt

longer_below : (own : List ℕ) (name : Option (List ℕ)) (type : CType) (m : Made) → Below own (length m.slots) → Below own (length (with_slot name type m).slots)
longer_below own name type m below = below_more own (length m.slots) (length (with_slot name type m).slots) (omega (arith, longer name type m)) below

module _ (p : Program) (result : Ty) where
  abbrev env : List (Local ℕ) → Env
  env scope = record { program = p; result = result; scope = scope }

  variables_after : (at : Place) (scope : List (Local ℕ)) (kind : StmtKind) (m : Made) → variables_of (plain (env scope) at kind m).scope ≡ variables_behind (variables_of scope) kind
  variables_after at scope kind m = scope_behind (still_source p) still_call result (λ at name words takes. refl) at scope kind m

  variables_held : (scope : List (Local ℕ)) (held : Held-StmtKind-If-1) (m : Made) → variables_of (plain_held (env scope) held m).scope ≡ variables_behind_held (variables_of scope) held
  variables_held scope held m = held_scope (still_source p) still_call result (λ at name words takes. refl) scope held m

  -- ---- expressions of statements

  module _ (at : Place) (scope : List (Local ℕ)) (own : List ℕ) where
    flat_taken : (e : Expr) (m : Made) → Below own (length m.slots) → IsRegular p (variables_of scope) e → ValueKept own (slots_of scope) m (flat_of (env scope) at e m)
    flat_taken e m below regular = flat_kept at (type_of (env scope) e) (flatten (env scope) at e m) (flatten_kept p result scope at own e m below regular)

    as_taken : (type : Ty) (e : Expr) (m : Made) → Below own (length m.slots) → IsRegular p (variables_of scope) e → ValueKept own (slots_of scope) m (flat_as (env scope) at type e m)
    as_taken type e m below regular =
        flat_kept at (type_of (env scope) e) (wanted type e (flatten (env scope) at e m) m) (wanted_kept at type e (flatten (env scope) at e m) (flatten_kept p result scope at own e m below regular))

    word_taken : (type : Ty) (e : Expr) (m : Made) → Below own (length m.slots) → IsRegular p (variables_of scope) e → FlatKept own (slots_of scope) m (wanted type e (flatten (env scope) at e m) m)
    word_taken type e m below regular = wanted_kept at type e (flatten (env scope) at e m) (flatten_kept p result scope at own e m below regular)

    condition_taken : (e : Option Expr) (slots : List Slot) → Below own (length slots) → IsRegularOption p (variables_of scope) e → ValueKept own (slots_of scope) (fresh slots) (condition (env scope) at e slots)
    condition_taken None slots below regular = value_still own (slots_of scope) (fresh slots) (Num (pos 1)) below (λ k none. absurd none)
    condition_taken (Some e) slots below regular = flat_taken e (fresh slots) below regular

    stored_taken : (m : Made) (type : Ty) (e : Expr) (found : Flat) → IsNames found → FlatKept own (slots_of scope) m found → IsRegular p (variables_of scope) e → StaysKept own (slots_of scope) m (stored (env scope) at type e found)
    stored_taken m type e (Is v) named into regular = absurd named
    stored_taken m type e (Gets kind k) named into regular = absurd named
    stored_taken m type e (Names base index field) named into regular =
        store_kept at (is_pure e) (λ k. flat_as (env scope) at type e k) into (λ k below. as_taken type e k below regular)

  mutual
    pub walked : (at : Place) (scope : List (Local ℕ)) (inner : List Variable) (own : List ℕ) (kind : StmtKind) (m : Made) → Below own (length m.slots) → Owns scope inner own → IsRegularStatement p (variables_of scope) kind
        → AssignsInside inner kind → Walked own scope m (variables_behind inner kind) (plain (env scope) at kind m)
    walked at scope inner own Empty m below owns regular inside = stays_walked owns (stays_none own (slots_of scope) m below)
    walked at scope inner own (Block' n body) m below owns regular inside = stays_walked owns (walked_stays (row_walked scope inner own body m below owns regular inside))
    walked at scope inner own (Declare type name None) m below owns regular inside =
        declared_walked at inner m name type owns below (empty_kept at (length m.slots) (declared type) (longer_below own (Some name) type m below))
    walked at scope inner own (Declare type name (Some e)) m below owns regular inside =
        let k = with_slot (Some name) type m in
        declared_walked at inner m name type owns below
        (put_kept at (length m.slots) (wanted (declared type) e (flatten (env scope) at e k) k) (word_taken at scope own (declared type) e k (longer_below own (Some name) type m below) regular))
    walked at scope inner own (Set name e) m below owns regular inside =
        stays_walked owns
        (assigned_kept at (owns name inside)
        (put_kept at (slot_of (env scope) name) (wanted (type_of_local scope name) e (flatten (env scope) at e m) m) (word_taken at scope own (type_of_local scope name) e m below regular.1)))
    walked at scope inner own (Store into e) m below owns regular inside =
        stays_walked owns
        (stored_taken at scope own m (type_of (env scope) into) e (flatten (env scope) at into m) (place_named (still_source p) still_call result scope at into m regular.0 regular.1)
        (flatten_kept p result scope at own into m below regular.0) regular.2)
    walked at scope inner own (Call name args) m below owns regular inside =
        let params = params_of (function_of p.funcs name) in
        let given = arguments (env scope) at params args m in
        let taken = arguments_kept p result scope at own params args m below regular.0 in
        stays_walked owns
        (stands_behind at taken.after taken.kept (record { walks = λ o r. refl; assigns = refl; no_index = refl; no_parts = refl }) (λ k none. absurd none)
        (λ k h. in_left k (flat_map slots_read given.values) (slots_of scope) h))
    walked at scope inner own (If' n arms other) m below owns regular inside =
        stays_walked owns
        (arms_walked at scope inner own arms (λ k. (plain_held (env scope) other k).made) (λ k fits. walked_stays (held_walked scope inner own other k fits owns regular.1 inside.1)) m below owns regular.0 inside.0)
    walked at scope inner own (While' e q body) m below owns regular inside =
        let v = condition (env scope) at (Some e) m.slots in
        let test = condition_taken at scope own (Some e) m.slots below regular.0 in
        stays_walked owns (loop_kept at test (walked_stays (row_walked scope inner own body (fresh v.made.slots) (below_behind test) owns regular.1 inside)))
    walked at scope inner own (For' first e third q body) m below owns regular inside =
        let opened = plain_held (env scope) first m in
        let opens = held_walked scope inner own first m below owns regular.0 inside.0 in
        let next = opens.next in
        let variables : variables_behind_held (variables_of scope) first ≡ variables_of opened.scope = sym (variables_held scope first m) in
        let known : Owns opened.scope (variables_behind_held inner first) next = subst (λ (vs : List Variable). Owns opened.scope vs next) (first_behind inner first) opens.owns in
        let v = condition (env opened.scope) at e opened.made.slots in
        let test = condition_taken at opened.scope next e opened.made.slots (below_walked opens) (subst (λ (vs : List Variable). IsRegularOption p vs e) variables regular.1) in
        let turn = walked_stays (row_walked opened.scope (variables_behind_held inner first) next body (fresh v.made.slots) (below_behind test) known
        (subst (λ (vs : List Variable). AreRegularStatements p vs body) variables regular.3) inside.2) in
        let k = (plain_row (env opened.scope) body (fresh v.made.slots)).made in
        let ends = walked_stays (held_walked opened.scope (variables_behind_held inner first) next third k (below_stays turn) known
        (subst (λ (vs : List Variable). IsRegularHeld p vs third) variables regular.2) inside.1) in
        stays_walked owns (stays_behind opens (loop_kept at test (stays_on turn ends)))
    walked at scope inner own (Print e) m below owns regular inside =
        let v = flat_of (env scope) at e m in
        let taken = flat_taken at scope own e m below regular in
        stays_walked owns
        (stands_behind at taken.after taken.kept (record { walks = λ o r. refl; assigns = refl; no_index = refl; no_parts = refl }) (λ k none. absurd none)
        (last_within (slots_read v.value) (slots_read v.value ++ slots_of scope) (λ k h. in_left k (slots_read v.value) (slots_of scope) h)))
    walked at scope inner own (Return None) m below owns regular inside =
        stays_walked owns
        (stands_behind at (after_none m) (kept_none own (length m.slots) (slots_of scope) below) (record { walks = λ o r. refl; assigns = refl; no_index = refl; no_parts = refl }) (λ k none. absurd none) (λ k none. absurd none))
    walked at scope inner own (Return (Some e)) m below owns regular inside =
        let v = flat_as (env scope) at result e m in
        let taken = as_taken at scope own result e m below regular in
        stays_walked owns
        (stands_behind at taken.after taken.kept (record { walks = λ o r. refl; assigns = refl; no_index = refl; no_parts = refl }) (λ k none. absurd none)
        (last_within (slots_read v.value) (slots_read v.value ++ slots_of scope) (λ k h. in_left k (slots_read v.value) (slots_of scope) h)))
    walked at scope inner own (Cobegin' n blocks) m below owns regular inside =
        let all = plain_branches (env scope) blocks m.slots in
        stays_walked owns (blocks_kept at all.list all.slots below (branches_walked scope blocks m.slots regular inside))
    walked at scope inner own (Foreach' index low high step q body) m below owns regular inside =
        let k = with_slot (Some index) int_type m in
        let from = operand (is_pure high) at Number (flatten (env scope) at low k) in
        let first = operand_kept at (is_pure high) Number (flatten (env scope) at low k) (flatten_kept p result scope at own low k (longer_below own (Some index) int_type m below) regular.0) in
        let to = flat_of (env scope) at high from.made in
        let second = flat_taken at scope own high from.made (below_behind first) regular.1 in
        let one : Local ℕ = record { name = index; type = Number; what = length m.slots } in
        stays_walked owns
        (iterations_kept at m (Some index) step below first second
        (iteration_walked (one ∷ scope) body to.made.slots (subst (λ (vs : List Variable). AreRegularStatements p vs body) (sym (one_variable_more one scope)) regular.2) inside))

    -- one statement after another
    row_walked : {n : _} (scope : List (Local ℕ)) (inner : List Variable) (own : List ℕ) (row : Row_of-Stmt n) (m : Made) → Below own (length m.slots) → Owns scope inner own → AreRegularStatements p (variables_of scope) row
        → AllAssignInside inner row → Walked own scope m (all_behind inner row) (plain_row (env scope) row m)
    row_walked scope inner own end_of-Stmt m below owns regular inside = stays_walked owns (stays_none own (slots_of scope) m below)
    row_walked scope inner own (more_of-Stmt at kind rest) m below owns regular inside =
        let b = plain (env scope) at kind m in
        let first = walked at scope inner own kind m below owns regular.0 inside.0 in
        walked_on first (row_walked b.scope (variables_behind inner kind) first.next rest b.made (below_walked first) first.owns
        (subst (λ (vs : List Variable). AreRegularStatements p vs rest) (sym (variables_after at scope kind m)) regular.1) inside.1)

    -- a statement that may be missing
    held_walked : (scope : List (Local ℕ)) (inner : List Variable) (own : List ℕ) (held : Held-StmtKind-If-1) (m : Made) → Below own (length m.slots) → Owns scope inner own → IsRegularHeld p (variables_of scope) held
        → HeldAssignsInside inner held → Walked own scope m (held_behind inner held) (plain_held (env scope) held m)
    held_walked scope inner own None' m below owns regular inside = stays_walked owns (stays_none own (slots_of scope) m below)
    held_walked scope inner own (Some' q row) m below owns regular inside = row_walked scope inner own row m below owns regular inside

    -- the arms of an `if`
    arms_walked : {n : _} (at : Place) (scope : List (Local ℕ)) (inner : List Variable) (own : List ℕ) (row : Row_of-Arm n) (otherwise : Made → Made)
        → ((k : Made) → Below own (length k.slots) → StaysKept own (slots_of scope) k (otherwise k)) → (m : Made) → Below own (length m.slots) → Owns scope inner own → AreRegularArms p (variables_of scope) row
        → ArmsAssignInside inner row → StaysKept own (slots_of scope) m (plain_arms (env scope) at row otherwise m)
    arms_walked at scope inner own end_of-Arm otherwise others m below owns regular inside = others m below
    arms_walked at scope inner own (more_of-Arm arm rest) otherwise others m below owns regular inside =
        arm_walked at scope inner own arm (plain_arms (env scope) at rest otherwise) (λ k fits. arms_walked at scope inner own rest otherwise others k fits owns regular.1 inside.1) m below owns regular.0 inside.0

    arm_walked : (at : Place) (scope : List (Local ℕ)) (inner : List Variable) (own : List ℕ) (arm : Arm) (otherwise : Made → Made)
        → ((k : Made) → Below own (length k.slots) → StaysKept own (slots_of scope) k (otherwise k)) → (m : Made) → Below own (length m.slots) → Owns scope inner own → IsRegularArm p (variables_of scope) arm
        → ArmAssignsInside inner arm → StaysKept own (slots_of scope) m (plain_arm (env scope) at arm otherwise m)
    arm_walked at scope inner own (Arm' e q body) otherwise others m below owns regular inside =
        let v = flat_of (env scope) at e m in
        let test = flat_taken at scope own e m below regular.0 in
        let held = (plain_row (env scope) body (fresh v.made.slots)).made in
        let holds = walked_stays (row_walked scope inner own body (fresh v.made.slots) (below_behind test) owns regular.1 inside) in
        arm_kept at test holds (others (fresh held.slots) (below_stays holds))

    -- the blocks of a `cobegin`
    branches_walked : {n : _} (scope : List (Local ℕ)) (row : Row_of-Stmt n) (slots : List Slot) → AreRegularBlocks p (variables_of scope) row → EachAssignsInside [] row
        → Branched (length slots) (length (plain_branches (env scope) row slots).slots) (slots_of scope) (plain_branches (env scope) row slots).list
    branches_walked scope end_of-Stmt slots regular inside = branched_none (length slots) (slots_of scope)
    branches_walked scope (more_of-Stmt at kind rest) slots regular inside =
        let first = walked_stays (walked at scope [] [] kind (fresh slots) (λ k none. absurd none) (owns_none scope []) regular.0 inside.0) in
        branched_more at (fresh_kept first) (branches_walked scope rest (plain (env scope) at kind (fresh slots)).made.slots regular.1 inside.1)

    -- the block of a `foreach`
    iteration_walked : {n : _} (scope : List (Local ℕ)) (row : Row_of-Stmt n) (slots : List Slot) → AreRegularStatements p (variables_of scope) row → AllAssignInside [] row
        → IterationKept (length slots) (slots_of scope) (plain_iteration (env scope) row slots)
    iteration_walked scope end_of-Stmt slots regular inside =
        record { place = record { line = 1; col = 1 }; body = []; gained = []; kept = kept_none [] (length slots) (slots_of scope) (λ k none. absurd none); is = refl }
    iteration_walked scope (more_of-Stmt at kind rest) slots regular inside =
        let first = walked_stays (walked at scope [] [] kind (fresh slots) (λ k none. absurd none) (owns_none scope []) regular.0 inside.0) in
        record { place = at; body = (plain (env scope) at kind (fresh slots)).made.front; gained = []; kept = fresh_kept first; is = refl }

  -- the body of a function
  pub body_kept : (scope : List (Local ℕ)) (inner : List Variable) (own : List ℕ) (body : List Stmt) (m : Made) → Below own (length m.slots) → Owns scope inner own → IsRegularBody p (variables_of scope) body
      → BodyAssignsInside inner body → StaysKept own (slots_of scope) m (plain_all (env scope) body m)
  body_kept scope inner own [] m below owns regular inside = stays_none own (slots_of scope) m below
  body_kept scope inner own (s ∷ body) m below owns regular inside =
      let b = plain (env scope) s.at s.kind m in
      let first = walked s.at scope inner own s.kind m below owns regular.0 inside.0 in
      stays_behind first (body_kept b.scope (variables_behind inner s.kind) first.next body b.made (below_walked first) first.owns
      (subst (λ (vs : List Variable). IsRegularBody p vs body) (sym (variables_after s.at scope s.kind m)) regular.1) inside.1)
