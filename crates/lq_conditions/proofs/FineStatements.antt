-- Statements leave states that name templates that are there, and so do their conditions.
use Rattle.std.proofs.Common.{◌≡◌, ℕ, suc, ◌+◌, ◌≤◌, Bool, true, false, ◌&&◌, List, [], ◌∷◌, ◌++◌, length, Option, None, Some, refl, sym, ap, subst, arith}
use Rattle.std.specs.Prelude.{filter, if◌then◌else◌, pos, slice_get}
use Rattle.std.specs.List.{AllByRecursion, range_with_len}
use mathlib.Core.Former.{arity, list, this}
use Rattle.lq_tree.specs.declared.expr.CType.{CType}
use Rattle.lq_tree.specs.declared.plain.PExpr.{PExpr}
use Rattle.lq_tree.specs.declared.plain.PKind.{PKind, Set, Load, Store, Calloc, Call, If', While', Cobegin', Foreach, Print, Return, Row_of-PStmt, end_of-PStmt, more_of-PStmt}
use Rattle.lq_tree.specs.declared.plain.PStmt.{PStmt}
use Rattle.lq_tree.specs.declared.plain.PFunc.{PFunc}
use Rattle.lq_tree.specs.PlainScopes.{is_among}
use Rattle.lq_tree.specs.PlainWalk.{inside, within_row}
use Rattle.lq_text.proofs.Lists.{all_left, all_right}
use Rattle.lq_linear.specs.Form.{Linear, sum_of}
use Rattle.lq_linear.specs.Collect.{constant}
use Rattle.lq_linear.specs.Sides.{at_most, equal}
use Rattle.lq_templates.specs.declared.condition.Given.{Given}
use Rattle.lq_templates.specs.declared.condition.Given.TheVariants.{Of}
use Rattle.lq_templates.specs.declared.condition.Condition.{Condition}
use Rattle.lq_templates.specs.Lives.{list_lives}
use Rattle.lq_templates.specs.Spots.{Spot, join, loop, Walk, changed, where_changed, spot_at, walked, walked_row}
use Rattle.lq_templates.specs.Templates.{spot_templates}
use Rattle.lq_symbolic.specs.declared.value.SymValue.{SymValue}
use Rattle.lq_symbolic.specs.declared.value.SymValue.TheVariants.{Ptr as OfPointer}
use Rattle.lq_symbolic.specs.declared.state.Start.{Start}
use Rattle.lq_symbolic.specs.declared.state.SymState.{SymState as State}
use Rattle.lq_symbolic.specs.State.{form_of, pointer_of, length_of, parts, Valued, value_at, with_items, taken, next_block, new_of}
use Rattle.lq_symbolic.specs.Value.{value, all_values}
use Rattle.lq_symbolic.specs.Assume.{assumed}
use Rattle.lq_heap.specs.Records.{Reached, folded}
use Rattle.lq_conditions.specs.There.{IsNumber, IsThere, AreThere}
use Rattle.lq_ground.specs.Ground.{Ground, slots_of, class_of_slot, fields_of, in_first, in_second, changes, where_any, spot_number, spot_rows, renewed, at_spot, in_scope, argument_values, local_values, post_rows, is_post}
use Rattle.lq_conditions.specs.After.{element_of, opened_at, loads_from, stores_to, with_block, put_into, with_result, called, ends, after, after_row}
use Rattle.lq_conditions.proofs.Numbers.{rows_there, spots_grow, IsOne, a_join, a_loop, one_more}
use Rattle.lq_conditions.proofs.FineStates.{IsFine, taken_fine, items_fine, put_fine, folded_fine, rows_fine, value_fine, all_values_fine, new_of_fine, sum_fine, assumed_fine, renew_fine, open_record_fine, write_field_fine}
use Rattle.lq_conditions.proofs.WalksOn.{Extends, walked_row_on}

-- the pointer through which a statement loads or stores, or which gets a block, has a class with a template
abbrev pub IsSorted : (count : ℕ) → (class_at : ℕ → ℕ) → PKind → Type 0
IsSorted count class_at (Load to base index field) = IsNumber count (class_at base)
IsSorted count class_at (Store base index field e) = IsNumber count (class_at base)
IsSorted count class_at (Calloc to n type) = IsNumber count (class_at to)
IsSorted count class_at _ = Unit {0}

-- how long a list of statements is, and a list of that length
abbrev pub Shape : Type 0
Shape = List (Unit {0})

abbrev pub Rows : Shape → Type 0
Rows n = Row_of-PStmt (arity (list this) n)

-- no slot is among none
none_among : (slots : List ℕ) → filter (is_among []) slots ≡ []
none_among [] = refl
none_among (slot ∷ slots) = none_among slots

module _ (g : Ground) where
  abbrev count : ℕ
  count = length g.templates

  abbrev pub Own : PStmt → Type 0
  Own s = IsSorted count (class_of_slot g) s.kind

  abbrev pub Fine : State → Type 0
  Fine s = IsFine count s

  abbrev pub All : List Condition → Type 0
  All conditions = AllByRecursion (AreThere count) conditions

  -- the templates of these points of the function's text are there
  abbrev pub Fits : List Spot → Type 0
  Fits spots = g.before + length (spot_templates g.env (suc g.scope) spots) ≤ count

  pub fits_front : (front whole : List Spot) → Extends front whole → Fits whole → Fits front
  fits_front front whole h fits =
      omega (arith, spots_grow g.env (suc g.scope) front h.more, ap (λ l. length (spot_templates g.env (suc g.scope) l)) h.split, fits)

  -- ---- the template of an If or a While

  any_there : (slots : List ℕ) (given : Given) → IsThere count given → AllByRecursion (IsThere count) (where_any slots given)
  any_there [] given h = tt
  any_there (slot ∷ slots) given h = (h, tt)

  changed_there : (spot : List ℕ → Spot) (one : (c : List ℕ) → IsOne (spot c)) (ch slots : List ℕ) (w : Walk) (values : List Linear) → Fits (w.spots ++ where_changed spot ch) → AllByRecursion (IsThere count) (where_any (filter (is_among ch) slots) (Of (spot_number g w) values))
  changed_there spot one [] slots w values h =
      subst (λ l. AllByRecursion (IsThere count) (where_any l (Of (spot_number g w) values))) (sym (none_among slots)) tt
  changed_there spot one (n ∷ ch) slots w values h =
      any_there (filter (is_among (n ∷ ch)) slots) (Of (spot_number g w) values)
      (record { from_one = omega arith; within = omega (arith, one_more g.env (suc g.scope) w.spots (spot (n ∷ ch)) (one (n ∷ ch)), h) })

  abbrev all_slots : List ℕ
  all_slots = range_with_len 0 (length (slots_of g))

  pub loop_rows_there : (n : Shape) (head : Rows n) (e : PExpr) (m : Shape) (body : Rows m) (w : Walk) (s : State) → Fits (w.spots ++ spot_at w.scope (While' n head e m body)) → AllByRecursion (IsThere count) (spot_rows g (While' n head e m body) w s)
  loop_rows_there n head e m body w s h =
      changed_there (λ c. loop c w.scope) (λ c. a_loop) (changed w.scope (While' n head e m body)) all_slots w (local_values g w s) h

  pub join_rows_there : (e : PExpr) (n : Shape) (body : Rows n) (m : Shape) (other : Rows m) (w : Walk) (s : State) → (list_lives body && list_lives other) ≡ true → Fits (w.spots ++ spot_at w.scope (If' e n body m other)) → AllByRecursion (IsThere count) (spot_rows g (If' e n body m other) w s)
  join_rows_there e n body m other w s both h =
      let ch = changed w.scope (If' e n body m other) in
      changed_there (λ c. join c w.scope) (λ c. a_join) ch all_slots w (local_values g w s)
      (subst (λ b. Fits (w.spots ++ (if b then where_changed (λ c. join c w.scope) ch else []))) both h)

  pub renewed_fine : (slots : List ℕ) (s : State) → Fine s → Fine (renewed g slots s)
  renewed_fine [] s h = h
  renewed_fine (slot ∷ slots) s h = renewed_fine slots _ (renew_fine count (class_of_slot g slot) slot (slice_get (slots_of g) slot) s h)

  pub at_spot_fine : (kind : PKind) (w : Walk) (s : State) → ((s : State) → AllByRecursion (IsThere count) (spot_rows g kind w s)) → Fine s → Fine (at_spot g kind w s)
  at_spot_fine kind w s rows h =
      let new = renewed g (changes g kind w) s in
      items_fine count (spot_rows g kind w new) new (rows new) (renewed_fine (changes g kind w) s h)

  -- ---- states behind statements

  pub in_scope_fine : (start : Start) (s : State) → Fine s → Fine (in_scope start s)
  in_scope_fine start s h = record { items = h.items; opened = h.opened }

  element_fine : (base : ℕ) (index : Valued) → Fine index.state → Fine (element_of base index).state
  element_fine base index h = sum_fine count (sum_of (pointer_of (value_at index.state base)).offset (form_of index.value)) index.state h

  pub loads_fine : (base : ℕ) (index : PExpr) (s : State) → Fine s → Fine (loads_from base index s).state
  loads_fine base index s h = element_fine base (value index s) (value_fine count index s h)

  pub stores_fine : (base : ℕ) (index e : PExpr) (s : State) → Fine s → Fine (stores_to base index e s).to.state
  stores_fine base index e s h =
      let i = value index s in
      let new = value e i.state in
      element_fine base (record { value = i.value; state = new.state }) (value_fine count e i.state (value_fine count index s h))

  pub opened_at_fine : (base : ℕ) (r : Reached) → IsNumber count (class_of_slot g base) → Fine r.state → Fine (opened_at g base r)
  opened_at_fine base r k h = open_record_fine count (class_of_slot g base) (fields_of g base) r.at r.state k h

  block_fine : (to : ℕ) (n : Valued) → Fine n.state → Fine (with_block g to n)
  block_fine to n h =
      let p = next_block (constant (pos 0)) n.state in
      rows_fine count (at_most (constant (pos 1)) (length_of p) ∷ equal (length_of p) (form_of n.value)) _
      (put_fine count (class_of_slot g to) to (OfPointer p) (taken 1 n.state) (taken_fine count 1 n.state h))

  put_into_fine : (to : Option ℕ) (value : SymValue) (s : State) → Fine s → Fine (put_into g to value s)
  put_into_fine None value s h = h
  put_into_fine (Some to) value s h = put_fine count (class_of_slot g to) to value s h

  result_fine : (to : Option ℕ) (func : ℕ) (callee : PFunc) (type : Option CType) (arguments : List SymValue) (s : State) → Fine s → Fine (with_result g to func callee type arguments s)
  result_fine to func callee None arguments s h = h
  result_fine to func callee (Some type) arguments s h =
      let result = new_of (g.env.class_of func (length callee.slots)) type s in
      let rows = post_rows g func (argument_values callee arguments ++ parts result.value) in
      put_into_fine to result.value (with_items rows result.state)
      (items_fine count rows result.state (rows_there (is_post func) g.templates (argument_values callee arguments ++ parts result.value)) (new_of_fine count (g.env.class_of func (length callee.slots)) type s h))

  called_fine : (to : Option ℕ) (func : ℕ) (callee : Option PFunc) (arguments : List SymValue) (s : State) → Fine s → Fine (called g to func callee arguments s)
  called_fine to func None arguments s h = h
  called_fine to func (Some callee) arguments s h = result_fine to func callee callee.result arguments s h

  pub ends_fine : (low high : PExpr) (s : State) → Fine s → Fine (ends low high s).state
  ends_fine low high s h = value_fine count high (value low s).state (value_fine count low s h)

  choice_fine : (test : Bool) (first second : State) → (test ≡ true → Fine first) → Fine second → Fine (if test then first else second)
  choice_fine true first second h k = h refl
  choice_fine false first second h k = k

  -- where the points inside a statement are there, those in front of its lists are
  abbrev pub If_first : (e : PExpr) (n : Shape) (body : Rows n) (m : Shape) (other : Rows m) (w : Walk) → Type 0
  If_first e n body m other w = Fits (w.spots ++ spot_at w.scope (If' e n body m other)) × Fits (walked_row body (in_first (If' e n body m other) w)).spots

  pub if_fits : (e : PExpr) (n : Shape) (body : Rows n) (m : Shape) (other : Rows m) (w : Walk) → Fits (walked (If' e n body m other) w).spots → If_first e n body m other w
  if_fits e n body m other w h =
      let begun = in_first (If' e n body m other) w in
      let first = in_second (If' e n body m other) body w in
      let inner : Fits first.spots = fits_front first.spots (walked_row other first).spots (walked_row_on other first) h in
      (fits_front begun.spots first.spots (walked_row_on body begun) inner, inner)

  abbrev While_first : (n : Shape) (head : Rows n) (e : PExpr) (m : Shape) (body : Rows m) (w : Walk) → Type 0
  While_first n head e m body w = Fits (w.spots ++ spot_at w.scope (While' n head e m body)) × Fits (walked_row head (in_first (While' n head e m body) w)).spots

  pub while_fits : (n : Shape) (head : Rows n) (e : PExpr) (m : Shape) (body : Rows m) (w : Walk) → Fits (walked (While' n head e m body) w).spots → While_first n head e m body w
  while_fits n head e m body w h =
      let begun = in_first (While' n head e m body) w in
      let first = in_second (While' n head e m body) head w in
      let inner : Fits first.spots = fits_front first.spots (walked_row body first).spots (walked_row_on body first) h in
      (fits_front begun.spots first.spots (walked_row_on head begun) inner, inner)

  mutual
    pub after_fine : (kind : PKind) (w : Walk) (s : State) → IsSorted count (class_of_slot g) kind → AllByRecursion Own (inside kind) → Fits (walked kind w).spots → Fine s → Fine (after g kind w s)
    after_fine (Set to e) w s own all fits h = put_fine count (class_of_slot g to) to (value e s).value (value e s).state (value_fine count e s h)
    after_fine (Load to base index field) w s own all fits h =
        put_fine count (class_of_slot g to) to _ _ (opened_at_fine base (loads_from base index s) own (loads_fine base index s h))
    after_fine (Store base index field e) w s own all fits h =
        write_field_fine count (class_of_slot g base) field (stores_to base index e s).value _ (opened_at_fine base (stores_to base index e s).to own (stores_fine base index e s h))
    after_fine (Calloc to n type) w s own all fits h = block_fine to (value n s) (value_fine count n s h)
    after_fine (Call to function args) w s own all fits h =
        called_fine to function (slice_get g.env.program.funcs function) (all_values args s).values _ (folded_fine count (all_values args s).state (all_values_fine count args s h))
    after_fine (If' e n body m other) w s own all fits h =
        let k = if_fits e n body m other w fits in
        let kind = If' e n body m other in
        choice_fine (list_lives body && list_lives other) (at_spot g kind w (folded s)) _
        (λ both. at_spot_fine kind w (folded s) (λ s. join_rows_there e n body m other w s both k.0) (folded_fine count s h))
        (choice_fine (list_lives body) (after_row g body (in_first kind w) (assumed true e s)) (after_row g other (in_second kind body w) (assumed false e s))
        (λ _. after_row_fine body (in_first kind w) (assumed true e s) (all_left Own (within_row body) (within_row other) all) k.1 (assumed_fine count true e s h))
        (after_row_fine other (in_second kind body w) (assumed false e s) (all_right Own (within_row body) (within_row other) all) fits (assumed_fine count false e s h)))
    after_fine (While' n head e m body) w s own all fits h =
        let k = while_fits n head e m body w fits in
        let kind = While' n head e m body in
        assumed_fine count false e (after_row g head (in_first kind w) (at_spot g kind w (folded s)))
        (after_row_fine head (in_first kind w) (at_spot g kind w (folded s)) (all_left Own (within_row head) (within_row body) all) k.1
        (at_spot_fine kind w (folded s) (λ s. loop_rows_there n head e m body w s k.0) (folded_fine count s h)))
    after_fine (Cobegin' n blocks) w s own all fits h = folded_fine count s h
    after_fine (Foreach index low high step branch) w s own all fits h = folded_fine count (ends low high s).state (ends_fine low high s h)
    after_fine (Print e) w s own all fits h = value_fine count e s h
    after_fine (Return e) w s own all fits h = h

    pub after_row_fine : {n : _} (row : Row_of-PStmt n) (w : Walk) (s : State) → AllByRecursion Own (within_row row) → Fits (walked_row row w).spots → Fine s → Fine (after_row g row w s)
    after_row_fine end_of-PStmt w s all fits h = h
    after_row_fine (more_of-PStmt at kind rest) w s all fits h =
        after_row_fine rest (walked kind w) (after g kind w s) (all_right Own (inside kind) (within_row rest) all.1) fits
        (after_fine kind w s all.0 (all_left Own (inside kind) (within_row rest) all.1) (fits_front (walked kind w).spots (walked_row rest (walked kind w)).spots (walked_row_on rest (walked kind w)) fits) h)
