-- States whose facts and open records name templates that are there.
use Rattle.std.proofs.Common.{ℕ, Bool, true, false, List, [], ◌∷◌, map, Option, None, Some}
use Rattle.std.specs.Prelude.{if◌then◌else◌, ◌==◌, nat_lt, slice_set}
use Rattle.std.specs.List.{AllByRecursion}
use Rattle.lq_tree.specs.declared.plain.PExpr.{PExpr}
use Rattle.lq_tree.specs.declared.plain.Slot.{Slot}
use Rattle.lq_tree.specs.declared.expr.CType.{CType}
use Rattle.lq_text.proofs.Lists.{all_joined}
use Rattle.lq_linear.specs.Row.{Inequality}
use Rattle.lq_linear.specs.Form.{Linear}
use Rattle.lq_linear.specs.declared.item.Item.{Item}
use Rattle.lq_templates.specs.declared.condition.Given.{Given}
use Rattle.lq_templates.specs.declared.condition.Given.TheVariants.{Fixed, Of}
use Rattle.lq_templates.specs.declared.condition.Site.{Site}
use Rattle.lq_templates.specs.declared.condition.Rule.{Rule}
use Rattle.lq_templates.specs.Conditions.{asks}
use Rattle.lq_symbolic.specs.declared.value.SymPtr.{SymPtr}
use Rattle.lq_symbolic.specs.declared.value.SymValue.{SymValue}
use Rattle.lq_symbolic.specs.declared.state.FieldType.{FieldType}
use Rattle.lq_symbolic.specs.declared.state.Opened.{Opened}
use Rattle.lq_symbolic.specs.declared.state.SymState.{SymState as State}
use Rattle.lq_symbolic.specs.State.{all_parts, put, with_items, with_rows, taken, new_of, new_values, renew}
use Rattle.lq_symbolic.specs.Value.{bounded_or_new, value, all_values}
use Rattle.lq_symbolic.specs.Assume.{assumed}
use Rattle.lq_heap.specs.Records.{opened_of, with_opened, is_at, fold_of, fold_all, folded, fold_other, asked_opening, open_new, open_record, with_fields, write_field}
use Rattle.lq_conditions.specs.There.{IsNumber, IsThere, AreThere}
use Rattle.lq_conditions.proofs.Keeping.{with_rows_keeps, new_of_keeps, new_values_keep, bounded_or_new_keeps, value_keeps, all_values_keep, assumed_stays}

module _ (count : ℕ) where
  -- the class of an open record has a template
  abbrev pub IsKnown : Opened → Type 0
  IsKnown o = IsNumber count o.class

  -- a state that names only templates that are there
  pub record IsFine (s : State) : Type 0 where
    pub items : AllByRecursion (IsThere count) s.items
    pub opened : AllByRecursion IsKnown s.opened

  -- ---- states

  pub taken_fine : (n : ℕ) (s : State) → IsFine s → IsFine (taken n s)
  taken_fine n s h = record { items = h.items; opened = h.opened }

  pub items_fine : (items : List Given) (s : State) → AllByRecursion (IsThere count) items → IsFine s → IsFine (with_items items s)
  items_fine items s k h = record { items = all_joined (IsThere count) s.items items h.items k; opened = h.opened }

  item_fine : (item : Item) (s : State) → IsFine s → IsFine (with_items (Fixed item ∷ []) s)
  item_fine item s h = items_fine (Fixed item ∷ []) s (tt, tt) h

  pub put_fine : (class slot : ℕ) (value : SymValue) (s : State) → IsFine s → IsFine (put class slot value s)
  put_fine class slot value s h = record { items = h.items; opened = h.opened }

  pub folded_fine : (s : State) → IsFine s → IsFine (folded s)
  folded_fine s h = record { items = h.items; opened = tt }

  pub rows_fine : (rows : List Inequality) (s : State) → IsFine s → IsFine (with_rows rows s)
  rows_fine = with_rows_keeps IsFine taken_fine item_fine

  pub value_fine : (e : PExpr) (s : State) → IsFine s → IsFine (value e s).state
  value_fine = value_keeps IsFine taken_fine item_fine

  pub all_values_fine : (es : List PExpr) (s : State) → IsFine s → IsFine (all_values es s).state
  all_values_fine = all_values_keep IsFine taken_fine item_fine

  pub new_of_fine : (class : ℕ) (type : CType) (s : State) → IsFine s → IsFine (new_of class type s).state
  new_of_fine = new_of_keeps IsFine taken_fine item_fine

  pub sum_fine : (sum : Linear) (s : State) → IsFine s → IsFine (bounded_or_new sum s).state
  sum_fine = bounded_or_new_keeps IsFine taken_fine item_fine

  pub assumed_fine : (truth : Bool) (e : PExpr) (s : State) → IsFine s → IsFine (assumed truth e s)
  assumed_fine = assumed_stays IsFine taken_fine item_fine

  pub renew_fine : (class slot : ℕ) (declared : Option Slot) (s : State) → IsFine s → IsFine (renew class slot declared s)
  renew_fine class slot None s h = h
  renew_fine class slot (Some declared) s h =
      let new = new_of class declared.ctype s in
      put_fine class slot new.value new.state (new_of_fine class declared.ctype s h)

  -- ---- records

  if_known : (test : Bool) (first second : List Opened) → AllByRecursion IsKnown first → AllByRecursion IsKnown second → AllByRecursion IsKnown (if test then first else second)
  if_known true first second h k = h
  if_known false first second h k = k

  with_opened_known : (o : Opened) (opened : List Opened) → IsKnown o → AllByRecursion IsKnown opened → AllByRecursion IsKnown (with_opened o opened)
  with_opened_known o [] h k = (h, tt)
  with_opened_known o (first ∷ rest) h k =
      if_known (nat_lt first.class o.class) (first ∷ with_opened o rest) _ (k.0, with_opened_known o rest h k.1)
      (if_known (first.class == o.class) (o ∷ rest) (o ∷ first ∷ rest) (h, k.1) (h, k))

  -- an open record that was found is known
  abbrev IsKnownIf : Option Opened → Type 0
  IsKnownIf None = Unit {0}
  IsKnownIf (Some o) = IsKnown o

  if_found : (test : Bool) (o : Opened) (rest : Option Opened) → IsKnown o → IsKnownIf rest → IsKnownIf (if test then Some o else rest)
  if_found true o rest h k = h
  if_found false o rest h k = k

  found_known : (class : ℕ) (opened : List Opened) → AllByRecursion IsKnown opened → IsKnownIf (opened_of class opened)
  found_known class [] h = tt
  found_known class (o ∷ rest) h = if_found (o.class == class) o (opened_of class rest) h.0 (found_known class rest h.1)

  opened_fine : (o : Opened) (s : State) → IsKnown o → IsFine s → IsFine (record s { opened = with_opened o s.opened })
  opened_fine o s k h = record { items = h.items; opened = with_opened_known o s.opened k h.opened }

  open_new_fine : (class : ℕ) (types : List FieldType) (at : SymPtr) (s : State) → IsNumber count class → IsFine s → IsFine (open_new class types at s)
  open_new_fine class types at s k h =
      let fields = new_values types s in
      opened_fine (record { class = class; at = at; fields = fields.values }) (with_items (Of class (all_parts fields.values) ∷ []) fields.state) k
      (items_fine (Of class (all_parts fields.values) ∷ []) fields.state (k, tt) (new_values_keep IsFine taken_fine item_fine types s h))

  if_fine : (test : Bool) (first second : State) → IsFine first → IsFine second → IsFine (if test then first else second)
  if_fine true first second h k = h
  if_fine false first second h k = k

  pub open_record_fine : (class : ℕ) (types : List FieldType) (at : SymPtr) (s : State) → IsNumber count class → IsFine s → IsFine (open_record class types at s)
  open_record_fine class types at s k h = if_fine (is_at at (opened_of class s.opened)) s (open_new class types at s) h (open_new_fine class types at s k h)

  with_fields_known : (class : ℕ) (change : List SymValue → List SymValue) (opened : List Opened) → AllByRecursion IsKnown opened
      → AllByRecursion IsKnown (with_fields class change opened)
  with_fields_known class change [] h = tt
  with_fields_known class change (o ∷ rest) h =
      if_known (o.class == class) (record o { fields = change o.fields } ∷ rest) (o ∷ with_fields class change rest) (h.0, h.1) (h.0, with_fields_known class change rest h.1)

  pub write_field_fine : (class field : ℕ) (value : SymValue) (s : State) → IsFine s → IsFine (write_field class field value s)
  write_field_fine class field value s h =
      record { items = h.items; opened = with_fields_known class (λ fields. slice_set fields field value) s.opened h.opened }

  -- ---- conditions

  pub asks_there : (rule : Rule) (at : Site) (facts : List Given) (goal : Given) → AllByRecursion (IsThere count) facts → IsThere count goal → AreThere count (asks rule at facts goal)
  asks_there rule at facts goal h k = record { facts = h; goals = (k, tt) }

  folds_there : (at : Site) (facts : List Given) (opened : List Opened) → AllByRecursion (IsThere count) facts → AllByRecursion IsKnown opened → AllByRecursion (AreThere count) (map (fold_of at facts) opened)
  folds_there at facts [] h k = tt
  folds_there at facts (o ∷ rest) h k = (asks_there _ at facts (Of o.class (all_parts o.fields)) h k.0, folds_there at facts rest h k.1)

  pub fold_all_there : (at : Site) (s : State) → IsFine s → AllByRecursion (AreThere count) (fold_all at s)
  fold_all_there at s h = folds_there at s.items s.opened h.items h.opened

  if_there : (test : Bool) (first second : List _) → AllByRecursion (AreThere count) first → AllByRecursion (AreThere count) second → AllByRecursion (AreThere count) (if test then first else second)
  if_there true first second h k = h
  if_there false first second h k = k

  fold_other_there : (at : Site) (facts : List Given) (element : SymPtr) (found : Option Opened) → AllByRecursion (IsThere count) facts → IsKnownIf found → AllByRecursion (AreThere count) (fold_other at facts element found)
  fold_other_there at facts element None h k = tt
  fold_other_there at facts element (Some o) h k =
      if_there (is_at element (Some o)) [] (fold_of at facts o ∷ []) tt (asks_there _ at facts (Of o.class (all_parts o.fields)) h k, tt)

  pub asked_opening_there : (at : Site) (class : ℕ) (element : SymPtr) (s : State) → IsFine s → AllByRecursion (AreThere count) (asked_opening at class element s)
  asked_opening_there at class element s h = fold_other_there at s.items element (opened_of class s.opened) h.items (found_known class s.opened h.opened)
