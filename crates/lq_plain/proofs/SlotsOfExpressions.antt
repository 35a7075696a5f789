-- What the statements in front of a flattened expression of a regular source do to slots.
use Rattle.std.proofs.Common.{◌≡◌, ℕ, suc, ℤ, pos, Bool, true, false, not, ◌&&◌, List, [], ◌∷◌, ◌++◌, length, Option, None, ⊎_elim, subst, arith}
use Rattle.std.specs.List.{AllByRecursion}
use Rattle.std.proofs.lemmas.Bool.{cond_both}
use Rattle.lq_tree.specs.declared.place.Place.{Place}
use Rattle.lq_tree.specs.declared.expr.CType.{CType}
use Rattle.lq_tree.specs.declared.expr.Expr.{Expr, Num, Var, Neg', Not', Bin', Index', Deref', Arrow', Dot', Call' as CallExpr', Calloc', Row_of-Expr, end_of-Expr, more_of-Expr}
use Rattle.lq_tree.specs.declared.plain.PExpr.{Num as Number, Slot as InSlot, Neg, Not}
use Rattle.lq_tree.specs.declared.program.Param.{Param}
use Rattle.lq_tree.specs.declared.program.Program.{Program}
use Rattle.lq_tree.specs.Lookup.{function_of, number_of}
use Rattle.lq_tree.specs.Layout.{field_number}
use Rattle.lq_tree.specs.Types.{Ty, is_pointer, element_of, row_type}
use Rattle.lq_tree.specs.Locals.{Local, variables_of}
use Rattle.lq_tree.specs.PlainWalk.{slots_read}
use Rattle.lq_meaning.specs.Control.{Run, give}
use Rattle.lq_meaning.specs.Meaning.{Context as Source}
use Rattle.lq_plain.specs.Flat.{Env, slot_of, type_by, type_of, Made, with_slot, int_type, is_pure_row, stops_early, operator, params_of, first_type, other_params, flatten, flatten_row, operand_row, arguments_row}
use Rattle.lq_plain.specs.Plain.{arguments}
use Rattle.lq_plain.proofs.Regular.{IsRegular, IsRegularPart, AreRegular}
use Rattle.lq_plain.proofs.Related.{there}
use Rattle.lq_plain.proofs.KeptExpressions.{IsSlot, base_slot}
use Rattle.lq_plain.proofs.SlotSets.{In, in_left, in_right}
use Rattle.lq_plain.proofs.SlotsRead.{read-neg, read-not, operator_within}
use Rattle.lq_plain.proofs.SlotsKept.{Below}
use Rattle.lq_plain.proofs.SlotsOfValues.{slots_of, known_name, FlatKept, ValueKept, ValuesKept, below_behind, flat_still, flat_of_value, flat_of_both, atom_kept, operand_kept, wanted_kept, dotted_kept, names_kept, calloc_kept, call_kept, none_kept, more_kept, longer, stopping_kept}

-- a source whose calls come to nothing in particular, for lemmas that take one and look at its program alone
abbrev pub still_source : Program → Source
still_source p = record { program = p; fuel = 0; call = λ at name words. give (pos 0) }

abbrev pub still_call : Place → ℕ → List ℤ → Run ℤ
still_call at number words = give (pos 0)

-- one slot more, which may be assigned
pub opened : (own : List ℕ) (name : Option (List ℕ)) (type : CType) (m : Made) → Below own (length m.slots) → Below (length m.slots ∷ own) (length (with_slot name type m).slots)
opened own name type m below k h =
    let one : length (with_slot name type m).slots ≡ suc (length m.slots) = longer name type m in
    ⊎_elim (λ (e : length m.slots ≡ k). omega arith) (λ mine. omega (arith, below k mine)) h

module _ (p : Program) (result : Ty) (scope : List (Local ℕ)) (at : Place) where
  abbrev env : Env
  env = record { program = p; result = result; scope = scope }

  abbrev known : List ℕ
  known = slots_of scope

  -- a base is a slot
  slot_at : {n : _} (row : Row_of-Expr n) (m : Made) → IsRegularPart p (variables_of scope) row → is_pointer (row_type p (variables_of scope) row) ≡ true → IsSlot (operand_row false env at row m).value
  slot_at row m regular points = base_slot (still_source p) still_call result scope at row m regular points

  mutual
    pub flatten_kept : (own : List ℕ) (e : Expr) (m : Made) → Below own (length m.slots) → IsRegular p (variables_of scope) e → FlatKept own known m (flatten env at e m)
    flatten_kept own (Num n) m below regular = flat_still own known m (Number n) below (λ k none. absurd none)
    flatten_kept own (Var name) m below regular =
        flat_still own known m (InSlot (slot_of env name)) below
        (λ k h. ⊎_elim (λ here. subst (λ j. In j known) here (known_name scope name (there scope name regular))) (λ none. absurd none) h)
    flatten_kept own (Neg' q a) m below regular =
        let v = operand_row (is_pure_row a) env at a m in
        flat_of_value (Neg v.value) (λ k h. in_left k (slots_read v.value) known (subst (In k) (read-neg v.value) h)) (operand_row_kept own (is_pure_row a) a m below regular)
    flatten_kept own (Not' q a) m below regular =
        let v = operand_row (is_pure_row a) env at a m in
        flat_of_value (Not v.value) (λ k h. in_left k (slots_read v.value) known (subst (In k) (read-not v.value) h)) (operand_row_kept own (is_pure_row a) a m below regular)
    flatten_kept own (Bin' op q a r b) m below regular =
        let pure : Bool = is_pure_row a && is_pure_row b in
        cond_both (not pure && stops_early op) _ _ (λ found. FlatKept own known m found)
        (λ _. stopping_kept at own known op m (operand_row true env at a) (operand_row true env at b) below
        (operand_row_kept (length m.slots ∷ own) true a _ (opened own None int_type m below) regular.0)
        (operand_row_kept (length m.slots ∷ own) true b _ (below_behind (operand_row_kept (length m.slots ∷ own) true a _ (opened own None int_type m below) regular.0)) regular.1))
        (λ _.
        let v = operand_row pure env at a m in
        let u = operand_row pure env at b v.made in
        let first = operand_row_kept own pure a m below regular.0 in
        let second = operand_row_kept own pure b v.made (below_behind first) regular.1 in
        flat_of_both (operator (type_by env a) (type_by env b) op v.value u.value)
        (operator_within ((slots_read u.value ++ slots_read v.value) ++ known) v.value u.value
        (λ k h. in_left k (slots_read u.value ++ slots_read v.value) known (in_right k (slots_read u.value) (slots_read v.value) h))
        (λ k h. in_left k (slots_read u.value ++ slots_read v.value) known (in_left k (slots_read u.value) (slots_read v.value) h)) (type_by env a) (type_by env b) op) first second)
    flatten_kept own (Index' q base r i) m below regular =
        let first = operand_row_kept own false base m below regular.0 in
        names_kept at 0 (slot_at base m regular.0 regular.2) first (flatten_row_kept own i (operand_row false env at base m).made (below_behind first) regular.1)
    flatten_kept own (Deref' q base) m below regular =
        let first = operand_row_kept own false base m below regular.0 in
        names_kept at 0 (slot_at base m regular.0 regular.1) first (flat_still own known (operand_row false env at base m).made (Number (pos 0)) (below_behind first) (λ k none. absurd none))
    flatten_kept own (Arrow' q base field) m below regular =
        let first = operand_row_kept own false base m below regular.0 in
        names_kept at (field_number p.structs (element_of (type_by env base)) field) (slot_at base m regular.0 regular.1) first
        (flat_still own known (operand_row false env at base m).made (Number (pos 0)) (below_behind first) (λ k none. absurd none))
    flatten_kept own (Dot' q e field) m below regular = dotted_kept at (field_number p.structs (type_by env e) field) (flatten_row env at e m) (flatten_row_kept own e m below regular.0)
    flatten_kept own (CallExpr' name n args) m below regular =
        call_kept at (number_of p.funcs name) (arguments_row_kept own (params_of (function_of p.funcs name)) args m below regular.0)
    flatten_kept own (Calloc' n count type) m below regular = calloc_kept at type (operand_row_kept own false count m below regular)

    pub flatten_row_kept : {n : _} (own : List ℕ) (row : Row_of-Expr n) (m : Made) → Below own (length m.slots) → IsRegularPart p (variables_of scope) row → FlatKept own known m (flatten_row env at row m)
    flatten_row_kept own end_of-Expr m below regular = absurd regular
    flatten_row_kept own (more_of-Expr e rest) m below regular = flatten_kept own e m below regular

    operand_row_kept : {n : _} (own : List ℕ) (pure : Bool) (row : Row_of-Expr n) (m : Made) → Below own (length m.slots) → IsRegularPart p (variables_of scope) row → ValueKept own known m (operand_row pure env at row m)
    operand_row_kept own pure end_of-Expr m below regular = absurd regular
    operand_row_kept own pure (more_of-Expr e rest) m below regular = operand_kept at pure (type_of env e) (flatten env at e m) (flatten_kept own e m below regular)

    arguments_row_kept : {n : _} (own : List ℕ) (params : List Param) (row : Row_of-Expr n) (m : Made) → Below own (length m.slots) → AreRegular p (variables_of scope) row
        → ValuesKept own known m (arguments_row env at params row m)
    arguments_row_kept own params end_of-Expr m below regular = none_kept at own known m below
    arguments_row_kept own params (more_of-Expr e rest) m below regular =
        let first = atom_kept at (type_of env e) (wanted_kept at (first_type params) e (flatten env at e m) (flatten_kept own e m below regular.0)) in
        more_kept at first (arguments_row_kept own (other_params params) rest _ (below_behind first) regular.1)

  -- the same over a list
  pub arguments_kept : (own : List ℕ) (params : List Param) (args : List Expr) (m : Made) → Below own (length m.slots) → AllByRecursion (IsRegular p (variables_of scope)) args → ValuesKept own known m (arguments env at params args m)
  arguments_kept own params [] m below regular = none_kept at own known m below
  arguments_kept own params (e ∷ args) m below regular =
      let first = atom_kept at (type_of env e) (wanted_kept at (first_type params) e (flatten env at e m) (flatten_kept own e m below regular.0)) in
      more_kept at first (arguments_kept own (other_params params) args _ (below_behind first) regular.1)
