-- What an expression is flattened to comes to what the source comes to.
use Rattle.std.proofs.Common.{◌≡◌, ℕ, ◌≤◌, ℤ, pos, Bool, true, false, cond, not, ◌&&◌, List, [], length, None, refl, sym, ap, subst, true≢false, arith, le_trans}
use Rattle.std.proofs.lemmas.Bool.{and_parts, both_ways, cond_both}
use Rattle.lq_tree.specs.declared.place.Place.{Place}
use Rattle.lq_tree.specs.declared.expr.BinOp.{BinOp}
use Rattle.lq_tree.specs.declared.expr.BinOp.TheVariants.{Add, Sub, Eq, Ne}
use Rattle.lq_tree.specs.declared.expr.Expr.{Expr, Num, Var, Neg', Not', Bin', Index', Deref', Arrow', Dot', Call' as CallExpr', Calloc', Row_of-Expr, end_of-Expr, more_of-Expr}
use Rattle.lq_tree.specs.declared.plain.PExpr.{PExpr, Num as Number, Null, Slot as InSlot}
use Rattle.lq_tree.specs.declared.plain.PKind.{Set}
use Rattle.lq_tree.specs.declared.program.Param.{Param}
use Rattle.lq_tree.specs.Lookup.{function_of, number_of}
use Rattle.lq_tree.specs.Layout.{field_number}
use Rattle.lq_tree.specs.Types.{Ty, is_pointer, element_of, row_type, expression_type, count_row}
use Rattle.lq_tree.specs.Locals.{Local, what_of, variables_of}
use Rattle.lq_meaning.specs.Operators.{Computed, Computes}
use Rattle.lq_meaning.specs.Control.{Run, ◌⨾◌}
use Rattle.lq_meaning.specs.Meaning.{Context as Source, Locals, names, value as found_value, value_of, operated, dotted as found_dotted, word_of, find, find_row, eval_row, eval_args}
use Rattle.lq_meaning.specs.PlainMeaning.{Slots, value}
use Rattle.lq_plain.specs.Flat.{Env, slot_of, type_by, type_of, Made, with_slot, int_type, then_stands, Valued, valued, Flat, Is, Names, Gets, is_atom, atom, in_new_slot, is_pure, is_pure_row, slot_in, stops_early, dotted, is_zero, wanted, at_first, params_of, first_type, other_params, flatten, flatten_row, operand_row, arguments_row}
use Rattle.lq_plain.specs.Places.{is_place}
use Rattle.lq_plain.proofs.Regular.{is_place_row, is_zero_row, AreCompared, Takes, IsRegular, IsRegularPart, AreRegular}
use Rattle.lq_plain.proofs.Related.{same_variables, Bounded, bounded_above, there, slot_below, word_related}
use Rattle.lq_plain.proofs.KeptValues.{AreZeros, zero_is, closed-slot}
use Rattle.lq_plain.proofs.Taken.{Still, one_slot, Evaluated, Flattened, atom_evaluated, operand_evaluated}
use Rattle.lq_plain.proofs.KeptForms.{value_flat, neg_flat, not_flat, binary_flat, stopping_flat, flattened_from, flattened_less, names_flat, IsNames, dotted_names, dotted_flat, calloc_flat, Given, given_none, given_more, call_flat}

-- each call of a function that takes so many arguments comes to the same, by its name and by its number
abbrev pub CallsAgree : Source → (Place → ℕ → List ℤ → Run ℤ) → Type 0
CallsAgree c call =
    (at : Place) (name : List ℕ) (words : List ℤ) → Takes (function_of c.program.funcs name) (length words) → c.call at name words ≡ call at (number_of c.program.funcs name) words

never : false ≡ true → ⊥
never e = true≢false (sym e)

both_not : (b : Bool) → not b ≡ true → b ≡ true → ⊥
both_not true negative positive = never negative
both_not false negative positive = never positive

with_slot-grows : (m : Made) → length m.slots ≤ length (with_slot None int_type m).slots
with_slot-grows m = omega (arith, one_slot None int_type m)

-- a value that is an atom is a slot
abbrev pub IsSlot : PExpr → Type 0
IsSlot e = e ≡ InSlot (slot_in e)

abbrev NotNumber : Flat → Type 0
NotNumber (Is v) = is_atom v.value ≡ true → IsSlot v.value
NotNumber found = Unit {0}

atom_slot : (at : Place) (type : Ty) (found : Flat) → NotNumber found → IsSlot (atom at type found).value
atom_slot at type (Is v) slot = cond_both (is_atom v.value) v (in_new_slot at type (λ to. Set to v.value) v.made) (λ u. IsSlot u.value) slot (λ _. refl)
atom_slot at type (Names base index field) slot = refl
atom_slot at type (Gets kind m) slot = refl

named_slot : (found : Flat) → IsNames found → NotNumber found
named_slot (Is v) named = absurd named
named_slot (Names base index field) named = tt
named_slot (Gets kind m) named = tt

one_no_atom : (b : Bool) (x y : PExpr) → is_atom x ≡ false → is_atom y ≡ false → is_atom (cond b x y) ≡ false
one_no_atom true x y first second = first
one_no_atom false x y first second = second

-- beside a pointer stands a value 0
zeros_beside : {m n : _} (left right : Ty) (op : BinOp) (a : Row_of-Expr m) (b : Row_of-Expr n) (x y : Computed) → (is_zero_row a ≡ true → x ≡ Computes (pos 0)) → (is_zero_row b ≡ true → y ≡ Computes (pos 0))
    → AreCompared op left right a b → AreZeros (is_pointer left) (is_pointer right) op x y
zeros_beside left right Eq a b x y first second compared = (λ pointer. second (compared.0 pointer), λ pointer. first (compared.1 pointer))
zeros_beside left right Ne a b x y first second compared = (λ pointer. second (compared.0 pointer), λ pointer. first (compared.1 pointer))
zeros_beside left right op a b x y first second compared = tt

module _ (c : Source) (call : Place → ℕ → List ℤ → Run ℤ) (result : Ty) (scope : List (Local ℕ)) (at : Place) where
  abbrev pub env : Env
  env = record { program = c.program; result = result; scope = scope }

  zero_row : {n : _} (asked : Bool) (row : Row_of-Expr n) (m : Made) (s : Slots) → is_zero_row row ≡ true → value s (operand_row asked env at row m).value ≡ Computes (pos 0)
  zero_row asked end_of-Expr m s zero_there = absurd (never zero_there)
  zero_row true (more_of-Expr (Num n) rest) m s zero_there = ap Computes (zero_is n zero_there)
  zero_row false (more_of-Expr (Num n) rest) m s zero_there = ap Computes (zero_is n zero_there)
  zero_row asked (more_of-Expr e rest) m s zero_there = absurd (never zero_there)

  -- what is a place is flattened to the name of an element
  mutual
    pub place_named : (e : Expr) (m : Made) → IsRegular c.program (variables_of scope) e → is_place e ≡ true → IsNames (flatten env at e m)
    place_named (Index' p base q i) m regular placed = tt
    place_named (Deref' p base) m regular placed = tt
    place_named (Arrow' p base field) m regular placed = tt
    place_named (Dot' p e field) m regular placed = dotted_names (field_number c.program.structs (type_by env e) field) (flatten_row env at e m) (row_named e m regular.0 regular.1)
    place_named e m regular placed = absurd (never placed)

    row_named : {n : _} (row : Row_of-Expr n) (m : Made) → IsRegularPart c.program (variables_of scope) row → is_place_row row ≡ true → IsNames (flatten_row env at row m)
    row_named end_of-Expr m regular placed = absurd regular
    row_named (more_of-Expr e rest) m regular placed = place_named e m regular placed

  -- a pointer is flattened to no number
  not_number : (e : Expr) (m : Made) → IsRegular c.program (variables_of scope) e → is_pointer (expression_type c.program (variables_of scope) e) ≡ true → NotNumber (flatten env at e m)
  not_number (Num n) m regular points = absurd (never points)
  not_number (Var name) m regular points = λ _. refl
  not_number (Neg' p a) m regular points = absurd (never points)
  not_number (Not' p a) m regular points = absurd (never points)
  not_number (Bin' Add p a q b) m regular points =
      cond_both (not (is_pure_row a && is_pure_row b) && false) _ _ NotNumber (λ _ _. refl)
      (λ _ atomic. absurd (both_ways _ (one_no_atom (is_pointer (type_by env a)) _ _ refl refl) atomic))
  not_number (Bin' Sub p a q b) m regular points =
      cond_both (not (is_pure_row a && is_pure_row b) && false) _ _ NotNumber (λ _ _. refl)
      (λ _ atomic. absurd (both_ways _ (one_no_atom (is_pointer (type_by env a)) _ _ refl refl) atomic))
  not_number (Bin' op p a q b) m regular points = absurd (never points)
  not_number (Index' p base q i) m regular points = tt
  not_number (Deref' p base) m regular points = tt
  not_number (Arrow' p base field) m regular points = tt
  not_number (Dot' p e field) m regular points =
      named_slot (dotted (field_number c.program.structs (type_by env e) field) (flatten_row env at e m))
      (dotted_names (field_number c.program.structs (type_by env e) field) (flatten_row env at e m) (row_named e m regular.0 regular.1))
  not_number (CallExpr' name n args) m regular points = tt
  not_number (Calloc' n count type) m regular points = tt

  -- a base is a slot
  pub base_slot : {n : _} (row : Row_of-Expr n) (m : Made) → IsRegularPart c.program (variables_of scope) row → is_pointer (row_type c.program (variables_of scope) row) ≡ true → IsSlot (operand_row false env at row m).value
  base_slot end_of-Expr m regular points = absurd regular
  base_slot (more_of-Expr e rest) m regular points = atom_slot at (type_of env e) (flatten env at e m) (not_number e m regular points)

  -- the literal 0 as null
  zero_flat : (e : Expr) (m : Made) → is_zero e ≡ true → Flattened c call at scope (is_pure e) m (λ l. find c at l e) (Is (valued Null m))
  zero_flat (Num n) m zero_there = value_flat c call at scope true m Null (λ l. found_value n) (λ old new kept. refl) (λ l s related. ap found_value (zero_is n zero_there))
  zero_flat e m zero_there = absurd (never zero_there)

  pub wanted_flat : (type : Ty) (e : Expr) (m : Made) → Flattened c call at scope (is_pure e) m (λ l. find c at l e) (flatten env at e m)
      → Flattened c call at scope (is_pure e) m (λ l. find c at l e) (wanted type e (flatten env at e m) m)
  wanted_flat type e m flat =
      cond_both (is_pointer type && is_zero e) (Is (valued Null m)) (flatten env at e m) (λ found. Flattened c call at scope (is_pure e) m (λ l. find c at l e) found)
      (λ both. zero_flat e m (and_parts (is_pointer type) (is_zero e) both).1) (λ _. flat)

  eval_row-find : {n : _} (l : Locals) (row : Row_of-Expr n) → eval_row c at l row ≡ (find_row c at l row ⨾ value_of c at)
  eval_row-find l end_of-Expr = refl
  eval_row-find l (more_of-Expr e rest) = refl

  evaluated_less : {asked pure less : Bool} {m : Made} {first : Locals → Slots → Run ℤ} {v : Valued} → (less ≡ true → pure ≡ true) → Evaluated c call at scope asked pure m first v → Evaluated c call at scope asked less m first v
  evaluated_less {asked} {pure} {less} {m} {first} {v} fewer taken =
      record { new = taken.new; after = taken.after; comes = taken.comes; closed = taken.closed; still = still_less asked taken.new v.value taken.still } where
        still_less : (asked : Bool) (new : List _) (e : PExpr) → Still asked pure new e → Still asked less new e
        still_less true new e still = λ is_less. still (fewer is_less)
        still_less false new e still = still

  module _ (calls : CallsAgree c call) where
    mutual
      pub flattened : (e : Expr) (m : Made) → Bounded scope (length m.slots) → IsRegular c.program (variables_of scope) e → Flattened c call at scope (is_pure e) m (λ l. find c at l e) (flatten env at e m)
      flattened (Num n) m bounded regular = value_flat c call at scope true m (Number n) (λ l. found_value n) (λ old new kept. refl) (λ l s related. refl)
      flattened (Var name) m bounded regular =
          let among = there scope name regular in
          value_flat c call at scope true m (InSlot (slot_of env name)) (λ l. found_value (word_of l name)) (closed-slot (length m.slots) (what_of 0 scope name) (slot_below scope (length m.slots) name bounded among))
          (λ l s related. ap found_value (word_related scope l (length m.slots) s name related among).0)
      flattened (Neg' p a) m bounded regular =
          neg_flat c call at scope (is_pure_row a) (is_pure_row a) m (λ l. eval_row c at l a) (operand_row (is_pure_row a) env at a m) (λ e. e) (operand_taken (is_pure_row a) a m bounded regular)
      flattened (Not' p a) m bounded regular =
          not_flat c call at scope (is_pure_row a) (is_pure_row a) m (λ l. eval_row c at l a) (operand_row (is_pure_row a) env at a m) (λ e. e) (operand_taken (is_pure_row a) a m bounded regular)
      flattened (Bin' op p a q b) m bounded regular =
          let pure : Bool = is_pure_row a && is_pure_row b in
          cond_both (not pure && stops_early op) _ _ (λ found. Flattened c call at scope pure m (λ l. operated at (is_pointer (row_type c.program (variables_of l) a)) op (eval_row c at l a) (eval_row c at l b) ⨾ found_value) found)
          (λ early.
          let stops = and_parts (not pure) (stops_early op) early in
          let begin : Made = then_stands at (Set (length m.slots) (Number (at_first op))) (with_slot None int_type m) in
          let first = operand_taken true a begin (bounded_above scope (length m.slots) (length begin.slots) (with_slot-grows m) bounded) regular.0 in
          let left = operand_row true env at a in
          let ask : Made = record { slots = (left begin).made.slots; front = [] } in
          stopping_flat c call at scope op stops.1 pure (is_pure_row a) (is_pure_row b) (λ is. both_not pure stops.0 is) m left (operand_row true env at b) (λ l. eval_row c at l a) (λ l. eval_row c at l b)
          (λ l. is_pointer (row_type c.program (variables_of l) a)) first
          (operand_taken true b ask (bounded_above scope (length m.slots) (length ask.slots) (le_trans (with_slot-grows m) first.after.grows) bounded) regular.1))
          (λ late.
          let v = operand_row pure env at a m in
          let u = operand_row pure env at b v.made in
          let first = operand_taken pure a m bounded regular.0 in
          let second = operand_taken pure b v.made (bounded_above scope (length m.slots) (length v.made.slots) first.after.grows bounded) regular.1 in
          flattened_from c call at scope
          (λ l s related. ap (λ variables. operated at (is_pointer (row_type c.program variables a)) op (eval_row c at l a) (eval_row c at l b) ⨾ found_value) (sym (same_variables scope l (length m.slots) s related)))
          (binary_flat c call at scope (type_by env a) (type_by env b) op m (λ l. eval_row c at l a) (λ l. eval_row c at l b) v u
          (λ s. zeros_beside (type_by env a) (type_by env b) op a b (value s v.value) (value s u.value) (zero_row pure a m s) (zero_row pure b v.made s) regular.2) pure late
          (evaluated_less (λ is. (and_parts (is_pure_row a) (is_pure_row b) is).0) first) (evaluated_less (λ is. (and_parts (is_pure_row a) (is_pure_row b) is).1) second)))
      flattened (Index' p base q i) m bounded regular =
          let v = operand_row false env at base m in
          let first = operand_taken false base m bounded regular.0 in
          flattened_from c call at scope (λ l s related. ap (λ (run : Run ℤ). eval_row c at l base ⨾ λ pointer. run ⨾ λ i. names pointer i 0) (eval_row-find l i))
          (names_flat c call at scope false (is_pure_row base) (is_pure_row i) m (λ l. eval_row c at l base) (λ l. find_row c at l i) v (flatten_row env at i v.made) 0 never (base_slot base m regular.0 regular.2) first
          (flattened_row i v.made (bounded_above scope (length m.slots) (length v.made.slots) first.after.grows bounded) regular.1))
      flattened (Deref' p base) m bounded regular =
          let v = operand_row false env at base m in
          names_flat c call at scope false (is_pure_row base) true m (λ l. eval_row c at l base) (λ l. found_value (pos 0)) v (Is (valued (Number (pos 0)) v.made)) 0 never (base_slot base m regular.0 regular.1)
          (operand_taken false base m bounded regular.0) (value_flat c call at scope true v.made (Number (pos 0)) (λ l. found_value (pos 0)) (λ old new kept. refl) (λ l s related. refl))
      flattened (Arrow' p base field) m bounded regular =
          let v = operand_row false env at base m in
          flattened_from c call at scope
          (λ l s related. ap (λ variables. eval_row c at l base ⨾ λ pointer. names pointer (pos 0) (field_number c.program.structs (element_of (row_type c.program variables base)) field)) (sym (same_variables scope l (length m.slots) s related)))
          (names_flat c call at scope false (is_pure_row base) true m (λ l. eval_row c at l base) (λ l. found_value (pos 0)) v (Is (valued (Number (pos 0)) v.made))
          (field_number c.program.structs (element_of (type_by env base)) field) never (base_slot base m regular.0 regular.1)
          (operand_taken false base m bounded regular.0) (value_flat c call at scope true v.made (Number (pos 0)) (λ l. found_value (pos 0)) (λ old new kept. refl) (λ l s related. refl)))
      flattened (Dot' p e field) m bounded regular =
          flattened_from c call at scope
          (λ l s related. ap (λ variables. find_row c at l e ⨾ found_dotted (field_number c.program.structs (row_type c.program variables e) field)) (sym (same_variables scope l (length m.slots) s related)))
          (dotted_flat c call at scope (is_pure_row e) false m (λ l. find_row c at l e) (field_number c.program.structs (type_by env e) field) (flatten_row env at e m) never (row_named e m regular.0 regular.1)
          (flattened_row e m bounded regular.0))
      flattened (CallExpr' name n args) m bounded regular =
          let given = arguments_row env at (params_of (function_of c.program.funcs name)) args m in
          call_flat c call at scope false (count_row args) m (λ l. eval_args c at l args) given name (number_of c.program.funcs name) never
          (λ words many. calls at name words (subst (Takes (function_of c.program.funcs name)) (sym many) regular.1))
          (arguments_taken (params_of (function_of c.program.funcs name)) args m bounded regular.0)
      flattened (Calloc' n count type) m bounded regular =
          calloc_flat c call at scope false (is_pure_row count) m (λ l. eval_row c at l count) (operand_row false env at count m) type never (operand_taken false count m bounded regular)

      pub flattened_row : {n : _} (row : Row_of-Expr n) (m : Made) → Bounded scope (length m.slots) → IsRegularPart c.program (variables_of scope) row
          → Flattened c call at scope (is_pure_row row) m (λ l. find_row c at l row) (flatten_row env at row m)
      flattened_row end_of-Expr m bounded regular = absurd regular
      flattened_row (more_of-Expr e rest) m bounded regular = flattened_less c call at scope (λ both. (and_parts (is_pure e) (is_pure_row rest) both).0) (flattened e m bounded regular)

      operand_taken : {n : _} (asked : Bool) (row : Row_of-Expr n) (m : Made) → Bounded scope (length m.slots) → IsRegularPart c.program (variables_of scope) row
          → Evaluated c call at scope asked (is_pure_row row) m (λ l s. eval_row c at l row) (operand_row asked env at row m)
      operand_taken asked end_of-Expr m bounded regular = absurd regular
      operand_taken asked (more_of-Expr e rest) m bounded regular =
          evaluated_less (λ both. (and_parts (is_pure e) (is_pure_row rest) both).0) (operand_evaluated c call at scope asked (type_of env e) (flatten env at e m) (flattened e m bounded regular))

      arguments_taken : {n : _} (params : List Param) (row : Row_of-Expr n) (m : Made) → Bounded scope (length m.slots) → AreRegular c.program (variables_of scope) row
          → Given c call at scope (count_row row) m (λ l. eval_args c at l row) (arguments_row env at params row m)
      arguments_taken params end_of-Expr m bounded regular = given_none c call at scope m
      arguments_taken params (more_of-Expr e rest) m bounded regular =
          let v = atom at (type_of env e) (wanted (first_type params) e (flatten env at e m) m) in
          let first = atom_evaluated c call at scope (type_of env e) (wanted_flat (first_type params) e m (flattened e m bounded regular.0)) in
          given_more c call at scope (count_row rest) (is_pure e) m (λ l. find c at l e ⨾ value_of c at) (λ l. eval_args c at l rest) v (arguments_row env at (other_params params) rest v.made) first
          (arguments_taken (other_params params) rest v.made (bounded_above scope (length m.slots) (length v.made.slots) first.after.grows bounded) regular.1)
