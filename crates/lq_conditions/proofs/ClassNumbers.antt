-- The class of each pointer variable is at most the number of record templates.
use Rattle.std.proofs.Common.{◌≡◌, ◌≢◌, ℕ, zero, suc, ◌+◌, ◌<◌, ◌≤◌, Bool, true, false, not, List, [], ◌∷◌, ◌++◌, map, length, Option, None, Some, inl, inr, refl, sym, ap, subst, ◌∙◌, append_assoc, arith}
use Rattle.std.specs.Prelude.{◌&&◌, ◌==◌, nat_lt, if◌then◌else◌, IsTrue, slice_get, slice_index}
use Rattle.std.specs.List.{AllByRecursion, concat}
use Rattle.std.proofs.lemmas.Bool.{cases_Bool, cases_eq, eq-eqb, ne_eqb, ltb-true, true≢false}
use Rattle.lq_tree.specs.declared.expr.Base.TheVariants.{Int, Struct}
use Rattle.lq_tree.specs.declared.expr.Base.{Base}
use Rattle.lq_tree.specs.declared.expr.CType.{CType}
use Rattle.lq_tree.specs.declared.plain.Slot.{Slot}
use Rattle.lq_tree.specs.declared.plain.PFunc.{PFunc}
use Rattle.lq_tree.specs.Types.{declared, is_pointer, result_of}
use Rattle.lq_classes.specs.Classes.{are_in_order, number_in}
use Rattle.lq_templates.specs.Classes.{ClassOf, Variable, pointer, slot_variables, result_variable, variables, first_variables}

-- the classes of variables
abbrev pub classes_of : ClassOf → List Variable → List ℕ
classes_of class_of vars = map (λ (v : Variable). class_of v.function v.slot) vars

-- ---- what comes in order is at most the number of what is first

below_and : (low : Bool) (rest : Bool) → IsTrue (low && rest) → (low ≡ true) × IsTrue rest
below_and true rest h = (refl, h)
below_and false rest h = absurd (true≢false (sym h))

-- a number that isn't the next has been met
met_before : (met x : ℕ) (rest : List ℕ) → x ≢ suc met → IsTrue (are_in_order met (x ∷ rest)) → (x ≤ met) × IsTrue (are_in_order met rest)
met_before met zero rest ne h = (omega arith, h)
met_before met (suc n) rest ne h =
    let at_n : are_in_order met (suc n ∷ rest) ≡ (nat_lt n met && are_in_order met rest) =
    ap (λ b. if b then are_in_order (suc met) rest else (nat_lt n met && are_in_order met rest)) (ne_eqb n met (λ e. ne (ap suc e))) in
    let both = below_and (nat_lt n met) (are_in_order met rest) (subst IsTrue at_n h) in
    let low : n < met = ltb-true n met both.0 in
    (omega (arith, low), both.1)

met_next : (met : ℕ) (rest : List ℕ) → IsTrue (are_in_order met (suc met ∷ rest)) → IsTrue (are_in_order (suc met) rest)
met_next met rest h = subst IsTrue (ap (λ b. if b then are_in_order (suc met) rest else (nat_lt met met && are_in_order met rest)) (eq-eqb met met refl)) h

module _ (class_of : ClassOf) where
  abbrev pub IsAtMost : ℕ → Variable → Type 0
  IsAtMost most v = class_of v.function v.slot ≤ most

  more_at_most : (few many : ℕ) → few ≤ many → (vars : List Variable) → AllByRecursion (IsAtMost few) vars → AllByRecursion (IsAtMost many) vars
  more_at_most few many h [] k = tt
  more_at_most few many h (v ∷ vars) k = (let low = k.0 in omega (arith, low, h), more_at_most few many h vars k.1)

  pub at_most_first : (met : ℕ) (vars : List Variable) → IsTrue (are_in_order met (classes_of class_of vars)) → AllByRecursion (IsAtMost (met + length (first_variables class_of (suc met) vars))) vars
  at_most_first met [] h = tt
  at_most_first met (v ∷ vars) h =
      let x = class_of v.function v.slot in
      elim (cases_eq x (suc met)) [
        | inl e ↦
            let firsts : first_variables class_of (suc met) (v ∷ vars) ≡ v ∷ first_variables class_of (suc (suc met)) vars =
            ap (λ b. if b then v ∷ first_variables class_of (suc (suc met)) vars else first_variables class_of (suc met) vars) (eq-eqb x (suc met) e) in
            let later = at_most_first (suc met) vars (met_next met (classes_of class_of vars) (subst (λ n. IsTrue (are_in_order met (n ∷ classes_of class_of vars))) e h)) in
            let size : length (first_variables class_of (suc met) (v ∷ vars)) ≡ suc (length (first_variables class_of (suc (suc met)) vars)) = ap length firsts in
            (omega (arith, e, size), more_at_most _ _ (omega (arith, size)) vars later)
        | inr ne ↦
            let firsts : first_variables class_of (suc met) (v ∷ vars) ≡ first_variables class_of (suc met) vars =
            ap (λ b. if b then v ∷ first_variables class_of (suc (suc met)) vars else first_variables class_of (suc met) vars) (ne_eqb x (suc met) ne) in
            let split = met_before met x (classes_of class_of vars) ne h in
            let later = at_most_first met vars split.1 in
            let size : length (first_variables class_of (suc met) (v ∷ vars)) ≡ length (first_variables class_of (suc met) vars) = ap length firsts in
            let low = split.0 in
            (omega (arith, low, size), more_at_most _ _ (omega (arith, size)) vars later)
      ]

-- ---- the variables of a program, in the order of the numbers of its slots and results

-- a pointer has a star
starred : (base : Base) (stars : ℕ) → (stars == 0) ≡ not (is_pointer (declared (record { base = base; stars = stars })))
starred Int zero = refl
starred (Struct name) zero = refl
starred Int (suc n) = ne_eqb (suc n) 0 (λ e. absurd (omega (arith, e)))
starred (Struct name) (suc n) = ne_eqb (suc n) 0 (λ e. absurd (omega (arith, e)))

abbrev pub variable_of : ℕ → ℕ → CType → Variable
variable_of function slot type = record { function = function; slot = slot; type = type }

pub is_a_variable : (function slot : ℕ) (type : CType) → is_pointer (declared type) ≡ true → pointer function slot type ≡ variable_of function slot type ∷ []
is_a_variable function slot type h =
    ap (λ b. if b then [] else variable_of function slot type ∷ []) (starred type.base type.stars ∙ ap not h)

is_no_variable : (function slot : ℕ) (type : CType) → is_pointer (declared type) ≡ false → pointer function slot type ≡ []
is_no_variable function slot type h =
    ap (λ b. if b then [] else variable_of function slot type ∷ []) (starred type.base type.stars ∙ ap not h)

-- whether the slot with this number is a pointer, or, behind the slots, the result
abbrev pub holds_pointer : List Slot → Option CType → ℕ → Bool
holds_pointer [] result zero = is_pointer (result_of result)
holds_pointer [] result (suc n) = false
holds_pointer (s ∷ slots) result zero = is_pointer (declared s.ctype)
holds_pointer (s ∷ slots) result (suc n) = holds_pointer slots result n

-- a row has the classes of these slots and the result, from this slot on, and 0 for what is no pointer
record IsRowOf (class_of : ClassOf) (function slot : ℕ) (slots : List Slot) (result : Option CType) (row : List ℕ) : Type 0 where
  pub same : (k at : ℕ) → at ≡ slot + k → slice_index row k ≡ class_of function at
  pub pointers : (k : ℕ) → holds_pointer slots result k ≡ true → slice_index row k ≢ 0
  pub others : (k : ℕ) → holds_pointer slots result k ≡ false → slice_index row k ≡ 0

-- in order at the front of what is in order there
abbrev InOrder : ℕ → List ℕ → Type 0
InOrder met numbers = are_in_order met numbers ≡ true

abbrev Carries : List ℕ → List ℕ → Type 0
Carries long short = (met : ℕ) → InOrder met long → InOrder met short

carries_over : (n : ℕ) (long short : List ℕ) → Carries long short → Carries (n ∷ long) (n ∷ short)
carries_over zero long short h met k = h met k
carries_over (suc n) long short h met k = elim (cases_eq n met) [
  | inl e ↦
      ap (λ b. if b then are_in_order (suc met) short else (nat_lt n met && are_in_order met short)) (eq-eqb n met e)
      ∙ h (suc met) (sym (ap (λ b. if b then are_in_order (suc met) long else (nat_lt n met && are_in_order met long)) (eq-eqb n met e)) ∙ k)
  | inr ne ↦
      let at_long : (nat_lt n met && are_in_order met long) ≡ true = sym (ap (λ b. if b then are_in_order (suc met) long else (nat_lt n met && are_in_order met long)) (ne_eqb n met ne)) ∙ k in
      let both = below_and (nat_lt n met) (are_in_order met long) at_long in
      ap (λ b. if b then are_in_order (suc met) short else (nat_lt n met && are_in_order met short)) (ne_eqb n met ne)
      ∙ ap (λ b. b && are_in_order met short) both.0 ∙ h met both.1
]

zeros_carry : (row rest short : List ℕ) → ((k : ℕ) → slice_index row k ≡ 0) → Carries rest short → Carries (row ++ rest) short
zeros_carry [] rest short zero_at h = h
zeros_carry (x ∷ row) rest short zero_at h = λ met k. zeros_carry row rest short (λ k. zero_at (suc k)) h met (subst (λ n. InOrder met (n ∷ row ++ rest)) (zero_at 0) k)

classes_joined : (class_of : ClassOf) (front back : List Variable) → classes_of class_of (front ++ back) ≡ classes_of class_of front ++ classes_of class_of back
classes_joined class_of [] back = refl
classes_joined class_of (v ∷ front) back = ap (λ l. class_of v.function v.slot ∷ l) (classes_joined class_of front back)

module _ (class_of : ClassOf) (function : ℕ) where
  -- one slot or result more
  one_more_class : (slot : ℕ) (type : CType) (x : ℕ) (long short : List ℕ) → x ≡ class_of function slot → (is_pointer (declared type) ≡ true → x ≢ 0) → (is_pointer (declared type) ≡ false → x ≡ 0)
      → Carries long short → Carries (x ∷ long) (classes_of class_of (pointer function slot type) ++ short)
  one_more_class slot type x long short e some none h = elim (cases_Bool (is_pointer (declared type))) [
    | inl is ↦ subst (λ l. Carries (x ∷ long) (classes_of class_of l ++ short)) (sym (is_a_variable function slot type is))
        (subst (λ n. Carries (x ∷ long) (n ∷ short)) e (carries_over x long short h))
    | inr isnt ↦ subst (λ l. Carries (x ∷ long) (classes_of class_of l ++ short)) (sym (is_no_variable function slot type isnt))
        (λ met k. h met (subst (λ n. InOrder met (n ∷ long)) (none isnt) k))
  ]

  no_result : (k : ℕ) → holds_pointer [] None k ≡ false
  no_result zero = refl
  no_result (suc k) = refl

  result_carries : (slot : ℕ) (result : Option CType) (row rest short : List ℕ) → IsRowOf class_of function slot [] result row → Carries rest short
      → Carries (row ++ rest) (classes_of class_of (result_variable function slot result) ++ short)
  result_carries slot None row rest short r h = zeros_carry row rest short (λ k. r.others k (no_result k)) h
  result_carries slot (Some type) [] rest short r h =
      let no : is_pointer (declared type) ≡ false = elim (cases_Bool (is_pointer (declared type))) [ inl is ↦ absurd (r.pointers 0 is refl) | inr isnt ↦ isnt ] in
      subst (λ l. Carries rest (classes_of class_of l ++ short)) (sym (is_no_variable function slot type no)) h
  result_carries slot (Some type) (x ∷ row) rest short r h =
      one_more_class slot type x (row ++ rest) short (r.same 0 slot (omega arith)) (r.pointers 0) (r.others 0) (zeros_carry row rest short (λ k. r.others (suc k) refl) h)

  slots_carry : (slots : List Slot) (slot last : ℕ) (result : Option CType) (row rest short : List ℕ) → last ≡ slot + length slots → IsRowOf class_of function slot slots result row → Carries rest short
      → Carries (row ++ rest) (classes_of class_of (slot_variables function slot slots) ++ (classes_of class_of (result_variable function last result) ++ short))
  slots_carry [] slot last result row rest short e r h =
      subst (λ n. Carries (row ++ rest) (classes_of class_of (result_variable function n result) ++ short)) (omega (arith, e)) (result_carries slot result row rest short r h)
  slots_carry (s ∷ slots) slot last result [] rest short e r h =
      let no : is_pointer (declared s.ctype) ≡ false = elim (cases_Bool (is_pointer (declared s.ctype))) [ inl is ↦ absurd (r.pointers 0 is refl) | inr isnt ↦ isnt ] in
      let later : IsRowOf class_of function (suc slot) slots result [] = record {
        same = λ k at is. r.same (suc k) at (omega (arith, is));
        pointers = λ k is. r.pointers (suc k) is;
        others = λ k none. refl;
      } in
      let more = slots_carry slots (suc slot) last result [] rest short (omega (arith, e)) later h in
      subst (λ l. Carries rest (classes_of class_of (l ++ slot_variables function (suc slot) slots) ++ (classes_of class_of (result_variable function last result) ++ short)))
      (sym (is_no_variable function slot s.ctype no)) more
  slots_carry (s ∷ slots) slot last result (x ∷ row) rest short e r h =
      let later : IsRowOf class_of function (suc slot) slots result row = record {
        same = λ k at is. r.same (suc k) at (omega (arith, is));
        pointers = λ k is. r.pointers (suc k) is;
        others = λ k none. r.others (suc k) none;
      } in
      let more = slots_carry slots (suc slot) last result row rest short (omega (arith, e)) later h in
      let here = pointer function slot s.ctype in
      let later_slots = slot_variables function (suc slot) slots in
      let tail = classes_of class_of (result_variable function last result) ++ short in
      subst (Carries (x ∷ row ++ rest)) (sym (append_assoc (classes_of class_of here) (classes_of class_of later_slots) tail) ∙ ap (λ l. l ++ tail) (sym (classes_joined class_of here later_slots)))
      (one_more_class slot s.ctype x (row ++ rest) (classes_of class_of later_slots ++ tail) (r.same 0 slot (omega arith)) (r.pointers 0) (r.others 0) more)

-- the rows of the functions from this number on have their classes
pub record AreRowsOf (class_of : ClassOf) (number : ℕ) (funcs : List PFunc) (rows : List (List ℕ)) : Type 0 where
  pub same : (k at slot : ℕ) → at ≡ number + k → number_in (slice_get rows k) slot ≡ class_of at slot
  pub pointers : (k : ℕ) (f : PFunc) → slice_get funcs k ≡ Some f → (slot : ℕ) → holds_pointer f.slots f.result slot ≡ true → number_in (slice_get rows k) slot ≢ 0
  pub others : (k : ℕ) (f : PFunc) → slice_get funcs k ≡ Some f → (slot : ℕ) → holds_pointer f.slots f.result slot ≡ false → number_in (slice_get rows k) slot ≡ 0

module _ (class_of : ClassOf) where
  row_of_first : (number : ℕ) (f : PFunc) (funcs : List PFunc) (rows : List (List ℕ)) (row : List ℕ) → ((slot : ℕ) → number_in (slice_get rows 0) slot ≡ slice_index row slot) → AreRowsOf class_of number (f ∷ funcs) rows → IsRowOf class_of number 0 f.slots f.result row
  row_of_first number f funcs rows row first r = record {
    same = λ k at is. sym (first k) ∙ r.same 0 number k (omega arith) ∙ ap (class_of number) (omega (arith, is));
    pointers = λ k is e. r.pointers 0 f refl k is (first k ∙ e);
    others = λ k isnt. sym (first k) ∙ r.others 0 f refl k isnt;
  }

  function_carries : (number : ℕ) (f : PFunc) (funcs : List PFunc) (row rest : List ℕ) → IsRowOf class_of number 0 f.slots f.result row → Carries rest (classes_of class_of (variables (suc number) funcs)) → Carries (row ++ rest) (classes_of class_of (variables number (f ∷ funcs)))
  function_carries number f funcs row rest r h =
      let slots = slot_variables number 0 f.slots in
      let result = result_variable number (length f.slots) f.result in
      let later = variables (suc number) funcs in
      subst (Carries (row ++ rest))
      (sym (classes_joined class_of slots (result ++ later) ∙ ap (λ l. classes_of class_of slots ++ l) (classes_joined class_of result later)))
      (slots_carry class_of number f.slots 0 (length f.slots) f.result row rest (classes_of class_of later) (omega arith) r h)

  pub functions_carry : (number : ℕ) (funcs : List PFunc) (rows : List (List ℕ)) → AreRowsOf class_of number funcs rows → Carries (concat rows) (classes_of class_of (variables number funcs))
  functions_carry number [] rows r = λ met k. refl
  functions_carry number (f ∷ funcs) [] r =
      function_carries number f funcs [] [] (row_of_first number f funcs [] [] (λ slot. refl) r)
      (functions_carry (suc number) funcs [] (record {
        same = λ k at slot is. r.same (suc k) at slot (omega (arith, is));
        pointers = λ k g there slot is. r.pointers (suc k) g there slot is;
        others = λ k g there slot isnt. refl;
      }))
  functions_carry number (f ∷ funcs) (row ∷ rows) r =
      function_carries number f funcs row (concat rows) (row_of_first number f funcs (row ∷ rows) row (λ slot. refl) r)
      (functions_carry (suc number) funcs rows (record {
        same = λ k at slot is. r.same (suc k) at slot (omega (arith, is));
        pointers = λ k g there slot is. r.pointers (suc k) g there slot is;
        others = λ k g there slot isnt. r.others (suc k) g there slot isnt;
      }))
