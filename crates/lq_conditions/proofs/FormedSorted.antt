-- In a formed program each pointer through which a statement loads or stores, or which gets a block, has a class with a template.
use Rattle.std.proofs.Common.{◌≡◌, ◌≢◌, ℕ, zero, suc, ◌+◌, ◌≤◌, Bool, true, List, [], ◌∷◌, ◌++◌, length, Option, None, Some, inl, inr, refl, sym, ap, subst, ◌∙◌, arith, length-append}
use Rattle.std.specs.Prelude.{◌&&◌, ◌==◌, if◌then◌else◌, slice_get}
use Rattle.std.specs.List.{AllByRecursion, list_all}
use Rattle.std.proofs.lemmas.Bool.{cases_eq, eq-eqb, ne_eqb, eqb-true, and_parts, true≢false}
use Rattle.std.proofs.lemmas.Option.{none-some, same_Some}
use Rattle.lq_tree.specs.declared.expr.Base.{Base}
use Rattle.lq_tree.specs.declared.expr.CType.{CType}
use Rattle.lq_tree.specs.declared.program.StructDef.{StructDef}
use Rattle.lq_tree.specs.declared.plain.PKind.{PKind, Set, Load, Store, Calloc, Call, If', While', Cobegin', Foreach, Print, Return}
use Rattle.lq_tree.specs.declared.plain.PStmt.{PStmt}
use Rattle.lq_tree.specs.declared.plain.Slot.{Slot}
use Rattle.lq_tree.specs.declared.plain.PFunc.{PFunc}
use Rattle.lq_tree.specs.declared.plain.PProgram.{PProgram}
use Rattle.lq_tree.specs.Types.{Ty, Number, Pointer, Element, Whole, Nothing, Unknown, declared, element_of, is_pointer, is_known, result_of}
use Rattle.lq_tree.specs.PlainTypes.{is_value, agree, type_at, slot_type, field_type, reached, fits, with_structs, is_typed}
use Rattle.lq_tree.specs.PlainWalk.{statements}
use Rattle.lq_tree.specs.Formed.{is_input, takes_input, IsFormed}
use Rattle.lq_text.proofs.Lists.{all_left, all_right, all_weaker}
use Rattle.lq_classes.specs.Classes.{var, class_at, number_in, type_in, is_variable, AreClasses}
use Rattle.lq_templates.specs.Accesses.{Access}
use Rattle.lq_templates.specs.Classes.{ClassOf, Variable, pointer, slot_variables, result_variable, variables, first_variables}
use Rattle.lq_templates.specs.Templates.{record_templates, functions_templates, all_templates}
use Rattle.lq_conditions.specs.There.{IsNumber, AreThere}
use Rattle.lq_conditions.specs.Conditions.{conditions}
use Rattle.lq_conditions.proofs.FineStatements.{IsSorted}
use Rattle.lq_conditions.proofs.ProgramsThere.{FunctionIsSorted, AreSorted, program_there}
use Rattle.lq_conditions.proofs.ClassNumbers.{AreRowsOf, IsAtMost, at_most_first, functions_carry, variable_of, holds_pointer, is_a_variable}

-- ---- types

agree_value : (a b : Ty) → agree a b ≡ true → is_value b ≡ true
agree_value Number Number h = refl
agree_value (Pointer base stars) (Pointer other more) h = refl
agree_value _ _ h = absurd (true≢false (sym h))

agree_pointer : (a : Ty) (base : Base) (stars : ℕ) → agree a (Pointer base stars) ≡ true → is_pointer a ≡ true
agree_pointer (Pointer base stars) other more h = refl
agree_pointer Number other more h = absurd (true≢false (sym h))
agree_pointer (Element name) other more h = absurd (true≢false (sym h))
agree_pointer (Whole name) other more h = absurd (true≢false (sym h))
agree_pointer Nothing other more h = absurd (true≢false (sym h))
agree_pointer Unknown other more h = absurd (true≢false (sym h))

unknown_field : (structs : List StructDef) (field : ℕ) → is_value (field_type structs Unknown field) ≡ true → ⊥
unknown_field structs zero h = true≢false (sym h)
unknown_field structs (suc n) h = true≢false (sym h)

-- what reaches a value is a pointer
reaches : (structs : List StructDef) (t : Ty) (field : ℕ) → is_value (field_type structs (element_of t) field) ≡ true → is_pointer t ≡ true
reaches structs (Pointer base stars) field h = refl
reaches structs Number field h = absurd (unknown_field structs field h)
reaches structs (Element name) field h = absurd (unknown_field structs field h)
reaches structs (Whole name) field h = absurd (unknown_field structs field h)
reaches structs Nothing field h = absurd (unknown_field structs field h)
reaches structs Unknown field h = absurd (unknown_field structs field h)

-- a statement's pointers are sorted where those of typed ones are
typed_sorted : (p : PProgram) (f : PFunc) (count : ℕ) (class_at : ℕ → ℕ) → ((slot : ℕ) → is_pointer (slot_type f.slots slot) ≡ true → IsNumber count (class_at slot)) → (kind : PKind) → is_typed p f kind ≡ true → IsSorted count class_at kind
typed_sorted p f count class_at known (Load to base index field) h =
    let parts = and_parts (fits f.slots Number index) (agree (slot_type f.slots to) (reached p f base field)) h in
    known base (reaches p.structs (slot_type f.slots base) field (agree_value (slot_type f.slots to) (reached p f base field) parts.1))
typed_sorted p f count class_at known (Store base index field e) h =
    let first = is_value (reached p f base field) in
    let parts = and_parts (fits f.slots Number index && first) (fits f.slots (reached p f base field) e) h in
    let inner = and_parts (fits f.slots Number index) first parts.0 in
    known base (reaches p.structs (slot_type f.slots base) field inner.1)
typed_sorted p f count class_at known (Calloc to n type) h =
    let counted = fits f.slots Number n && is_known (with_structs p.structs) type.base in
    let parts = and_parts counted (agree (slot_type f.slots to) (Pointer type.base type.stars)) h in
    known to (agree_pointer (slot_type f.slots to) type.base type.stars parts.1)
typed_sorted p f count class_at known (Set to e) h = tt
typed_sorted p f count class_at known (Call to function args) h = tt
typed_sorted p f count class_at known (If' e n body m other) h = tt
typed_sorted p f count class_at known (While' n head e m body) h = tt
typed_sorted p f count class_at known (Cobegin' n blocks) h = tt
typed_sorted p f count class_at known (Foreach index low high step branch) h = tt
typed_sorted p f count class_at known (Print e) h = tt
typed_sorted p f count class_at known (Return e) h = tt

each_passes : {X : Type 0} (test : X → Bool) (xs : List X) → list_all test xs ≡ true → AllByRecursion (λ x. test x ≡ true) xs
each_passes test [] h = tt
each_passes test (x ∷ xs) h = let parts = and_parts (test x) (list_all test xs) h in (parts.0, each_passes test xs parts.1)

-- the first parameter of `main`
first_input : (a b : Ty) → is_input a b ≡ true → is_pointer a ≡ true
first_input (Pointer base stars) b h = refl
first_input Number b h = absurd (true≢false (sym h))
first_input (Element name) b h = absurd (true≢false (sym h))
first_input (Whole name) b h = absurd (true≢false (sym h))
first_input Nothing b h = absurd (true≢false (sym h))
first_input Unknown b h = absurd (true≢false (sym h))

input_pointer : (params : ℕ) (slots : List Slot) → takes_input params slots ≡ true → 1 ≤ params → is_pointer (slot_type slots 0) ≡ true
input_pointer zero slots h low = absurd (omega (arith, low))
input_pointer (suc zero) slots h low = absurd (true≢false (sym h))
input_pointer (suc (suc zero)) [] h low = absurd (true≢false (sym h))
input_pointer (suc (suc zero)) (a ∷ []) h low = absurd (true≢false (sym h))
input_pointer (suc (suc zero)) (a ∷ (b ∷ slots)) h low = first_input (declared a.ctype) (declared b.ctype) h
input_pointer (suc (suc (suc n))) slots h low = absurd (true≢false (sym h))

-- ---- variables

-- a pointer slot is there
record IsPointerSlot (slots : List Slot) (slot : ℕ) : Type 0 where
  pub s : Slot
  pub there : slice_get slots slot ≡ Some s
  pub is : is_pointer (declared s.ctype) ≡ true

slot_found : (slots : List Slot) (slot : ℕ) (found : Option Slot) → slice_get slots slot ≡ found → is_pointer (type_at found) ≡ true → IsPointerSlot slots slot
slot_found slots slot None e h = absurd (true≢false (sym h))
slot_found slots slot (Some s) e h = record { s = s; there = e; is = h }

holds_slot : (slots : List Slot) (result : Option CType) (slot : ℕ) (s : Slot) → slice_get slots slot ≡ Some s → is_pointer (declared s.ctype) ≡ true → holds_pointer slots result slot ≡ true
holds_slot [] result slot s e h = absurd (none-some s e)
holds_slot (x ∷ slots) result zero s e h = ap (λ (y : Slot). is_pointer (declared y.ctype)) (same_Some x s e) ∙ h
holds_slot (x ∷ slots) result (suc n) s e h = holds_slot slots result n s e h

same_test : (n m : ℕ) → (n == m) ≡ (suc n == suc m)
same_test n m = elim (cases_eq n m) [
  | inl e ↦ eq-eqb n m e ∙ sym (eq-eqb (suc n) (suc m) (ap suc e))
  | inr ne ↦ ne_eqb n m ne ∙ sym (ne_eqb (suc n) (suc m) (λ e. ne (omega (arith, e))))
]

-- whether there is a pointer, as classes have it
holds_is : (slots : List Slot) (result : Option CType) (slot : ℕ) → holds_pointer slots result slot ≡ is_pointer (if slot == length slots then result_of result else slot_type slots slot)
holds_is [] result zero = refl
holds_is [] result (suc n) = sym (ap (λ b. is_pointer (if b then result_of result else Unknown)) (ne_eqb (suc n) 0 (λ e. absurd (omega (arith, e)))))
holds_is (s ∷ slots) result zero =
    sym (ap (λ b. is_pointer (if b then result_of result else declared s.ctype)) (ne_eqb 0 (length (s ∷ slots)) (λ e. absurd (omega (arith, e)))))
holds_is (s ∷ slots) result (suc n) =
    holds_is slots result n ∙ ap (λ b. is_pointer (if b then result_of result else slot_type slots n)) (same_test n (length slots))

module _ (P : Variable → Type 0) where
  pick_slot : (function slot : ℕ) (slots : List Slot) (k at : ℕ) (s : Slot) → at ≡ slot + k → slice_get slots k ≡ Some s → is_pointer (declared s.ctype) ≡ true → AllByRecursion P (slot_variables function slot slots) → P (variable_of function at s.ctype)
  pick_slot function slot [] k at s is e h all = absurd (none-some s e)
  pick_slot function slot (x ∷ slots) zero at s is e h all =
      let same : x ≡ s = same_Some x s e in
      let yes : is_pointer (declared x.ctype) ≡ true = ap (λ (y : Slot). is_pointer (declared y.ctype)) same ∙ h in
      let first = all_left P (pointer function slot x.ctype) (slot_variables function (suc slot) slots) all in
      let found = subst (AllByRecursion P) (is_a_variable function slot x.ctype yes) first in
      subst (λ n. P (variable_of function n s.ctype)) (omega (arith, is)) (subst (λ (y : Slot). P (variable_of function slot y.ctype)) same found.0)
  pick_slot function slot (x ∷ slots) (suc k) at s is e h all =
      pick_slot function (suc slot) slots k at s (omega (arith, is)) e h (all_right P (pointer function slot x.ctype) (slot_variables function (suc slot) slots) all)

  pick_function : (number : ℕ) (funcs : List PFunc) (k at : ℕ) (f : PFunc) → at ≡ number + k → slice_get funcs k ≡ Some f → AllByRecursion P (variables number funcs) → AllByRecursion P (slot_variables at 0 f.slots)
  pick_function number [] k at f is e all = absurd (none-some f e)
  pick_function number (x ∷ funcs) zero at f is e all =
      let rest = result_variable number (length x.slots) x.result ++ variables (suc number) funcs in
      subst (λ n. AllByRecursion P (slot_variables n 0 f.slots)) (omega (arith, is))
      (subst (λ (y : PFunc). AllByRecursion P (slot_variables number 0 y.slots)) (same_Some x f e) (all_left P (slot_variables number 0 x.slots) rest all))
  pick_function number (x ∷ funcs) (suc k) at f is e all =
      let result = result_variable number (length x.slots) x.result in
      pick_function (suc number) funcs k at f (omega (arith, is)) e
      (all_right P result (variables (suc number) funcs) (all_right P (slot_variables number 0 x.slots) (result ++ variables (suc number) funcs) all))

-- ---- a program

record_count : (p : PProgram) (class : ℕ) (vars : List Variable) → length (record_templates p class vars) ≡ length vars
record_count p class [] = refl
record_count p class (v ∷ vars) = ap suc (record_count p (suc class) vars)

not_zero : (n : ℕ) → n ≢ 0 → 1 ≤ n
not_zero zero ne = absurd (ne refl)
not_zero (suc n) ne = omega arith

module _ (p : PProgram) (rows : List (List ℕ)) (classes : AreClasses p rows) (by : ℕ → Access → Bool) where
  abbrev class_of : ClassOf
  class_of function slot = class_at rows (var function slot)

  abbrev count : ℕ
  count = length (all_templates p class_of by)

  variable_is : (k slot : ℕ) (f : PFunc) → slice_get p.funcs k ≡ Some f → holds_pointer f.slots f.result slot ≡ is_variable p (var k slot)
  variable_is k slot f there = holds_is f.slots f.result slot ∙ ap (λ found. is_pointer (type_in found slot)) (sym there)

  rows_are : AreRowsOf class_of 0 p.funcs rows
  rows_are = record {
    same = λ k at slot is. ap (λ n. number_in (slice_get rows n) slot) (omega (arith, is));
    pointers = λ k f there slot is. (classes.variables (var k slot)).1 (sym (variable_is k slot f there) ∙ is);
    others = λ k f there slot isnt. elim (cases_eq (class_of k slot) 0) [
      | inl e ↦ e
      | inr ne ↦ absurd (true≢false (sym ((classes.variables (var k slot)).0 ne) ∙ sym (variable_is k slot f there) ∙ isnt))
    ];
  }

  abbrev firsts : List Variable
  firsts = first_variables class_of 1 (variables 0 p.funcs)

  all_at_most : AllByRecursion (IsAtMost class_of (0 + length firsts)) (variables 0 p.funcs)
  all_at_most = at_most_first class_of 0 (variables 0 p.funcs) (functions_carry class_of 0 p.funcs rows rows_are 0 classes.in_order)

  -- a pointer slot has a class with a template
  slot_known : (k slot : ℕ) (f : PFunc) → slice_get p.funcs k ≡ Some f → is_pointer (slot_type f.slots slot) ≡ true → IsNumber count (class_of k slot)
  slot_known k slot f there h =
      let found = slot_found f.slots slot (slice_get f.slots slot) refl h in
      let some : class_of k slot ≢ 0 = rows_are.pointers k f there slot (holds_slot f.slots f.result slot found.s found.there found.is) in
      let in_function = pick_function (IsAtMost class_of (0 + length firsts)) 0 p.funcs k k f (omega arith) there all_at_most in
      let low : class_of k slot ≤ 0 + length firsts = pick_slot (IsAtMost class_of (0 + length firsts)) k 0 f.slots slot slot found.s (omega arith) found.there found.is in_function in
      let size = record_count p 1 firsts in
      let whole = length-append (record_templates p 1 firsts) (functions_templates p class_of by 0 0 p.funcs) in
      record { from_one = not_zero (class_of k slot) some; within = omega (arith, low, size, whole) }

  function_sorted : (formed : IsFormed p) (k : ℕ) (f : PFunc) → slice_get p.funcs k ≡ Some f → FunctionIsSorted count class_of p.main k f
  function_sorted formed k f there = record {
    body = all_weaker _ _ (λ (s : PStmt) h. typed_sorted p f count (class_of k) (λ slot h. slot_known k slot f there h) s.kind h) (statements f.body)
        (each_passes (λ (s : PStmt). is_typed p f s.kind) (statements f.body) (formed.funcs k f there).typed);
    input = λ is low.
        let at_main : k ≡ p.main = eqb-true k p.main is in
        let same : f ≡ formed.main = same_Some f formed.main (sym there ∙ ap (slice_get p.funcs) at_main ∙ formed.is_main) in
        let takes : takes_input f.params f.slots ≡ true = ap (λ (g : PFunc). takes_input g.params g.slots) same ∙ formed.entry.params in
        slot_known k 0 f there (input_pointer f.params f.slots takes low);
  }

  functions_sorted : (formed : IsFormed p) (number : ℕ) (funcs : List PFunc) → ((k at : ℕ) (f : PFunc) → at ≡ number + k → slice_get funcs k ≡ Some f → slice_get p.funcs at ≡ Some f) → AreSorted count class_of p.main number funcs
  functions_sorted formed number [] there = tt
  functions_sorted formed number (f ∷ funcs) there = (
    function_sorted formed number f (there 0 number f (omega arith) refl),
    functions_sorted formed (suc number) funcs (λ k at g is e. there (suc k) at g (omega (arith, is)) e),
  )

  -- all that the conditions of a formed program name is there
  pub conditions_there : IsFormed p → AllByRecursion (AreThere count) (conditions p class_of by).list
  conditions_there formed =
      program_there p class_of by (functions_sorted formed 0 p.funcs (λ k at f is e. ap (slice_get p.funcs) (omega (arith, is)) ∙ e))
