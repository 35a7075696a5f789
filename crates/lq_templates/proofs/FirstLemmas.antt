-- The first variables of classes, met one after the other.
use Rattle.std.proofs.Common.{◌≡◌, ℕ, suc, ◌+◌, ◌==◌, ◌≤◌, ◌<◌, true, false, cond, List, [], ◌∷◌, ◌++◌, length, drop, drop-cons, get_or, add-one, Some, inl, inr, refl, ap, ap₂, sym, subst, ◌∙◌, append_assoc, append-nil, length-append, arith}
use Rattle.std.specs.List.{AllByRecursion, find}
use Rattle.std.proofs.lemmas.Bool.{cases_Bool}
use Rattle.lq_tree.specs.declared.plain.PFunc.{PFunc}
use Rattle.lq_tree.specs.declared.plain.PProgram.{PProgram}
use Rattle.lq_tree.specs.declared.plain.Slot.{Slot}
use Rattle.lq_tree.specs.declared.program.Param.{Param}
use Rattle.lq_tree.specs.declared.program.StructDef.{StructDef}
use Rattle.lq_tree.specs.Formed.{IsFormed, IsFormedStruct}
use Rattle.lq_tree.specs.Lookup.{same, struct_of}
use Rattle.lq_templates.specs.declared.firsts.Firsts.{Firsts}
use Rattle.lq_templates.specs.declared.template.Template.{Template}
use Rattle.lq_templates.specs.Accesses.{Access, field_accesses, class_accesses}
use Rattle.lq_templates.specs.Classes.{ClassOf, Variable, pointer, slot_variables, result_variable, variables, first_variables, fields_behind}
use Rattle.lq_templates.specs.Firsts.{with_firsts, gathered}
use Rattle.lq_templates.specs.Templates.{record_templates}

-- ---- first variables one behind the other

first-append : (class_of : ClassOf) (n : ℕ) (xs ys : List Variable)
    → first_variables class_of n (xs ++ ys) ≡ first_variables class_of n xs ++ first_variables class_of (length (first_variables class_of n xs) + n) ys
first-append class_of n [] ys = ap (λ m. first_variables class_of m ys) (omega arith)
first-append class_of n (v ∷ xs) ys =
    elim (class_of v.function v.slot == n) as (λ b. cond b (v ∷ first_variables class_of (suc n) (xs ++ ys)) (first_variables class_of n (xs ++ ys))
    ≡ cond b (v ∷ first_variables class_of (suc n) xs) (first_variables class_of n xs)
    ++ first_variables class_of (length (cond b (v ∷ first_variables class_of (suc n) xs) (first_variables class_of n xs)) + n) ys) [
      | true ↦
          ap (λ (zs : List Variable). v ∷ zs) (first-append class_of (suc n) xs ys
          ∙ ap (λ m. first_variables class_of (suc n) xs ++ first_variables class_of m ys) (omega arith))
      | false ↦ first-append class_of n xs ys
    ]

records-append : (p : PProgram) (n : ℕ) (xs ys : List Variable) → record_templates p n (xs ++ ys) ≡ record_templates p n xs ++ record_templates p (length xs + n) ys
records-append p n [] ys = ap (λ m. record_templates p m ys) (omega arith)
records-append p n (v ∷ xs) ys =
    ap₂ (λ (t : Template) (ts : List Template). t ∷ ts) refl (records-append p (suc n) xs ys ∙ ap (λ m. record_templates p (suc n) xs ++ record_templates p m ys) (omega arith))

accesses-append : (p : PProgram) (n : ℕ) (xs ys : List Variable) → class_accesses p n (xs ++ ys) ≡ class_accesses p n xs ++ class_accesses p (length xs + n) ys
accesses-append p n [] ys = ap (λ m. class_accesses p m ys) (omega arith)
accesses-append p n (v ∷ xs) ys =
    let own = field_accesses n 0 (fields_behind p.structs v.type) in
    ap (λ (zs : List Access). own ++ zs) (accesses-append p (suc n) xs ys ∙ ap (λ m. class_accesses p (suc n) xs ++ class_accesses p m ys) (omega arith))
    ∙ sym (append_assoc own (class_accesses p (suc n) xs) (class_accesses p (suc (length xs) + n) ys))

with_same : {n m : ℕ} {r s : List Template} {a b : List Access} → n ≡ m → r ≡ s → a ≡ b
    → (let t : Firsts = record { next = n; records = r; accesses = a } in let u : Firsts = record { next = m; records = s; accesses = b } in t ≡ u)
with_same x y z = λ i. record { next = x i; records = y i; accesses = z i }

firsts-append : (p : PProgram) (s : Firsts) (xs ys : List Variable) → with_firsts p (xs ++ ys) s ≡ with_firsts p ys (with_firsts p xs s)
firsts-append p s xs ys = with_same
    (let e = length-append xs ys in omega (arith, e))
    (ap (λ (zs : List Template). s.records ++ zs) (records-append p s.next xs ys) ∙ sym (append_assoc s.records (record_templates p s.next xs) (record_templates p (length xs + s.next) ys)))
    (ap (λ (zs : List Access). s.accesses ++ zs) (accesses-append p s.next xs ys) ∙ sym (append_assoc s.accesses (class_accesses p s.next xs) (class_accesses p (length xs + s.next) ys)))

pub gathered-append : (p : PProgram) (class_of : ClassOf) (xs ys : List Variable) (s : Firsts) → gathered p class_of (xs ++ ys) s ≡ gathered p class_of ys (gathered p class_of xs s)
gathered-append p class_of xs ys s =
    ap (λ vs. with_firsts p vs s) (first-append class_of s.next xs ys) ∙ firsts-append p s (first_variables class_of s.next xs) (first_variables class_of (length (first_variables class_of s.next xs) + s.next) ys)

pub gathered-none : (p : PProgram) (class_of : ClassOf) (s : Firsts) → s ≡ gathered p class_of [] s
gathered-none p class_of s = with_same (omega arith) (sym (append-nil s.records)) (sym (append-nil s.accesses))

-- ---- one variable

-- it isn't the first of the next class
pub gathered-other : (p : PProgram) (class_of : ClassOf) (v : Variable) (s : Firsts) → (class_of v.function v.slot == s.next) ≡ false → s ≡ gathered p class_of (v ∷ []) s
gathered-other p class_of v s isnt = gathered-none p class_of s ∙ ap (λ b. with_firsts p (cond b (v ∷ []) []) s) (sym isnt)

-- or it is
pub gathered-first : (p : PProgram) (class_of : ClassOf) (v : Variable) (s : Firsts) (accesses : List Access) → (class_of v.function v.slot == s.next) ≡ true
    → accesses ≡ s.accesses ++ field_accesses s.next 0 (fields_behind p.structs v.type)
    → (let t : Firsts = record { next = suc s.next; records = s.records ++ record_templates p s.next (v ∷ []); accesses = accesses } in t ≡ gathered p class_of (v ∷ []) s)
gathered-first p class_of v s accesses is more =
    with_same (omega arith) refl (more ∙ ap (λ (zs : List Access). s.accesses ++ zs) (sym (append-nil (field_accesses s.next 0 (fields_behind p.structs v.type)))))
    ∙ ap (λ b. with_firsts p (cond b (v ∷ []) []) s) (sym is)

-- ---- one slot and one function more

pub slots_more : (p : PProgram) (class_of : ClassOf) (function slot : ℕ) (slots : List Slot) (x : Slot) (before after all : Firsts) → slot < length slots → x ≡ get_or slots slot x
    → gathered p class_of (slot_variables function slot (drop slot slots)) before ≡ all → after ≡ gathered p class_of (pointer function slot x.ctype) before
    → gathered p class_of (slot_variables function (slot + 1) (drop (slot + 1) slots)) after ≡ all
slots_more p class_of function slot slots x before after all within is first more =
    let e : drop slot slots ≡ x ∷ drop (slot + 1) slots = rw (add-one) (drop-cons slots slot x within ∙ ap (λ y. y ∷ drop (suc slot) slots) (sym is)) in
    ap (gathered p class_of (slot_variables function (slot + 1) (drop (slot + 1) slots))) more
    ∙ sym (gathered-append p class_of (pointer function slot x.ctype) (slot_variables function (slot + 1) (drop (slot + 1) slots)) before)
    ∙ ap (λ n. gathered p class_of (pointer function slot x.ctype ++ slot_variables function n (drop (slot + 1) slots)) before) (add-one slot)
    ∙ ap (λ ss. gathered p class_of (slot_variables function slot ss) before) (sym e) ∙ first

pub functions_more : (p : PProgram) (class_of : ClassOf) (number : ℕ) (funcs : List PFunc) (f : PFunc) (before after all : Firsts) → number < length funcs → f ≡ get_or funcs number f
    → gathered p class_of (variables number (drop number funcs)) before ≡ all
    → after ≡ gathered p class_of (slot_variables number 0 f.slots ++ result_variable number (length f.slots) f.result) before
    → gathered p class_of (variables (number + 1) (drop (number + 1) funcs)) after ≡ all
functions_more p class_of number funcs f before after all within is first more =
    let e : drop number funcs ≡ f ∷ drop (number + 1) funcs = rw (add-one) (drop-cons funcs number f within ∙ ap (λ g. g ∷ drop (suc number) funcs) (sym is)) in
    let own = slot_variables number 0 f.slots in
    let gives = result_variable number (length f.slots) f.result in
    let rest = variables (number + 1) (drop (number + 1) funcs) in
    ap (gathered p class_of rest) more ∙ sym (gathered-append p class_of (own ++ gives) rest before)
    ∙ ap (λ vs. gathered p class_of vs before) (append_assoc own gives rest)
    ∙ ap (λ n. gathered p class_of (own ++ (gives ++ variables n (drop (number + 1) funcs))) before) (add-one number)
    ∙ ap (λ fs. gathered p class_of (variables number fs) before) (sym e) ∙ first

-- ---- the accesses to fields

pub fields_more : (class field : ℕ) (fields : List Param) (f : Param) (before after all : List Access) → field < length fields
    → before ++ field_accesses class field (drop field fields) ≡ all
    → after ≡ before ++ (record { class = class; field = field; write = false } ∷ record { class = class; field = field; write = true } ∷ [])
    → after ++ field_accesses class (field + 1) (drop (field + 1) fields) ≡ all
fields_more class field fields f before after all within first more =
    let e : drop field fields ≡ get_or fields field f ∷ drop (field + 1) fields = rw (add-one) (drop-cons fields field f within) in
    ap (λ (zs : List Access). zs ++ field_accesses class (field + 1) (drop (field + 1) fields)) more
    ∙ append_assoc before (record { class = class; field = field; write = false } ∷ record { class = class; field = field; write = true } ∷ []) (field_accesses class (field + 1) (drop (field + 1) fields))
    ∙ ap (λ n. before ++ (record { class = class; field = field; write = false } ∷ record { class = class; field = field; write = true } ∷ field_accesses class n (drop (field + 1) fields))) (add-one field)
    ∙ ap (λ fs. before ++ field_accesses class field fs) (sym e) ∙ first

-- a struct has few fields
found_few : (all structs : List StructDef) (name : List ℕ) (s : StructDef) → AllByRecursion (IsFormedStruct all) structs → find (λ (t : StructDef). same t.name name) structs ≡ Some s → length s.fields ≤ 16
found_few all [] name s formed is = absurd cc
found_few all (t ∷ structs) name s formed is = elim (cases_Bool (same t.name name)) [
  | inl is_it ↦
      let one : Some t ≡ Some s = sym (ap (λ b. cond b (Some t) (find (λ (t : StructDef). same t.name name) structs)) is_it) ∙ is in
      let it : t ≡ s = cc in subst (λ (x : StructDef). length x.fields ≤ 16) it formed.0.few
  | inr isnt ↦ found_few all structs name s formed.1 (sym (ap (λ b. cond b (Some t) (find (λ (t : StructDef). same t.name name) structs)) isnt) ∙ is)
]

pub few_fields : (p : PProgram) (name : List ℕ) (s : StructDef) → IsFormed p → struct_of p.structs name ≡ Some s → length s.fields ≤ 16
few_fields p name s formed is = found_few p.structs p.structs name s formed.structs is
