-- The types of expressions that break no name rule: none is unknown, and only a place is an element.
use Rattle.std.proofs.Common.{◌≡◌, ℕ, zero, suc, Bool, true, false, not, ◌&&◌, ◌||◌, ◌==◌, cond, List, [], ◌∷◌, ◌++◌, length, fold, Option, None, Some, is_some, refl, ap, sym, ◌∙◌, ◌⊎◌, inl, inr}
use Rattle.std.specs.List.{AllByRecursion}
use Rattle.std.proofs.lemmas.Bool.{cases_Bool, eqb-true, not-false}
use Rattle.lq_tree.specs.declared.expr.Base.{Base}
use Rattle.lq_tree.specs.declared.expr.Base.TheVariants.{Int, Struct}
use Rattle.lq_tree.specs.declared.expr.BinOp.{BinOp}
use Rattle.lq_tree.specs.declared.expr.BinOp.TheVariants.{Add, Sub}
use Rattle.lq_tree.specs.declared.expr.CType.{CType}
use Rattle.lq_tree.specs.declared.program.Func.{Func}
use Rattle.lq_tree.specs.declared.program.Param.{Param}
use Rattle.lq_tree.specs.declared.program.Program.{Program}
use Rattle.lq_tree.specs.Types.{Ty, Number, Pointer, Element, Unknown, Variable, declared_as, declared, same, or_later, type_in, is_in_scope, is_number, is_pointer, value, behind, element_of, type_of_field, field_of, dotted, sum_of, combined, result_of, called, is_known, allocated}
use Rattle.lq_tree.specs.PlainTypes.{is_value}
use Rattle.lq_names.specs.Rules.{is_nothing, is_struct, is_whole, has_no_fields, lacks_field, miscounts, operator_misfits, are_compared}
use Rattle.lq_plain.proofs.Regular.{Takes}

-- a type that an expression may have: known, and an element only for a place
abbrev pub suits : Ty → (is_place : Bool) → Bool
suits (Element name) is_place = is_place
suits Unknown is_place = false
suits _ is_place = true

-- what suits any expression
suits_any : (t : Ty) (place : Bool) → suits t false ≡ true → suits t place ≡ true
suits_any (Element name) place h = cc
suits_any Unknown place h = cc
suits_any _ place h = refl

suits_declared_as : (base : Base) (stars : ℕ) → suits (declared_as base stars) false ≡ true
suits_declared_as Int zero = refl
suits_declared_as (Struct name) zero = refl
suits_declared_as Int (suc n) = refl
suits_declared_as (Struct name) (suc n) = refl

-- a written type
pub suits_declared : (type : CType) → suits (declared type) false ≡ true
suits_declared type = suits_declared_as type.base type.stars

-- variables in scope have written types
abbrev pub AreTyped : List Variable → Type 0
AreTyped scope = AllByRecursion (λ (v : Variable). suits v.type false ≡ true) scope

found_suits : (name : List ℕ) (scope : List Variable) (found : Ty) → AreTyped scope → (suits found false ≡ true) ⊎ (is_in_scope scope name ≡ true) → suits (fold (or_later name) found scope) false ≡ true
found_suits name [] found typed (inl h) = h
found_suits name [] found typed (inr h) = cc
found_suits name (v ∷ scope) found typed h = elim (cases_Bool (same v.name name)) [
  | inl is ↦
      let e : or_later name found v ≡ v.type = ap (λ b. cond b v.type found) is in
      found_suits name scope (or_later name found v) typed.1 (inl (ap (λ t. suits t false) e ∙ typed.0))
  | inr isnt ↦
      let e : or_later name found v ≡ found = ap (λ b. cond b v.type found) isnt in
      found_suits name scope (or_later name found v) typed.1 (elim h [
        | inl old ↦ inl (ap (λ t. suits t false) e ∙ old)
        | inr in_scope ↦ inr (sym (ap (λ b. b || is_in_scope scope name) isnt) ∙ in_scope)
      ])
]

-- the type of a variable in scope
pub suits_variable : (scope : List Variable) (name : List ℕ) → AreTyped scope → is_in_scope scope name ≡ true → suits (type_in scope name) false ≡ true
suits_variable scope name typed h = found_suits name scope Unknown typed (inr h)

-- one variable more
pub typed_push : (scope : List Variable) (v : Variable) → AreTyped scope → suits v.type false ≡ true → AreTyped (scope ++ v ∷ [])
typed_push [] v typed h = (h, tt)
typed_push (w ∷ scope) v typed h = (typed.0, typed_push scope v typed.1 h)

-- what is used as a value is a number or a pointer
pub a_value : (t : Ty) (place : Bool) → suits t place ≡ true → is_nothing t ≡ false → is_struct t ≡ false → is_value t ≡ true
a_value Number place h n w = refl
a_value (Pointer base stars) place h n w = refl
a_value _ place h n w = cc

-- and a pointer where it is no number
pub a_pointer : (t : Ty) → is_value t ≡ true → is_number t ≡ false → is_pointer t ≡ true
a_pointer (Pointer base stars) h n = refl
a_pointer _ h n = cc

suits_behind : (base : Base) (stars : ℕ) → suits (behind base stars) true ≡ true
suits_behind Int zero = refl
suits_behind (Struct name) zero = refl
suits_behind Int (suc n) = refl
suits_behind (Struct name) (suc n) = refl

-- what a pointer points to
pub suits_element : (t : Ty) → is_pointer t ≡ true → suits (element_of t) true ≡ true
suits_element (Pointer base stars) h = suits_behind base stars
suits_element _ h = cc

suits_field : (found : Option Param) → not (is_some found) ≡ false → suits (type_of_field found) true ≡ true
suits_field None h = cc
suits_field (Some field) h = suits_any (declared field.ctype) true (suits_declared field.ctype)

-- a field of an element, which stands at a place
pub of_element : (p : Program) (t : Ty) (field : List ℕ) (place : Bool) → suits t place ≡ true → is_nothing t ≡ false → is_whole t ≡ false → has_no_fields t ≡ false → lacks_field p t field ≡ false
    → (place ≡ true) × (suits (dotted p t field) true ≡ true)
of_element p (Element name) field place h n w f l = (h, suits_field (field_of p name field) l)
of_element p _ field place h n w f l = cc

behind_is_something : (base : Base) (stars : ℕ) → (is_nothing (behind base stars) ≡ false) × (is_whole (behind base stars) ≡ false)
behind_is_something Int zero = (refl, refl)
behind_is_something (Struct name) zero = (refl, refl)
behind_is_something Int (suc n) = (refl, refl)
behind_is_something (Struct name) (suc n) = (refl, refl)

-- a field of what a pointer points to
pub of_pointer : (p : Program) (t : Ty) (field : List ℕ) → is_pointer t ≡ true → has_no_fields (element_of t) ≡ false → lacks_field p (element_of t) field ≡ false → suits (dotted p (element_of t) field) true ≡ true
of_pointer p (Pointer base stars) field h f l =
    let is = behind_is_something base stars in
    (of_element p (behind base stars) field true (suits_behind base stars) is.0 is.1 f l).1
of_pointer p _ field h f l = cc

suits_result : (result : Option CType) → suits (result_of result) false ≡ true
suits_result None = refl
suits_result (Some type) = suits_declared type

-- a known function with as many arguments
pub taken : (f : Option Func) (count : ℕ) → not (is_some f) ≡ false → miscounts f count ≡ false → Takes f count × (suits (called f count) false ≡ true)
taken None count h m = cc
taken (Some f) count h m =
    let is : (length f.params == count) ≡ true = not-false (length f.params == count) m in (
      eqb-true (length f.params) count is,
      ap (λ b. suits (cond b (result_of f.result) Unknown) false) is ∙ suits_result f.result,
    )

suits_value : (t : Ty) → is_value t ≡ true → suits (value t) false ≡ true
suits_value Number h = refl
suits_value (Pointer base stars) h = refl
suits_value _ h = cc

suits_sum : (left right : Ty) → is_value left ≡ true → is_pointer right ≡ false → suits (sum_of left right) false ≡ true
suits_sum left right h isnt = ap (λ b. suits (cond b Unknown (value left)) false) isnt ∙ suits_value left h

-- what an operator gives
pub suits_combined : (op : BinOp) (left right : Ty) (left_zero right_zero : Bool) → is_value left ≡ true → operator_misfits op left left_zero right right_zero ≡ false → suits (combined op left right) false ≡ true
suits_combined Add left right left_zero right_zero h m = suits_sum left right h m
suits_combined Sub left right left_zero right_zero h m = suits_sum left right h m
suits_combined _ left right left_zero right_zero h m = refl

-- beside a pointer stands the literal 0, which is a number
pub compared_right : (left right : Ty) (left_zero right_zero : Bool) → (left_zero ≡ true → is_number left ≡ true) → are_compared left left_zero right right_zero ≡ true → is_pointer left ≡ true → right_zero ≡ true
compared_right left right left_zero true z h is = refl
compared_right (Pointer base stars) right true false z h is = let e : false ≡ true = z refl in cc
compared_right (Pointer base stars) right false false z h is = cc
compared_right _ right left_zero false z h is = cc

-- and so on its other side
one_other : (a b : Bool) → (not a && false || not b && false) ≡ false
one_other true true = refl
one_other true false = refl
one_other false true = refl
one_other false false = refl

pub compared_left : (left right : Ty) (left_zero right_zero : Bool) → (right_zero ≡ true → is_number right ≡ true) → are_compared left left_zero right right_zero ≡ true → is_pointer right ≡ true → left_zero ≡ true
compared_left left right true right_zero z h is = refl
compared_left left (Pointer base stars) false true z h is = let e : false ≡ true = z refl in cc
compared_left left (Pointer base stars) false false z h is = let e = one_other (is_pointer left) (is_number left) in cc
compared_left left _ false right_zero z h is = cc

-- what is allocated
pub suits_allocated : (p : Program) (type : CType) → not (is_known p type.base) ≡ false → suits (allocated p type) false ≡ true
suits_allocated p type h = ap (λ b. suits (cond b (Pointer type.base type.stars) Unknown) false) (not-false (is_known p type.base) h)
