-- The types of values of the plain form, by the types of their parts.
use Rattle.std.proofs.Common.{◌≡◌, ℕ, suc, Bool, true, false, cond, ◌&&◌, ◌||◌, ◌==◌, List, [], ◌∷◌, Option, None, Some, refl, ap, ap₂, sym, ◌∙◌, ◌⊎◌, inl, inr}
use Rattle.std.specs.Prelude.{option_and_then}
use Rattle.std.specs.List.{slice_get}
use Rattle.std.specs.Cmp.Lexicographic.{same_text}
use Rattle.std.proofs.lemmas.Bool.{and_parts, and_from, or_parts, not-false, eqb-true, eq-eqb}
use Rattle.std.proofs.lemmas.Cmp.{nat_list_eq_equiv}
use Rattle.lq_tree.specs.declared.expr.Base.{Base}
use Rattle.lq_tree.specs.declared.expr.Base.TheVariants.{Int, Struct}
use Rattle.lq_tree.specs.declared.expr.BinOp.{BinOp}
use Rattle.lq_tree.specs.declared.expr.BinOp.TheVariants.{Add, Sub, Eq, Ne}
use Rattle.lq_tree.specs.declared.plain.PExpr.{PExpr, Num, Null, Slot as InSlot, Neg, Not, Bin, Shift, IsNull, Row_of-PExpr, end_of-PExpr, more_of-PExpr, items-the_row-PExpr, items_hidden-the_row-PExpr-0}
use Rattle.lq_tree.specs.declared.plain.PExpr.TheBlock.{hidden-the_row-PExpr-0}
use Rattle.lq_tree.specs.declared.plain.Slot.{Slot}
use Rattle.lq_tree.specs.declared.program.Param.{Param}
use Rattle.lq_tree.specs.declared.program.Program.{Program}
use Rattle.lq_tree.specs.declared.program.StructDef.{StructDef}
use Rattle.lq_tree.specs.Layout.{field_number, number_among, number_in}
use Rattle.lq_tree.specs.PlainTypes.{is_value, with_structs, is_slot_type, agree, type_at, slot_type, number_if, shifted, plain_type, operand_type, fits, fields_in, field_type}
use Rattle.lq_tree.specs.Types.{Ty, Number, Pointer, Element, Unknown, same, same_base, declared, declared_as, is_number, is_pointer, is_known, type_of_field, struct_of, field_among, dotted, combined}
use Rattle.lq_names.specs.Rules.{disagrees, operator_misfits}
use Rattle.lq_plain.specs.Flat.{slot_type as ctype_for, is_atom, slot_in, operator}
use Rattle.lq_plain.proofs.Growing.{Extends}

-- ---- names and bases

pub same_is : (a b : List ℕ) → same a b ≡ true → a ≡ b
same_is a b h = same_text a b (sym h)

pub same_self : (a : List ℕ) → same a a ≡ true
same_self a = nat_list_eq_equiv.refl a

base_is : (a b : Base) → same_base a b ≡ true → a ≡ b
base_is Int Int h = refl
base_is (Struct a) (Struct b) h = ap Struct (same_is a b h)
base_is Int (Struct b) h = absurd cc
base_is (Struct a) Int h = absurd cc

base_self : (a : Base) → same_base a a ≡ true
base_self Int = refl
base_self (Struct a) = same_self a

-- ---- what is wanted and what is given

pub agree_self : (t : Ty) → is_value t ≡ true → agree t t ≡ true
agree_self Number h = refl
agree_self (Pointer base stars) h = and_from (same_base base base) (stars == stars) (base_self base) (eq-eqb stars stars refl)
agree_self _ h = absurd cc

-- the same type, or the literal 0 where a pointer is wanted
pub agreed : (want given : Ty) (zero_there : Bool) → is_value want ≡ true → is_value given ≡ true → disagrees want given zero_there ≡ false → (given ≡ want) ⊎ ((is_pointer want && zero_there) ≡ true)
agreed Number Number z w g h = inl refl
agreed (Pointer base stars) Number z w g h = inr (not-false z h)
agreed (Pointer base stars) (Pointer other more) z w g h =
    let both = and_parts (same_base base other) (stars == more) (not-false _ h) in
    inl (ap₂ Pointer (sym (base_is base other both.0)) (sym (eqb-true stars more both.1)))
agreed _ _ z w g h = absurd cc

pub number_where : (t : Ty) → is_value t ≡ true → is_pointer t ≡ false → t ≡ Number
number_where Number v h = refl
number_where _ v h = absurd cc

-- ---- boxes

abbrev type_first : List Slot → List PExpr → Ty
type_first slots [] = Unknown
type_first slots (e ∷ es) = plain_type slots e

operand-items : {n : _} (slots : List Slot) (row : Row_of-PExpr n) → operand_type slots row ≡ type_first slots (items-the_row-PExpr n row)
operand-items slots end_of-PExpr = refl
operand-items slots (more_of-PExpr e rest) = refl

boxed : (slots : List Slot) (e : PExpr) → operand_type slots (hidden-the_row-PExpr-0 e) ≡ plain_type slots e
boxed slots e = operand-items slots (hidden-the_row-PExpr-0 e) ∙ ap (type_first slots) (items_hidden-the_row-PExpr-0 e)

pub type-neg : (slots : List Slot) (e : PExpr) → plain_type slots (Neg e) ≡ number_if (is_number (plain_type slots e))
type-neg slots e = ap (λ t. number_if (is_number t)) (boxed slots e)

pub type-not : (slots : List Slot) (e : PExpr) → plain_type slots (Not e) ≡ number_if (is_number (plain_type slots e))
type-not slots e = ap (λ t. number_if (is_number t)) (boxed slots e)

type-null : (slots : List Slot) (e : PExpr) → plain_type slots (IsNull e) ≡ number_if (is_pointer (plain_type slots e))
type-null slots e = ap (λ t. number_if (is_pointer t)) (boxed slots e)

abbrev numbers : Ty → Ty → Ty
numbers s t = number_if (is_number s && is_number t)

pub type-bin : (slots : List Slot) (op : BinOp) (a b : PExpr) → plain_type slots (Bin op a b) ≡ number_if (is_number (plain_type slots a) && is_number (plain_type slots b))
type-bin slots op a b = ap₂ numbers (boxed slots a) (boxed slots b)

type-shift : (slots : List Slot) (a b : PExpr) → plain_type slots (Shift a b) ≡ shifted (plain_type slots a) (plain_type slots b)
type-shift slots a b = ap₂ shifted (boxed slots a) (boxed slots b)

-- ---- operators

module _ (slots : List Slot) (a b : PExpr) where
  abbrev Gives : BinOp → Ty → Ty → Type 0
  Gives op left right = plain_type slots (operator left right op a b) ≡ combined op left right

  add_gives : (left right : Ty) → plain_type slots a ≡ left → plain_type slots b ≡ right → is_value left ≡ true → is_value right ≡ true → is_pointer right ≡ false → Gives Add left right
  add_gives Number Number x y v w h = type-bin slots Add a b ∙ ap₂ numbers x y
  add_gives (Pointer base stars) Number x y v w h = type-shift slots a b ∙ ap₂ shifted x y
  add_gives _ _ x y v w h = absurd cc

  sub_gives : (left right : Ty) → plain_type slots a ≡ left → plain_type slots b ≡ right → is_value left ≡ true → is_value right ≡ true → is_pointer right ≡ false → Gives Sub left right
  sub_gives Number Number x y v w h = type-bin slots Sub a b ∙ ap₂ numbers x y
  sub_gives (Pointer base stars) Number x y v w h = type-shift slots a (Neg b) ∙ ap₂ shifted x (type-neg slots b ∙ ap (λ t. number_if (is_number t)) y)
  sub_gives _ _ x y v w h = absurd cc

  null_gives : (e : PExpr) (base : Base) (stars : ℕ) → plain_type slots e ≡ Pointer base stars → plain_type slots (IsNull e) ≡ Number
  null_gives e base stars x = type-null slots e ∙ ap (λ t. number_if (is_pointer t)) x

  no_null_gives : (e : PExpr) (base : Base) (stars : ℕ) → plain_type slots e ≡ Pointer base stars → plain_type slots (Not (IsNull e)) ≡ Number
  no_null_gives e base stars x = type-not slots (IsNull e) ∙ ap (λ t. number_if (is_number t)) (null_gives e base stars x)

  eq_gives : (left right : Ty) → plain_type slots a ≡ left → plain_type slots b ≡ right → is_value left ≡ true → is_value right ≡ true → Gives Eq left right
  eq_gives Number Number x y v w = type-bin slots Eq a b ∙ ap₂ numbers x y
  eq_gives Number (Pointer base stars) x y v w = null_gives b base stars y
  eq_gives (Pointer base stars) right x y v w = null_gives a base stars x
  eq_gives _ _ x y v w = absurd cc

  ne_gives : (left right : Ty) → plain_type slots a ≡ left → plain_type slots b ≡ right → is_value left ≡ true → is_value right ≡ true → Gives Ne left right
  ne_gives Number Number x y v w = type-bin slots Ne a b ∙ ap₂ numbers x y
  ne_gives Number (Pointer base stars) x y v w = no_null_gives b base stars y
  ne_gives (Pointer base stars) right x y v w = no_null_gives a base stars x
  ne_gives _ _ x y v w = absurd cc

  two_numbers : (op : BinOp) (left right : Ty) → plain_type slots a ≡ left → plain_type slots b ≡ right → is_value left ≡ true → is_value right ≡ true → (is_pointer left || is_pointer right) ≡ false → plain_type slots (Bin op a b) ≡ Number
  two_numbers op left right x y v w h =
      let none = or_parts (is_pointer left) (is_pointer right) h in
      type-bin slots op a b ∙ ap₂ numbers (x ∙ number_where left v none.0) (y ∙ number_where right w none.1)

  -- an operator has the type that the source's has
  pub operator_gives : (op : BinOp) (left right : Ty) (left_zero right_zero : Bool) → plain_type slots a ≡ left → plain_type slots b ≡ right → is_value left ≡ true → is_value right ≡ true
      → operator_misfits op left left_zero right right_zero ≡ false → plain_type slots (operator left right op a b) ≡ combined op left right
  operator_gives Add left right lz rz x y v w h = add_gives left right x y v w h
  operator_gives Sub left right lz rz x y v w h = sub_gives left right x y v w h
  operator_gives Eq left right lz rz x y v w h = eq_gives left right x y v w
  operator_gives Ne left right lz rz x y v w h = ne_gives left right x y v w
  operator_gives op left right lz rz x y v w h = two_numbers op left right x y v w h

-- ---- where a value may stand

-- a value of a type stands where this type is wanted
pub fits_of : (slots : List Slot) (t : Ty) (e : PExpr) → plain_type slots e ≡ t → is_value t ≡ true → fits slots t e ≡ true
fits_of slots t Null x v = let e : is_value Unknown ≡ true = ap is_value x ∙ v in absurd cc
fits_of slots t e x v = ap (agree t) x ∙ agree_self t v

-- an atom that points is a slot
pub slot_of_atom : (slots : List Slot) (e : PExpr) → is_atom e ≡ true → is_pointer (plain_type slots e) ≡ true → slot_type slots (slot_in e) ≡ plain_type slots e
slot_of_atom slots (InSlot n) h is = refl
slot_of_atom slots (Num n) h is = absurd cc
slot_of_atom slots Null h is = absurd cc
slot_of_atom slots e h is = absurd cc

-- ---- slots

-- the struct that a type names is known
abbrev pub is_known_type : Program → Ty → Bool
is_known_type p (Pointer base stars) = is_known p base
is_known_type p (Element name) = is_known p (Struct name)
is_known_type p _ = true

pub known_with : (p : Program) (base : Base) → is_known (with_structs p.structs) base ≡ is_known p base
known_with p Int = refl
known_with p (Struct name) = refl

pub declared_starred : (base : Base) (stars : ℕ) → declared_as base (suc stars) ≡ Pointer base stars
declared_starred Int stars = refl
declared_starred (Struct name) stars = refl

-- a slot for a value of a type has this type
pub declared_for : (t : Ty) → is_value t ≡ true → declared (ctype_for t) ≡ t
declared_for Number v = refl
declared_for (Pointer base stars) v = declared_starred base stars
declared_for _ v = absurd cc

pub slot_for : (p : Program) (t : Ty) → is_value t ≡ true → is_known_type p t ≡ true → is_slot_type p.structs (ctype_for t) ≡ true
slot_for p Number v k = refl
slot_for p (Pointer base stars) v k = and_from _ _ (ap is_value (declared_starred base stars)) (known_with p base ∙ k)
slot_for p _ v k = absurd cc

pub type_there : (slots final : List Slot) (n : ℕ) (s : Slot) → Extends slots final → slice_get slots n ≡ Some s → slot_type final n ≡ declared s.ctype
type_there slots final n s extends is = ap type_at (extends.there n s is)

-- ---- fields

field_at : (fields : List Param) (name : List ℕ) → slice_get fields (number_among fields name) ≡ field_among fields name
field_at [] name = refl
field_at (f ∷ fields) name = at (same f.name name) (field_at fields name) where
  at : (b : Bool) → slice_get fields (number_among fields name) ≡ field_among fields name
      → slice_get (f ∷ fields) (cond b 0 (suc (number_among fields name))) ≡ cond b (Some f) (field_among fields name)
  at true later = refl
  at false later = later

field_in : (found : Option StructDef) (name : List ℕ) → type_of_field (slice_get (fields_in found) (number_in found name)) ≡ type_of_field (option_and_then (λ (s : StructDef). field_among s.fields name) found)
field_in None name = refl
field_in (Some s) name = ap type_of_field (field_at s.fields name)

-- a field by its number has the type that it has by its name
pub field_reached : (p : Program) (t : Ty) (name : List ℕ) → is_value (dotted p t name) ≡ true → field_type p.structs t (field_number p.structs t name) ≡ dotted p t name
field_reached p (Element struct) name v = field_in (struct_of p.structs struct) name
field_reached p _ name v = absurd cc

pub first_field : (structs : List StructDef) (t : Ty) → is_value t ≡ true → field_type structs t 0 ≡ t
first_field structs Number v = refl
first_field structs (Pointer base stars) v = refl
first_field structs _ v = absurd cc
