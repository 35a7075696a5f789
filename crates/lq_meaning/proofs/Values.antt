-- The value of each form of plain expression, from the values of its parts. The definitions match on rows; a program is written
-- with boxes.
use Rattle.std.proofs.Common.{◌≡◌, ℤ, List, [], ◌∷◌, pos, refl, sym, ap, ◌∙◌, Result, Ok, Err, IfOk, IfErr, ◌⊎◌, inl, inr}
use Rattle.lq_tree.specs.declared.expr.BinOp.{BinOp}
use Rattle.lq_tree.specs.declared.expr.BinOp.TheVariants.{Mul, Div, Rem, Add, Sub, Lt, Le, Gt, Ge, Eq, Ne, And, Or}
use Rattle.lq_tree.specs.declared.plain.PExpr.{PExpr, Neg, Not, Bin, Shift, IsNull, Row_of-PExpr, end_of-PExpr, more_of-PExpr, items-the_row-PExpr, items_hidden-the_row-PExpr-0}
use Rattle.lq_tree.specs.declared.plain.PExpr.TheBlock.{hidden-the_row-PExpr-0}
use Rattle.lq_tree.specs.declared.trap.TrapKind.{TrapKind}
use Rattle.lq_meaning.specs.Operators.{Computed, Computes, Fails, then_compute, negation, truth, is_zero, arithmetic, shifted}
use Rattle.lq_meaning.specs.Value.{says}
use Rattle.lq_meaning.specs.PlainMeaning.{Slots, value, value_row, operated}

-- the value of the first of several expressions
abbrev first_value : Slots → List PExpr → Computed
first_value slots [] = Computes (pos 0)
first_value slots (e ∷ es) = value slots e

-- a row has the value of its first expression
value_row-items : {n : _} (slots : Slots) (row : Row_of-PExpr n) → value_row slots row ≡ first_value slots (items-the_row-PExpr n row)
value_row-items slots end_of-PExpr = refl
value_row-items slots (more_of-PExpr e rest) = refl

-- the row of a box has the value of what the box holds
value_row-boxed : (slots : Slots) (e : PExpr) → value_row slots (hidden-the_row-PExpr-0 e) ≡ value slots e
value_row-boxed slots e = value_row-items slots (hidden-the_row-PExpr-0 e) ∙ ap (first_value slots) (items_hidden-the_row-PExpr-0 e)

pub value_neg : (slots : Slots) (e : PExpr) → value slots (Neg e) ≡ then_compute (value slots e) negation
value_neg slots e = simp value_row-boxed

pub value_not : (slots : Slots) (e : PExpr) → value slots (Not e) ≡ then_compute (value slots e) (λ x. Computes (truth (is_zero x)))
value_not slots e = simp value_row-boxed

pub value_is_null : (slots : Slots) (e : PExpr) → value slots (IsNull e) ≡ then_compute (value slots e) (λ x. Computes (truth (is_zero x)))
value_is_null slots e = simp value_row-boxed

pub value_bin : (slots : Slots) (op : BinOp) (a b : PExpr) → value slots (Bin op a b) ≡ operated op (value slots a) (value slots b)
value_bin slots op a b = simp value_row-boxed

pub value_shift : (slots : Slots) (a n : PExpr) → value slots (Shift a n) ≡ then_compute (value slots a) (λ p. then_compute (value slots n) (shifted p))
value_shift slots a n = simp value_row-boxed

-- what a result says is told by its two clauses
pub ok_of : (r : Result ℤ TrapKind) (v : Computed) → says r ≡ v → IfOk r (λ x. v ≡ Computes x)
ok_of (Ok x) v e = sym e
ok_of (Err kind) v e = tt

pub err_of : (r : Result ℤ TrapKind) (v : Computed) → says r ≡ v → IfErr r (λ kind. v ≡ Fails kind)
err_of (Ok x) v e = tt
err_of (Err kind) v e = sym e

-- an operator whose left side traps
operated_fails : (op : BinOp) (kind : TrapKind) (right : Computed) → operated op (Fails kind) right ≡ Fails kind
operated_fails Mul kind right = refl
operated_fails Div kind right = refl
operated_fails Rem kind right = refl
operated_fails Add kind right = refl
operated_fails Sub kind right = refl
operated_fails Lt kind right = refl
operated_fails Le kind right = refl
operated_fails Gt kind right = refl
operated_fails Ge kind right = refl
operated_fails Eq kind right = refl
operated_fails Ne kind right = refl
operated_fails And kind right = refl
operated_fails Or kind right = refl

-- the value of an operator, by that of its left side; the operands are given as the code reads them
module _ (slots : Slots) (e a b left right : PExpr) (op : BinOp) (is : e ≡ Bin op a b) (left_is : left ≡ a) (right_is : right ≡ b) where
  bin_is : (c : Computed) → value slots left ≡ c → value slots e ≡ operated op c (value slots right)
  bin_is c v =
      rw (is, value_bin slots op a b, sym left_is, sym right_is, v) refl

  pub bin_fails : (kind : TrapKind) → value slots left ≡ Fails kind → value slots e ≡ Fails kind
  bin_fails kind v = bin_is (Fails kind) v ∙ operated_fails op kind (value slots right)

  pub bin_decided : (x word : ℤ) → value slots left ≡ Computes x → ((c : Computed) → operated op (Computes x) c ≡ Computes word) → value slots e ≡ Computes word
  bin_decided x word v decides = bin_is (Computes x) v ∙ decides (value slots right)

  pub bin_then : (x : ℤ) → value slots left ≡ Computes x → ((c : Computed) → operated op (Computes x) c ≡ then_compute c (arithmetic op x)) →
      (c : Computed) → value slots right ≡ c → value slots e ≡ then_compute c (arithmetic op x)
  bin_then x v goes c w = bin_is (Computes x) v ∙ goes (value slots right) ∙ ap (λ c. then_compute c (arithmetic op x)) w

-- the value of a shift
pub shift_is : (slots : Slots) (e a n pointer count : PExpr) (is : e ≡ Shift a n) (pointer_is : pointer ≡ a) (count_is : count ≡ n) (c d : Computed) →
    value slots pointer ≡ c → value slots count ≡ d → value slots e ≡ then_compute c (λ p. then_compute d (shifted p))
shift_is slots e a n pointer count is pointer_is count_is c d v w = rw (is, value_shift slots a n, sym pointer_is, sym count_is, v, w) refl

-- the value of a negation and of a test for null
pub tested_is : (slots : Slots) (e a v : PExpr) → (e ≡ Not a) ⊎ (e ≡ IsNull a) → v ≡ a → (c : Computed) → value slots v ≡ c →
    value slots e ≡ then_compute c (λ x. Computes (truth (is_zero x)))
tested_is slots e a v (inl is) v_is c given = rw (is, value_not slots a, sym v_is, given) refl
tested_is slots e a v (inr is) v_is c given = rw (is, value_is_null slots a, sym v_is, given) refl
