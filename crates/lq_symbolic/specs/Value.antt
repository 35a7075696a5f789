-- The values of expressions (docs/CHECKING.md, "Values").
use Rattle.std.specs.Prelude.{◌^◌, Bool, true, false, T, if◌then◌else◌, List, [], ◌∷◌, Option, None, Some, ℤ, pos, negsuc}
use Rattle.std.specs.Int.Signed.{le_z, le_z_yes}
use Rattle.lq_tree.specs.declared.expr.BinOp.{BinOp}
use Rattle.lq_tree.specs.declared.expr.BinOp.TheVariants.{Mul, Div, Rem, Add, Sub}
use Rattle.lq_tree.specs.declared.plain.PExpr.{PExpr, Num, Null, Slot, Neg', Not', Bin', Shift', IsNull', Row_of-PExpr, end_of-PExpr, more_of-PExpr}
use Rattle.lq_linear.specs.Form.{Linear, sum_of, multiple_of}
use Rattle.lq_linear.specs.Collect.{is_within, as_form, constant, symbol}
use Rattle.lq_linear.specs.declared.divisor.Divisor.{Divisor}
use Rattle.lq_linear.specs.declared.item.Item.{Item}
use Rattle.lq_linear.specs.declared.item.Item.TheVariants.{Division, Remainder}
use Rattle.lq_templates.specs.declared.condition.Given.TheVariants.{Fixed}
use Rattle.lq_symbolic.specs.declared.value.SymPtr.{SymPtr}
use Rattle.lq_symbolic.specs.declared.value.SymValue.{SymValue}
use Rattle.lq_symbolic.specs.declared.value.SymValue.TheVariants.{Int as OfInt, Ptr as OfPointer}
use Rattle.lq_symbolic.specs.declared.state.SymState.{SymState as State}
use Rattle.lq_symbolic.specs.State.{form_of, pointer_of, Valued, AllValued, value_at, with_items, with_row, taken, not_below_zero, new_int, new_null}

-- a value that needs nothing new
abbrev pub known : SymValue → State → Valued
known value s = record { value = value; state = s }

-- the form, or a new int where there is none
abbrev pub known_or_new : Option Linear → State → Valued
known_or_new None s = new_int s
known_or_new (Some form) s = known (OfInt form) s

-- a sum, or a new int where it passes the bounds of a form
abbrev pub bounded_or_new : Linear → State → Valued
bounded_or_new sum s = known_or_new (as_form sum) s

-- a number within 2^40 is itself
abbrev pub number : ℤ → State → Valued
number n s = if is_within (2 ^ 40) n then known (OfInt (constant n)) s else new_int s

-- the number that a form without symbols is
abbrev pub number_of : Linear → Option ℤ
number_of form = elim form.terms as (λ _. Option ℤ) [ [] ↦ Some form.constant | _ ↦ None ]

-- a number within 2^16, by which a form may be multiplied
abbrev pub factor_of : Option ℤ → Option ℤ
factor_of None = None
factor_of (Some z) = if is_within (2 ^ 16) z then Some z else None

-- the multiple of a form by a factor, if that is one, or else what is left to do
abbrev pub multiple_or : Option ℤ → Linear → (State → Valued) → State → Valued
multiple_or None form otherwise s = otherwise s
multiple_or (Some z) form otherwise s = bounded_or_new (multiple_of z form) s

-- a product in which one form is a factor is a multiple of the other
abbrev pub product : (a b : Linear) → State → Valued
product a b s = multiple_or (factor_of (number_of a)) b (multiple_or (factor_of (number_of b)) a new_int) s

-- what follows where a test is passed, or the other
abbrev pub where_passed : {A : Type 0} → (test : Bool) → (T test → A) → A → A
where_passed true next otherwise = next tt
where_passed false next otherwise = otherwise

-- the divisor that a number is, from 1 to 65,536
abbrev pub divisor_of : Option ℤ → Option Divisor
divisor_of None = None
divisor_of (Some z) =
    where_passed (le_z (pos 1) z) (λ low. where_passed (le_z z (pos 65536))
    (λ high. Some (record { value = z; at_least = le_z_yes low; at_most = le_z_yes high })) None) None

-- a new int, and an item that says what it is; without a divisor nothing is known of it
abbrev pub new_with : (Divisor → Item) → Option Divisor → State → Valued
new_with item None s = new_int s
new_with item (Some d) s = record { value = OfInt (symbol s.next); state = with_items (Fixed (item d) ∷ []) (taken 1 s) }

-- a new quotient, with its division
abbrev pub quotient : (a b : Linear) → State → Valued
quotient a b s = new_with (Division s.next a) (divisor_of (number_of b)) s

-- a new remainder, with its item
abbrev pub remainder : (a b : Linear) → State → Valued
remainder a b s = new_with (Remainder s.next a) (divisor_of (number_of b)) s

-- the operands, from left to right, and what comes of their values
abbrev pub both : (left right : State → Valued) → (SymValue → SymValue → State → Valued) → State → Valued
both left right next s = let a = left s in let b = right a.state in next a.value b.value b.state

-- the same, of ints
abbrev pub both_ints : (left right : State → Valued) → (Linear → Linear → State → Valued) → State → Valued
both_ints left right next s = both left right (λ a b. next (form_of a) (form_of b)) s

-- an operator; the operands of comparisons, `&&` and `||` are not looked at
abbrev pub operated : BinOp → (left right : State → Valued) → State → Valued
operated Add left right s = both_ints left right (λ a b. bounded_or_new (sum_of a b)) s
operated Sub left right s = both_ints left right (λ a b. bounded_or_new (sum_of a (multiple_of (negsuc 0) b))) s
operated Mul left right s = both_ints left right product s
operated Div left right s = both_ints left right quotient s
operated Rem left right s = both_ints left right remainder s
operated _ left right s = new_int s

-- an int with its sign turned
abbrev pub negated : Valued → Valued
negated a = bounded_or_new (multiple_of (negsuc 0) (form_of a.value)) a.state

-- a pointer with this offset, and the row `offset >= 0`
abbrev pub with_offset : SymPtr → Valued → Valued
with_offset p offset =
    let form = form_of offset.value in
    record { value = OfPointer (record p { offset = form }); state = with_row (not_below_zero form) offset.state }

-- a pointer so many elements further on
abbrev pub shifted : SymPtr → (distance : Linear) → State → Valued
shifted p distance s = with_offset p (bounded_or_new (sum_of p.offset distance) s)

-- the value of an expression
abbrev mutual
  pub value : PExpr → State → Valued
  value (Num n) s = number n s
  value Null s = new_null s
  value (Slot n) s = known (value_at s n) s
  value (Neg' p e) s = negated (value_row e s)
  value (Not' p e) s = new_int s
  value (Bin' op p a q b) s = operated op (value_row a) (value_row b) s
  value (Shift' p a q n) s = both (value_row a) (value_row n) (λ pointer distance. shifted (pointer_of pointer) (form_of distance)) s
  value (IsNull' p e) s = new_int s

  -- of the one operand of a box
  pub value_row : {n : _} → Row_of-PExpr n → State → Valued
  value_row end_of-PExpr s = new_int s
  value_row (more_of-PExpr e rest) s = value e s

-- the values of expressions, from left to right
abbrev pub all_values : List PExpr → State → AllValued
all_values [] s = record { values = []; state = s }
all_values (e ∷ rest) s =
    let first = value e s in
    let later = all_values rest first.state in
    record { values = first.value ∷ later.values; state = later.state }
