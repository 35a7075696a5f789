-- The values of expressions of every kind, in a state with an int, the number 3 and a pointer.
use Rattle.std.proofs.Common.{◌≡◌, refl}
use Rattle.std.specs.Prelude.{ℕ, ℤ, List, [], ◌∷◌, Option, None, Some, pos, negsuc}
use Rattle.lq_tree.specs.declared.expr.Base.TheVariants.{Int}
use Rattle.lq_tree.specs.declared.expr.BinOp.TheVariants.{Mul, Div, Rem, Add, Sub, Lt, And}
use Rattle.lq_tree.specs.declared.plain.PExpr.{Null, Slot}
use Rattle.lq_linear.specs.Terms.{Term}
use Rattle.lq_linear.specs.Form.{Linear}
use Rattle.lq_linear.specs.declared.divisor.Divisor.{Divisor}
use Rattle.lq_linear.specs.declared.item.Item.{Item}
use Rattle.lq_linear.specs.declared.item.Item.TheVariants.{Holds, Division, Remainder}
use Rattle.lq_meaning.proofs.worked.PlainWords.{num, neg, not, bin, shift, is_null}
use Rattle.lq_templates.specs.declared.condition.Given.{Given}
use Rattle.lq_templates.specs.declared.condition.Given.TheVariants.{Fixed}
use Rattle.lq_symbolic.specs.declared.value.SymValue.TheVariants.{Int as OfInt, Ptr as OfPointer}
use Rattle.lq_symbolic.specs.declared.state.SymState.{SymState as State}
use Rattle.lq_symbolic.specs.State.{Valued, new_of}
use Rattle.lq_symbolic.specs.Value.{value, divisor_of}

-- ---- words

abbrev pub form : List Term → ℤ → Linear
form terms constant = record { terms = terms; constant = constant }

abbrev pub sym : ℕ → Linear
sym n = form ((n, pos 1) ∷ []) (pos 0)

abbrev pub row : List Term → ℤ → Given
row terms most = Fixed (Holds (record { terms = terms; most = most }))

abbrev divided : (Divisor → Item) → Option Divisor → List Given
divided item None = []
divided item (Some d) = Fixed (item d) ∷ []

-- slot 0 is symbol 0, slot 1 is 3, slot 2 points into the block of symbol 1 at symbol 2; so many symbols are taken
abbrev pub state : (items : List Given) → (next : ℕ) → State
state items next = record {
  slots = OfInt (sym 0) ∷ OfInt (form [] (pos 3)) ∷ OfPointer (record { class = 7; block = 1; offset = sym 2 }) ∷ [];
  items = items;
  opened = [];
  scopes = [];
  next = next;
}

abbrev int : Linear → (items : List Given) → (next : ℕ) → Valued
int value items next = record { value = OfInt value; state = state items next }

-- nothing is known, but that there is an int
abbrev new : Valued
new = int (sym 3) [] 4

-- ---- numbers, sums and products

number_at_bound : value (num 1099511627776) (state [] 3) ≡ int (form [] (pos 1099511627776)) [] 3
number_at_bound = refl

number_past : value (num 1099511627777) (state [] 3) ≡ new
number_past = refl

sum : value (bin Add (Slot 0) (bin Sub (Slot 1) (neg (Slot 0)))) (state [] 3) ≡ int (form ((0, pos 2) ∷ []) (pos 3)) [] 3
sum = refl

nothing_left : value (bin Sub (Slot 0) (Slot 0)) (state [] 3) ≡ int (form [] (pos 0)) [] 3
nothing_left = refl

sum_past : value (bin Add (num 1099511627776) (num 1)) (state [] 3) ≡ new
sum_past = refl

multiple : value (bin Mul (Slot 0) (Slot 1)) (state [] 3) ≡ int (form ((0, pos 3) ∷ []) (pos 0)) [] 3
multiple = refl

factor_at_bound : value (bin Mul (num 65536) (Slot 0)) (state [] 3) ≡ int (form ((0, pos 65536) ∷ []) (pos 0)) [] 3
factor_at_bound = refl

factor_past : value (bin Mul (num 65537) (Slot 0)) (state [] 3) ≡ new
factor_past = refl

product : value (bin Mul (Slot 0) (Slot 0)) (state [] 3) ≡ new
product = refl

product_past : value (bin Mul (num 2) (bin Mul (num 65536) (Slot 0))) (state [] 3) ≡ new
product_past = refl

-- ---- quotients and remainders

quotient : value (bin Div (Slot 0) (Slot 1)) (state [] 3) ≡ int (sym 3) (divided (Division 3 (sym 0)) (divisor_of (Some (pos 3)))) 4
quotient = refl

remainder : value (bin Rem (Slot 0) (num 65536)) (state [] 3) ≡ int (sym 3) (divided (Remainder 3 (sym 0)) (divisor_of (Some (pos 65536)))) 4
remainder = refl

divisor_past : value (bin Div (Slot 0) (num 65537)) (state [] 3) ≡ new
divisor_past = refl

divisor_zero : value (bin Rem (Slot 0) (num 0)) (state [] 3) ≡ new
divisor_zero = refl

-- operands bring their items where the result is new
operand_items : value (bin Mul (bin Div (Slot 0) (num 3)) (Slot 0)) (state [] 3) ≡ int (sym 4) (divided (Division 3 (sym 0)) (divisor_of (Some (pos 3)))) 5
operand_items = refl

-- but not those of comparisons, `&&`, `!` and IsNull
comparison : value (bin Lt (bin Div (Slot 0) (num 3)) (Slot 0)) (state [] 3) ≡ new
comparison = refl

conjunction : value (bin And (bin Div (Slot 0) (num 3)) (Slot 0)) (state [] 3) ≡ new
conjunction = refl

negation : value (not (bin Div (Slot 0) (num 3))) (state [] 3) ≡ new
negation = refl

null_test : value (is_null Null) (state [] 3) ≡ new
null_test = refl

-- ---- pointers

null : value Null (state [] 3) ≡ record {
  value = OfPointer (record { class = 0; block = 3; offset = form [] (pos 0) });
  state = state (row ((3, negsuc 0) ∷ []) (pos 0) ∷ row ((3, pos 1) ∷ []) (pos 0) ∷ []) 4;
}
null = refl

shifted : value (shift (Slot 2) (neg (Slot 1))) (state [] 3) ≡ record {
  value = OfPointer (record { class = 7; block = 1; offset = form ((2, pos 1) ∷ []) (negsuc 2) });
  state = state (row ((2, negsuc 0) ∷ []) (negsuc 2) ∷ []) 3;
}
shifted = refl

shifted_past : value (shift (shift (Slot 2) (num 1099511627776)) (num 1)) (state [] 3) ≡ record {
  value = OfPointer (record { class = 7; block = 1; offset = sym 3 });
  state = state (row ((2, negsuc 0) ∷ []) (pos 1099511627776) ∷ row ((3, negsuc 0) ∷ []) (pos 0) ∷ []) 4;
}
shifted_past = refl

-- a new pointer
new_pointer : new_of 5 (record { base = Int; stars = 1 }) (state [] 3) ≡ record {
  value = OfPointer (record { class = 5; block = 3; offset = sym 4 });
  state = state (row ((3, negsuc 0) ∷ []) (pos 0) ∷ row ((4, negsuc 0) ∷ []) (pos 0) ∷ []) 5;
}
new_pointer = refl
