-- What conditions of every kind tell where they are true and where they are false.
use Rattle.std.proofs.Common.{◌≡◌, refl}
use Rattle.std.specs.Prelude.{List, [], ◌∷◌, pos, negsuc, true, false}
use Rattle.lq_tree.specs.declared.expr.BinOp.TheVariants.{Add, Lt, Le, Gt, Ge, Eq, Ne, And, Or, Mul}
use Rattle.lq_tree.specs.declared.plain.PExpr.{PExpr, Slot}
use Rattle.lq_meaning.proofs.worked.PlainWords.{num, neg, not, bin, is_null}
use Rattle.lq_templates.specs.declared.condition.Given.{Given}
use Rattle.lq_symbolic.specs.declared.state.SymState.{SymState as State}
use Rattle.lq_symbolic.specs.Assume.{assumed}
use Rattle.lq_symbolic.proofs.worked.Values.{row, state}

-- the state in front, and behind with these items
abbrev before : State
before = state [] 3

abbrev with : List Given → State
with items = state items 3

less : assumed true (bin Lt (Slot 0) (Slot 1)) before ≡ with (row ((0, pos 1) ∷ []) (pos 2) ∷ [])
less = refl

not_less : assumed false (bin Lt (Slot 0) (Slot 1)) before ≡ with (row ((0, negsuc 0) ∷ []) (negsuc 2) ∷ [])
not_less = refl

most : assumed true (bin Le (Slot 0) (Slot 1)) before ≡ with (row ((0, pos 1) ∷ []) (pos 3) ∷ [])
most = refl

not_most : assumed false (bin Le (Slot 0) (Slot 1)) before ≡ with (row ((0, negsuc 0) ∷ []) (negsuc 3) ∷ [])
not_most = refl

more : assumed true (bin Gt (Slot 0) (Slot 1)) before ≡ with (row ((0, negsuc 0) ∷ []) (negsuc 3) ∷ [])
more = refl

not_more : assumed false (bin Gt (Slot 0) (Slot 1)) before ≡ with (row ((0, pos 1) ∷ []) (pos 3) ∷ [])
not_more = refl

least : assumed true (bin Ge (Slot 0) (Slot 1)) before ≡ with (row ((0, negsuc 0) ∷ []) (negsuc 2) ∷ [])
least = refl

not_least : assumed false (bin Ge (Slot 0) (Slot 1)) before ≡ with (row ((0, pos 1) ∷ []) (pos 2) ∷ [])
not_least = refl

-- two rows, in this order
abbrev is_three : List Given
is_three = row ((0, pos 1) ∷ []) (pos 3) ∷ row ((0, negsuc 0) ∷ []) (negsuc 2) ∷ []

equal : assumed true (bin Eq (Slot 0) (Slot 1)) before ≡ with is_three
equal = refl

not_equal : assumed false (bin Eq (Slot 0) (Slot 1)) before ≡ before
not_equal = refl

different : assumed true (bin Ne (Slot 0) (Slot 1)) before ≡ before
different = refl

not_different : assumed false (bin Ne (Slot 0) (Slot 1)) before ≡ with is_three
not_different = refl

-- where no row comes of it, no operand is valued
no_row : assumed true (bin Ne (bin Mul (Slot 0) (Slot 0)) (Slot 1)) before ≡ before
no_row = refl

valued : assumed true (bin Lt (bin Mul (Slot 0) (Slot 0)) (Slot 1)) before ≡ state (row ((3, pos 1) ∷ []) (pos 2) ∷ []) 4
valued = refl

-- a row without symbols is a row, and one that passes the bounds is none
plain_row : assumed true (bin Lt (num 1) (num 2)) before ≡ with (row [] (pos 0) ∷ [])
plain_row = refl

past : assumed true (bin Lt (bin Mul (num 65536) (Slot 0)) (bin Mul (num 1) (bin Add (Slot 0) (num 1)))) before ≡ with (row ((0, pos 65535) ∷ []) (pos 0) ∷ [])
past = refl

left_out : assumed true (bin Lt (bin Mul (num 65536) (Slot 0)) (neg (Slot 0))) before ≡ before
left_out = refl

-- ---- operators between conditions

abbrev low : PExpr
low = bin Ge (Slot 0) (num 0)

abbrev high : PExpr
high = bin Lt (Slot 0) (Slot 1)

both : assumed true (bin And low high) before ≡ with (row ((0, negsuc 0) ∷ []) (pos 0) ∷ row ((0, pos 1) ∷ []) (pos 2) ∷ [])
both = refl

not_both : assumed false (bin And low high) before ≡ before
not_both = refl

either : assumed true (bin Or low high) before ≡ before
either = refl

neither : assumed false (bin Or low high) before ≡ with (row ((0, pos 1) ∷ []) (negsuc 0) ∷ row ((0, negsuc 0) ∷ []) (negsuc 2) ∷ [])
neither = refl

opposite : assumed false (not high) before ≡ assumed true high before
opposite = refl

-- ---- pointers and other ints

null : assumed true (is_null (Slot 2)) before ≡ with (row ((1, pos 1) ∷ []) (pos 0) ∷ [])
null = refl

not_null : assumed true (not (is_null (Slot 2))) before ≡ with (row ((1, negsuc 0) ∷ []) (negsuc 0) ∷ [])
not_null = refl

nonzero : assumed true (bin Add (Slot 0) (Slot 1)) before ≡ before
nonzero = refl

zero : assumed false (bin Add (Slot 0) (Slot 1)) before ≡ with (row ((0, pos 1) ∷ []) (negsuc 2) ∷ row ((0, negsuc 0) ∷ []) (pos 3) ∷ [])
zero = refl
