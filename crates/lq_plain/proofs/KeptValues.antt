-- The values of expressions of the plain form, by the values of their parts.
use Rattle.std.proofs.Common.{◌≡◌, ℕ, zero, suc, ◌<◌, ◌≤◌, ℤ, pos, negsuc, Bool, true, false, cond, not, if◌then◌else◌, List, [], ◌∷◌, refl, sym, ap, ap₂, ◌∙◌, arith, true≢false}
use Rattle.std.specs.Ordering.{int_eq}
use Rattle.std.proofs.lemmas.Bool.{both_ways}
use Rattle.std.proofs.lemmas.Bool.Decides.{Decides-int_eq}
use Rattle.lq_tree.specs.declared.place.Place.{Place}
use Rattle.lq_tree.specs.declared.expr.BinOp.{BinOp}
use Rattle.lq_tree.specs.declared.expr.BinOp.TheVariants.{Mul, Div, Rem, Add, Sub, Lt, Le, Gt, Ge, Eq, Ne, And, Or}
use Rattle.lq_tree.specs.declared.plain.PExpr.{PExpr, Num, Null, Slot, Neg, Not, Bin, Shift, IsNull, Row_of-PExpr, end_of-PExpr, more_of-PExpr, items-the_row-PExpr, items_hidden-the_row-PExpr-0}
use Rattle.lq_tree.specs.declared.plain.PExpr.TheBlock.{hidden-the_row-PExpr-0}
use Rattle.lq_tree.specs.Types.{Ty, is_pointer}
use Rattle.lq_meaning.specs.Operators.{Computed, Computes, Fails, then_compute, negation, truth, truth_of, is_zero, shifted, arithmetic}
use Rattle.lq_meaning.specs.Control.{Run, give, ◌⨾◌, computed, by_truth}
use Rattle.lq_meaning.specs.Meaning.{operated as operated_in_order}
use Rattle.lq_meaning.specs.PlainMeaning.{Slots, word_of, value, value_row, operated}
use Rattle.lq_plain.specs.Flat.{is_atom, operator, is_true}
use Rattle.lq_plain.proofs.Related.{Keeps}

-- ---- boxes

value_first : Slots → List PExpr → Computed
value_first slots [] = Computes (pos 0)
value_first slots (e ∷ es) = value slots e

value_row-items : {n : _} (slots : Slots) (row : Row_of-PExpr n) → value_row slots row ≡ value_first slots (items-the_row-PExpr n row)
unfolding value_first
value_row-items slots end_of-PExpr = refl
value_row-items slots (more_of-PExpr e rest) = refl

boxed : (slots : Slots) (e : PExpr) → value_row slots (hidden-the_row-PExpr-0 e) ≡ value slots e
unfolding value_first
boxed slots e = value_row-items slots (hidden-the_row-PExpr-0 e) ∙ ap (value_first slots) (items_hidden-the_row-PExpr-0 e)

-- whether a value is null
abbrev nullness : ℤ → Computed
nullness x = Computes (truth (is_zero x))

abbrev shifted_by : Computed → Computed → Computed
shifted_by a b = then_compute a (λ pointer. then_compute b (shifted pointer))

pub value-neg : (slots : Slots) (e : PExpr) → value slots (Neg e) ≡ then_compute (value slots e) negation
value-neg slots e = ap (λ c. then_compute c negation) (boxed slots e)

pub value-not : (slots : Slots) (e : PExpr) → value slots (Not e) ≡ then_compute (value slots e) (λ x. Computes (truth (is_zero x)))
value-not slots e = ap (λ c. then_compute c nullness) (boxed slots e)

value-null : (slots : Slots) (e : PExpr) → value slots (IsNull e) ≡ then_compute (value slots e) nullness
value-null slots e = ap (λ c. then_compute c nullness) (boxed slots e)

pub value-bin : (slots : Slots) (op : BinOp) (a b : PExpr) → value slots (Bin op a b) ≡ operated op (value slots a) (value slots b)
value-bin slots op a b = ap₂ (operated op) (boxed slots a) (boxed slots b)

value-shift : (slots : Slots) (a b : PExpr) → value slots (Shift a b) ≡ shifted_by (value slots a) (value slots b)
value-shift slots a b = ap₂ shifted_by (boxed slots a) (boxed slots b)

-- ---- words

pub zero_is : (x : ℤ) → is_zero x ≡ true → x ≡ pos 0
zero_is x e = (Decides-int_eq x (pos 0)).0 e

not_so : (b : Bool) → (b ≡ true → ⊥) → b ≡ false
not_so true no_true = absurd (no_true refl)
not_so false no_true = refl

-- one of two by whether a word is true, or by whether it is 0
pub by_zero : {X : Type 0} (x : ℤ) (holds fails : Run X) → by_truth x holds fails ≡ cond (is_zero x) fails holds
by_zero (pos zero) holds fails = sym (ap (λ b. cond b fails holds) ((Decides-int_eq (pos 0) (pos 0)).1 refl))
by_zero (pos (suc n)) holds fails = sym (ap (λ b. cond b fails holds) (not_so (is_zero (pos (suc n))) (λ e. absurd (differ (zero_is (pos (suc n)) e))))) where
  differ : pos (suc n) ≡ pos 0 → ⊥
  differ e = grind arith
by_zero (negsuc n) holds fails = sym (ap (λ b. cond b fails holds) (not_so (is_zero (negsuc n)) (λ e. absurd (differ (zero_is (negsuc n) e))))) where
  differ : negsuc n ≡ pos 0 → ⊥
  differ e = grind arith

int_eq-comm : (x y : ℤ) → int_eq x y ≡ int_eq y x
int_eq-comm x y = go (int_eq x y) (int_eq y x) refl refl where
  go : (a b : Bool) → int_eq x y ≡ a → int_eq y x ≡ b → a ≡ b
  go true true e f = refl
  go false false e f = refl
  go true false e f = absurd (both_ways (int_eq y x) f ((Decides-int_eq y x).1 (sym ((Decides-int_eq x y).0 e))))
  go false true e f = absurd (both_ways (int_eq x y) e ((Decides-int_eq x y).1 (sym ((Decides-int_eq y x).0 f))))

truth-zero : (b : Bool) → is_zero (truth b) ≡ not b
truth-zero true = not_so (is_zero (pos 1)) (λ e. absurd (differ (zero_is (pos 1) e))) where
  differ : ◌≡◌ {A = ℤ} (pos 1) (pos 0) → ⊥
  differ e = grind arith
truth-zero false = (Decides-int_eq (pos 0) (pos 0)).1 refl

-- ---- operators

-- what an operator makes of the values of its operands
abbrev pub applied : (left right : Bool) → BinOp → (a b : Computed) → Computed
applied left right Add a b = if left then shifted_by a b else operated Add a b
applied left right Sub a b = if left then shifted_by a (then_compute b negation) else operated Sub a b
applied left right Eq a b = if left then then_compute a nullness else if right then then_compute b nullness else operated Eq a b
applied left right Ne a b = if left then then_compute (then_compute a nullness) nullness else if right then then_compute (then_compute b nullness) nullness else operated Ne a b
applied left right op a b = operated op a b

one_of : (slots : Slots) (x y : PExpr) {u v : Computed} (b : Bool) → value slots x ≡ u → value slots y ≡ v → value slots (cond b x y) ≡ cond b u v
one_of slots x y true holds fails = holds
one_of slots x y false holds fails = fails

pub operator-value : (slots : Slots) (left right : Ty) (op : BinOp) (a b : PExpr) → value slots (operator left right op a b) ≡ applied (is_pointer left) (is_pointer right) op (value slots a) (value slots b)
operator-value slots left right Add a b = one_of slots _ _ (is_pointer left) (value-shift slots a b) (value-bin slots Add a b)
operator-value slots left right Sub a b = one_of slots _ _ (is_pointer left) (value-shift slots a (Neg b) ∙ ap (shifted_by (value slots a)) (value-neg slots b)) (value-bin slots Sub a b)
operator-value slots left right Eq a b = one_of slots _ _ (is_pointer left) (value-null slots a) (one_of slots _ _ (is_pointer right) (value-null slots b) (value-bin slots Eq a b))
operator-value slots left right Ne a b =
    one_of slots _ _ (is_pointer left) (value-not slots (IsNull a) ∙ ap (λ c. then_compute c nullness) (value-null slots a))
    (one_of slots _ _ (is_pointer right) (value-not slots (IsNull b) ∙ ap (λ c. then_compute c nullness) (value-null slots b)) (value-bin slots Ne a b))
operator-value slots left right op a b = value-bin slots op a b

-- beside a pointer stands a value 0
abbrev pub AreZeros : (left right : Bool) → BinOp → (a b : Computed) → Type 0
AreZeros left right Eq a b = (left ≡ true → b ≡ Computes (pos 0)) × (right ≡ true → a ≡ Computes (pos 0))
AreZeros left right Ne a b = (left ≡ true → b ≡ Computes (pos 0)) × (right ≡ true → a ≡ Computes (pos 0))
AreZeros left right op a b = Unit {0}

pub computed-then : (at : Place) (a : Computed) (next : ℤ → Computed) → computed at (then_compute a next) ≡ (computed at a ⨾ λ x. computed at (next x))
computed-then at (Computes x) next = refl
computed-then at (Fails kind) next = refl

computed-cond : (at : Place) (b : Bool) (x y : Computed) → computed at (cond b x y) ≡ cond b (computed at x) (computed at y)
computed-cond at true x y = refl
computed-cond at false x y = refl

-- two operands in order, and then what is made of their words
abbrev in_order : Place → (a b : Computed) → (ℤ → ℤ → Computed) → Run ℤ
in_order at a b make = computed at a ⨾ λ x. computed at b ⨾ λ y. computed at (make x y)

ordered : (at : Place) (a b : Computed) (make : ℤ → ℤ → Computed) → in_order at a b make ≡ computed at (then_compute a (λ x. then_compute b (make x)))
ordered at (Computes x) b make = sym (computed-then at b (make x))
ordered at (Fails kind) b make = refl

-- the left operand alone, beside 0
left_alone : (at : Place) (a b : Computed) (make : ℤ → ℤ → Computed) (single : ℤ → Computed) → b ≡ Computes (pos 0) → ((x : ℤ) → make x (pos 0) ≡ single x) → in_order at a b make ≡ computed at (then_compute a single)
left_alone at a b make single zero_there same =
    ordered at a b make ∙ ap (λ c. computed at (then_compute a (λ x. then_compute c (make x)))) zero_there ∙ ap (λ (f : ℤ → Computed). computed at (then_compute a f)) (λ i x. same x i)

right_alone : (at : Place) (a b : Computed) (make : ℤ → ℤ → Computed) (single : ℤ → Computed) → a ≡ Computes (pos 0) → ((y : ℤ) → make (pos 0) y ≡ single y) → in_order at a b make ≡ computed at (then_compute b single)
right_alone at a b make single zero_there same =
    ordered at a b make ∙ ap (λ c. computed at (then_compute c (λ x. then_compute b (make x)))) zero_there ∙ ap (λ (f : ℤ → Computed). computed at (then_compute b f)) (λ i y. same y i)

then_twice : (a : Computed) (next last : ℤ → Computed) → then_compute (then_compute a next) last ≡ then_compute a (λ x. then_compute (next x) last)
then_twice (Computes x) next last = refl
then_twice (Fails kind) next last = refl

not_null : (x : ℤ) → Computes (truth (not (int_eq x (pos 0)))) ≡ then_compute (nullness x) nullness
not_null x = ap (λ b. Computes (truth b)) (sym (truth-zero (is_zero x)))

-- a `&&` in order
and_order : (at : Place) (pointer : Bool) (a b : Computed) → operated_in_order at pointer And (computed at a) (computed at b) ≡ computed at (operated And a b)
and_order at pointer (Fails kind) b = refl
and_order at pointer (Computes x) b =
    by_zero x (computed at b ⨾ λ y. give (truth_of y)) (give (pos 0)) ∙ ap (λ r. cond (is_zero x) (give (pos 0)) r) (sym (computed-then at b (λ y. Computes (truth_of y))))
    ∙ sym (computed-cond at (is_zero x) (Computes (pos 0)) (then_compute b (λ y. Computes (truth_of y))))

or_order : (at : Place) (pointer : Bool) (a b : Computed) → operated_in_order at pointer Or (computed at a) (computed at b) ≡ computed at (operated Or a b)
or_order at pointer (Fails kind) b = refl
or_order at pointer (Computes x) b =
    by_zero x (give (pos 1)) (computed at b ⨾ λ y. give (truth_of y)) ∙ ap (λ r. cond (is_zero x) r (give (pos 1))) (sym (computed-then at b (λ y. Computes (truth_of y))))
    ∙ sym (computed-cond at (is_zero x) (then_compute b (λ y. Computes (truth_of y))) (Computes (pos 1)))

-- operands in order, and then the operator, come to the value of the operator
pub in_order-value : (at : Place) (left right : Bool) (op : BinOp) (a b : Computed) → AreZeros left right op a b → operated_in_order at left op (computed at a) (computed at b) ≡ computed at (applied left right op a b)
in_order-value at left right And a b zeros = and_order at left a b
in_order-value at left right Or a b zeros = or_order at left a b
in_order-value at true right Add a b zeros = ordered at a b shifted
in_order-value at false right Add a b zeros = ordered at a b (arithmetic Add)
in_order-value at true right Sub a b zeros =
    ordered at a b (λ p n. then_compute (negation n) (shifted p)) ∙ ap (λ (f : ℤ → Computed). computed at (then_compute a f)) (λ i p. sym (then_twice b negation (shifted p)) i)
in_order-value at false right Sub a b zeros = ordered at a b (arithmetic Sub)
in_order-value at true right Eq a b zeros = left_alone at a b (arithmetic Eq) nullness (zeros.0 refl) (λ x. refl)
in_order-value at false true Eq a b zeros = right_alone at a b (arithmetic Eq) nullness (zeros.1 refl) (λ y. ap (λ t. Computes (truth t)) (int_eq-comm (pos 0) y))
in_order-value at false false Eq a b zeros = ordered at a b (arithmetic Eq)
in_order-value at true right Ne a b zeros =
    left_alone at a b (arithmetic Ne) (λ x. then_compute (nullness x) nullness) (zeros.0 refl) not_null ∙ ap (computed at) (sym (then_twice a nullness nullness))
in_order-value at false true Ne a b zeros =
    right_alone at a b (arithmetic Ne) (λ x. then_compute (nullness x) nullness) (zeros.1 refl) (λ y. ap (λ t. Computes (truth (not t))) (int_eq-comm (pos 0) y) ∙ not_null y) ∙ ap (computed at) (sym (then_twice b nullness nullness))
in_order-value at false false Ne a b zeros = ordered at a b (arithmetic Ne)
in_order-value at true right Mul a b zeros = ordered at a b (arithmetic Mul)
in_order-value at true right Div a b zeros = ordered at a b (arithmetic Div)
in_order-value at true right Rem a b zeros = ordered at a b (arithmetic Rem)
in_order-value at true right Lt a b zeros = ordered at a b (arithmetic Lt)
in_order-value at true right Le a b zeros = ordered at a b (arithmetic Le)
in_order-value at true right Gt a b zeros = ordered at a b (arithmetic Gt)
in_order-value at true right Ge a b zeros = ordered at a b (arithmetic Ge)
in_order-value at false right op a b zeros = ordered at a b (arithmetic op)

-- a value as a word 1 or 0
pub is_true-value : (slots : Slots) (e : PExpr) → value slots (is_true e) ≡ then_compute (value slots e) (λ x. Computes (truth_of x))
is_true-value slots e = value-bin slots Ne e (Num (pos 0))

-- ---- values that look at kept slots alone, and atoms

abbrev pub Closed : ℕ → PExpr → Type 0
Closed n e = (old new : Slots) → Keeps n old new → value new e ≡ value old e

pub closed_more : (n m : ℕ) (e : PExpr) → n ≤ m → Closed n e → Closed m e
closed_more n m e fits closed old new kept = closed old new (record { words = λ k below. kept.words k (omega arith); size = kept.size })

pub closed-slot : (n to : ℕ) → to < n → Closed n (Slot to)
closed-slot n to below old new kept = ap Computes (kept.words to below)

pub closed-neg : (n : ℕ) (e : PExpr) → Closed n e → Closed n (Neg e)
closed-neg n e closed old new kept = value-neg new e ∙ ap (λ c. then_compute c negation) (closed old new kept) ∙ sym (value-neg old e)

pub closed-not : (n : ℕ) (e : PExpr) → Closed n e → Closed n (Not e)
closed-not n e closed old new kept = value-not new e ∙ ap (λ c. then_compute c nullness) (closed old new kept) ∙ sym (value-not old e)

pub closed-operator : (n : ℕ) (left right : Ty) (op : BinOp) (a b : PExpr) → Closed n a → Closed n b → Closed n (operator left right op a b)
closed-operator n left right op a b first second old new kept =
    operator-value new left right op a b ∙ ap₂ (applied (is_pointer left) (is_pointer right) op) (first old new kept) (second old new kept) ∙ sym (operator-value old left right op a b)

-- the word of what computes one
abbrev pub word_computed : Computed → ℤ
word_computed (Computes x) = x
word_computed (Fails kind) = pos 0

-- the word of an atom
abbrev pub atom_word : PExpr → Slots → ℤ
atom_word (Num n) slots = n
atom_word (Slot n) slots = word_of slots n
atom_word e slots = pos 0

pub atom-value : (e : PExpr) → is_atom e ≡ true → (slots : Slots) → value slots e ≡ Computes (atom_word e slots)
atom-value (Num n) atomic slots = refl
atom-value Null atomic slots = refl
atom-value (Slot n) atomic slots = refl
atom-value e atomic slots = absurd (true≢false (sym atomic))

-- an atom looks at kept slots alone where its value does
pub atom_word-closed : (n : ℕ) (e : PExpr) → is_atom e ≡ true → Closed n e → (old new : Slots) → Keeps n old new → atom_word e old ≡ atom_word e new
atom_word-closed n e atomic closed old new kept = ap word_computed (sym (atom-value e atomic old) ∙ sym (closed old new kept) ∙ atom-value e atomic new)
