-- What a call gives, as the definitions have it.
use Rattle.std.proofs.Common.{◌≡◌, ℕ, zero, suc, ◌++◌, ◌^◌, ℤ, pos, negsuc, Bool, true, false, cond, not, List, [], ◌∷◌, get_or, slice_get, None, Some, Result, Ok, Err, IfOk, OnOk, refl, sym, ap, ◌∙◌, append-nil, append_assoc}
use Rattle.lq_tree.specs.declared.expr.BinOp.{BinOp}
use Rattle.lq_tree.specs.declared.expr.BinOp.TheVariants.{Mul, Div, Rem, Add, Sub, Lt, Le, Gt, Ge, Eq, Ne, And, Or}
use Rattle.lq_tree.specs.declared.plain.PExpr.{PExpr, Neg, Not, Bin, Shift, IsNull, Row_of-PExpr, end_of-PExpr, more_of-PExpr, items-the_row-PExpr, items_hidden-the_row-PExpr-0}
use Rattle.lq_tree.specs.declared.plain.PExpr.TheBlock.{hidden-the_row-PExpr-0}
use Rattle.lq_linear.specs.Form.{Linear, multiple_of}
use Rattle.lq_linear.specs.Collect.{is_within, as_form, constant, symbol}
use Rattle.lq_linear.specs.Sides.{at_most, equal}
use Rattle.lq_symbolic.specs.declared.value.SymPtr.{SymPtr}
use Rattle.lq_symbolic.specs.declared.value.SymValue.{SymValue}
use Rattle.lq_symbolic.specs.declared.value.SymValue.TheVariants.{Int as OfInt}
use Rattle.lq_symbolic.specs.declared.assume.Told.{Told}
use Rattle.lq_symbolic.specs.declared.assume.Told.TheVariants.{Both, Nothing, Compared, Whole}
use Rattle.lq_symbolic.specs.declared.state.SymState.{SymState as State}
use Rattle.lq_symbolic.specs.State.{form_of, pointer_of, Valued, AllValued, Gives, with_row, with_rows, new_int}
use Rattle.lq_symbolic.specs.Value.{known, known_or_new, bounded_or_new, number, number_of, factor_of, multiple_or, product, negated, operated, shifted, value, value_row}
use Rattle.lq_symbolic.specs.Assume.{compared, with_compared, with_int, with_null, with_operated, assumed, assumed_row}
use Rattle.lq_symbolic.specs.Told.{is_arithmetic, told}

-- ---- results

-- a place past the end has the value that stands for none
pub past_end : {X : Type 0} → (list : List X) (n : ℕ) (d : X) → None ≡ slice_get list n → d ≡ get_or list n d
past_end [] n d e = refl
past_end (x ∷ list) zero d e = absurd cc
past_end (x ∷ list) (suc n) d e = past_end list n d e

-- what is given along an equation
pub along : {E : Type 0} → (r : Result SymValue E) (a b : Valued) (s : State) → b ≡ a → IfOk r (λ v. Gives a v s) → IfOk r (λ v. Gives b v s)
along (Ok v) a b s e h = e ∙ h
along (Err x) a b s e h = tt

-- a state that is left along an equation
pub left_along : {E : Type 0} {X : Type 0} → (r : Result X E) (new a b : State) → a ≡ b → OnOk r (new ≡ a) → OnOk r (new ≡ b)
left_along (Ok x) new a b e h = h ∙ e
left_along (Err x) new a b e h = tt

-- ---- numbers, products

known_if : (test : Bool) (form : Linear) (s : State) → known_or_new (cond test (Some form) None) s ≡ cond test (known (OfInt form) s) (new_int s)
known_if true form s = refl
known_if false form s = refl

pub number_is : (n : ℤ) (s : State) → number n s ≡ known_or_new (as_form (constant n)) s
number_is n s = sym (known_if (is_within (2 ^ 40) n) (constant n) s)

pub product_left : (a b : Linear) (s : State) (z : ℤ) → Some z ≡ factor_of (number_of a) → product a b s ≡ bounded_or_new (multiple_of z b) s
product_left a b s z e = ap (λ factor. multiple_or factor b (multiple_or (factor_of (number_of b)) a new_int) s) (sym e)

pub product_right : (a b : Linear) (s : State) (z : ℤ) → None ≡ factor_of (number_of a) → Some z ≡ factor_of (number_of b) → product a b s ≡ bounded_or_new (multiple_of z a) s
product_right a b s z e h =
    ap (λ factor. multiple_or factor b (multiple_or (factor_of (number_of b)) a new_int) s) (sym e) ∙ ap (λ factor. multiple_or factor a new_int s) (sym h)

pub product_new : (a b : Linear) (s : State) → None ≡ factor_of (number_of a) → None ≡ factor_of (number_of b) → product a b s ≡ new_int s
product_new a b s e h =
    ap (λ factor. multiple_or factor b (multiple_or (factor_of (number_of b)) a new_int) s) (sym e) ∙ ap (λ factor. multiple_or factor a new_int s) (sym h)

-- ---- expressions

-- the value of the first of several expressions
first_value : List PExpr → State → Valued
first_value [] s = new_int s
first_value (e ∷ es) s = value e s

value_row-items : {n : _} (row : Row_of-PExpr n) → value_row row ≡ first_value (items-the_row-PExpr n row)
unfolding first_value
value_row-items end_of-PExpr = refl
value_row-items (more_of-PExpr e rest) = refl

-- the row of a box has the value of what the box holds
value_row-boxed : (e : PExpr) → value_row (hidden-the_row-PExpr-0 e) ≡ value e
unfolding first_value
value_row-boxed e = value_row-items (hidden-the_row-PExpr-0 e) ∙ ap first_value (items_hidden-the_row-PExpr-0 e)

value_neg : (e : PExpr) (s : State) → value (Neg e) s ≡ negated (value e s)
value_neg e s = ap (λ (f : State → Valued). negated (f s)) (value_row-boxed e)

value_bin : (op : BinOp) (a b : PExpr) (s : State) → value (Bin op a b) s ≡ operated op (value a) (value b) s
value_bin op a b s =
    ap (λ (f : State → Valued). operated op f (value_row (hidden-the_row-PExpr-0 b)) s) (value_row-boxed a) ∙ ap (λ (f : State → Valued). operated op (value a) f s) (value_row-boxed b)

-- an operator that looks at its operands
operated_is : (op : BinOp) (left right : State → Valued) (s : State) → true ≡ is_arithmetic op →
    operated op left right s ≡ operated op (known (OfInt (form_of (left s).value))) (known (OfInt (form_of (right (left s).state).value))) (right (left s).state).state
operated_is Mul left right s e = refl
operated_is Div left right s e = refl
operated_is Rem left right s e = refl
operated_is Add left right s e = refl
operated_is Sub left right s e = refl
operated_is _ left right s e = absurd cc

operated_not : (op : BinOp) (left right : State → Valued) (s : State) → false ≡ is_arithmetic op → operated op left right s ≡ new_int s
operated_not Mul left right s e = absurd cc
operated_not Div left right s e = absurd cc
operated_not Rem left right s e = absurd cc
operated_not Add left right s e = absurd cc
operated_not Sub left right s e = absurd cc
operated_not _ left right s e = refl

pub neg_is : (whole operand : PExpr) (s s1 : State) (v : SymValue) (form : Linear) → whole ≡ Neg operand → Gives (value operand s) v s1 → form ≡ form_of v →
    value whole s ≡ bounded_or_new (multiple_of (negsuc 0) form) s1
neg_is whole operand s s1 v form is given f =
    ap (λ w. value w s) is ∙ value_neg operand s ∙ ap negated given ∙ ap (λ g. bounded_or_new (multiple_of (negsuc 0) g) s1) (sym f)

pub bin_is : (whole : PExpr) (op : BinOp) (left right : PExpr) (s s1 s2 : State) (v w : SymValue) (a b : Linear) → whole ≡ Bin op left right → true ≡ is_arithmetic op →
    Gives (value left s) v s1 → a ≡ form_of v → Gives (value right s1) w s2 → b ≡ form_of w → value whole s ≡ operated op (known (OfInt a)) (known (OfInt b)) s2
bin_is whole op left right s s1 s2 v w a b is looked first f second g =
    ap (λ x. value x s) is ∙ value_bin op left right s ∙ operated_is op (value left) (value right) s looked ∙
    ap (λ (x : Valued). operated op (known (OfInt (form_of x.value))) (known (OfInt (form_of (value right x.state).value))) (value right x.state).state) first ∙
    ap (λ (y : Valued). operated op (known (OfInt (form_of v))) (known (OfInt (form_of y.value))) y.state) second ∙
    ap (λ z. operated op (known (OfInt z)) (known (OfInt (form_of w))) s2) (sym f) ∙ ap (λ z. operated op (known (OfInt a)) (known (OfInt z)) s2) (sym g)

pub bin_new : (whole : PExpr) (op : BinOp) (left right : PExpr) (s : State) → whole ≡ Bin op left right → false ≡ is_arithmetic op → value whole s ≡ new_int s
bin_new whole op left right s is looked = ap (λ x. value x s) is ∙ value_bin op left right s ∙ operated_not op (value left) (value right) s looked

value_shift : (a n : PExpr) (s : State) → value (Shift a n) s ≡ shifted (pointer_of (value a s).value) (form_of (value n (value a s).state).value) (value n (value a s).state).state
value_shift a n s =
    ap (λ (f : State → Valued). shifted (pointer_of (f s).value) (form_of (value_row (hidden-the_row-PExpr-0 n) (f s).state).value) (value_row (hidden-the_row-PExpr-0 n) (f s).state).state) (value_row-boxed a) ∙
    ap (λ (f : State → Valued). shifted (pointer_of (value a s).value) (form_of (f (value a s).state).value) (f (value a s).state).state) (value_row-boxed n)

pub shift_is : (whole left right : PExpr) (s s1 s2 : State) (v w : SymValue) (pointer : SymPtr) (distance : Linear) → whole ≡ Shift left right →
    Gives (value left s) v s1 → pointer ≡ pointer_of v → Gives (value right s1) w s2 → distance ≡ form_of w → value whole s ≡ shifted pointer distance s2
shift_is whole left right s s1 s2 v w pointer distance is first f second g =
    ap (λ x. value x s) is ∙ value_shift left right s ∙
    ap (λ (x : Valued). shifted (pointer_of x.value) (form_of (value right x.state).value) (value right x.state).state) first ∙
    ap (λ (y : Valued). shifted (pointer_of v) (form_of y.value) y.state) second ∙
    ap (λ z. shifted z (form_of w) s2) (sym f) ∙ ap (λ z. shifted pointer z s2) (sym g)

-- ---- several values

-- values in front of others
abbrev pub behind : List SymValue → AllValued → AllValued
behind values more = record { values = values ++ more.values; state = more.state }

-- one more value
pub behind-one : (values : List SymValue) (v : SymValue) (more : AllValued) →
    behind values (record { values = v ∷ more.values; state = more.state }) ≡ behind (values ++ v ∷ []) more
behind-one values v more = ap (λ (l : List SymValue). record { values = l; state = more.state }) (sym (append_assoc values (v ∷ []) more.values))

-- none are left
pub behind-none : (values : List SymValue) (s : State) → behind values (record { values = []; state = s }) ≡ record { values = values; state = s }
behind-none values s = ap (λ (l : List SymValue). record { values = l; state = s }) (append-nil values)

-- ---- assumptions

-- what follows of an operator's value, by what it tells
abbrev pub by_told : Told → BinOp → (truth : Bool) → (left right : State → Valued) → (first second : State → State) → (whole : State → Valued) → State → State
by_told Both op truth left right first second whole s = second (first s)
by_told Nothing op truth left right first second whole s = s
by_told Compared op truth left right first second whole s = with_compared op truth left right s
by_told Whole op truth left right first second whole s = with_int truth whole s

operated_told : (op : BinOp) (truth : Bool) (left right : State → Valued) (first second : State → State) (whole : State → Valued) (s : State) →
    with_operated op truth left right first second whole s ≡ by_told (told op truth) op truth left right first second whole s
operated_told Mul truth left right first second whole s = refl
operated_told Div truth left right first second whole s = refl
operated_told Rem truth left right first second whole s = refl
operated_told Add truth left right first second whole s = refl
operated_told Sub truth left right first second whole s = refl
operated_told Lt truth left right first second whole s = refl
operated_told Le truth left right first second whole s = refl
operated_told Gt truth left right first second whole s = refl
operated_told Ge truth left right first second whole s = refl
operated_told Eq true left right first second whole s = refl
operated_told Eq false left right first second whole s = refl
operated_told Ne true left right first second whole s = refl
operated_told Ne false left right first second whole s = refl
operated_told And true left right first second whole s = refl
operated_told And false left right first second whole s = refl
operated_told Or true left right first second whole s = refl
operated_told Or false left right first second whole s = refl

-- what the first of several expressions tells
first_assumed : (truth : Bool) → List PExpr → State → State
first_assumed truth [] s = s
first_assumed truth (e ∷ es) s = assumed truth e s

assumed_row-items : {n : _} (truth : Bool) (row : Row_of-PExpr n) → assumed_row truth row ≡ first_assumed truth (items-the_row-PExpr n row)
unfolding first_assumed
assumed_row-items truth end_of-PExpr = refl
assumed_row-items truth (more_of-PExpr e rest) = refl

assumed_row-boxed : (truth : Bool) (e : PExpr) → assumed_row truth (hidden-the_row-PExpr-0 e) ≡ assumed truth e
unfolding first_assumed
assumed_row-boxed truth e = assumed_row-items truth (hidden-the_row-PExpr-0 e) ∙ ap (first_assumed truth) (items_hidden-the_row-PExpr-0 e)

pub not_is : (whole e : PExpr) (truth : Bool) (s : State) → whole ≡ Not e → assumed truth whole s ≡ assumed (not truth) e s
not_is whole e truth s is = ap (λ w. assumed truth w s) is ∙ ap (λ (f : State → State). f s) (assumed_row-boxed (not truth) e)

pub null_is : (whole e : PExpr) (truth : Bool) (s : State) → whole ≡ IsNull e → assumed truth whole s ≡ with_null truth (value e s)
null_is whole e truth s is = ap (λ w. assumed truth w s) is ∙ ap (λ (f : State → Valued). with_null truth (f s)) (value_row-boxed e)

assumed_bin : (op : BinOp) (a b : PExpr) (truth : Bool) (s : State) →
    assumed truth (Bin op a b) s ≡ by_told (told op truth) op truth (value a) (value b) (assumed truth a) (assumed truth b) (value (Bin op a b)) s
assumed_bin op a b truth s =
    operated_told op truth (value_row (hidden-the_row-PExpr-0 a)) (value_row (hidden-the_row-PExpr-0 b)) (assumed_row truth (hidden-the_row-PExpr-0 a)) (assumed_row truth (hidden-the_row-PExpr-0 b)) (value (Bin op a b)) s ∙
    ap (λ (f : State → Valued). by_told (told op truth) op truth f (value_row (hidden-the_row-PExpr-0 b)) (assumed_row truth (hidden-the_row-PExpr-0 a)) (assumed_row truth (hidden-the_row-PExpr-0 b)) (value (Bin op a b)) s) (value_row-boxed a) ∙
    ap (λ (f : State → Valued). by_told (told op truth) op truth (value a) f (assumed_row truth (hidden-the_row-PExpr-0 a)) (assumed_row truth (hidden-the_row-PExpr-0 b)) (value (Bin op a b)) s) (value_row-boxed b) ∙
    ap (λ (f : State → State). by_told (told op truth) op truth (value a) (value b) f (assumed_row truth (hidden-the_row-PExpr-0 b)) (value (Bin op a b)) s) (assumed_row-boxed truth a) ∙
    ap (λ (f : State → State). by_told (told op truth) op truth (value a) (value b) (assumed truth a) f (value (Bin op a b)) s) (assumed_row-boxed truth b)

-- an operator, by what it tells
pub bin_told : (whole : PExpr) (op : BinOp) (a b : PExpr) (truth : Bool) (by : Told) (s : State) → whole ≡ Bin op a b → by ≡ told op truth →
    assumed truth whole s ≡ by_told by op truth (value a) (value b) (assumed truth a) (assumed truth b) (value whole) s
bin_told whole op a b truth by s is e =
    ap (λ w. assumed truth w s) is ∙ assumed_bin op a b truth s ∙
    ap (λ t. by_told t op truth (value a) (value b) (assumed truth a) (assumed truth b) (value (Bin op a b)) s) (sym e) ∙
    ap (λ w. by_told by op truth (value a) (value b) (assumed truth a) (assumed truth b) (value w) s) (sym is)

pub compared_is : (op : BinOp) (truth : Bool) (left right : PExpr) (s s1 s2 : State) (v w : SymValue) (a b : Linear) → Gives (value left s) v s1 → a ≡ form_of v →
    Gives (value right s1) w s2 → b ≡ form_of w → with_compared op truth (value left) (value right) s ≡ with_rows (compared op truth a b) s2
compared_is op truth left right s s1 s2 v w a b first f second g =
    ap (λ (x : Valued). with_rows (compared op truth (form_of x.value) (form_of (value right x.state).value)) (value right x.state).state) first ∙
    ap (λ (y : Valued). with_rows (compared op truth (form_of v) (form_of y.value)) y.state) second ∙
    ap (λ z. with_rows (compared op truth z (form_of w)) s2) (sym f) ∙ ap (λ z. with_rows (compared op truth a z) s2) (sym g)

-- an int that is false
pub int_false : (e : PExpr) (s s1 : State) (v : SymValue) (form : Linear) → Gives (value e s) v s1 → form ≡ form_of v →
    with_int false (value e) s ≡ with_rows (equal form (constant (pos 0))) s1
int_false e s s1 v form given f =
    ap (λ (x : Valued). with_rows (equal (form_of x.value) (constant (pos 0))) x.state) given ∙ ap (λ z. with_rows (equal z (constant (pos 0))) s1) (sym f)

-- a pointer that is null
pub null_true : (e : PExpr) (s s1 : State) (v : SymValue) (p : SymPtr) → Gives (value e s) v s1 → p ≡ pointer_of v →
    with_null true (value e s) ≡ with_row (at_most (symbol p.block) (constant (pos 0))) s1
null_true e s s1 v p given f = ap (with_null true) given ∙ ap (λ (q : SymPtr). with_row (at_most (symbol q.block) (constant (pos 0))) s1) (sym f)

-- one that isn't
pub null_false : (e : PExpr) (s s1 : State) (v : SymValue) (p : SymPtr) → Gives (value e s) v s1 → p ≡ pointer_of v →
    with_null false (value e s) ≡ with_row (at_most (constant (pos 1)) (symbol p.block)) s1
null_false e s s1 v p given f = ap (with_null false) given ∙ ap (λ (q : SymPtr). with_row (at_most (constant (pos 1)) (symbol q.block)) s1) (sym f)

-- ---- loops over lists

-- one more of several values
pub one_more : {X : Type 0} → (all : List X → State → AllValued) (one : X → State → Valued) →
    ((x : X) (xs : List X) (s : State) → all (x ∷ xs) s ≡ record { values = (one x s).value ∷ (all xs (one x s).state).values; state = (all xs (one x s).state).state }) →
    (whole : AllValued) (rest later : List X) (x : X) (s s1 : State) (values : List SymValue) (v : SymValue) → whole ≡ behind values (all rest s) → rest ≡ x ∷ later →
    Gives (one x s) v s1 → whole ≡ behind (values ++ v ∷ []) (all later s1)
one_more all one law whole rest later x s s1 values v so_far split given =
    so_far ∙ ap (λ l. behind values (all l s)) split ∙ ap (behind values) (law x later s) ∙
    ap (λ (y : Valued). behind values (record { values = y.value ∷ (all later y.state).values; state = (all later y.state).state })) given ∙ behind-one values v (all later s1)
