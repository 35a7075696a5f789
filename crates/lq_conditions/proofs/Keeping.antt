-- What stays so when symbols are taken and items become known stays so behind values, assumptions and new values.
use Rattle.std.proofs.Common.{ℕ, Bool, true, false, not, List, [], ◌∷◌, Option, None, Some}
use Rattle.std.specs.Prelude.{◌+◌, ◌^◌, ◌==◌, if◌then◌else◌, ℤ, pos, negsuc}
use Rattle.lq_tree.specs.declared.expr.CType.{CType}
use Rattle.lq_tree.specs.declared.expr.BinOp.{BinOp}
use Rattle.lq_tree.specs.declared.expr.BinOp.TheVariants.{Mul, Div, Rem, Add, Sub, Lt, Le, Gt, Ge, Eq, Ne, And, Or}
use Rattle.lq_tree.specs.declared.plain.PExpr.{PExpr, Num, Null, Slot, Neg', Not', Bin', Shift', IsNull', Row_of-PExpr, end_of-PExpr, more_of-PExpr}
use Rattle.lq_linear.specs.Form.{Linear, sum_of, multiple_of}
use Rattle.lq_linear.specs.Row.{Inequality}
use Rattle.lq_linear.specs.Collect.{is_within, as_form, as_row, constant, symbol}
use Rattle.lq_linear.specs.Sides.{at_most, equal}
use Rattle.lq_linear.specs.declared.divisor.Divisor.{Divisor}
use Rattle.lq_linear.specs.declared.item.Item.{Item}
use Rattle.lq_linear.specs.declared.item.Item.TheVariants.{Holds, Division, Remainder}
use Rattle.lq_templates.specs.declared.condition.Given.TheVariants.{Fixed}
use Rattle.lq_symbolic.specs.declared.value.SymPtr.{SymPtr}
use Rattle.lq_symbolic.specs.declared.value.SymValue.{SymValue}
use Rattle.lq_symbolic.specs.declared.value.SymValue.TheVariants.{Int as OfInt}
use Rattle.lq_symbolic.specs.declared.state.FieldType.{FieldType}
use Rattle.lq_symbolic.specs.declared.state.SymState.{SymState as State}
use Rattle.lq_symbolic.specs.State.{form_of, pointer_of, length_of, Valued, with_items, with_bounded, with_row, with_rows, taken, not_below_zero, next_block, new_int, new_pointer, new_null, new_of, new_values}
use Rattle.lq_symbolic.specs.Value.{known, known_or_new, bounded_or_new, number, number_of, factor_of, multiple_or, product, divisor_of, new_with, quotient, remainder, both, operated, shifted, value, value_row, all_values}
use Rattle.lq_symbolic.specs.Assume.{compared, with_compared, with_int, with_null, each_if, with_operated, assumed, assumed_row}

module _ (P : State → Type 0) (on_taken : (count : ℕ) (s : State) → P s → P (taken count s)) (on_item : (item : Item) (s : State) → P s → P (with_items (Fixed item ∷ []) s)) where
  -- ---- rows

  with_bounded_keeps : (row : Option Inequality) (s : State) → P s → P (with_bounded row s)
  with_bounded_keeps None s h = h
  with_bounded_keeps (Some row) s h = on_item (Holds row) s h

  pub with_row_keeps : (row : Inequality) (s : State) → P s → P (with_row row s)
  with_row_keeps row s h = with_bounded_keeps (as_row row) s h

  pub with_rows_keeps : (rows : List Inequality) (s : State) → P s → P (with_rows rows s)
  with_rows_keeps [] s h = h
  with_rows_keeps (row ∷ rows) s h = with_rows_keeps rows (with_row row s) (with_row_keeps row s h)

  -- ---- values

  abbrev Keeps : (State → Valued) → Type 0
  Keeps valued = (s : State) → P s → P (valued s).state

  if_keeps : (test : Bool) (first second : State → Valued) → Keeps first → Keeps second → Keeps (λ s. if test then first s else second s)
  if_keeps true first second h k = h
  if_keeps false first second h k = k

  new_int_keeps : Keeps new_int
  new_int_keeps s h = on_taken 1 s h

  new_null_keeps : Keeps new_null
  new_null_keeps s h = with_rows_keeps (equal (constant (pos 0)) (length_of (next_block (constant (pos 0)) s))) (taken 1 s) (on_taken 1 s h)

  new_pointer_keeps : (class : ℕ) → Keeps (new_pointer class)
  new_pointer_keeps class s h =
      let p = next_block (symbol (s.next + 1)) s in
      with_rows_keeps (not_below_zero (length_of p) ∷ not_below_zero p.offset ∷ []) (taken 2 s) (on_taken 2 s h)

  pub new_of_keeps : (class : ℕ) (type : CType) → Keeps (new_of class type)
  new_of_keeps class type = if_keeps (type.stars == 0) new_int (new_pointer class) new_int_keeps (new_pointer_keeps class)

  pub new_values_keep : (fields : List FieldType) (s : State) → P s → P (new_values fields s).state
  new_values_keep [] s h = h
  new_values_keep (f ∷ fields) s h = new_values_keep fields (new_of f.class f.ctype s).state (new_of_keeps f.class f.ctype s h)

  known_or_new_keeps : (form : Option Linear) → Keeps (known_or_new form)
  known_or_new_keeps None = new_int_keeps
  known_or_new_keeps (Some form) = λ s h. h

  pub bounded_or_new_keeps : (sum : Linear) → Keeps (bounded_or_new sum)
  bounded_or_new_keeps sum = known_or_new_keeps (as_form sum)

  number_keeps : (n : ℤ) → Keeps (number n)
  number_keeps n = if_keeps (is_within (2 ^ 40) n) (known (OfInt (constant n))) new_int (λ s h. h) new_int_keeps

  multiple_or_keeps : (factor : Option ℤ) (form : Linear) (otherwise : State → Valued) → Keeps otherwise → Keeps (multiple_or factor form otherwise)
  multiple_or_keeps None form otherwise h = h
  multiple_or_keeps (Some z) form otherwise h = bounded_or_new_keeps (multiple_of z form)

  product_keeps : (a b : Linear) → Keeps (product a b)
  product_keeps a b =
      multiple_or_keeps (factor_of (number_of a)) b (multiple_or (factor_of (number_of b)) a new_int)
      (multiple_or_keeps (factor_of (number_of b)) a new_int new_int_keeps)

  new_with_keeps : (item : State → Divisor → Item) (d : Option Divisor) → Keeps (λ s. new_with (item s) d s)
  new_with_keeps item None = new_int_keeps
  new_with_keeps item (Some d) = λ s h. on_item (item s d) (taken 1 s) (on_taken 1 s h)

  quotient_keeps : (a b : Linear) → Keeps (quotient a b)
  quotient_keeps a b = new_with_keeps (λ s. Division s.next a) (divisor_of (number_of b))

  remainder_keeps : (a b : Linear) → Keeps (remainder a b)
  remainder_keeps a b = new_with_keeps (λ s. Remainder s.next a) (divisor_of (number_of b))

  both_keep : (left right : State → Valued) (next : SymValue → SymValue → State → Valued) → Keeps left → Keeps right → ((a b : SymValue) → Keeps (next a b)) → Keeps (both left right next)
  both_keep left right next h k n s p = n (left s).value (right (left s).state).value (right (left s).state).state (k (left s).state (h s p))

  operated_keeps : (op : BinOp) (left right : State → Valued) → Keeps left → Keeps right → Keeps (operated op left right)
  operated_keeps Add left right h k = both_keep left right (λ a b. bounded_or_new (sum_of (form_of a) (form_of b))) h k (λ a b. bounded_or_new_keeps (sum_of (form_of a) (form_of b)))
  operated_keeps Sub left right h k =
      both_keep left right (λ a b. bounded_or_new (sum_of (form_of a) (multiple_of (negsuc 0) (form_of b)))) h k
      (λ a b. bounded_or_new_keeps (sum_of (form_of a) (multiple_of (negsuc 0) (form_of b))))
  operated_keeps Mul left right h k = both_keep left right (λ a b. product (form_of a) (form_of b)) h k (λ a b. product_keeps (form_of a) (form_of b))
  operated_keeps Div left right h k = both_keep left right (λ a b. quotient (form_of a) (form_of b)) h k (λ a b. quotient_keeps (form_of a) (form_of b))
  operated_keeps Rem left right h k = both_keep left right (λ a b. remainder (form_of a) (form_of b)) h k (λ a b. remainder_keeps (form_of a) (form_of b))
  operated_keeps _ left right h k = new_int_keeps

  shifted_keeps : (p : SymPtr) (distance : Linear) → Keeps (shifted p distance)
  shifted_keeps p distance s h =
      let offset = bounded_or_new (sum_of p.offset distance) s in
      with_row_keeps (not_below_zero (form_of offset.value)) offset.state (bounded_or_new_keeps (sum_of p.offset distance) s h)

  mutual
    pub value_keeps : (e : PExpr) → Keeps (value e)
    value_keeps (Num n) = number_keeps n
    value_keeps Null = new_null_keeps
    value_keeps (Slot n) = λ s h. h
    value_keeps (Neg' p e) = λ s h. bounded_or_new_keeps (multiple_of (negsuc 0) (form_of (value_row e s).value)) (value_row e s).state (value_row_keeps e s h)
    value_keeps (Not' p e) = new_int_keeps
    value_keeps (Bin' op p a q b) = operated_keeps op (value_row a) (value_row b) (value_row_keeps a) (value_row_keeps b)
    value_keeps (Shift' p a q n) =
        both_keep (value_row a) (value_row n) (λ pointer distance. shifted (pointer_of pointer) (form_of distance)) (value_row_keeps a) (value_row_keeps n) (λ pointer distance. shifted_keeps (pointer_of pointer) (form_of distance))
    value_keeps (IsNull' p e) = new_int_keeps

    value_row_keeps : {n : _} (row : Row_of-PExpr n) → Keeps (value_row row)
    value_row_keeps end_of-PExpr = new_int_keeps
    value_row_keeps (more_of-PExpr e rest) = value_keeps e

  pub all_values_keep : (es : List PExpr) (s : State) → P s → P (all_values es s).state
  all_values_keep [] s h = h
  all_values_keep (e ∷ rest) s h = all_values_keep rest (value e s).state (value_keeps e s h)

  -- ---- assumptions

  abbrev Stays : (State → State) → Type 0
  Stays change = (s : State) → P s → P (change s)

  with_compared_stays : (op : BinOp) (truth : Bool) (left right : State → Valued) → Keeps left → Keeps right → Stays (with_compared op truth left right)
  with_compared_stays op truth left right h k s p =
      let b = right (left s).state in
      with_rows_keeps (compared op truth (form_of (left s).value) (form_of b.value)) b.state (k (left s).state (h s p))

  with_int_stays : (truth : Bool) (int : State → Valued) → Keeps int → Stays (with_int truth int)
  with_int_stays true int h s p = p
  with_int_stays false int h s p = with_rows_keeps (equal (form_of (int s).value) (constant (pos 0))) (int s).state (h s p)

  with_null_stays : (truth : Bool) (p : Valued) → P p.state → P (with_null truth p)
  with_null_stays true p h = with_row_keeps (at_most (length_of (pointer_of p.value)) (constant (pos 0))) p.state h
  with_null_stays false p h = with_row_keeps (at_most (constant (pos 1)) (length_of (pointer_of p.value))) p.state h

  each_if_stays : (test : Bool) (first second : State → State) → Stays first → Stays second → Stays (each_if test first second)
  each_if_stays true first second h k s p = k (first s) (h s p)
  each_if_stays false first second h k s p = p

  with_operated_stays : (op : BinOp) (truth : Bool) (left right : State → Valued) (first second : State → State) (whole : State → Valued)
      → Keeps left → Keeps right → Stays first → Stays second → Keeps whole → Stays (with_operated op truth left right first second whole)
  with_operated_stays And truth left right first second whole l r f g w = each_if_stays truth first second f g
  with_operated_stays Or truth left right first second whole l r f g w = each_if_stays (not truth) first second f g
  with_operated_stays Eq false left right first second whole l r f g w = λ s p. p
  with_operated_stays Ne true left right first second whole l r f g w = λ s p. p
  with_operated_stays Lt truth left right first second whole l r f g w = with_compared_stays Lt truth left right l r
  with_operated_stays Le truth left right first second whole l r f g w = with_compared_stays Le truth left right l r
  with_operated_stays Gt truth left right first second whole l r f g w = with_compared_stays Gt truth left right l r
  with_operated_stays Ge truth left right first second whole l r f g w = with_compared_stays Ge truth left right l r
  with_operated_stays Eq true left right first second whole l r f g w = with_compared_stays Eq true left right l r
  with_operated_stays Ne false left right first second whole l r f g w = with_compared_stays Ne false left right l r
  with_operated_stays Mul truth left right first second whole l r f g w = with_int_stays truth whole w
  with_operated_stays Div truth left right first second whole l r f g w = with_int_stays truth whole w
  with_operated_stays Rem truth left right first second whole l r f g w = with_int_stays truth whole w
  with_operated_stays Add truth left right first second whole l r f g w = with_int_stays truth whole w
  with_operated_stays Sub truth left right first second whole l r f g w = with_int_stays truth whole w

  mutual
    pub assumed_stays : (truth : Bool) (e : PExpr) → Stays (assumed truth e)
    assumed_stays truth (Not' p e) = assumed_row_stays (not truth) e
    assumed_stays truth (IsNull' p e) = λ s h. with_null_stays truth (value_row e s) (value_row_keeps e s h)
    assumed_stays truth (Bin' op p a q b) =
        with_operated_stays op truth (value_row a) (value_row b) (assumed_row truth a) (assumed_row truth b) (value (Bin' op p a q b))
        (value_row_keeps a) (value_row_keeps b) (assumed_row_stays truth a) (assumed_row_stays truth b) (value_keeps (Bin' op p a q b))
    assumed_stays truth (Num n) = with_int_stays truth (value (Num n)) (value_keeps (Num n))
    assumed_stays truth Null = with_int_stays truth (value Null) (value_keeps Null)
    assumed_stays truth (Slot n) = with_int_stays truth (value (Slot n)) (value_keeps (Slot n))
    assumed_stays truth (Neg' p e) = with_int_stays truth (value (Neg' p e)) (value_keeps (Neg' p e))
    assumed_stays truth (Shift' p a q n) = with_int_stays truth (value (Shift' p a q n)) (value_keeps (Shift' p a q n))

    assumed_row_stays : {n : _} (truth : Bool) (row : Row_of-PExpr n) → Stays (assumed_row truth row)
    assumed_row_stays truth end_of-PExpr = λ s h. h
    assumed_row_stays truth (more_of-PExpr e rest) = assumed_stays truth e
