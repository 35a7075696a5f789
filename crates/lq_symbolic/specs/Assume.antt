-- What a condition that is known to be true or false tells (docs/CHECKING.md, "Assuming").
use Rattle.std.specs.Prelude.{Bool, true, false, not, List, [], ◌∷◌, pos}
use Rattle.lq_tree.specs.declared.expr.BinOp.{BinOp}
use Rattle.lq_tree.specs.declared.expr.BinOp.TheVariants.{Lt, Le, Gt, Ge, Eq, Ne, And, Or}
use Rattle.lq_tree.specs.declared.plain.PExpr.{PExpr, Not', Bin', IsNull', Row_of-PExpr, end_of-PExpr, more_of-PExpr}
use Rattle.lq_linear.specs.Form.{Linear}
use Rattle.lq_linear.specs.Row.{Inequality}
use Rattle.lq_linear.specs.Collect.{constant}
use Rattle.lq_linear.specs.Sides.{at_most, below, equal}
use Rattle.lq_symbolic.specs.declared.state.SymState.{SymState as State}
use Rattle.lq_symbolic.specs.State.{form_of, pointer_of, length_of, Valued, with_row, with_rows}
use Rattle.lq_symbolic.specs.Value.{value, value_row}

-- the rows of a comparison that holds, or that doesn't
abbrev pub compared : BinOp → (truth : Bool) → (a b : Linear) → List Inequality
compared Lt true a b = below a b ∷ []
compared Lt false a b = at_most b a ∷ []
compared Le true a b = at_most a b ∷ []
compared Le false a b = below b a ∷ []
compared Gt true a b = below b a ∷ []
compared Gt false a b = at_most a b ∷ []
compared Ge true a b = at_most b a ∷ []
compared Ge false a b = below a b ∷ []
compared Eq true a b = equal a b
compared Ne false a b = equal a b
compared _ truth a b = []

-- the rows of a comparison, once its sides are valued
abbrev pub with_compared : BinOp → (truth : Bool) → (left right : State → Valued) → State → State
with_compared op truth left right s =
    let a = left s in
    let b = right a.state in
    with_rows (compared op truth (form_of a.value) (form_of b.value)) b.state

-- an int that is false is 0; one that is true tells nothing
abbrev pub with_int : (truth : Bool) → (State → Valued) → State → State
with_int true int s = s
with_int false int s = let e = int s in with_rows (equal (form_of e.value) (constant (pos 0))) e.state

-- a pointer is null, or it isn't: `len <= 0`, or `len >= 1`
abbrev pub with_null : (truth : Bool) → Valued → State
with_null true p = with_row (at_most (length_of (pointer_of p.value)) (constant (pos 0))) p.state
with_null false p = with_row (at_most (constant (pos 1)) (length_of (pointer_of p.value))) p.state

-- one after the other, where this holds
abbrev pub each_if : Bool → (first second : State → State) → State → State
each_if true first second s = second (first s)
each_if false first second s = s

-- an operator whose value is known to be true or false; where no row comes of it, its operands are not valued
abbrev pub with_operated :
    BinOp → (truth : Bool) → (left right : State → Valued) → (first second : State → State) → (whole : State → Valued) → State → State
with_operated And truth left right first second whole s = each_if truth first second s
with_operated Or truth left right first second whole s = each_if (not truth) first second s
with_operated Eq false left right first second whole s = s
with_operated Ne true left right first second whole s = s
with_operated Lt truth left right first second whole s = with_compared Lt truth left right s
with_operated Le truth left right first second whole s = with_compared Le truth left right s
with_operated Gt truth left right first second whole s = with_compared Gt truth left right s
with_operated Ge truth left right first second whole s = with_compared Ge truth left right s
with_operated Eq true left right first second whole s = with_compared Eq true left right s
with_operated Ne false left right first second whole s = with_compared Ne false left right s
with_operated _ truth left right first second whole s = with_int truth whole s

-- an expression is known to be true or false
abbrev mutual
  pub assumed : (truth : Bool) → PExpr → State → State
  assumed truth (Not' p e) s = assumed_row (not truth) e s
  assumed truth (IsNull' p e) s = with_null truth (value_row e s)
  assumed truth (Bin' op p a q b) s =
      with_operated op truth (value_row a) (value_row b) (assumed_row truth a) (assumed_row truth b) (value (Bin' op p a q b)) s
  assumed truth e s = with_int truth (value e) s

  -- of the one operand of a box
  pub assumed_row : {n : _} → (truth : Bool) → Row_of-PExpr n → State → State
  assumed_row truth end_of-PExpr s = s
  assumed_row truth (more_of-PExpr e rest) s = assumed truth e s
