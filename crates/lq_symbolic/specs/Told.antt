-- Which operators look at their operands, and which are told by them.
use Rattle.std.specs.Prelude.{Bool, true, false}
use Rattle.lq_tree.specs.declared.expr.BinOp.{BinOp}
use Rattle.lq_tree.specs.declared.expr.BinOp.TheVariants.{Mul, Div, Rem, Add, Sub, Lt, Le, Gt, Ge, Eq, Ne, And, Or}
use Rattle.lq_symbolic.specs.declared.assume.Told.{Told}
use Rattle.lq_symbolic.specs.declared.assume.Told.TheVariants.{Both, Nothing, Compared, Whole}

-- an operator of which the operands are looked at
abbrev pub is_arithmetic : BinOp → Bool
is_arithmetic Mul = true
is_arithmetic Div = true
is_arithmetic Rem = true
is_arithmetic Add = true
is_arithmetic Sub = true
is_arithmetic _ = false

-- what is told of the operands, or of the whole
abbrev pub told : BinOp → (truth : Bool) → Told
told And true = Both
told And false = Nothing
told Or true = Nothing
told Or false = Both
told Lt truth = Compared
told Le truth = Compared
told Gt truth = Compared
told Ge truth = Compared
told Eq true = Compared
told Eq false = Nothing
told Ne true = Nothing
told Ne false = Compared
told _ truth = Whole
