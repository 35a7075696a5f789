-- Sums compared: all symbols are brought to the left, and the constants to the right (docs/CHECKING.md, "Forms and rows").
use Rattle.std.specs.Prelude.{List, [], ◌∷◌, ◌++◌, ℤ, pos, negsuc, ◌+ℤ◌, ◌-ℤ◌}
use Rattle.lq_linear.specs.Terms.{times}
use Rattle.lq_linear.specs.Form.{Linear}
use Rattle.lq_linear.specs.Row.{Inequality}

-- `a <= b`
abbrev pub at_most : (a b : Linear) → Inequality
at_most a b = record { terms = a.terms ++ times (negsuc 0) b.terms; most = b.constant -ℤ a.constant }

-- a number more
abbrev pub plus : Linear → ℤ → Linear
plus a z = record a { constant = a.constant +ℤ z }

-- `a + 1 <= b`
abbrev pub below : (a b : Linear) → Inequality
below a b = at_most (plus a (pos 1)) b

-- `a <= b` and then `b <= a`
abbrev pub equal : (a b : Linear) → List Inequality
equal a b = at_most a b ∷ at_most b a ∷ []
