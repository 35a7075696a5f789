-- When rows are the same, symbol for symbol.
use Rattle.std.specs.Prelude.{◌==◌, Bool, ◌&&◌}
use Rattle.std.specs.Ordering.{int_eq}
use Rattle.std.specs.Cmp.Lexicographic.{pointwise}
use Rattle.lq_linear.specs.Terms.{Term}
use Rattle.lq_linear.specs.Row.{Inequality}

-- two terms are the same
abbrev pub same_term : Term → Term → Bool
same_term a b = a.0 == b.0 && int_eq a.1 b.1

-- two rows are the same
abbrev pub same_row : Inequality → Inequality → Bool
same_row a b = pointwise same_term a.terms b.terms && int_eq a.most b.most
