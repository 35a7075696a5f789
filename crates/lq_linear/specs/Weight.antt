-- What rows weigh: a number that is the same for equal forms and, as good as always, differs for others.
use Rattle.std.specs.Prelude.{ℕ, ◌+◌, ◌*◌, ◌%◌, ℤ, pos}
use Rattle.lq_linear.specs.Terms.{terms_value}
use Rattle.lq_linear.specs.Row.{Inequality}

-- a number scattered over the numbers below 2^61 - 1
unfoldable pub scattered : ℕ → ℕ
scattered n = (n * n + 1152921504606847009) % 2305843009213693951

-- what each symbol weighs
abbrev pub symbol_weight : ℕ → ℤ
symbol_weight symbol = pos (scattered (scattered (scattered symbol)))

-- the value of a row's form where each symbol stands for its weight
abbrev pub weight_of : Inequality → ℤ
weight_of row = terms_value symbol_weight row.terms
