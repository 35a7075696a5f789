-- The factors of a source, from which the checker takes its multipliers (docs/LANGUAGE.md, "Plain form").
use Rattle.std.specs.Prelude.{ℕ, zero, suc, ◌||◌, Bool, false, ℤ, pos, List, [], ◌∷◌, filter}
use Rattle.std.specs.Ordering.{int_eq}
use Rattle.std.specs.List.{list_any, flat_map}
use Rattle.lq_tree.specs.declared.expr.BinOp.TheVariants.{Mul, Div, Rem}
use Rattle.lq_tree.specs.declared.expr.Expr.{Expr, Num, Bin', Row_of-Expr, more_of-Expr}
use Rattle.lq_tree.specs.declared.program.Func.{Func}
use Rattle.lq_tree.specs.declared.program.Program.{Program}
use Rattle.lq_tree.specs.Walk.{nodes, expressions}

-- the one expression of a box is this literal
abbrev pub is_literal : {m : _} → ℤ → Row_of-Expr m → Bool
is_literal n (more_of-Expr (Num z) rest) = int_eq z n
is_literal n _ = false

-- it is an operand of a product, or what is divided by
abbrev pub takes : ℤ → Expr → Bool
takes n (Bin' Mul p a q b) = is_literal n a || is_literal n b
takes n (Bin' Div p a q b) = is_literal n b
takes n (Bin' Rem p a q b) = is_literal n b
takes n _ = false

-- somewhere in a function it is
abbrev pub function_takes : ℤ → Func → Bool
function_takes n f = list_any (takes n) (flat_map nodes (expressions f.body))

-- so many numbers from this one on
abbrev pub numbers_from : ℕ → (count : ℕ) → List ℤ
numbers_from n zero = []
numbers_from n (suc count) = pos n ∷ numbers_from (suc n) count

-- the factors among the numbers from 2 to 64
abbrev pub factors : Program → List ℤ
factors p = filter (λ n. list_any (function_takes n) p.funcs) (numbers_from 2 63)
