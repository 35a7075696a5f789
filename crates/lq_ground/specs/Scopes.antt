-- A table of the numbers of functions' scopes.
use Rattle.std.specs.Prelude.{◌≡◌, ℕ, ◌+◌, ◌≤◌, List, length, slice_index}
use Rattle.lq_tree.specs.declared.plain.PFunc.{PFunc}
use Rattle.lq_ground.specs.Ground.{function_scope}

-- a number for each function, and one behind them
pub record AreScopes (funcs : List PFunc) (scopes : List ℕ) : Type 0 where
  pub size : length scopes ≡ length funcs + 1
  pub each : (n : ℕ) → n ≤ length funcs → slice_index scopes n ≡ function_scope funcs n
