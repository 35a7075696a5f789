-- The shape of plain statements, and what may not stand in a parallel one (docs/LANGUAGE.md, "What holds of a plain program").
use Rattle.std.specs.Prelude.{ℕ, suc, max, nat_le, Bool, true, false, not, ◌&&◌, ◌||◌, List, []}
use Rattle.std.specs.List.{list_any}
use Rattle.lq_tree.specs.declared.plain.PExpr.{PExpr, Neg', Not', Bin', Shift', IsNull', Row_of-PExpr, end_of-PExpr, more_of-PExpr}
use Rattle.lq_tree.specs.declared.plain.PKind.{PKind, Calloc, Call, While', Cobegin', Foreach, Print, Return, Row_of-Branch, end_of-Branch, more_of-Branch}
use Rattle.lq_tree.specs.declared.plain.PStmt.{PStmt}
use Rattle.lq_tree.specs.Step.{is_step}
use Rattle.lq_tree.specs.PlainWalk.{within_row, within_branch, within_branches}

-- how deep an expression is nested
abbrev mutual
  pub depth : PExpr → ℕ
  depth (Neg' p e) = suc (row_depth e)
  depth (Not' p e) = suc (row_depth e)
  depth (Bin' op p a q b) = suc (max (row_depth a) (row_depth b))
  depth (Shift' p a q n) = suc (max (row_depth a) (row_depth n))
  depth (IsNull' p e) = suc (row_depth e)
  depth _ = 1

  -- of the deepest of a row
  pub row_depth : {n : _} → Row_of-PExpr n → ℕ
  row_depth end_of-PExpr = 0
  row_depth (more_of-PExpr e rest) = max (depth e) (row_depth rest)

-- at most 600 deep
abbrev pub is_shallow : PExpr → Bool
is_shallow e = nat_le (depth e) 600

-- how many branches there are
abbrev pub count_branches : {n : _} → Row_of-Branch n → ℕ
count_branches end_of-Branch = 0
count_branches (more_of-Branch branch rest) = suc (count_branches rest)

-- from 2 to 16 branches
abbrev pub few_branches : ℕ → Bool
few_branches count = nat_le 2 count && nat_le count 16

-- it is a Return
abbrev pub is_return : PKind → Bool
is_return (Return e) = true
is_return _ = false

-- no Return stands in the head of a While, the branches are few, and a step is one
abbrev pub is_shaped : PKind → Bool
is_shaped (While' n head e m body) = not (list_any (λ (s : PStmt). is_return s.kind) (within_row head))
is_shaped (Cobegin' n blocks) = few_branches (count_branches blocks)
is_shaped (Foreach index low high step branch) = is_step step
is_shaped _ = true

-- the statements in a parallel statement, at any depth
abbrev pub in_parallel : PKind → List PStmt
in_parallel (Cobegin' n blocks) = within_branches blocks
in_parallel (Foreach index low high step branch) = within_branch branch
in_parallel _ = []

-- a statement itself prints or allocates, or calls a function that isn't one of the quiet ones
abbrev pub is_loud : (quiet : ℕ → Bool) → PKind → Bool
is_loud quiet (Calloc to count type) = true
is_loud quiet (Call to function args) = not (quiet function)
is_loud quiet (Print e) = true
is_loud quiet _ = false

-- in a parallel statement nothing prints, allocates or returns
abbrev pub keeps_quiet : (quiet : ℕ → Bool) → PKind → Bool
keeps_quiet quiet kind = not (list_any (λ (s : PStmt). is_loud quiet s.kind || is_return s.kind) (in_parallel kind))
