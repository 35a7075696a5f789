-- Which lists of statements live (docs/CHECKING.md, "Templates").
use Rattle.std.specs.Prelude.{Bool, true, false, ◌&&◌, ◌||◌, List}
use Rattle.std.specs.List.{list_all}
use Rattle.lq_tree.specs.declared.plain.PKind.{PKind, If', Return, Row_of-PStmt, end_of-PStmt, more_of-PStmt}
use Rattle.lq_tree.specs.declared.plain.PStmt.{PStmt}

-- a list lives behind a statement, unless that is a Return, or an If neither of whose lists lives
abbrev mutual
  pub lives : PKind → Bool
  lives (Return e) = false
  lives (If' e n body m other) = list_lives body || list_lives other
  lives _ = true

  -- a list lives unless it holds such a statement
  pub list_lives : {n : _} → Row_of-PStmt n → Bool
  list_lives end_of-PStmt = true
  list_lives (more_of-PStmt at kind rest) = lives kind && list_lives rest

-- the statements of a body live
abbrev pub all_live : List PStmt → Bool
all_live body = list_all (λ (s : PStmt). lives s.kind) body
