-- Where a store goes (docs/LANGUAGE.md, "Statements").
use Rattle.std.specs.Prelude.{Bool, true, IsTrue}
use Rattle.std.specs.List.{All}
use Rattle.lq_tree.specs.declared.stmt.Stmt.{Stmt}
use Rattle.lq_tree.specs.declared.stmt.StmtKind.{StmtKind, Store}
use Rattle.lq_tree.specs.declared.program.Func.{Func}
use Rattle.lq_tree.specs.declared.program.Program.{Program}
use Rattle.lq_tree.specs.Walk.{statements}
pub use Rattle.lq_parser.specs.Expressions.{is_place}

-- a store goes to a place; all other statements pass
abbrev pub stores_to_place : StmtKind → Bool
stores_to_place (Store into e) = is_place into
stores_to_place _ = true

-- each store of a program, at any depth, goes to a place
abbrev pub StoresToPlaces : Program → Type 0
StoresToPlaces p = All (λ (f : Func). All (λ (s : Stmt). IsTrue (stores_to_place s.kind)) (statements f.body)) p.funcs
