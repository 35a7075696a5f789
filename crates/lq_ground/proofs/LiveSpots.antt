-- Which statements may have templates of their own, by the lists that the code sees.
use Rattle.std.proofs.Common.{◌≡◌, ◌&&◌, List, ap₂}
use Rattle.lq_tree.specs.declared.plain.PExpr.{PExpr}
use Rattle.lq_tree.specs.declared.plain.PKind.{If}
use Rattle.lq_tree.specs.declared.plain.PStmt.{PStmt}
use Rattle.lq_templates.specs.Lives.{all_live}
use Rattle.lq_templates.proofs.LiveLists.{live_list}
use Rattle.lq_ground.specs.Spots.{has_spot}

pub has_spot-if : (e : PExpr) (body other : List PStmt) → has_spot (If e body other) ≡ (all_live body && all_live other)
has_spot-if e body other = ap₂ (λ a b. a && b) (live_list body) (live_list other)
