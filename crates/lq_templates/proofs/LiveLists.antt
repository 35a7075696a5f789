-- Lists that live, by their statements.
use Rattle.std.proofs.Common.{◌≡◌, Bool, ◌&&◌, ◌||◌, cond, List, None, Some, refl, ap, ap₂, sym, ◌∙◌}
use Rattle.lq_tree.specs.declared.plain.PExpr.{PExpr}
use Rattle.lq_tree.specs.declared.plain.PKind.{PKind, If, Row_of-PStmt, end_of-PStmt, more_of-PStmt, items-the_row-PStmt, items_hidden-the_row-PStmt-0}
use Rattle.lq_tree.specs.declared.plain.PKind.TheBlock.{hidden-the_row-PStmt-0}
use Rattle.lq_tree.specs.declared.plain.PStmt.{PStmt}
use Rattle.lq_templates.specs.declared.reading.Sort.TheVariants.{Join}
use Rattle.lq_templates.specs.Lives.{lives, list_lives, all_live}
use Rattle.lq_templates.specs.Reading.{sort_of}

live_items : {n : _} (row : Row_of-PStmt n) → list_lives row ≡ all_live (items-the_row-PStmt n row)
live_items end_of-PStmt = refl
live_items (more_of-PStmt at kind rest) = ap (λ b. lives kind && b) (live_items rest)

pub live_list : (body : List PStmt) → list_lives (hidden-the_row-PStmt-0 body) ≡ all_live body
live_list body = live_items (hidden-the_row-PStmt-0 body) ∙ ap all_live (items_hidden-the_row-PStmt-0 body)

-- of an If
pub live_if : (e : PExpr) (body other : List PStmt) → lives (If e body other) ≡ (all_live body || all_live other)
live_if e body other = ap₂ (λ a b. a || b) (live_list body) (live_list other)

-- which point an If is
pub sort_of-if : (kind : PKind) (e : PExpr) (body other : List PStmt) (a b : Bool) → kind ≡ If e body other → a ≡ all_live body → b ≡ all_live other → cond (a && b) (Some Join) None ≡ sort_of kind
sort_of-if kind e body other a b is first second =
    ap₂ (λ x y. cond (x && y) (Some Join) None) (first ∙ sym (live_list body)) (second ∙ sym (live_list other)) ∙ ap sort_of (sym is)
