-- The statements inside a statement, by the lists that the code sees.
use Rattle.std.proofs.Common.{◌≡◌, List, ◌∷◌, ◌++◌, refl, ap, sym, ◌∙◌}
use Rattle.lq_tree.specs.declared.place.Place.{Place}
use Rattle.lq_tree.specs.declared.plain.PKind.{Row_of-PStmt, end_of-PStmt, more_of-PStmt, items-the_row-PStmt, items_hidden-the_row-PStmt-0}
use Rattle.lq_tree.specs.declared.plain.PKind.TheBlock.{hidden-the_row-PStmt-0}
use Rattle.lq_tree.specs.declared.plain.PStmt.{PStmt}
use Rattle.lq_tree.specs.declared.plain.Branch.{Branch, out-Branch, roll-Branch, rolls-Branch', roll-out-Branch}
use Rattle.lq_tree.specs.PlainWalk.{statement, inside, within_row, within_branch, statements}

within_row-items : {n : _} (row : Row_of-PStmt n) → within_row row ≡ statements (items-the_row-PStmt n row)
within_row-items end_of-PStmt = refl
within_row-items (more_of-PStmt at kind rest) = ap (λ (list : List PStmt). statement at kind ∷ (inside kind ++ list)) (within_row-items rest)

pub within_row-list : (body : List PStmt) → within_row (hidden-the_row-PStmt-0 body) ≡ statements body
within_row-list body = within_row-items (hidden-the_row-PStmt-0 body) ∙ ap statements (items_hidden-the_row-PStmt-0 body)

within_branch-list : (at : Place) (body : List PStmt) → within_branch (roll-Branch (record { at = at; body = body })) ≡ statements body
within_branch-list at body = ap within_branch (rolls-Branch' (record { at = at; body = body })) ∙ within_row-list body

pub within_branch-out : (b : Branch) → within_branch b ≡ statements (out-Branch b).body
within_branch-out b = ap within_branch (sym (roll-out-Branch b)) ∙ within_branch-list (out-Branch b).at (out-Branch b).body
