-- What the plain statements that hold lists do, by their lists.
use Rattle.std.proofs.Common.{◌≡◌, suc, List, [], ◌∷◌, Option, None, refl, ap, ap₂, ◌∙◌}
use Rattle.lq_tree.specs.declared.place.Place.{Place}
use Rattle.lq_tree.specs.declared.plain.PExpr.{PExpr}
use Rattle.lq_tree.specs.declared.plain.PKind.{If, While, Cobegin, Row_of-PStmt, end_of-PStmt, more_of-PStmt, items-the_row-PStmt, items_hidden-the_row-PStmt-0, Row_of-Branch, end_of-Branch, more_of-Branch, items-the_row-Branch, items_hidden-the_row-Branch-1}
use Rattle.lq_tree.specs.declared.plain.PKind.TheBlock.{hidden-the_row-PStmt-0, hidden-the_row-Branch-1}
use Rattle.lq_tree.specs.declared.plain.PStmt.{PStmt}
use Rattle.lq_tree.specs.declared.plain.Branch.{Branch, roll-Branch, rolls-Branch'}
use Rattle.lq_meaning.specs.Ending.{Trap}
use Rattle.lq_meaning.specs.Control.{Run, give, ◌⨾◌, by_truth, Statement, ◌then_do◌, tested, loop, branch, before, joined}
use Rattle.lq_meaning.specs.PlainMeaning.{Slots, Context, eval, exec, exec_row, exec_branch, branches, exec_all}

-- one statement after another, over the list of a row
exec_row-items : {n : _} (d : Context) (row : Row_of-PStmt n) → exec_row d row ≡ exec_all d (items-the_row-PStmt n row)
exec_row-items d end_of-PStmt = refl
exec_row-items d (more_of-PStmt at kind rest) = ap {B = Statement Slots} (λ (next : Statement Slots) (slots : Slots). exec d at kind slots then_do next) (exec_row-items d rest)

pub exec_row-list : (d : Context) (body : List PStmt) → exec_row d (hidden-the_row-PStmt-0 body) ≡ exec_all d body
exec_row-list d body = exec_row-items d (hidden-the_row-PStmt-0 body) ∙ ap (exec_all d) (items_hidden-the_row-PStmt-0 body)

pub exec-if : (d : Context) (at : Place) (e : PExpr) (body other : List PStmt) (slots : Slots)
    → exec d at (If e body other) slots ≡ (eval at slots e ⨾ λ word. by_truth word (exec_all d body slots) (exec_all d other slots))
exec-if d at e body other slots =
    ap₂ (λ (holds fails : Statement Slots). eval at slots e ⨾ λ word. by_truth word (holds slots) (fails slots)) (exec_row-list d body) (exec_row-list d other)

pub exec-while : (d : Context) (at : Place) (head : List PStmt) (e : PExpr) (body : List PStmt) (slots : Slots)
    → exec d at (While head e body) slots ≡ loop (suc d.fuel) (exec_all d head) (λ slots. tested d.fuel at (eval at slots e)) (exec_all d body) slots
exec-while d at head e body slots =
    ap₂ (λ (first turn : Statement Slots). loop (suc d.fuel) first (λ slots. tested d.fuel at (eval at slots e)) turn slots) (exec_row-list d head) (exec_row-list d body)

-- the statements of a branch
pub exec_branch-list : (d : Context) (at : Place) (body : List PStmt) (slots : Slots) → exec_branch d (roll-Branch (record { at = at; body = body })) slots ≡ exec_all d body slots
exec_branch-list d at body slots =
    ap (λ b. exec_branch d b slots) (rolls-Branch' (record { at = at; body = body })) ∙ ap (λ (f : Statement Slots). f slots) (exec_row-list d body)

-- one branch after another, over a list of them
abbrev pub all_branches : Context → List Branch → Slots → Run (Option Trap)
all_branches d [] slots = give None
all_branches d (body ∷ blocks) slots = before (branch (exec_branch d body slots)) (all_branches d blocks slots)

branches-items : {n : _} (d : Context) (row : Row_of-Branch n) (slots : Slots) → branches d row slots ≡ all_branches d (items-the_row-Branch n row) slots
branches-items d end_of-Branch slots = refl
branches-items d (more_of-Branch body rest) slots = ap (before (branch (exec_branch d body slots))) (branches-items d rest slots)

pub exec-cobegin : (d : Context) (at : Place) (blocks : List Branch) (slots : Slots) → exec d at (Cobegin blocks) slots ≡ (all_branches d blocks slots ⨾ joined slots)
exec-cobegin d at blocks slots =
    ap (λ run. run ⨾ joined slots) (branches-items d (hidden-the_row-Branch-1 blocks) slots ∙ ap (λ all. all_branches d all slots) (items_hidden-the_row-Branch-1 blocks))
