-- What the statements that hold lists do in a line, and their weights, by their lists.
use Rattle.std.proofs.Common.{◌≡◌, ℕ, suc, ◌+◌, List, refl, sym, ap, ap₂, ◌∙◌, rules}
use Rattle.lq_tree.specs.declared.place.Place.{Place}
use Rattle.lq_tree.specs.declared.plain.PExpr.{PExpr}
use Rattle.lq_tree.specs.declared.plain.PKind.{If, While, Row_of-PStmt, end_of-PStmt, more_of-PStmt, items-the_row-PStmt, items_hidden-the_row-PStmt-0, Row_of-Branch, end_of-Branch, more_of-Branch, items-the_row-Branch, items_hidden-the_row-Branch-1}
use Rattle.lq_tree.specs.declared.plain.PKind.TheBlock.{hidden-the_row-PStmt-0, hidden-the_row-Branch-1}
use Rattle.lq_tree.specs.declared.plain.PStmt.{PStmt}
use Rattle.lq_tree.specs.declared.plain.Branch.{Branch, out-Branch, roll-Branch, rolls-Branch', the_lemmas}
use Rattle.lq_meaning.specs.Control.{by_truth}
use Rattle.lq_meaning.specs.PlainMeaning.{Slots}
use Rattle.lq_meaning.specs.Task.{more}
use Rattle.lq_meaning.specs.TaskControl.{◌⨾◌, Statement, ◌then_do◌, tested, loop, leaf}
use Rattle.lq_meaning.specs.Behaviour.{Context, child, eval, exec, exec_row, exec_branch, branches, exec_all}
use Rattle.lq_meaning.specs.Line.{all_branches}
use Rattle.lq_meaning.specs.Weight.{weight, weight_row, weight_all}

-- one statement after another, over the list of a row
exec_row-items : {n : _} (d : Context) (row : Row_of-PStmt n) → exec_row d row ≡ exec_all d (items-the_row-PStmt n row)
exec_row-items d end_of-PStmt = refl
exec_row-items d (more_of-PStmt at kind rest) = ap {B = Statement Slots} (λ (next : Statement Slots) (slots : Slots). exec d at kind slots then_do next) (exec_row-items d rest)

pub exec_row-list : (d : Context) (body : List PStmt) → exec_row d (hidden-the_row-PStmt-0 body) ≡ exec_all d body
exec_row-list d body = exec_row-items d (hidden-the_row-PStmt-0 body) ∙ ap (exec_all d) (items_hidden-the_row-PStmt-0 body)

pub exec-if : (d : Context) (at : Place) (e : PExpr) (body other : List PStmt) (slots : Slots)
    → exec d at (If e body other) slots ≡ (eval at slots e ⨾ λ word. by_truth word (exec_all d body slots) (exec_all d other slots))
exec-if d at e body other slots =
    ap₂ (λ (holds fails : Statement Slots). eval at slots e ⨾ λ word. by_truth word (holds slots) (fails slots)) (exec_row-list d body) (exec_row-list d other)

pub exec-while : (d : Context) (at : Place) (head : List PStmt) (e : PExpr) (body : List PStmt) (slots : Slots)
    → exec d at (While head e body) slots ≡ loop d.turns (exec_all d head) (λ slots. tested d.branch at (eval at slots e)) (exec_all d body) slots
exec-while d at head e body slots =
    ap₂ (λ (first turn : Statement Slots). loop d.turns first (λ slots. tested d.branch at (eval at slots e)) turn slots) (exec_row-list d head) (exec_row-list d body)

branches-items : {n : _} (d : Context) (passed number : ℕ) (row : Row_of-Branch n) (slots : Slots) → branches d passed number row slots ≡ all_branches d passed number (items-the_row-Branch n row) slots
branches-items d passed number end_of-Branch slots = refl
branches-items d passed number (more_of-Branch body rest) slots =
    ap (more (leaf (exec_branch (child d passed number) body slots))) (branches-items d passed (suc number) rest slots)

pub branches-list : (d : Context) (passed : ℕ) (blocks : List Branch) (slots : Slots) → branches d passed 0 (hidden-the_row-Branch-1 blocks) slots ≡ all_branches d passed 0 blocks slots
branches-list d passed blocks slots =
    branches-items d passed 0 (hidden-the_row-Branch-1 blocks) slots ∙ ap (λ all. all_branches d passed 0 all slots) (items_hidden-the_row-Branch-1 blocks)

-- the weight of a row is that of its list
weight_row-items : {n : _} (row : Row_of-PStmt n) → weight_row row ≡ weight_all (items-the_row-PStmt n row)
weight_row-items end_of-PStmt = refl
weight_row-items (more_of-PStmt at kind rest) = ap (λ n. suc (weight kind + n)) (weight_row-items rest)

pub weight_row-list : (body : List PStmt) → weight_row (hidden-the_row-PStmt-0 body) ≡ weight_all body
weight_row-list body = weight_row-items (hidden-the_row-PStmt-0 body) ∙ ap weight_all (items_hidden-the_row-PStmt-0 body)

pub weight-if : (e : PExpr) (body other : List PStmt) → weight (If e body other) ≡ suc (weight_all body + weight_all other)
weight-if e body other = ap₂ (λ a b. suc (a + b)) (weight_row-list body) (weight_row-list other)

pub weight-while : (head : List PStmt) (e : PExpr) (body : List PStmt) → weight (While head e body) ≡ suc (suc (weight_all head))
weight-while head e body = ap (λ n. suc (suc n)) (weight_row-list head)

-- the statements of a branch by its list
rolled : (branch : Branch) → roll-Branch (out-Branch branch) ≡ branch
rolled branch = search (rules, the_lemmas)

exec_branch-list : (d : Context) (at : Place) (body : List PStmt) (slots : Slots) → exec_branch d (roll-Branch (record { at = at; body = body })) slots ≡ exec_all d body slots
exec_branch-list d at body slots =
    ap (λ b. exec_branch d b slots) (rolls-Branch' (record { at = at; body = body })) ∙ ap (λ (f : Statement Slots). f slots) (exec_row-list d body)

pub exec_branch-body : (d : Context) (branch : Branch) (slots : Slots) → exec_branch d branch slots ≡ exec_all d (out-Branch branch).body slots
exec_branch-body d branch slots = ap (λ b. exec_branch d b slots) (sym (rolled branch)) ∙ exec_branch-list d (out-Branch branch).at (out-Branch branch).body slots
