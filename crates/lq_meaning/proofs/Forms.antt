-- What the meaning of a form is, written with the form's own boxes and lists. The definitions match on rows; a
-- source is written with boxes and lists.
use Rattle.std.proofs.Common.{◌≡◌, ℤ, List, [], ◌∷◌, Option, None, refl, ap, ◌∙◌}
use Rattle.lq_tree.specs.declared.place.Place.{Place}
use Rattle.lq_tree.specs.declared.expr.CType.{CType}
use Rattle.lq_tree.specs.declared.expr.Expr.{Expr, Index, Calloc, Row_of-Expr, end_of-Expr, more_of-Expr, items-the_row-Expr, items_hidden-the_row-Expr-0}
use Rattle.lq_tree.specs.declared.expr.Expr.TheBlock.{hidden-the_row-Expr-0}
use Rattle.lq_tree.specs.declared.stmt.StmtKind.{Block, Store, Cobegin, Row_of-Stmt, end_of-Stmt, more_of-Stmt, items-the_row-Stmt, items_hidden-the_row-Stmt-0}
use Rattle.lq_tree.specs.declared.stmt.StmtKind.TheBlock.{hidden-the_row-Stmt-0}
use Rattle.lq_tree.specs.declared.stmt.Stmt.{Stmt}
use Rattle.lq_tree.specs.Layout.{fields_of}
use Rattle.lq_meaning.specs.declared.action.Action.TheVariants.{Allocate}
use Rattle.lq_meaning.specs.Ending.{Trap, Unruled}
use Rattle.lq_meaning.specs.Control.{Run, give, stop, ◌⨾◌, due, Target, load, store, Flow, done_with, ◌then_do◌, branch, before, joined}
use Rattle.lq_meaning.specs.Meaning.{Context, Locals, target, value, names, value_of, target_of, find, eval, eval_row, exec, exec_row, exec_all, scoped, branches}
use Rattle.lq_meaning.proofs.Sequence.{then-assoc, then-give}

-- the value of the first expression of a list, which is the one of a box
abbrev eval_first : Context → Place → Locals → List Expr → Run ℤ
eval_first c at locals [] = stop Unruled
eval_first c at locals (e ∷ es) = eval c at locals e

-- the row of a box goes by its list
eval_row-items : {n : _} (c : Context) (at : Place) (locals : Locals) (row : Row_of-Expr n) → eval_row c at locals row ≡ eval_first c at locals (items-the_row-Expr n row)
eval_row-items c at locals end_of-Expr = refl
eval_row-items c at locals (more_of-Expr e rest) = refl

-- the row of a box has the value of what it holds
pub eval_row-boxed : (c : Context) (at : Place) (locals : Locals) (e : Expr) → eval_row c at locals (hidden-the_row-Expr-0 e) ≡ eval c at locals e
eval_row-boxed c at locals e = eval_row-items c at locals (hidden-the_row-Expr-0 e) ∙ ap (eval_first c at locals) (items_hidden-the_row-Expr-0 e)

-- what an index names: the base, the index
find-index : (c : Context) (at : Place) (locals : Locals) (base i : Expr) →
    find c at locals (Index base i) ≡ (eval c at locals base ⨾ λ pointer. eval c at locals i ⨾ λ i. names pointer i 0)
find-index c at locals base i = simp eval_row-boxed

-- two parts, and what comes behind the second
behind_two : {X Y Z V : Type 0} (first : Run X) (next : X → Run Y) (found : X → Y → Run Z) (last : Z → Run V)
    → ((first ⨾ λ x. next x ⨾ found x) ⨾ last) ≡ (first ⨾ λ x. next x ⨾ λ y. found x y ⨾ last)
behind_two first next found last = then-assoc first (λ x. next x ⨾ found x) last ∙ ap (λ f. first ⨾ f) (λ i x. then-assoc (next x) (found x) last i)

-- a load by index: the base, the index, the load
pub eval-index : (c : Context) (at : Place) (locals : Locals) (base i : Expr) →
    eval c at locals (Index base i) ≡ (eval c at locals base ⨾ λ pointer. eval c at locals i ⨾ λ i. load c.fuel at (target pointer i 0))
eval-index c at locals base i = ap (λ f. f ⨾ value_of c at) (find-index c at locals base i)
    ∙ behind_two (eval c at locals base) (λ _. eval c at locals i) (λ pointer i. names pointer i 0) (value_of c at)

-- a calloc: the count, the allocation
pub eval-calloc : (c : Context) (at : Place) (locals : Locals) (count : Expr) (type : CType) →
    eval c at locals (Calloc count type) ≡ (eval c at locals count ⨾ λ n. due c.fuel at (Allocate n (fields_of c.program.structs type)))
eval-calloc c at locals count type =
    ap (λ f. (f ⨾ λ n. due c.fuel at (Allocate n (fields_of c.program.structs type)) ⨾ value) ⨾ value_of c at) (eval_row-boxed c at locals count)
    ∙ (behind_two (eval c at locals count) (λ n. due c.fuel at (Allocate n (fields_of c.program.structs type))) (λ _. value) (value_of c at)
    ∙ ap (λ f. eval c at locals count ⨾ f) (λ i n. then-give (due c.fuel at (Allocate n (fields_of c.program.structs type))) i))

-- a store by index: the base, the index, the value, the store
pub exec-store-index : (c : Context) (at : Place) (locals : Locals) (base i e : Expr) →
    exec c at (Store (Index base i) e) locals
    ≡ (eval c at locals base ⨾ λ pointer. eval c at locals i ⨾ λ i. eval c at locals e ⨾ λ word. store c.fuel at (target pointer i 0) word ⨾ λ _. done_with locals)
exec-store-index c at locals base i e =
    let rest : Target → Run (Flow Locals) = λ t. eval c at locals e ⨾ λ word. store c.fuel at t word ⨾ λ _. done_with locals in
    ap (λ f. f ⨾ target_of ⨾ rest) (find-index c at locals base i)
    ∙ (then-assoc (eval c at locals base ⨾ λ pointer. eval c at locals i ⨾ λ i. names pointer i 0) target_of rest
    ∙ behind_two (eval c at locals base) (λ _. eval c at locals i) (λ pointer i. names pointer i 0) (λ found. target_of found ⨾ rest))

-- one statement after another, over the list of a row
pub exec_row-items : {n : _} (c : Context) (row : Row_of-Stmt n) → exec_row c row ≡ exec_all c (items-the_row-Stmt n row)
exec_row-items c end_of-Stmt = refl
exec_row-items c (more_of-Stmt at kind rest) = ap (λ next locals. exec c at kind locals then_do next) (exec_row-items c rest)

-- one branch after another, over a list of statements
abbrev pub all_branches : Context → List Stmt → Locals → Run (Option Trap)
all_branches c [] locals = give None
all_branches c (s ∷ blocks) locals = before (branch (exec c s.at s.kind locals)) (all_branches c blocks locals)

-- the branches of a row go by its list
pub branches-items : {n : _} (c : Context) (row : Row_of-Stmt n) (locals : Locals) → branches c row locals ≡ all_branches c (items-the_row-Stmt n row) locals
branches-items c end_of-Stmt locals = refl
branches-items c (more_of-Stmt at kind rest) locals = ap (before (branch (exec c at kind locals))) (branches-items c rest locals)

-- a block runs its statements, and their locals end with it
pub exec-block : (c : Context) (at : Place) (body : List Stmt) (locals : Locals) → exec c at (Block body) locals ≡ scoped locals (exec_all c body locals)
exec-block c at body locals =
    ap (λ f. scoped locals (f locals)) (exec_row-items c (hidden-the_row-Stmt-0 body) ∙ ap (exec_all c) (items_hidden-the_row-Stmt-0 body))

-- a cobegin runs its blocks in order
pub exec-cobegin : (c : Context) (at : Place) (blocks : List Stmt) (locals : Locals) → exec c at (Cobegin blocks) locals ≡ (all_branches c blocks locals ⨾ joined locals)
exec-cobegin c at blocks locals =
    ap (λ f. f ⨾ joined locals) (branches-items c (hidden-the_row-Stmt-0 blocks) locals ∙ ap (λ all. all_branches c all locals) (items_hidden-the_row-Stmt-0 blocks))
