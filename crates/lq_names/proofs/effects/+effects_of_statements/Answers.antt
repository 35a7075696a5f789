use Rattle.std.proofs.Common.{List, Option, arith, refl, ap, sym, ◌∙◌}
use Rattle.std.specs.List.{list_any}
use Rattle.std.proofs.lemmas.List.{take_all}
use Rattle.lq_tree.specs.declared.stmt.Stmt.{Stmt}
use Rattle.lq_tree.specs.declared.stmt.Arm.{Arm, out-Arm}
use Rattle.lq_tree.specs.declared.stmt.StmtKind.{StmtKind, out-StmtKind}
use Rattle.lq_names.specs.Scopes.{in_parallel}
use Rattle.lq_names.specs.Calls.{statement_does, placed_does}
use Rattle.lq_names.specs.Sites.{sites_list, sites_of, sites_beside, sites_of_bodies, sites_of_other, after_other, iteration}
use Rattle.lq_names.specs.Seen.{is_among}
use Rattle.lq_names.proofs.SiteLaws.{sites_alone}
use Rattle.lq_names.proofs.AnySites.{some_alone, some_block, some_cobegin, some_while, some_foreach, some_if, some_for, list_more, mapped_more}
use Rattle.lq_names.proofs.effects.+effects_of_statements.Goals as goal

pub stmts_do-loop-stmt-init : goal.stmts_do-loop-stmt-init
stmts_do-loop-stmt-init t c = record { list = λ s. refl; beside = λ s. refl }

pub stmts_do-loop-stmt-preserved : goal.stmts_do-loop-stmt-preserved
stmts_do-loop-stmt-preserved t c =
    let test = λ (k : StmtKind). statement_does c.args.effect (is_among c.args.names.now) (out-StmtKind k) in
    record {
      list = list_more test c.args.stmts.now c.loop-stmt.stmt-index c.stmt-item.result c.loop-stmt.found c.stmt_does-found.result (omega arith) c.stmt-item.is c.loop-stmt.invariant.list c.stmt_does-found.ensures;
      beside = λ s. mapped_more test (sites_of s) c.args.stmts.now c.loop-stmt.stmt-index c.stmt-item.result c.loop-stmt.found c.stmt_does-found.result (omega arith) c.stmt-item.is (c.loop-stmt.invariant.beside s) (c.stmt_does-found.ensures s);
    }

pub stmts_do-returns-clause-list : goal.stmts_do-returns-clause-list
stmts_do-returns-clause-list t c = λ s. c.loop-stmt.invariant.list s ∙ ap (λ (xs : List Stmt). list_any (placed_does c.args.effect (is_among c.args.names.now)) (sites_list s xs)) (take_all c.loop-stmt.stmt-index c.args.stmts.now (omega arith))

pub stmts_do-returns-clause-beside : goal.stmts_do-returns-clause-beside
stmts_do-returns-clause-beside t c = λ s. c.loop-stmt.invariant.beside s ∙ ap (λ (xs : List Stmt). list_any (placed_does c.args.effect (is_among c.args.names.now)) (sites_beside s xs)) (take_all c.loop-stmt.stmt-index c.args.stmts.now (omega arith))

pub arms_do-loop-arm-init : goal.arms_do-loop-arm-init
arms_do-loop-arm-init t c = λ s. refl

pub arms_do-loop-arm-preserved : goal.arms_do-loop-arm-preserved
arms_do-loop-arm-preserved t c =
    let test = λ (k : StmtKind). statement_does c.args.effect (is_among c.args.names.now) (out-StmtKind k) in
    λ s. mapped_more test (λ (arm : Arm). sites_of s (out-Arm arm).body) c.args.arms.now c.loop-arm.arm-index c.arm-item.result c.loop-arm.found c.stmt_does-found.result (omega arith) c.arm-item.is (c.loop-arm.invariant s)
    (c.stmt_does-found.ensures s ∙ ap (λ (b : Stmt). list_any (placed_does c.args.effect (is_among c.args.names.now)) (sites_of s b)) c.get.ensures)

pub arms_do-returns : goal.arms_do-returns
arms_do-returns t c = λ s. c.loop-arm.invariant s ∙ ap (λ (xs : List Arm). list_any (placed_does c.args.effect (is_among c.args.names.now)) (sites_of_bodies s xs)) (take_all c.loop-arm.arm-index c.args.arms.now (omega arith))

pub other_does-returns-in-Some : goal.other_does-returns-in-Some
other_does-returns-in-Some t c = λ s. c.stmt_does.ensures s ∙ ap (λ (b : Stmt). list_any (placed_does c.args.effect (is_among c.args.names.now)) (sites_of s b)) c.get.ensures
    ∙ ap (λ (o : Option Stmt). list_any (placed_does c.args.effect (is_among c.args.names.now)) (sites_of_other s o)) (sym c.in-Some.is)

pub other_does-returns-in-None : goal.other_does-returns-in-None
other_does-returns-in-None t c = λ s. ap (λ (o : Option Stmt). list_any (placed_does c.args.effect (is_among c.args.names.now)) (sites_of_other s o)) (sym c.in-None.is)

pub stmt_does-returns-in-Block : goal.stmt_does-returns-in-Block
stmt_does-returns-in-Block t c = λ s. some_block (λ (k : StmtKind). statement_does c.args.effect (is_among c.args.names.now) (out-StmtKind k)) s c.args.stmt.now.at c.args.stmt.now.kind c.in-Block.body c.stmts_do.result c.in-Block.is
    (c.stmts_do.ensures.list s ∙ ap (λ (xs : List Stmt). list_any (placed_does c.args.effect (is_among c.args.names.now)) (sites_list s xs)) c.as_slice.ensures)

pub stmt_does-returns-in-Cobegin : goal.stmt_does-returns-in-Cobegin
stmt_does-returns-in-Cobegin t c = λ s. some_cobegin (λ (k : StmtKind). statement_does c.args.effect (is_among c.args.names.now) (out-StmtKind k)) s c.args.stmt.now.at c.args.stmt.now.kind c.in-Cobegin.blocks c.stmts_do-in-Cobegin.result c.in-Cobegin.is
    (c.stmts_do-in-Cobegin.ensures.beside (in_parallel s) ∙ ap (λ (xs : List Stmt). list_any (placed_does c.args.effect (is_among c.args.names.now)) (sites_beside (in_parallel s) xs)) c.as_slice-in-Cobegin.ensures)

pub stmt_does-returns-in-If : goal.stmt_does-returns-in-If
stmt_does-returns-in-If t c = λ s. some_if (λ (k : StmtKind). statement_does c.args.effect (is_among c.args.names.now) (out-StmtKind k)) s c.args.stmt.now.at c.args.stmt.now.kind c.in-If.arms c.in-If.other c.itself_does-own.result c.arms_do.result c.other_does.result c.in-If.is c.itself_does-own.ensures
    (c.arms_do.ensures s ∙ ap (λ (xs : List Arm). list_any (placed_does c.args.effect (is_among c.args.names.now)) (sites_of_bodies s xs)) c.as_slice-in-If.ensures) (c.other_does.ensures s)

pub stmt_does-returns-in-While : goal.stmt_does-returns-in-While
stmt_does-returns-in-While t c = λ s. some_while (λ (k : StmtKind). statement_does c.args.effect (is_among c.args.names.now) (out-StmtKind k)) s c.args.stmt.now.at c.args.stmt.now.kind c.in-While.field-0 c.in-While.body c.itself_does-own.result c.stmt_does.result c.in-While.is c.itself_does-own.ensures
    (c.stmt_does.ensures s ∙ ap (λ (b : Stmt). list_any (placed_does c.args.effect (is_among c.args.names.now)) (sites_of s b)) c.get.ensures)

pub stmt_does-returns-in-Foreach : goal.stmt_does-returns-in-Foreach
stmt_does-returns-in-Foreach t c = λ s. some_foreach (λ (k : StmtKind). statement_does c.args.effect (is_among c.args.names.now) (out-StmtKind k)) s c.args.stmt.now.at c.args.stmt.now.kind c.in-Foreach.field-0 c.in-Foreach.field-1 c.in-Foreach.field-2 c.in-Foreach.field-3 c.in-Foreach.body c.itself_does-own.result c.stmt_does-in-Foreach.result c.in-Foreach.is c.itself_does-own.ensures
    (c.stmt_does-in-Foreach.ensures (iteration s c.in-Foreach.field-0) ∙ ap (λ (b : Stmt). list_any (placed_does c.args.effect (is_among c.args.names.now)) (sites_of (iteration s c.in-Foreach.field-0) b)) c.get-in-Foreach.ensures)

pub stmt_does-returns-in-For : goal.stmt_does-returns-in-For
stmt_does-returns-in-For t c = λ s. some_for (λ (k : StmtKind). statement_does c.args.effect (is_among c.args.names.now) (out-StmtKind k)) s c.args.stmt.now.at c.args.stmt.now.kind c.in-For.start c.in-For.field-1 c.in-For.third c.in-For.body c.other_does-in-For.result c.itself_does-own.result c.other_does-in-For-2.result c.stmt_does-in-For.result c.in-For.is c.itself_does-own.ensures
    (c.other_does-in-For.ensures s) (c.other_does-in-For-2.ensures (after_other s c.in-For.start))
    (c.stmt_does-in-For.ensures (after_other s c.in-For.start) ∙ ap (λ (b : Stmt). list_any (placed_does c.args.effect (is_among c.args.names.now)) (sites_of (after_other s c.in-For.start) b)) c.get-in-For.ensures)

pub stmt_does-returns-in_default : goal.stmt_does-returns-in_default
stmt_does-returns-in_default t c = λ s. some_alone (λ (k : StmtKind). statement_does c.args.effect (is_among c.args.names.now) (out-StmtKind k)) s c.args.stmt.now.at c.args.stmt.now.kind c.itself_does-own.result
    (sites_alone s c.args.stmt.now.at c.args.stmt.now.kind c.in_default.not-Block c.in_default.not-If c.in_default.not-While c.in_default.not-For c.in_default.not-Cobegin c.in_default.not-Foreach)
    c.itself_does-own.ensures
