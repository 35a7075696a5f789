use Rattle.std.proofs.Common.{pos, List, Option, arith, refl, ap, sym, ◌∙◌}
use Rattle.std.specs.List.{list_any}
use Rattle.std.proofs.lemmas.List.{take_all}
use Rattle.lq_tree.specs.declared.stmt.Stmt.{Stmt}
use Rattle.lq_tree.specs.declared.stmt.Arm.{Arm, out-Arm}
use Rattle.lq_names.specs.Scopes.{in_parallel}
use Rattle.lq_names.specs.Sites.{sites_list, sites_of, sites_beside, sites_of_bodies, sites_of_other, after_other, iteration}
use Rattle.lq_plain.proofs.FactorLemmas.{kind_takes, placed_takes}
use Rattle.lq_names.proofs.SiteLaws.{sites_alone}
use Rattle.lq_names.proofs.AnySites.{some_alone, some_block, some_cobegin, some_while, some_foreach, some_if, some_for, list_more, mapped_more}
use Rattle.lq_plain.proofs.factors.+factors_in_statements.Goals as goal

pub stmts_take-loop-stmt-init : goal.stmts_take-loop-stmt-init
stmts_take-loop-stmt-init t c = record { list = λ s. refl; beside = λ s. refl }

pub stmts_take-loop-stmt-preserved : goal.stmts_take-loop-stmt-preserved
stmts_take-loop-stmt-preserved t c =
    let test = kind_takes (pos c.args.number) in
    record {
      list = list_more test c.args.stmts.now c.loop-stmt.stmt-index c.stmt-item.result c.loop-stmt.found c.stmt_takes-found.result (omega arith) c.stmt-item.is c.loop-stmt.invariant.list c.stmt_takes-found.ensures;
      beside = λ s. mapped_more test (sites_of s) c.args.stmts.now c.loop-stmt.stmt-index c.stmt-item.result c.loop-stmt.found c.stmt_takes-found.result (omega arith) c.stmt-item.is (c.loop-stmt.invariant.beside s) (c.stmt_takes-found.ensures s);
    }

pub stmts_take-returns-clause-list : goal.stmts_take-returns-clause-list
stmts_take-returns-clause-list t c = λ s. c.loop-stmt.invariant.list s ∙ ap (λ (xs : List Stmt). list_any (placed_takes (pos c.args.number)) (sites_list s xs)) (take_all c.loop-stmt.stmt-index c.args.stmts.now (omega arith))

pub stmts_take-returns-clause-beside : goal.stmts_take-returns-clause-beside
stmts_take-returns-clause-beside t c = λ s. c.loop-stmt.invariant.beside s ∙ ap (λ (xs : List Stmt). list_any (placed_takes (pos c.args.number)) (sites_beside s xs)) (take_all c.loop-stmt.stmt-index c.args.stmts.now (omega arith))

pub arms_take-loop-arm-init : goal.arms_take-loop-arm-init
arms_take-loop-arm-init t c = λ s. refl

pub arms_take-loop-arm-preserved : goal.arms_take-loop-arm-preserved
arms_take-loop-arm-preserved t c =
    let test = kind_takes (pos c.args.number) in
    λ s. mapped_more test (λ (arm : Arm). sites_of s (out-Arm arm).body) c.args.arms.now c.loop-arm.arm-index c.arm-item.result c.loop-arm.found c.stmt_takes-found.result (omega arith) c.arm-item.is (c.loop-arm.invariant s)
    (c.stmt_takes-found.ensures s ∙ ap (λ (b : Stmt). list_any (placed_takes (pos c.args.number)) (sites_of s b)) c.get.ensures)

pub arms_take-returns : goal.arms_take-returns
arms_take-returns t c = λ s. c.loop-arm.invariant s ∙ ap (λ (xs : List Arm). list_any (placed_takes (pos c.args.number)) (sites_of_bodies s xs)) (take_all c.loop-arm.arm-index c.args.arms.now (omega arith))

pub other_takes-returns-in-Some : goal.other_takes-returns-in-Some
other_takes-returns-in-Some t c = λ s. c.stmt_takes.ensures s ∙ ap (λ (b : Stmt). list_any (placed_takes (pos c.args.number)) (sites_of s b)) c.get.ensures
    ∙ ap (λ (o : Option Stmt). list_any (placed_takes (pos c.args.number)) (sites_of_other s o)) (sym c.in-Some.is)

pub other_takes-returns-in-None : goal.other_takes-returns-in-None
other_takes-returns-in-None t c = λ s. ap (λ (o : Option Stmt). list_any (placed_takes (pos c.args.number)) (sites_of_other s o)) (sym c.in-None.is)

pub stmt_takes-returns-in-Block : goal.stmt_takes-returns-in-Block
stmt_takes-returns-in-Block t c = λ s. some_block (kind_takes (pos c.args.number)) s c.args.stmt.now.at c.args.stmt.now.kind c.in-Block.body c.stmts_take.result c.in-Block.is
    (c.stmts_take.ensures.list s ∙ ap (λ (xs : List Stmt). list_any (placed_takes (pos c.args.number)) (sites_list s xs)) c.as_slice.ensures)

pub stmt_takes-returns-in-Cobegin : goal.stmt_takes-returns-in-Cobegin
stmt_takes-returns-in-Cobegin t c = λ s. some_cobegin (kind_takes (pos c.args.number)) s c.args.stmt.now.at c.args.stmt.now.kind c.in-Cobegin.blocks c.stmts_take-in-Cobegin.result c.in-Cobegin.is
    (c.stmts_take-in-Cobegin.ensures.beside (in_parallel s) ∙ ap (λ (xs : List Stmt). list_any (placed_takes (pos c.args.number)) (sites_beside (in_parallel s) xs)) c.as_slice-in-Cobegin.ensures)

pub stmt_takes-returns-in-If : goal.stmt_takes-returns-in-If
stmt_takes-returns-in-If t c = λ s. some_if (kind_takes (pos c.args.number)) s c.args.stmt.now.at c.args.stmt.now.kind c.in-If.arms c.in-If.other c.value_takes-own.result c.arms_take.result c.other_takes.result c.in-If.is c.value_takes-own.ensures
    (c.arms_take.ensures s ∙ ap (λ (xs : List Arm). list_any (placed_takes (pos c.args.number)) (sites_of_bodies s xs)) c.as_slice-in-If.ensures) (c.other_takes.ensures s)

pub stmt_takes-returns-in-While : goal.stmt_takes-returns-in-While
stmt_takes-returns-in-While t c = λ s. some_while (kind_takes (pos c.args.number)) s c.args.stmt.now.at c.args.stmt.now.kind c.in-While.field-0 c.in-While.body c.value_takes-own.result c.stmt_takes.result c.in-While.is c.value_takes-own.ensures
    (c.stmt_takes.ensures s ∙ ap (λ (b : Stmt). list_any (placed_takes (pos c.args.number)) (sites_of s b)) c.get.ensures)

pub stmt_takes-returns-in-Foreach : goal.stmt_takes-returns-in-Foreach
stmt_takes-returns-in-Foreach t c = λ s. some_foreach (kind_takes (pos c.args.number)) s c.args.stmt.now.at c.args.stmt.now.kind c.in-Foreach.field-0 c.in-Foreach.field-1 c.in-Foreach.field-2 c.in-Foreach.field-3 c.in-Foreach.body c.value_takes-own.result c.stmt_takes-in-Foreach.result c.in-Foreach.is c.value_takes-own.ensures
    (c.stmt_takes-in-Foreach.ensures (iteration s c.in-Foreach.field-0) ∙ ap (λ (b : Stmt). list_any (placed_takes (pos c.args.number)) (sites_of (iteration s c.in-Foreach.field-0) b)) c.get-in-Foreach.ensures)

pub stmt_takes-returns-in-For : goal.stmt_takes-returns-in-For
stmt_takes-returns-in-For t c = λ s. some_for (kind_takes (pos c.args.number)) s c.args.stmt.now.at c.args.stmt.now.kind c.in-For.start c.in-For.field-1 c.in-For.third c.in-For.body c.other_takes-in-For.result c.value_takes-own.result c.other_takes-in-For-2.result c.stmt_takes-in-For.result c.in-For.is c.value_takes-own.ensures
    (c.other_takes-in-For.ensures s) (c.other_takes-in-For-2.ensures (after_other s c.in-For.start))
    (c.stmt_takes-in-For.ensures (after_other s c.in-For.start) ∙ ap (λ (b : Stmt). list_any (placed_takes (pos c.args.number)) (sites_of (after_other s c.in-For.start) b)) c.get-in-For.ensures)

pub stmt_takes-returns-in_default : goal.stmt_takes-returns-in_default
stmt_takes-returns-in_default t c = λ s. some_alone (kind_takes (pos c.args.number)) s c.args.stmt.now.at c.args.stmt.now.kind c.value_takes-own.result
    (sites_alone s c.args.stmt.now.at c.args.stmt.now.kind c.in_default.not-Block c.in_default.not-If c.in_default.not-While c.in_default.not-For c.in_default.not-Cobegin c.in_default.not-Foreach)
    c.value_takes-own.ensures
