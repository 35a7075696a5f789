use Rattle.std.proofs.Common.{◌≡◌, ℕ, ◌+◌, List, Option, length, take, drop, arith, refl, ap, sym, ◌∙◌}
use Rattle.std.proofs.lemmas.Result.{IfOk-weaker}
use Rattle.std.proofs.lemmas.List.{take_all}
use Rattle.lq_tree.specs.declared.stmt.Stmt.{Stmt}
use Rattle.lq_tree.specs.declared.stmt.Arm.{Arm, out-Arm}
use Rattle.lq_tree.specs.declared.stmt.StmtKind.{StmtKind, out-StmtKind}
use Rattle.lq_names.specs.Scopes.{Site, Variable, in_parallel}
use Rattle.lq_names.specs.Faults.{gathered, noted, statement_rules}
use Rattle.lq_names.specs.Sites.{sites, sites_list, sites_of, sites_beside, sites_of_bodies, sites_of_other, after_other, iteration}
use Rattle.lq_names.specs.Seen.{frame_site}
use Rattle.lq_names.proofs.LeastLaws.{gathered_none}
use Rattle.lq_names.proofs.SiteLaws.{sites_block, sites_cobegin, sites_alone, site_after, kept_after, grows_after, parallel_site, iteration_site, site_after_other, kept_after_other}
use Rattle.lq_names.proofs.StatementLaws.{part_more, parts_end, stmt_more, stmts_end, alone, in_while, in_foreach, in_if, in_for}
use Rattle.lq_names.proofs.statements.+statements.Goals as goal

pub in_arms-loop-arm-init : goal.in_arms-loop-arm-init
in_arms-loop-arm-init t c = record { same = refl; so_far = refl }

pub in_arms-loop-arm-preserved : goal.in_arms-loop-arm-preserved
in_arms-loop-arm-preserved t c =
    let s = frame_site c.args.frame c.args.scope.now.items in
    let inv = c.loop-arm.invariant in
    record {
      same = c.in_ok-found.ensures.scope ∙ inv.same;
      so_far =
          part_more (λ (arm : Arm). sites_of s (out-Arm arm).body) c.loop-arm.found _ c.in_ok-found.found c.args.arms.now c.loop-arm.arm-index c.arm-item.result (omega arith) c.arm-item.is inv.so_far
          (c.in_ok-found.ensures.found
          ∙ ap (λ (all : List Variable). gathered c.loop-arm.found (sites_of (frame_site c.args.frame all) c.get.result.now)) inv.same
          ∙ ap (λ (b : Stmt). gathered c.loop-arm.found (sites_of s b)) c.get.ensures);
    }

pub in_arms-returns-clause-found : goal.in_arms-returns-clause-found
in_arms-returns-clause-found t c =
    let s = frame_site c.args.frame c.args.scope.now.items in
    parts_end (λ (arm : Arm). sites_of s (out-Arm arm).body) c.loop-arm.found _ c.args.arms.now c.loop-arm.arm-index (omega arith) c.loop-arm.invariant.so_far

pub in_arms-returns-clause-scope : goal.in_arms-returns-clause-scope
in_arms-returns-clause-scope t c = c.loop-arm.invariant.same

pub in_block-loop-stmt-init : goal.in_block-loop-stmt-init
in_block-loop-stmt-init t c =
    record {
      within = omega (arith, c.len-height.ensures, c.args.scope.now.ok.0);
      kept = take_all c.len-height.result c.args.scope.now.items (omega (arith, c.len-height.ensures, c.args.scope.now.ok.0));
      so_far = refl;
    }

pub in_block-loop-stmt-preserved : goal.in_block-loop-stmt-preserved
in_block-loop-stmt-preserved t c =
    let s = frame_site c.args.frame c.loop-stmt.scope.items in
    let inv = c.loop-stmt.invariant in
    let kind = c.stmt-item.result.kind in
    let e = c.in_ok-found.ensures.scope in
    let rest = drop (c.loop-stmt.stmt-index + 1) c.args.body.now in
    record {
      within = omega (arith, grows_after s kind, ap length e, inv.within);
      kept = ap (take c.len-height.result) e ∙ kept_after s kind c.len-height.result inv.within ∙ inv.kept;
      so_far =
          ap (λ (all : List Variable). gathered c.in_ok-found.found (sites_list (frame_site c.args.frame all) rest)) e
          ∙ ap (λ (x : Site). gathered c.in_ok-found.found (sites_list x rest)) (site_after c.args.frame c.loop-stmt.scope.items kind)
          ∙ stmt_more s c.loop-stmt.found _ c.in_ok-found.found c.args.body.now c.loop-stmt.stmt-index c.stmt-item.result (omega arith) c.stmt-item.is inv.so_far c.in_ok-found.ensures.found;
    }

pub in_block-returns-clause-found : goal.in_block-returns-clause-found
in_block-returns-clause-found t c =
    stmts_end (frame_site c.args.frame c.loop-stmt.scope.items) c.loop-stmt.found _ c.args.body.now c.loop-stmt.stmt-index (omega arith) c.loop-stmt.invariant.so_far

pub in_block-returns-clause-scope : goal.in_block-returns-clause-scope
in_block-returns-clause-scope t c = c.truncate.ensures.items ∙ c.loop-stmt.invariant.kept

pub in_branches-loop-stmt-init : goal.in_branches-loop-stmt-init
in_branches-loop-stmt-init t c = record { same = refl; so_far = refl }

pub in_branches-loop-stmt-preserved : goal.in_branches-loop-stmt-preserved
in_branches-loop-stmt-preserved t c =
    let s = frame_site c.args.frame c.args.scope.now.items in
    let inv = c.loop-stmt.invariant in
    let inner = parallel_site c.args.frame c.in_parallel-inner.result c.args.scope.now.items c.len.result c.in_parallel-inner.ensures (c.len.ensures ∙ c.args.scope.now.ok.0) in
    record {
      same = c.in_ok-found.ensures.scope ∙ inv.same;
      so_far =
          part_more (sites_of (in_parallel s)) c.loop-stmt.found _ c.in_ok-found.found c.args.blocks.now c.loop-stmt.stmt-index c.stmt-item.result (omega arith) c.stmt-item.is inv.so_far
          (c.in_ok-found.ensures.found
          ∙ ap (λ (all : List Variable). gathered c.loop-stmt.found (sites_of (frame_site c.in_parallel-inner.result all) c.stmt-item.result)) inv.same
          ∙ ap (λ (x : Site). gathered c.loop-stmt.found (sites_of x c.stmt-item.result)) inner);
    }

pub in_branches-returns-clause-found : goal.in_branches-returns-clause-found
in_branches-returns-clause-found t c =
    parts_end (sites_of (in_parallel (frame_site c.args.frame c.args.scope.now.items))) c.loop-stmt.found _ c.args.blocks.now c.loop-stmt.stmt-index (omega arith) c.loop-stmt.invariant.so_far

pub in_branches-returns-clause-scope : goal.in_branches-returns-clause-scope
in_branches-returns-clause-scope t c = c.loop-stmt.invariant.same

pub in_iteration-returns-clause-found : goal.in_iteration-returns-clause-found
in_iteration-returns-clause-found t c =
    c.in_ok-last.ensures.found
    ∙ ap (λ (x : Site). gathered c.args.found (sites_of x c.args.body.now))
    (iteration_site c.args.frame c.in_parallel-inner.result c.args.scope.now.items c.push.new.self.items c.new.result c.args.index.now c.len.result c.in_parallel-inner.ensures
    (c.len.ensures ∙ c.push.new.self.ok.0) c.in_ok-push.ensures.items c.new.ensures)

pub in_other-returns-in-None-clause-found : goal.in_other-returns-in-None-clause-found
in_other-returns-in-None-clause-found t c =
    sym (ap (λ (o : Option Stmt). gathered c.args.found (sites_of_other (frame_site c.args.frame c.args.scope.now.items) o)) c.in-None.is ∙ gathered_none c.args.found)

pub in_start-returns-in-None-clause-found : goal.in_start-returns-in-None-clause-found
in_start-returns-in-None-clause-found t c =
    sym (ap (λ (o : Option Stmt). gathered c.args.found (sites_of_other (frame_site c.args.frame c.args.scope.now.items) o)) c.in-None.is ∙ gathered_none c.args.found)

pub in_body-returns-in-Block-clause-found : goal.in_body-returns-in-Block-clause-found
in_body-returns-in-Block-clause-found t c =
    let s = frame_site c.args.frame c.args.scope.now.items in
    let at = c.args.stmt.now.at in
    IfOk-weaker c.in_block.result (λ r. r ≡ gathered c.args.found (sites_list s c.as_slice.result.now)) (λ r. r ≡ gathered c.args.found (sites_of s c.args.stmt.now))
    (λ r e. e ∙ ap (λ (b : List Stmt). gathered c.args.found (sites_list s b)) c.as_slice.ensures
    ∙ sym (ap (λ (k : StmtKind). gathered c.args.found (sites s at k)) c.in-Block.is ∙ ap (gathered c.args.found) (sites_block s at c.in-Block.body))) c.in_block.ensures.found

pub in_body-returns-in-Cobegin-clause-found : goal.in_body-returns-in-Cobegin-clause-found
in_body-returns-in-Cobegin-clause-found t c =
    let s = frame_site c.args.frame c.args.scope.now.items in
    let at = c.args.stmt.now.at in
    IfOk-weaker c.in_branches.result (λ r. r ≡ gathered c.args.found (sites_beside (in_parallel s) c.as_slice-in-Cobegin.result.now)) (λ r. r ≡ gathered c.args.found (sites_of s c.args.stmt.now))
    (λ r e. e ∙ ap (λ (b : List Stmt). gathered c.args.found (sites_beside (in_parallel s) b)) c.as_slice-in-Cobegin.ensures
    ∙ sym (ap (λ (k : StmtKind). gathered c.args.found (sites s at k)) c.in-Cobegin.is ∙ ap (gathered c.args.found) (sites_cobegin s at c.in-Cobegin.blocks))) c.in_branches.ensures.found

pub in_body-returns-in_ok-next-in-If-clause-found : goal.in_body-returns-in_ok-next-in-If-clause-found
in_body-returns-in_ok-next-in-If-clause-found t c =
    let s = frame_site c.args.frame c.args.scope.now.items in
    let at = c.args.stmt.now.at in
    let kind = c.args.stmt.now.kind in
    IfOk-weaker _ _ _ (λ r e. in_if s at c.args.found kind c.in-If.arms c.in-If.other c.at_itself-first.result c.in_ok-next-in-If.next r c.in-If.is
    (c.at_itself-first.ensures ∙ ap (λ (all : List Variable). noted at c.args.found (statement_rules (frame_site c.args.frame all) (out-StmtKind kind))) c.as_slice-in-If.ensures.value)
    (c.in_ok-next-in-If.ensures.found ∙ ap (λ (a : List Arm). gathered c.at_itself-first.result (sites_of_bodies s a)) c.as_slice-in-If-2.ensures)
    (e ∙ ap (λ (all : List Variable). gathered c.in_ok-next-in-If.next (sites_of_other (frame_site c.args.frame all) c.in-If.other)) c.in_ok-next-in-If.ensures.scope)) c.in_other.ensures.found

pub in_body-returns-in-While-clause-found : goal.in_body-returns-in-While-clause-found
in_body-returns-in-While-clause-found t c =
    let s = frame_site c.args.frame c.args.scope.now.items in
    let at = c.args.stmt.now.at in
    let kind = c.args.stmt.now.kind in
    IfOk-weaker _ _ _ (λ r e. in_while s at c.args.found kind c.in-While.field-0 c.in-While.body c.at_itself-first-in-While.result r c.in-While.is
    (c.at_itself-first-in-While.ensures ∙ ap (λ (all : List Variable). noted at c.args.found (statement_rules (frame_site c.args.frame all) (out-StmtKind kind))) c.as_slice-in-While.ensures.value)
    (e ∙ ap (λ (b : Stmt). gathered c.at_itself-first-in-While.result (sites_of s b)) c.get.ensures)) c.in_body.ensures.found

pub in_body-returns-in-Foreach-clause-found : goal.in_body-returns-in-Foreach-clause-found
in_body-returns-in-Foreach-clause-found t c =
    let s = frame_site c.args.frame c.args.scope.now.items in
    let at = c.args.stmt.now.at in
    let kind = c.args.stmt.now.kind in
    IfOk-weaker _ _ _ (λ r e. in_foreach s at c.args.found kind c.in-Foreach.index c.in-Foreach.field-1 c.in-Foreach.field-2 c.in-Foreach.field-3 c.in-Foreach.body c.at_itself-first-in-Foreach.result r c.in-Foreach.is
    (c.at_itself-first-in-Foreach.ensures ∙ ap (λ (all : List Variable). noted at c.args.found (statement_rules (frame_site c.args.frame all) (out-StmtKind kind))) c.as_slice-in-Foreach.ensures.value)
    (e ∙ ap (λ (b : Stmt). gathered c.at_itself-first-in-Foreach.result (sites_of (iteration s c.in-Foreach.index) b)) c.get-in-Foreach.ensures)) c.in_iteration.ensures.found

pub in_body-returns-in_default-clause-found : goal.in_body-returns-in_default-clause-found
in_body-returns-in_default-clause-found t c =
    let s = frame_site c.args.frame c.args.scope.now.items in
    let at = c.args.stmt.now.at in
    let kind = c.args.stmt.now.kind in
    alone s at c.args.found kind c.at_itself.result
    (sites_alone s at kind c.in_default.not-Block c.in_default.not-If c.in_default.not-While c.in_default.not-For c.in_default.not-Cobegin c.in_default.not-Foreach)
    (c.at_itself.ensures ∙ ap (λ (all : List Variable). noted at c.args.found (statement_rules (frame_site c.args.frame all) (out-StmtKind kind))) c.as_slice-in_default.ensures.value)

pub in_body-returns-in_ok-last-in-For-clause-found : goal.in_body-returns-in_ok-last-in-For-clause-found
in_body-returns-in_ok-last-in-For-clause-found t c =
    let s = frame_site c.args.frame c.args.scope.now.items in
    let at = c.args.stmt.now.at in
    let kind = c.args.stmt.now.kind in
    let start = c.in-For.start in
    let inner : frame_site c.args.frame c.in_start.new.scope.items ≡ after_other s start = ap (frame_site c.args.frame) c.in_ok-first-in-For.ensures.scope ∙ site_after_other c.args.frame c.args.scope.now.items start in
    in_for s at c.args.found kind start c.in-For.field-1 c.in-For.third c.in-For.body c.in_ok-first-in-For.first c.at_itself-own.result c.in_ok-next-in-For.next c.in_ok-last-in-For.last c.in-For.is
    c.in_ok-first-in-For.ensures.found
    (c.at_itself-own.ensures
    ∙ ap (λ (all : List Variable). noted at c.in_ok-first-in-For.first (statement_rules (frame_site c.args.frame all) (out-StmtKind kind))) c.as_slice-in-For.ensures.value
    ∙ ap (λ (x : Site). noted at c.in_ok-first-in-For.first (statement_rules x (out-StmtKind kind))) inner)
    (c.in_ok-next-in-For.ensures.found ∙ ap (λ (x : Site). gathered c.at_itself-own.result (sites_of_other x c.in-For.third)) inner)
    (c.in_ok-last-in-For.ensures.found
    ∙ ap (λ (all : List Variable). gathered c.in_ok-next-in-For.next (sites_of (frame_site c.args.frame all) c.get-in-For.result.now)) c.in_ok-next-in-For.ensures.scope
    ∙ ap (λ (x : Site). gathered c.in_ok-next-in-For.next (sites_of x c.get-in-For.result.now)) inner
    ∙ ap (λ (b : Stmt). gathered c.in_ok-next-in-For.next (sites_of (after_other s start) b)) c.get-in-For.ensures)

pub in_body-returns-in_ok-last-in-For-clause-scope : goal.in_body-returns-in_ok-last-in-For-clause-scope
in_body-returns-in_ok-last-in-For-clause-scope t c =
    let s = frame_site c.args.frame c.args.scope.now.items in
    let start = c.in-For.start in
    let height : c.len-height.result ≡ length c.args.scope.now.items = c.len-height.ensures ∙ c.args.scope.now.ok.0 in
    c.truncate.ensures.items
    ∙ ap (take c.len-height.result) (c.in_ok-last-in-For.ensures.scope ∙ c.in_ok-next-in-For.ensures.scope ∙ c.in_ok-first-in-For.ensures.scope)
    ∙ ap (λ (n : ℕ). take n (after_other s start).scope) height
    ∙ kept_after_other s start
