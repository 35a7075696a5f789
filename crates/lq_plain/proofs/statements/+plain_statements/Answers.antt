use Rattle.std.proofs.Common.{◌≡◌, ℕ, ◌+◌, ◌-◌, List, ◌∷◌, Option, length, drop, refl, ap, sym, ◌∙◌, arith}
use Rattle.std.proofs.lemmas.Result.{IfOk-weaker}
use Rattle.lq_tree.specs.declared.expr.Expr.{Expr}
use Rattle.lq_tree.specs.declared.place.Place.{Place}
use Rattle.lq_tree.specs.declared.stmt.Stmt.{Stmt}
use Rattle.lq_tree.specs.declared.stmt.Arm.{out-Arm}
use Rattle.lq_tree.specs.declared.stmt.StmtKind.{StmtKind, Set, Store, Call, While, Return, Print, Cobegin}
use Rattle.lq_tree.specs.declared.plain.Branch.{Branch, roll-Branch}
use Rattle.lq_tree.specs.declared.plain.PStmt.{PStmt}
use Rattle.lq_tree.specs.Locals.{Local}
use Rattle.lq_tree.specs.Types.{Number}
use Rattle.lq_plain.specs.declared.arms.Open.{Open}
use Rattle.lq_plain.specs.Flat.{Env, Made}
use Rattle.lq_plain.specs.Plain.{Behind, plain, plain_all, flat_of}
use Rattle.lq_plain.specs.Lists.{one, maybe, all_arms, all_branches}
use Rattle.lq_plain.specs.SeenArms.{closed}
use Rattle.lq_plain.specs.SeenMade.{made_of}
use Rattle.lq_plain.specs.Sites.{env_of, env_in}
use Rattle.lq_plain.proofs.StatementCases.{alone, at_block, at_if, at_for, at_foreach, at_while, kept, grows, all_there, index_off, beside, branch_more, branches_end, at_cobegin, arm_more, arms_end, statement_more, statements_end, both_ok, return_stays, grows_maybe, kept_maybe}
use Rattle.lq_plain.proofs.statements.+plain_statements.Goals as goal

pub statement-returns-in-Empty : goal.statement-returns-in-Empty
statement-returns-in-Empty t c =
    let env = env_in c.args.frame c.args.scope.now in
    let s = c.args.stmt.now in
    let m = made_of c.args.made.now in
    ap (λ (k : StmtKind). plain env s.at k m) (sym c.in-Empty.is)

pub statement-returns-in-Set : goal.statement-returns-in-Set
statement-returns-in-Set t c =
    let env = env_in c.args.frame c.args.scope.now in
    let s = c.args.stmt.now in
    let m = made_of c.args.made.now in
    IfOk-weaker c.set.result _ _
    (λ v given. alone env s.at m (env_of c.site.result) c.site.result.at s.kind (Set c.in-Set.name c.in-Set.value) env.scope (made_of c.set.new.made) c.site.ensures.env c.site.ensures.at c.in-Set.is refl refl given)
    c.set.ensures

pub statement-returns-in-Store : goal.statement-returns-in-Store
statement-returns-in-Store t c =
    let env = env_in c.args.frame c.args.scope.now in
    let s = c.args.stmt.now in
    let m = made_of c.args.made.now in
    IfOk-weaker c.stored.result _ _
    (λ v given. alone env s.at m (env_of c.site-in-Store.result) c.site-in-Store.result.at s.kind (Store c.in-Store.into c.in-Store.value) env.scope (made_of c.stored.new.made) c.site-in-Store.ensures.env c.site-in-Store.ensures.at c.in-Store.is refl refl given)
    c.stored.ensures

pub statement-returns-in-Print : goal.statement-returns-in-Print
statement-returns-in-Print t c =
    let env = env_in c.args.frame c.args.scope.now in
    let s = c.args.stmt.now in
    let m = made_of c.args.made.now in
    IfOk-weaker c.printed.result _ _
    (λ v given. alone env s.at m (env_of c.site-in-Print.result) c.site-in-Print.result.at s.kind (Print c.in-Print.value) env.scope (made_of c.printed.new.made) c.site-in-Print.ensures.env c.site-in-Print.ensures.at c.in-Print.is refl refl given)
    c.printed.ensures

pub statement-returns-in-Return : goal.statement-returns-in-Return
statement-returns-in-Return t c =
    let env = env_in c.args.frame c.args.scope.now in
    let s = c.args.stmt.now in
    let m = made_of c.args.made.now in
    IfOk-weaker c.returned.result _ _
    (λ v given. alone env s.at m (env_of c.site-in-Return.result) c.site-in-Return.result.at s.kind (Return c.in-Return.value) env.scope (made_of c.returned.new.made) c.site-in-Return.ensures.env c.site-in-Return.ensures.at c.in-Return.is refl (return_stays env s.at c.in-Return.value m) given)
    c.returned.ensures

pub statement-returns-in-Block : goal.statement-returns-in-Block
statement-returns-in-Block t c =
    let env = env_in c.args.frame c.args.scope.now in
    let s = c.args.stmt.now in
    let m = made_of c.args.made.now in
    both_ok c.block.result _ _ _ (λ v scope_is given. at_block env s.at m s.kind c.in-Block.body c.as_slice.result.now c.block.new.scope (made_of c.block.new.made) c.in-Block.is c.as_slice.ensures scope_is given)
    c.block.ensures.scope c.block.ensures.made

pub statement-returns-in-Local : goal.statement-returns-in-Local
statement-returns-in-Local t c =
    let env = env_in c.args.frame c.args.scope.now in
    let s = c.args.stmt.now in
    let m = made_of c.args.made.now in
    IfOk-weaker c.local.result _ _ (λ v given. given ∙ ap (λ (k : StmtKind). plain env s.at k m) (sym c.in-Local.is)) c.local.ensures

pub statement-returns-in-Call : goal.statement-returns-in-Call
statement-returns-in-Call t c =
    let env = env_in c.args.frame c.args.scope.now in
    let s = c.args.stmt.now in
    let m = made_of c.args.made.now in
    IfOk-weaker c.called.result _ _
    (λ v given. alone env s.at m (env_of c.site-in-Call.result) c.site-in-Call.result.at s.kind (Call c.in-Call.name c.as_slice-in-Call.result.now) env.scope (made_of c.called.new.made)
    c.site-in-Call.ensures.env c.site-in-Call.ensures.at (c.in-Call.is ∙ ap (λ (es : List Expr). Call c.in-Call.name es) (sym c.as_slice-in-Call.ensures)) refl refl given)
    c.called.ensures

pub statement-returns-in-Cobegin : goal.statement-returns-in-Cobegin
statement-returns-in-Cobegin t c =
    let env = env_in c.args.frame c.args.scope.now in
    let s = c.args.stmt.now in
    let m = made_of c.args.made.now in
    both_ok c.cobegin.result _ _ _
    (λ v scope_is given. alone env s.at m env s.at s.kind (Cobegin c.as_slice-in-Cobegin.result.now) c.cobegin.new.scope (made_of c.cobegin.new.made)
    refl refl (c.in-Cobegin.is ∙ ap (λ (bs : List Stmt). Cobegin bs) (sym c.as_slice-in-Cobegin.ensures)) scope_is refl given)
    c.cobegin.ensures.scope c.cobegin.ensures.made

pub statement-returns-in-While : goal.statement-returns-in-While
statement-returns-in-While t c =
    let env = env_in c.args.frame c.args.scope.now in
    let s = c.args.stmt.now in
    let m = made_of c.args.made.now in
    both_ok c.while_loop.result _ _ _
    (λ v scope_is given. alone env s.at m env s.at s.kind (While c.in-While.cond c.get.result.now) c.while_loop.new.scope (made_of c.while_loop.new.made)
    refl refl (c.in-While.is ∙ ap (λ (b : Stmt). While c.in-While.cond b) (sym c.get.ensures)) scope_is refl given)
    c.while_loop.ensures.scope c.while_loop.ensures.made

pub statement-returns-in_ok-opens-in-If : goal.statement-returns-in_ok-opens-in-If
statement-returns-in_ok-opens-in-If t c =
    let env = env_in c.args.frame c.args.scope.now in
    let s = c.args.stmt.now in
    let m = made_of c.args.made.now in
    both_ok c.last_arm.result _ _ _
    (λ v scope_is given. at_if env s.at m s.kind c.in-If.arms c.as_slice-in-If.result.now c.in-If.other c.in_ok-opens-in-If.opens c.open_arms.new.scope c.last_arm.new.scope
    (made_of c.open_arms.new.made) (made_of c.last_arm.new.made)
    c.in-If.is c.as_slice-in-If.ensures c.in_ok-opens-in-If.ensures.scope scope_is c.in_ok-opens-in-If.ensures.arms given)
    c.last_arm.ensures.scope c.last_arm.ensures.made

pub statement-truncate-requires : goal.statement-truncate-requires
statement-truncate-requires t c =
    let env = env_in c.args.frame c.args.scope.now in
    let m = made_of c.args.made.now in
    omega (arith, c.len-height.ensures, ap length c.in_ok-other_arm-in-For.ensures.scope, ap length c.in_ok-inside-in-For.ensures.scope, ap (λ (b : Behind). length b.scope) c.in_ok-opening-in-For.ensures, grows_maybe env c.in-For.first m)

pub statement-returns-in_ok-other_arm-in-For : goal.statement-returns-in_ok-other_arm-in-For
statement-returns-in_ok-other_arm-in-For t c =
    let env = env_in c.args.frame c.args.scope.now in
    let s = c.args.stmt.now in
    let m = made_of c.args.made.now in
    let opened = c.opening.new.scope in
    let begun = c.in_ok-begun-in-For.begun in
    let cut : c.truncate.new.self ≡ env.scope =
    c.truncate.ensures ∙ ap (λ (x : List (Local ℕ)). drop (length x - c.len-height.result) x) (c.in_ok-other_arm-in-For.ensures.scope ∙ c.in_ok-inside-in-For.ensures.scope)
    ∙ ap (λ h. drop (length opened - h) opened) c.len-height.ensures
    ∙ ap (λ (b : Behind). drop (length b.scope - length env.scope) b.scope) c.in_ok-opening-in-For.ensures ∙ kept_maybe env c.in-For.first m in
    IfOk-weaker c.close_loop.result _ _
    (λ v given. at_for env s.at m (env_of c.site-in-For.result) c.site-in-For.result.at s.kind c.in-For.first c.in-For.cond c.in-For.third c.in-For.body c.get-in-For.result.now opened c.inside.new.scope c.truncate.new.self
    (made_of c.opening.new.made) (made_of c.open_loop.new.made) (made_of c.inside.new.made) (made_of c.other_arm.new.made) (made_of c.close_loop.new.made) begun.cond begun.outer begun.head
    c.in-For.is c.get-in-For.ensures c.in_ok-opening-in-For.ensures c.site-in-For.ensures.env c.site-in-For.ensures.at c.in_ok-begun-in-For.ensures.cond c.in_ok-begun-in-For.ensures.outer c.in_ok-begun-in-For.ensures.made
    c.in_ok-inside-in-For.ensures.made c.in_ok-inside-in-For.ensures.scope c.in_ok-other_arm-in-For.ensures.made cut given)
    c.close_loop.ensures

pub statement-returns-in_ok-iteration-in-Foreach : goal.statement-returns-in_ok-iteration-in-Foreach
statement-returns-in_ok-iteration-in-Foreach t c =
    let env = env_in c.args.frame c.args.scope.now in
    let s = c.args.stmt.now in
    let m = made_of c.args.made.now in
    let r = c.in_ok-range-in-Foreach.range in
    IfOk-weaker c.close_range.result _ _
    (λ v given. at_foreach env s.at m (env_of c.site-in-Foreach.result) c.site-in-Foreach.result.at s.kind c.in-Foreach.index c.in-Foreach.low c.in-Foreach.high c.in-Foreach.step c.in-Foreach.body c.get-in-Foreach.result.now c.get-in-Foreach-2.result.now
    c.iteration.new.scope r.index r.low r.high r.outer (made_of c.open_range.new.made) (made_of c.iteration.new.made) (made_of c.close_range.new.made)
    c.in-Foreach.is c.get-in-Foreach.ensures c.get-in-Foreach-2.ensures c.site-in-Foreach.ensures.env c.site-in-Foreach.ensures.at c.in_ok-range-in-Foreach.ensures.index c.in_ok-range-in-Foreach.ensures.low c.in_ok-range-in-Foreach.ensures.high c.in_ok-range-in-Foreach.ensures.made
    c.in_ok-iteration-in-Foreach.ensures.scope c.in_ok-iteration-in-Foreach.ensures.made given)
    c.close_range.ensures

pub block-loop-stmt-init : goal.block-loop-stmt-init
block-loop-stmt-init t c =
    let scope = c.args.scope.now in
    record { within = omega (arith, c.len-height.ensures); kept = ap (λ h. drop (length scope - h) scope) c.len-height.ensures ∙ all_there scope; so_far = refl }

pub block-loop-stmt-preserved : goal.block-loop-stmt-preserved
block-loop-stmt-preserved t c =
    let env = env_in c.args.frame c.loop-stmt.scope in
    let m = made_of c.loop-stmt.made in
    let inv = c.loop-stmt.invariant in
    let s = c.stmt-item.result in
    let e : c.statement.new.scope ≡ (one env s m).scope = ap (λ (b : Behind). b.scope) c.in_ok-statement.ensures in
    record {
      within = omega (arith, grows env s.at s.kind m, ap length e, inv.within);
      kept = ap (λ (x : List (Local ℕ)). drop (length x - c.len-height.result) x) e ∙ kept env s.at s.kind m c.len-height.result inv.within ∙ inv.kept;
      so_far =
          ap (λ (b : Behind). plain_all (env_in c.args.frame b.scope) (drop (c.loop-stmt.stmt-index + 1) c.args.body.now) b.made) c.in_ok-statement.ensures
          ∙ statement_more env c.args.body.now c.loop-stmt.stmt-index s m _ (omega arith) c.stmt-item.is inv.so_far;
    }

pub block-returns-clause-scope : goal.block-returns-clause-scope
block-returns-clause-scope t c =
    c.truncate.ensures ∙ c.loop-stmt.invariant.kept

pub block-returns-clause-made : goal.block-returns-clause-made
block-returns-clause-made t c =
    statements_end (env_in c.args.frame c.loop-stmt.scope) c.args.body.now c.loop-stmt.stmt-index (made_of c.loop-stmt.made) _ (omega arith) c.loop-stmt.invariant.so_far

pub inside-truncate-requires : goal.inside-truncate-requires
inside-truncate-requires t c =
    let env = env_in c.args.frame c.args.scope.now in
    let m = made_of c.args.made.now in
    omega (arith, c.len-height.ensures, ap (λ (b : Behind). length b.scope) c.in_ok-statement.ensures, grows env c.args.stmt.now.at c.args.stmt.now.kind m)

pub inside-returns-clause-scope : goal.inside-returns-clause-scope
inside-returns-clause-scope t c =
    let env = env_in c.args.frame c.args.scope.now in
    let s = c.args.stmt.now in
    let m = made_of c.args.made.now in
    let behind = (one env s m).scope in
    c.truncate.ensures ∙ ap (λ (b : Behind). drop (length b.scope - c.len-height.result) b.scope) c.in_ok-statement.ensures
    ∙ ap (λ h. drop (length behind - h) behind) c.len-height.ensures ∙ kept env s.at s.kind m (length env.scope) (omega arith) ∙ all_there env.scope

pub inside-returns-clause-made : goal.inside-returns-clause-made
inside-returns-clause-made t c =
    ap (λ (b : Behind). b.made) c.in_ok-statement.ensures

pub opening-returns-in-Some : goal.opening-returns-in-Some
opening-returns-in-Some t c =
    let env = env_in c.args.frame c.args.scope.now in
    let m = made_of c.args.made.now in
    IfOk-weaker c.statement.result _ _ (λ v given. given ∙ ap (λ (b : Stmt). one env b m) c.get.ensures ∙ ap (λ (o : Option Stmt). maybe env o m) (sym c.in-Some.is)) c.statement.ensures

pub opening-returns-in-None : goal.opening-returns-in-None
opening-returns-in-None t c =
    let env = env_in c.args.frame c.args.scope.now in
    let m = made_of c.args.made.now in
    ap (λ (o : Option Stmt). maybe env o m) (sym c.in-None.is)

pub other_arm-returns-in-Some-clause-made : goal.other_arm-returns-in-Some-clause-made
other_arm-returns-in-Some-clause-made t c =
    let env = env_in c.args.frame c.args.scope.now in
    let m = made_of c.args.made.now in
    IfOk-weaker c.inside.result _ _ (λ v given. given ∙ ap (λ (b : Stmt). (one env b m).made) c.get.ensures ∙ ap (λ (o : Option Stmt). (maybe env o m).made) (sym c.in-Some.is)) c.inside.ensures.made

pub other_arm-returns-in-None-clause-made : goal.other_arm-returns-in-None-clause-made
other_arm-returns-in-None-clause-made t c =
    let env = env_in c.args.frame c.args.scope.now in
    let m = made_of c.args.made.now in
    ap (λ (o : Option Stmt). (maybe env o m).made) (sym c.in-None.is)

pub last_arm-returns-clause-scope : goal.last_arm-returns-clause-scope
last_arm-returns-clause-scope t c =
    IfOk-weaker c.close_arms.result _ _ (λ v given. c.in_ok-other_arm.ensures.scope) c.close_arms.ensures

pub last_arm-returns-clause-made : goal.last_arm-returns-clause-made
last_arm-returns-clause-made t c =
    IfOk-weaker c.close_arms.result _ _ (λ v given. given ∙ ap (closed c.args.at c.args.opens) c.in_ok-other_arm.ensures.made) c.close_arms.ensures

pub open_arms-loop-arm-init : goal.open_arms-loop-arm-init
open_arms-loop-arm-init t c =
    let env = env_in c.args.frame c.args.scope.now in
    let m = made_of c.args.made.now in
    record { same = refl; so_far = λ otherwise. ap (λ os. closed c.args.at os (all_arms env c.args.at c.args.arms.now otherwise m)) c.new-opens.ensures }

pub open_arms-loop-arm-preserved : goal.open_arms-loop-arm-preserved
open_arms-loop-arm-preserved t c =
    let env = env_in c.args.frame c.args.scope.now in
    let at = c.args.at in
    let m = made_of c.loop-arm.made in
    let m2 = made_of c.begin-outer.new.self in
    let inv = c.loop-arm.invariant in
    let arm = c.arm-item.result in
    let o : Open = record { cond = c.in_ok-cond.cond; held = c.begin-held.result; outer = c.begin-outer.result } in
    record {
      same = c.in_ok-inside.ensures.scope ∙ inv.same;
      so_far = λ otherwise.
          ap (λ os. closed at os (all_arms env at (drop (c.loop-arm.arm-index + 1) c.args.arms.now) otherwise (made_of c.begin-held.new.self))) c.in_ok-push.ensures.ok
          ∙ arm_more env at otherwise c.loop-arm.opens c.args.arms.now c.loop-arm.arm-index arm m (made_of c.flat_operand.new.made) m2 (made_of c.inside.new.made) (made_of c.begin-held.new.self) o _ (omega arith) c.arm-item.is (inv.so_far otherwise)
          (c.in_ok-cond.ensures ∙ ap (λ (x : Env). flat_of x c.site.result.at (out-Arm arm).cond m) (c.site.ensures.env ∙ ap (env_in c.args.frame) inv.same) ∙ ap (λ (p : Place). flat_of env p (out-Arm arm).cond m) c.site.ensures.at)
          c.begin-outer.ensures.outer c.begin-outer.ensures.made
          (c.in_ok-inside.ensures.made ∙ ap (λ sc. (one (env_in c.args.frame sc) c.get.result.now m2).made) inv.same ∙ ap (λ (b : Stmt). (one env b m2).made) c.get.ensures)
          c.begin-held.ensures.outer c.begin-held.ensures.made;
    }

pub open_arms-returns-clause-scope : goal.open_arms-returns-clause-scope
open_arms-returns-clause-scope t c =
    c.loop-arm.invariant.same

pub open_arms-returns-clause-arms : goal.open_arms-returns-clause-arms
open_arms-returns-clause-arms t c =
    λ otherwise. arms_end (env_in c.args.frame c.args.scope.now) c.args.at otherwise c.loop-arm.opens c.args.arms.now c.loop-arm.arm-index (made_of c.loop-arm.made) _ (omega arith) (c.loop-arm.invariant.so_far otherwise)

pub cobegin-loop-stmt-init : goal.cobegin-loop-stmt-init
cobegin-loop-stmt-init t c =
    let env = env_in c.args.frame c.args.scope.now in
    let m = made_of c.args.made.now in
    record {
      same = refl;
      empty = ap (λ (x : Made). x.front) c.begin-outer.ensures.made;
      so_far =
          ap (λ (bs : List Branch). beside bs (all_branches env c.args.blocks.now c.begin-outer.new.self.slots)) c.new-branches.ensures
          ∙ ap (λ (x : Made). all_branches env c.args.blocks.now x.slots) c.begin-outer.ensures.made;
    }

pub cobegin-loop-stmt-preserved : goal.cobegin-loop-stmt-preserved
cobegin-loop-stmt-preserved t c =
    let env = env_in c.args.frame c.args.scope.now in
    let inv = c.loop-stmt.invariant in
    let s = c.stmt-item.result in
    let rest = drop (c.loop-stmt.stmt-index + 1) c.args.blocks.now in
    let m = made_of c.loop-stmt.made in
    record {
      same = c.in_ok-inside.ensures.scope ∙ inv.same;
      empty = ap (λ (x : Made). x.front) c.begin-body.ensures.made;
      so_far =
          ap (λ (x : Made). beside c.push.new.self (all_branches env rest x.slots)) c.begin-body.ensures.made
          ∙ ap (λ (bs : List Branch). beside bs (all_branches env rest c.inside.new.made.slots)) c.in_ok-push.ensures.ok
          ∙ branch_more env c.loop-stmt.branches c.args.blocks.now c.loop-stmt.stmt-index s m (made_of c.inside.new.made) (roll-Branch (record { at = s.at; body = c.begin-body.result })) _ (omega arith) c.stmt-item.is
          (ap (λ (f : List PStmt). record { slots = c.loop-stmt.made.slots; front = f }) inv.empty) inv.so_far
          (c.in_ok-inside.ensures.made ∙ ap (λ sc. (one (env_in c.args.frame sc) s m).made) inv.same) (ap (λ (f : List PStmt). roll-Branch (record { at = s.at; body = f })) c.begin-body.ensures.outer);
    }

pub cobegin-returns-clause-scope : goal.cobegin-returns-clause-scope
cobegin-returns-clause-scope t c =
    IfOk-weaker c.stand.result _ _ (λ v given. c.loop-stmt.invariant.same) c.stand.ensures

pub cobegin-returns-clause-made : goal.cobegin-returns-clause-made
cobegin-returns-clause-made t c =
    let env = env_in c.args.frame c.args.scope.now in
    let m = made_of c.args.made.now in
    let all = branches_end env c.loop-stmt.branches c.args.blocks.now c.loop-stmt.stmt-index c.loop-stmt.made.slots (all_branches env c.args.blocks.now m.slots) (omega arith) c.loop-stmt.invariant.so_far in
    IfOk-weaker c.stand.result _ _
    (λ v given. at_cobegin env c.args.at m (made_of c.end.new.self) (made_of c.stand.new.self) c.args.blocks.now c.loop-stmt.branches c.loop-stmt.made.slots c.begin-outer.result given c.end.ensures.made c.begin-outer.ensures.outer all)
    c.stand.ensures

pub while_loop-returns-clause-scope : goal.while_loop-returns-clause-scope
while_loop-returns-clause-scope t c =
    IfOk-weaker c.close_loop.result _ _ (λ v given. c.in_ok-inside.ensures.scope) c.close_loop.ensures

pub while_loop-returns-clause-made : goal.while_loop-returns-clause-made
while_loop-returns-clause-made t c =
    let env = env_in c.args.frame c.args.scope.now in
    let m = made_of c.args.made.now in
    IfOk-weaker c.close_loop.result _ _
    (λ v given. at_while env c.args.at m (env_of c.site.result) c.site.result.at c.args.cond.now c.args.body.now (made_of c.begin-outer.new.self) (made_of c.flat_operand.new.made) (made_of c.begin-head.new.self) (made_of c.inside.new.made) (made_of c.close_loop.new.made)
    c.in_ok-cond.cond c.begin-outer.result c.begin-head.result c.begin-outer.ensures.outer c.begin-outer.ensures.made c.site.ensures.env c.site.ensures.at c.in_ok-cond.ensures c.begin-head.ensures.outer c.begin-head.ensures.made c.in_ok-inside.ensures.made given)
    c.close_loop.ensures

pub iteration-truncate-requires : goal.iteration-truncate-requires
iteration-truncate-requires t c =
    omega (arith, c.len-height.ensures, ap length c.in_ok-inside.ensures.scope, ap length c.in_ok-push.ensures)

pub iteration-returns-clause-scope : goal.iteration-returns-clause-scope
iteration-returns-clause-scope t c =
    let scope = c.args.scope.now in
    let index : Local ℕ = record { name = c.args.index.now; type = Number; what = c.args.slot } in
    c.truncate.ensures ∙ ap (λ (x : List (Local ℕ)). drop (length x - c.len-height.result) x) (c.in_ok-inside.ensures.scope ∙ c.in_ok-push.ensures)
    ∙ ap (λ h. drop (length (index ∷ scope) - h) (index ∷ scope)) c.len-height.ensures ∙ index_off index scope

pub iteration-returns-clause-made : goal.iteration-returns-clause-made
iteration-returns-clause-made t c =
    c.in_ok-inside.ensures.made ∙ ap (λ (sc : List (Local ℕ)). (one (env_in c.args.frame sc) c.args.body.now (made_of c.args.made.now)).made) c.in_ok-push.ensures
