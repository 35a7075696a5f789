use Rattle.std.proofs.Common.{◌<◌, ◌+◌, List, [], length, get_or, refl, ap, ap₂, subst, ◌∙◌}
use Rattle.lq_tree.specs.declared.plain.PFunc.{PFunc}
use Rattle.lq_tree.specs.declared.plain.PStmt.{PStmt}
use Rattle.lq_templates.specs.Spots.{Walk, walked_all, params_of}
use Rattle.lq_templates.specs.Templates.{count_scopes}
use Rattle.lq_ground.proofs.ScopeLemmas.{no_scopes, scopes_more}
use Rattle.lq_ground.proofs.scopes.scopes_of.Goals as goal

pub loop-function-init : goal.loop-function-init
loop-function-init c = no_scopes c.args.program.now.funcs c.new-scopes.result c.new-scopes.ensures

pub loop-function-preserved : goal.loop-function-preserved
loop-function-preserved c =
    let funcs = c.args.program.now.funcs in
    let n = c.loop-function.function-index in
    let f = c.function-item.result in
    let same = c.as_slice-function-items.ensures in
    let start : Walk = record { assigned = params_of f; scope = params_of f; spots = [] } in
    let inside = c.in_ok-inside.ensures start refl ∙ ap (λ (list : List PStmt). count_scopes (walked_all list start).spots) c.as_slice.ensures in
    scopes_more funcs n f c.loop-function.scopes c.push.new.self c.loop-function.so_far c.in_ok-so_far.so_far (subst (λ (fs : List PFunc). n < length fs) same c.loop-function-test.true)
    (c.function-item.is ∙ ap (λ (fs : List PFunc). get_or fs n f) same) c.loop-function.invariant c.in_ok-push.ensures.ok
    (c.in_ok-so_far.ensures ∙ ap₂ (λ a b. a + b) c.in_ok-next.ensures inside)
