use Rattle.std.proofs.Common.{arith}
use Rattle.lq_templates.specs.Names.{marked}
use Rattle.lq_ground.specs.Locals.{is_free, with_name}
use Rattle.std.proofs.Common.{◌-◌, ap, ◌∙◌}
use Rattle.lq_ground.proofs.LocalLemmas.{backwards}
use Rattle.lq_ground.proofs.locals.locals_backwards.Goals as goal

pub loop-number-preserved : goal.loop-number-preserved
loop-number-preserved c =
    let number = c.loop-number.number in
    let s = c.index-slots-number.result in
    let before = c.loop-number.invariant in
    let here = c.is_marked-is_in_scope.ensures in
    backwards (marked c.args.in_scope.now) c.args.slots.now number (number - 1) s c.loop-number.locals c.push.new.self c.loop-number.behind c.take_name.new.behind c.in_ok-take_name.field-0
    (omega arith) before.within c.index-slots-number.is before.found before.names
    (c.in_ok-take_name.ensures.local ∙ ap (λ b. is_free c.loop-number.behind b s.name) here)
    (c.in_ok-take_name.ensures.names ∙ ap (λ b. with_name c.loop-number.behind b s.name) here) c.in_ok-push.ensures.ok
