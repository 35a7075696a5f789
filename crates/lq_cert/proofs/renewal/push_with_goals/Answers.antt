use Rattle.std.proofs.Common.{◌≡◌, ◌++◌, true, length, sym, ap, ◌∙◌, arith}
use Rattle.lq_cert.specs.Renewal.{lacks_goal, with_goals}
use Rattle.lq_cert.proofs.RenewalLemmas.{behind_shorter, taken_out}
use Rattle.lq_cert.proofs.renewal.push_with_goals.Goals as goal

pub loop-line-smaller-then-lacks_goal : goal.loop-line-smaller-then-lacks_goal
loop-line-smaller-then-lacks_goal c =
    omega (arith, ap length c.in-Some.ensures.cases.0, ap length c.behind_exacts-rest.ensures, behind_shorter c.in-Some.later.now)

pub loop-line-preserved-then-lacks_goal : goal.loop-line-preserved-then-lacks_goal
loop-line-preserved-then-lacks_goal c =
    let lacks : lacks_goal c.in-Some.line.now c.in-Some.later.now ≡ true = cc (c.lacks_goal.ensures, c.if-lacks_goal.true) in
    let out = c.loop-line.out in
    ap (λ lines. out ++ with_goals lines) c.behind_exacts-rest.ensures
    ∙ sym (taken_out out c.in-Some.line.now c.in-Some.later.now lacks)
    ∙ ap (λ lines. out ++ with_goals lines) (sym c.in-Some.ensures.cases.0)
    ∙ c.loop-line.invariant
