use Rattle.std.proofs.Common.{List, ap, ◌∙◌}
use Rattle.lq_tree.specs.declared.plain.PKind.{If}
use Rattle.lq_tree.specs.declared.plain.PStmt.{PStmt}
use Rattle.lq_plain.specs.Flat.{then_stands}
use Rattle.lq_plain.specs.SeenArms.{closed}
use Rattle.lq_plain.specs.SeenMade.{made_of}
use Rattle.lq_plain.proofs.StatementCases.{arm_ended}
use Rattle.lq_plain.proofs.arms.close_arms.Goals as goal

pub arms-preserved : goal.arms-preserved
arms-preserved c =
    let at = c.args.at in
    let o = c.in-Some.open in
    ap (closed at c.pop.new.self)
    (c.in_ok-stand.ensures ∙ ap (then_stands at (If o.cond o.held c.end-other.result)) c.end-other.ensures.made
    ∙ ap (λ (f : List PStmt). then_stands at (If o.cond o.held f) (record { slots = c.arms.made.slots; front = o.outer })) c.end-other.ensures.inner)
    ∙ arm_ended at c.arms.opens c.pop.new.self o (made_of c.arms.made) _ c.arms.invariant c.in-Some.ensures
