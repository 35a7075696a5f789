use Rattle.std.proofs.Common.{List, ap, ◌∙◌}
use Rattle.lq_tree.specs.declared.plain.PStmt.{PStmt}
use Rattle.lq_tree.specs.declared.plain.Slot.{Slot}
use Rattle.lq_plain.specs.Flat.{Made, valued}
use Rattle.lq_plain.specs.Plain.{condition}
use Rattle.lq_plain.specs.Sites.{env_of}
use Rattle.lq_plain.proofs.parts.open_loop.Goals as goal

pub returns-clause-cond : goal.returns-clause-cond
returns-clause-cond c =
    let v = c.in_ok-cond.cond in
    ap (λ (ss : List Slot). valued v (record { slots = ss; front = c.begin-head.result })) (ap (λ (m : Made). m.slots) c.begin-head.ensures.made)
    ∙ ap (λ (f : List PStmt). valued v (record { slots = c.condition.new.made.slots; front = f })) c.begin-head.ensures.outer
    ∙ c.in_ok-cond.ensures ∙ ap (λ (m : Made). condition (env_of c.args.site) c.args.site.at c.args.cond.now m.slots) c.begin-outer.ensures.made
