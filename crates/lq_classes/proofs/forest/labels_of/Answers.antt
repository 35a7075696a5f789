use Rattle.std.proofs.Common.{◌≡◌, ◌<◌, length, get_or, arith, sym, subst, ◌∙◌}
use Rattle.lq_classes.specs.Forest.{Leads, stays, steps}
use Rattle.lq_classes.proofs.ForestLemmas.{read_at, labels_more, label_of_lesser, label_of_least}
use Rattle.lq_classes.proofs.forest.labels_of.Goals.{then-parent-number, else-parent-number}
use Rattle.lq_classes.proofs.forest.labels_of.Goals as goal

pub loop-number-preserved : goal.loop-number-preserved
loop-number-preserved c =
    let ps = c.args.parents.now in
    let labels = c.loop-number.labels.items in
    let n = c.loop-number.number in
    let inv = c.loop-number.invariant in
    let size : length labels ≡ n = inv.size in
    elim c.if-parent-number.branch [
      | then-parent-number w ↦
          let low : get_or ps n 0 < n = w.if-parent-number.true in
          let label = c.if-parent-number.label in
          let is : get_or labels (get_or ps n 0) 0 ≡ label = read_at labels (get_or ps n 0) w.index.result.now (omega (arith, low, size)) w.index.ensures ∙ sym w.label-is in
          labels_more ps labels c.push.new.self.items n label c.requires size inv.found inv.same c.in_ok-push.ensures.items
          (steps (subst (λ v. Leads ps (get_or ps n 0) v) is (inv.found (get_or ps n 0) low))) (label_of_lesser ps labels n label size low is)
      | else-parent-number w ↦
          let label = c.if-parent-number.label in
          let down = c.requires n in
          let is : get_or ps n 0 ≡ n = omega (arith, down, w.if-parent-number.false) in
          labels_more ps labels c.push.new.self.items n label c.requires size inv.found inv.same c.in_ok-push.ensures.items
          (subst (λ v. Leads ps n v) (sym w.label-is) stays) (label_of_least ps labels n label size is)
    ]
