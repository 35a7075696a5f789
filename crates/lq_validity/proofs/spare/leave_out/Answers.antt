use Rattle.std.proofs.Common.{sym, subst}
use Rattle.lq_validity.specs.Spare.{IsSpare, Leaves}
use Rattle.lq_validity.proofs.SpareLemmas.{spared}
use Rattle.lq_validity.proofs.spare.leave_out.Goals as goal
use Rattle.lq_validity.proofs.spare.leave_out.Goals.{then-is_marked+then-is_spare+in_ok-wait_again, else-is_marked}

pub loop-preserved : goal.loop-preserved
loop-preserved c = elim c.if-is_marked.branch [
  | then-is_marked+then-is_spare+in_ok-wait_again w ↦
      let rows = c.args.rows.now in
      let goals = c.args.goals.now in
      let number = c.in-Some.place.number in
      let left = c.loop.left.items in
      let spare : IsSpare rows goals left number = subst (λ k. IsSpare rows goals k number) w.as_slice-then-is_marked.ensures.value (w.is_spare.ensures w.if-is_spare.true) in
      subst (λ v. Leaves rows goals v.items) (sym w.left-is) (spared rows goals left w.unmark.new.left.items number spare w.unmark.ensures c.loop.invariant)
  | else-is_marked w ↦ subst (λ v. Leaves c.args.rows.now c.args.goals.now v.items) (sym w.left-is) c.loop.invariant
]
