use Rattle.std.proofs.Common.{◌≡◌, [], None, slice_get, subst, sym, inl, inr, ◌-◌}
use Rattle.std.proofs.lemmas.Option.{slice_get_cases}
use Rattle.std.proofs.lemmas.List.{get_or_past}
use Rattle.lq_full.proofs.counting.rows_at.Goals as goal

pub returns-in-None : goal.returns-in-None
returns-in-None c =
    let rows = c.args.assign.now.rows in
    let place = c.args.template - 1 in
    let none : None ≡ slice_get rows place = subst (λ n. None ≡ slice_get rows n) c.saturating_sub.ensures c.in-None.ensures.value in
    elim (slice_get_cases rows place).1 [
      | inl some ↦ absurd cc
      | inr past ↦ sym (get_or_past rows place [] past.0)
    ]
