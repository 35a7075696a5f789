use Rattle.std.proofs.Common.{◌≡◌, ◌-◌, inl, inr, length, get_or, arith, subst, sym, to_z, of_z, w64}
use Rattle.std.proofs.lemmas.Int.{ints, to_z-of_z}
use Rattle.std.proofs.lemmas.Bool.{cases_lt}
use Rattle.std.proofs.lemmas.List.{get_or_past}
use Rattle.lq_linear.specs.Terms.{coefficient}
use Rattle.lq_linear.specs.Row.{nothing}
use Rattle.lq_validity.specs.Spare.{AreOpposite}
use Rattle.lq_validity.proofs.spare.has_partner.Goals as goal

pub returns : goal.returns
returns c = λ other m o.
    let held : to_z w64 (of_z w64 c.args.multiple) ≡ c.args.multiple = to_z-of_z w64 c.args.multiple c.ranges.multiple in
    absurd (elim (cases_lt (other - 1) (length c.args.rows.now)) [
      | inl l ↦ c.loop-place.invariant (other - 1) (omega (arith, l, c.loop-place-test.false)) m.1 (subst (AreOpposite (coefficient (get_or c.args.rows.now (other - 1) nothing).terms c.args.symbol)) (sym held) o)
      | inr l ↦ elim (subst (λ r. AreOpposite (coefficient r.terms c.args.symbol) c.args.multiple) (get_or_past c.args.rows.now (other - 1) nothing l) o) [
        | inl q ↦ omega (arith, ints, q.0)
        | inr q ↦ omega (arith, ints, q.0)
      ]
    ])
