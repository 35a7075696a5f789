use Rattle.std.proofs.Common.{◌≡◌, get_or, arith, subst, sym, to_z, of_z, w64}
use Rattle.std.proofs.lemmas.Int.{to_z-of_z}
use Rattle.lq_linear.specs.Terms.{coefficient}
use Rattle.lq_linear.specs.Row.{nothing}
use Rattle.lq_validity.specs.Spare.{AreAligned}
use Rattle.lq_validity.proofs.TableLemmas.{nowhere}
use Rattle.lq_validity.proofs.spare.is_wanted.Goals as goal

pub returns : goal.returns
returns c = λ row i a.
    let held : to_z w64 (of_z w64 c.args.multiple) ≡ c.args.multiple = to_z-of_z w64 c.args.multiple c.ranges.multiple in
    absurd (nowhere (λ row. AreAligned (coefficient row.terms c.args.symbol) c.args.multiple) c.args.goals.now nothing
    (λ k l p. c.loop-goal.invariant k (omega (arith, l, c.loop-goal-test.false)) (subst (AreAligned (coefficient (get_or c.args.goals.now k nothing).terms c.args.symbol)) (sym held) p)) row i a)
