use Rattle.std.proofs.Common.{arith, sym, subst}
use Rattle.std.specs.Prelude.{Contains}
use Rattle.lq_fixpoint.proofs.GoalLemmas.{later_in}
use Rattle.lq_fixpoint.proofs.met.+are_derived.Goals as goal

pub are_derived-requires : goal.are_derived-requires
are_derived-requires t c = (
  omega (arith, c.in-Some.ensures.cases.1),
  λ row h. c.requires row (subst (λ l. Contains l row) (sym c.in-Some.ensures.cases.0) (later_in c.in-Some.goal.now c.in-Some.rest.now row h)),
)
