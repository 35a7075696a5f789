-- That two runs agree is an equivalence.
use Rattle.std.proofs.Common.{refl, sym, ◌∙◌}
use Rattle.lq_meaning.specs.Ending.{Outcome}
use Rattle.lq_meaning.specs.Agree.{Agree}

-- a run agrees with itself
pub Agree-refl : (a : Outcome) → Agree a a
Agree-refl a = record { ending = refl; printed = refl; cost = refl; memory = λ _. refl }

-- agreement goes both ways
pub Agree-sym : (a b : Outcome) → Agree a b → Agree b a
Agree-sym a b ab = record { ending = sym ab.ending; printed = sym ab.printed; cost = sym ab.cost; memory = λ unspent. sym (ab.memory (λ e. unspent (sym ab.ending ∙ e))) }

-- agreement goes on from run to run
pub Agree-trans : (a b c : Outcome) → Agree a b → Agree b c → Agree a c
Agree-trans a b c ab bc =
    record {
      ending = ab.ending ∙ bc.ending;
      printed = ab.printed ∙ bc.printed;
      cost = ab.cost ∙ bc.cost;
      memory = λ unspent. ab.memory unspent ∙ bc.memory (λ e. unspent (ab.ending ∙ e));
    }
