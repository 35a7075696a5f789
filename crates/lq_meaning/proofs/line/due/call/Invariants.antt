use Rattle.std.proofs.Common.{◌≡◌, ℕ, ℤ, List, ◌++◌, drop}
use Rattle.lq_tree.specs.declared.place.Place.{Place}
use Rattle.lq_meaning.specs.TaskControl.{Next}
use Rattle.lq_meaning.specs.Behaviour.{eval_list}
use Rattle.lq_meaning.proofs.line.due.call.Given as goal

abbrev pub invariant-loop-e : goal.invariant-loop-e
invariant-loop-e l = (at : Place) (next : Next (List ℤ)) (passed : ℕ)
    → eval_list at l.slots l.args next passed ≡ eval_list at l.slots (drop l.e-index l.args) (λ words. next (l.words ++ words)) passed
