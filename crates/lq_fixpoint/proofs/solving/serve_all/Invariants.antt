use Rattle.lq_fixpoint.specs.Work.{AreTested}
use Rattle.lq_fixpoint.proofs.solving.serve_all.Given as goal

abbrev pub invariant-loop-number : goal.invariant-loop-number
invariant-loop-number l = AreTested l.mults l.list l.users l.number l.dropped l.initial.work l.work
