use Rattle.std.proofs.Common.{◌≡◌, ℕ, ◌≤◌, List, Option}
use Rattle.lq_meaning.specs.declared.lines.Turn.TheVariants.{Run}
use Rattle.lq_meaning.specs.Ending.{Outcome}
use Rattle.lq_meaning.specs.Runner.{IsUnderWay}
use Rattle.lq_meaning.proofs.run.Runner.run.Given as goal

-- the run is under way as it was when it began
abbrev pub invariant-loop : goal.invariant-loop
invariant-loop g l = record {
  within : l.self.cost ≤ l.fuel;
  same_faults : g.K.Sink.faults l.out ≡ g.K.Sink.faults l.fn.out;
  under_way : (begun : Option (List ℕ)) (o : Outcome) → IsUnderWay l.p l.fuel begun (g.K.Sink.written l.fn.out) l.fn.self Run o → IsUnderWay l.p l.fuel begun (g.K.Sink.written l.out) l.self l.turn o;
}
