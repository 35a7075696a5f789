use Rattle.std.proofs.Common.{subst, rules, w64}
use mir.Val.{SFits}
use Rattle.std.proofs.lemmas.Int.{to_z-of_z}
use Rattle.lq_meaning.specs.Moves.{StandsFor, Passes}
use Rattle.lq_meaning.specs.PlainMeaning.{Slots}
use Rattle.lq_meaning.proofs.LineMoves.{stood_for, passed_by, cobegins}
use Rattle.lq_meaning.proofs.line.Line.statement.Goals as goal
use Rattle.lq_meaning.proofs.line.Line.statement.Goals.{in-Load, in-Store, in-Calloc+in_ok-stop-in-Calloc, in-Call+in_ok-stop-in-Call, in-Cobegin, in-Foreach+in-Some, in-Print}

pub returns-in-Set : goal.returns-in-Set
returns-in-Set c = rw c.in-Set.is (c.set.ensures c.args.p.now)

pub returns-in-None : goal.returns-in-None
returns-in-None c =
    let step : SFits w64 c.in-Foreach.step = search rules in
    let passes : Passes c.args.p.now c.args.statement.now.at c.args.statement.now.kind c.as_slice-slots.result.now = rw c.in-Foreach.is (rw (to_z-of_z w64 c.in-Foreach.step step) at (c.in-None.ensures c.args.p.now)) in
    passed_by c.args.p.now c.args.self.now c.args.statement.now.at c.args.statement.now.kind
    (subst (λ (slots : Slots). Passes c.args.p.now c.args.statement.now.at c.args.statement.now.kind slots) c.as_slice-slots.ensures passes)

pub returns-in-Return : goal.returns-in-Return
returns-in-Return c = rw (c.in-Return.is, ← c.as_ref.ensures.value) (c.give.ensures c.args.p.now)

pub returns : goal.returns
returns c =
    let reason : StandsFor c.args.p.now c.args.statement.now.at c.args.statement.now.kind c.as_slice-slots.result.now c.match-statement.stop =
    elim c.match-statement.branch [
      | in-Load w ↦ rw (w.stop-is, w.in-Load.is) (w.load-stop.ensures c.args.p.now)
      | in-Store w ↦ rw (w.stop-is, w.in-Store.is) (w.store-stop.ensures c.args.p.now)
      | in-Calloc+in_ok-stop-in-Calloc w ↦ rw (w.stop-is, w.in-Calloc.is) w.in_ok-stop-in-Calloc.ensures
      | in-Call+in_ok-stop-in-Call w ↦ rw (w.stop-is, w.in-Call.is, ← w.as_slice.ensures) (w.in_ok-stop-in-Call.ensures c.args.p.now)
      | in-Cobegin w ↦ rw (w.stop-is, w.in-Cobegin.is, ← w.as_slice-in-Cobegin.ensures) (cobegins c.args.p.now c.args.statement.now.at w.as_slice-in-Cobegin.result c.as_slice-slots.result.now)
      | in-Foreach+in-Some w ↦ (let step : SFits w64 w.in-Foreach.step = search rules in rw (w.stop-is, w.in-Foreach.is) (rw (to_z-of_z w64 w.in-Foreach.step step) at (w.in-Some.ensures c.args.p.now)))
      | in-Print w ↦ rw (w.stop-is, w.in-Print.is) (w.print-stop.ensures c.args.p.now)
    ] in
    stood_for c.args.p.now c.args.self.now c.match-statement.stop c.args.statement.now.at c.args.statement.now.kind _ _ _ c.stand.ensures.value c.stand.ensures.after
    (subst (λ (slots : Slots). StandsFor c.args.p.now c.args.statement.now.at c.args.statement.now.kind slots c.match-statement.stop) c.as_slice-slots.ensures reason)
