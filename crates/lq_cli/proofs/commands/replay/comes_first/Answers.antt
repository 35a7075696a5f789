use Rattle.std.proofs.Common.{sym, ◌∙◌, subst}
use Rattle.lq_log.specs.Race.{IsRaceFree}
use Rattle.lq_cli.proofs.ReplayEnding.{stray_first, no_stray, least_within, least_of, free_of, race_told}
use Rattle.lq_cli.proofs.commands.replay.comes_first.Goals as goal

pub returns-in-Some-clause-some : goal.returns-in-Some-clause-some
returns-in-Some-clause-some c = λ o tells of_run.
    stray_first c.args.replayed.now.end c.args.replayed.now.log.items c.in-Some.at o (sym c.stray_of.ensures ∙ c.in-Some.is) tells

pub race_of-requires-clause-first : goal.race_of-requires-clause-first
race_of-requires-clause-first c =
    (least_within c.deref-in-Some-2.result.now c.deref.result.now c.in-Some-2.i c.in-Some-2.j (c.deref-in-Some-2.ensures.value ∙ sym c.deref.ensures.value)
    (least_of c.deref.result.now c.in_ok-i.field-0 c.in-Some-2.i c.in-Some-2.j c.in-Some-2.is c.in_ok-i.ensures)).0

pub race_of-requires-clause-second : goal.race_of-requires-clause-second
race_of-requires-clause-second c =
    (least_within c.deref-in-Some-2.result.now c.deref.result.now c.in-Some-2.i c.in-Some-2.j (c.deref-in-Some-2.ensures.value ∙ sym c.deref.ensures.value)
    (least_of c.deref.result.now c.in_ok-i.field-0 c.in-Some-2.i c.in-Some-2.j c.in-Some-2.is c.in_ok-i.ensures)).1

pub returns-in-Some-2-clause-some : goal.returns-in-Some-2-clause-some
returns-in-Some-2-clause-some c = λ o tells of_run.
    race_told c.args.replayed.now.end c.args.replayed.now.log.items c.deref.result.now c.deref-in-Some-2.result.now c.in_ok-i.field-0 c.in-Some-2.i c.in-Some-2.j c.race_of.result o
    c.deref.ensures.value c.deref-in-Some-2.ensures.value c.in-Some-2.is c.in_ok-i.ensures c.race_of.ensures (no_stray c.args.replayed.now.end o (sym c.stray_of.ensures ∙ c.in_default.is) of_run tells)

pub returns-in-None-clause-none : goal.returns-in-None-clause-none
returns-in-None-clause-none c = λ o tells of_run. (
  no_stray c.args.replayed.now.end o (sym c.stray_of.ensures ∙ c.in_default.is) of_run tells,
  subst IsRaceFree c.deref.ensures.value (free_of c.deref.result.now c.in_ok-i.field-0 c.in-None.is c.in_ok-i.ensures),
)
