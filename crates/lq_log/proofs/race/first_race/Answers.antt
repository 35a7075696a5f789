use Rattle.std.proofs.Common.{rules, subst, refl}
use Rattle.std.proofs.lemmas.Option.{slice_get_read}
use Rattle.lq_log.specs.Seen.{IsNoted}
use Rattle.lq_log.proofs.ForkLaws.{race_free}
use Rattle.lq_log.proofs.RaceLaws.{none_behind, least_pair}
use Rattle.lq_log.proofs.race.first_race.Goals as goal

pub returns-then-branch : goal.returns-then-branch
returns-then-branch c =
    let at_j = slice_get_read c.args.log.now _ c.loop-j.j-counter c.index-log-j.result refl c.loop-j-test.true c.index-log-j.is in
    let notes = c.in_ok-note.ensures c.args.log.now c.loop-j.j-counter at_j c.loop-j.invariant in
    let race = subst (IsNoted c.args.log.now c.loop-j.j-counter c.note.new.forks) c.if-branch.true notes in
    let none_before = race_free c.loop-j.forks c.args.log.now c.loop-j.j-counter c.loop-j.invariant in
    least_pair c.args.log.now c.loop-j.j-counter c.index-log-j.result c.partner.result c.map.result _ at_j c.partner.ensures none_before race c.map.ensures.cases (λ i p q. search rules)

pub loop-j-preserved : goal.loop-j-preserved
loop-j-preserved c =
    let at_j = slice_get_read c.args.log.now _ c.loop-j.j-counter c.index-log-j.result refl c.loop-j-test.true c.index-log-j.is in
    let notes = c.in_ok-note.ensures c.args.log.now c.loop-j.j-counter at_j c.loop-j.invariant in
    subst (IsNoted c.args.log.now c.loop-j.j-counter c.note.new.forks) c.if-branch.false notes

pub returns : goal.returns
returns c = none_behind c.args.log.now c.loop-j.j-counter c.loop-j-test.false (race_free c.loop-j.forks c.args.log.now c.loop-j.j-counter c.loop-j.invariant)
