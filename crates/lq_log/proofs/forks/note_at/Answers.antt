use Rattle.std.proofs.Common.{◌≡◌, ◌+◌, subst, sym, ◌∙◌}
use Rattle.lq_log.specs.Seen.{Tells, seen_at}
use Rattle.lq_log.proofs.KeyLaws.{seen_updated}
use Rattle.lq_log.proofs.forks.note_at.Goals as goal

pub returns : goal.returns
returns c = λ log j takes tells.
    let known : c.copied.result ≡ seen_at c.args.forks.now c.args.front.now = c.copied.ensures ∙ c.get.ensures.value in
    let updated = seen_updated c.args.forks.now c.insert.new.self c.in_ok-from_slice.field-0 c.args.front.now c.in-Some.seen c.in_ok-from_slice.ensures.items c.in_ok-insert.ensures.updates in
    let more = c.in-Some.ensures log c.args.front.now j takes (subst (Tells log c.args.front.now j) (sym known) tells) in
    (subst (Tells log c.args.front.now (j + 1)) (sym updated.0) more, updated.1)
