use Rattle.std.proofs.Common.{◌≡◌, ◌≤◌, ◌+◌, ◌*◌, ◌/◌, ◌<◌, ap, sym, length, get_or, arith, ◌∙◌}
use Rattle.lq_log.specs.Seen.{numbers_of}
use Rattle.lq_log.proofs.NoteLaws.{none_noted, raced_here, noted_here, all_noted}
use Rattle.lq_log.proofs.forks.note.Goals as goal

pub loop-fork-init : goal.loop-fork-init
loop-fork-init c = λ log j at_j keeps. none_noted c.args.forks.now log j keeps

pub loop-fork-preserved : goal.loop-fork-preserved
loop-fork-preserved c = λ log j at_j keeps.
    let within : c.loop-fork.fork < length c.args.entry.now.path / 2 = omega (arith, c.loop-fork-test.true, ap length c.as_slice.ensures) in
    let read : c.index.result.now ≡ get_or c.deref.result.now (3 + 2 * c.loop-fork.fork + 1) c.index.result.now = c.index.ensures ∙ ap (λ l. get_or l (3 + 2 * c.loop-fork.fork + 1) c.index.result.now) (sym c.deref.ensures.value) in
    noted_here c.loop-fork.forks c.note_at.new.forks log j c.loop-fork.fork c.args.entry.now c.deref.result.now c.index.result.now c.in_ok-note_at.field-0
    at_j (c.deref.ensures.value ∙ c.in_ok-numbers.ensures) read within c.in_ok-note_at.ensures (c.loop-fork.invariant log j at_j keeps) c.if-branch.false

pub returns-then-branch : goal.returns-then-branch
returns-then-branch c = λ log j at_j keeps.
    let within : c.loop-fork.fork < length c.args.entry.now.path / 2 = omega (arith, c.loop-fork-test.true, ap length c.as_slice.ensures) in
    let read : c.index.result.now ≡ get_or c.deref.result.now (3 + 2 * c.loop-fork.fork + 1) c.index.result.now = c.index.ensures ∙ ap (λ l. get_or l (3 + 2 * c.loop-fork.fork + 1) c.index.result.now) (sym c.deref.ensures.value) in
    raced_here c.loop-fork.forks c.note_at.new.forks log j c.loop-fork.fork c.args.entry.now c.deref.result.now c.index.result.now c.in_ok-note_at.field-0
    at_j (c.deref.ensures.value ∙ c.in_ok-numbers.ensures) read within c.in_ok-note_at.ensures (c.loop-fork.invariant log j at_j keeps) c.if-branch.true

pub returns : goal.returns
returns c = λ log j at_j keeps.
    let count : length (numbers_of c.args.entry.now) ≤ 3 + 2 * c.loop-fork.fork + 1 = omega (arith, ap length c.as_slice.ensures) in
    all_noted c.loop-fork.forks log j c.loop-fork.fork c.args.entry.now at_j count (c.loop-fork.invariant log j at_j keeps)
