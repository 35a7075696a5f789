use Rattle.std.proofs.Common.{◌≡◌, ◌+◌, eqb, subst, rules, tests}
use Rattle.std.proofs.lemmas.Iterator.Consumers.{YieldsList-so_far, YieldsList-turn, YieldsList-end}
use Rattle.std.proofs.lemmas.Iterator.Splits.{YieldsList-from_slice_split}
use Rattle.lq_quals.specs.Quals.{IsQualsText, IsFirstBadLine}
use Rattle.lq_quals.proofs.QualsLemmas.{read_none, line_turn, bad_turn, read_end, no_bad_line}
use Rattle.lq_quals.proofs.quals.read_quals.Goals as goal
use Rattle.lq_quals.proofs.quals.read_quals.Goals.{In-None, In-None-2}

pub loop-bytes-init : goal.loop-bytes-init
loop-bytes-init c = rw (c.new.ensures, c.new-2.ensures) read_none

pub loop-bytes-preserved : goal.loop-bytes-preserved
loop-bytes-preserved c = line_turn c.loop-bytes.yielded c.in-Some.bytes c.loop-bytes.invariant (rw c.in-Some-2.is at c.in_ok-read_line.ensures)

bad_here : (c : In-None-2) → IsFirstBadLine c.args.text.now (c.loop-bytes.line + 1)
bad_here c =
    let front = YieldsList-so_far (YieldsList-from_slice_split _ (λ b. eqb b 10) c.args.text.now (cc) (cc) (cc) (λ x b q k. search (rules, tests))) c.loop-bytes.yielded _ c.loop-bytes.yielded_by in
    let turn = YieldsList-turn (YieldsList-from_slice_split _ (λ b. eqb b 10) c.args.text.now (cc) (cc) (cc) (λ x b q k. search (rules, tests))) c.loop-bytes.yielded _ c.loop-bytes.yielded_by _ _ c.in-Some.bytes c.in-Some.is c.next.ensures.steps in
    bad_turn c.args.text.now c.loop-bytes.yielded c.in-Some.bytes c.loop-bytes.invariant front turn (rw c.in-None-2.is at c.in_ok-read_line.ensures)

pub returns-in-None-2-clause-bad : goal.returns-in-None-2-clause-bad
returns-in-None-2-clause-bad c line e =
    let same : c.loop-bytes.line + 1 ≡ line = cc in
    subst (IsFirstBadLine c.args.text.now) same (bad_here (goal.at.returns-in-None-2-clause-bad c).In-None-2)

pub returns-in-None-2-clause-reads : goal.returns-in-None-2-clause-reads
returns-in-None-2-clause-reads c quals text = absurd (no_bad_line c.args.text.now quals _ text (bad_here (goal.at.returns-in-None-2-clause-reads c).In-None-2))

all_read : (c : In-None) → IsQualsText c.args.text.now c.loop-bytes.quals
all_read c =
    let end = YieldsList-end (YieldsList-from_slice_split _ (λ b. eqb b 10) c.args.text.now (cc) (cc) (cc) (λ x b q k. search (rules, tests))) c.loop-bytes.yielded _ c.loop-bytes.yielded_by _ _ c.in-None.is c.next.ensures.steps in
    read_end c.args.text.now c.loop-bytes.invariant end.0

pub returns-clause-quals : goal.returns-clause-quals
returns-clause-quals c = all_read c

pub returns-clause-refuses : goal.returns-clause-refuses
returns-clause-refuses c line first = absurd (no_bad_line c.args.text.now c.loop-bytes.quals line (all_read c) first)
