use Rattle.std.proofs.Common.{◌≡◌, ◌+◌, ◌<◌, length, sym, subst, ◌∙◌, arith}
use Rattle.std.proofs.lemmas.Bool.{eqb-true, eqb-false}
use Rattle.lq_cert.specs.ProofFile.{IsFirstBadLine}
use Rattle.lq_cert.proofs.FileLemmas.{no_line_feed, no_line, read_more, read_all, proof_has_no_bad_line}
use Rattle.lq_cert.proofs.proof_file.read_proof.Goals as goal

pub returns-in_default-clause-bad : goal.returns-in_default-clause-bad
returns-in_default-clause-bad c entry e =
    let same : c.loop-rest.entry + 1 ≡ entry = cc in
    let some = eqb-false _ _ (sym c.is_empty.ensures ∙ c.loop-rest-test.true) in
    let long : 0 < length c.loop-rest.rest.now = omega arith in
    subst (IsFirstBadLine c.args.text.now) same (no_line_feed _ _ _ _ c.loop-rest.invariant long c.in_default.ensures)

pub returns-in_default-clause-reads : goal.returns-in_default-clause-reads
returns-in_default-clause-reads c lines file =
    let some = eqb-false _ _ (sym c.is_empty.ensures ∙ c.loop-rest-test.true) in
    let long : 0 < length c.loop-rest.rest.now = omega arith in
    absurd (proof_has_no_bad_line _ lines _ file (no_line_feed _ _ _ _ c.loop-rest.invariant long c.in_default.ensures))

pub returns-in_default-2-clause-bad : goal.returns-in_default-2-clause-bad
returns-in_default-2-clause-bad c entry e =
    let same : c.loop-rest.entry + 1 ≡ entry = cc in
    let none = rw c.as_slice.ensures at (rw c.in_default-2.is at c.in_ok-line.ensures) in
    subst (IsFirstBadLine c.args.text.now) same (no_line _ _ _ _ _ _ c.loop-rest.invariant c.in-Some.ensures none)

pub returns-in_default-2-clause-reads : goal.returns-in_default-2-clause-reads
returns-in_default-2-clause-reads c lines file =
    let none = rw c.as_slice.ensures at (rw c.in_default-2.is at c.in_ok-line.ensures) in
    absurd (proof_has_no_bad_line _ lines _ file (no_line _ _ _ _ _ _ c.loop-rest.invariant c.in-Some.ensures none))

pub loop-rest-preserved : goal.loop-rest-preserved
loop-rest-preserved c =
    let read = rw c.as_slice.ensures at (rw c.in-Some-2.is at c.in_ok-line.ensures) in
    rw c.in_ok-push.ensures.ok (read_more _ _ _ _ c.loop-rest.lines _ _ c.loop-rest.invariant c.in-Some.ensures read.0 read.1)

pub returns-clause-refuses : goal.returns-clause-refuses
returns-clause-refuses c entry bad =
    let none = eqb-true _ _ (sym c.is_empty.ensures ∙ c.loop-rest-test.false) in
    absurd (proof_has_no_bad_line _ _ entry (read_all _ _ _ _ c.loop-rest.invariant none) bad)
