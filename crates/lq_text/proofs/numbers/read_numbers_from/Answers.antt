use Rattle.std.proofs.Common.{◌≡◌, ◌+◌, eqb, ◌∷◌, ◌++◌, [], Some, ap, subst, ◌∙◌, w64, rules, tests, inl}
use Rattle.std.proofs.lemmas.Int.{to_z-of_z}
use Rattle.std.proofs.lemmas.Iterator.Consumers.{YieldsList-so_far, YieldsList-turn, YieldsList-end}
use Rattle.std.proofs.lemmas.Iterator.Splits.{YieldsList-from_slice_split}
use Rattle.lq_text.specs.Line.{Says}
use Rattle.lq_text.specs.Numbers.{IsNumbersFile, IsFirstBadLine}
use Rattle.lq_text.proofs.LineLemmas.{says_word}
use Rattle.lq_text.proofs.NumbersLemmas.{read_none, blank_turn, number_turn, bad_turn, read_end, no_bad_line, one_bad_line}
use Rattle.lq_text.proofs.numbers.read_numbers_from.Goals as goal
use Rattle.lq_text.proofs.numbers.read_numbers_from.Goals.{In-Err, In-None}

pub loop-bytes-init : goal.loop-bytes-init
loop-bytes-init c = rw c.new-numbers.ensures.items (read_none _)

pub loop-bytes-preserved-in-Ok-None : goal.loop-bytes-preserved-in-Ok-None
loop-bytes-preserved-in-Ok-None c = blank_turn c.loop-bytes.yielded c.in-Some.bytes c.loop-bytes.invariant (rw c.in-Ok-None.field-0-is at c.in-Ok-None.ensures.says)

pub loop-bytes-preserved : goal.loop-bytes-preserved
loop-bytes-preserved c =
    let says : Says c.in-Some.bytes.now (Some c.in-Ok-Some.number) = rw c.in-Ok-Some.field-0-is at c.in-Ok-Some.ensures.says in
    let allowed = rw c.in-Ok-Some.field-0-is at c.in-Ok-Some.ensures.allowed in
    let items = c.in_ok-push-in-Ok-Some.ensures.items ∙ ap (λ z. c.loop-bytes.numbers.items ++ z ∷ []) (to_z-of_z w64 c.in-Ok-Some.number (says_word says)) in
    rw items (number_turn c.loop-bytes.yielded c.in-Some.bytes c.in-Ok-Some.number c.loop-bytes.invariant says allowed)

bad_here : (c : In-Err) → IsFirstBadLine c.args.least c.args.text.now (c.loop-bytes.line + 1)
bad_here c =
    let front = YieldsList-so_far (YieldsList-from_slice_split _ (λ b. eqb b 10) c.args.text.now (cc) (cc) (cc) (λ x b q k. search (rules, tests))) c.loop-bytes.yielded _ c.loop-bytes.yielded_by in
    let turn = YieldsList-turn (YieldsList-from_slice_split _ (λ b. eqb b 10) c.args.text.now (cc) (cc) (cc) (λ x b q k. search (rules, tests))) c.loop-bytes.yielded _ c.loop-bytes.yielded_by _ _ c.in-Some.bytes c.in-Some.is c.next.ensures.steps in
    let bad = bad_turn c.args.text.now c.loop-bytes.yielded c.in-Some.bytes c.loop-bytes.invariant front turn c.in-Err.ensures.bad in
    subst (λ least. IsFirstBadLine least c.args.text.now (c.loop-bytes.line + 1)) (to_z-of_z w64 c.args.least c.ranges.least) bad

pub returns-in-Err-clause-bad_line : goal.returns-in-Err-clause-bad_line
returns-in-Err-clause-bad_line c line e =
    let same : c.loop-bytes.line + 1 ≡ line = cc in
    subst (IsFirstBadLine c.args.least c.args.text.now) same (bad_here (goal.at.returns-in-Err-clause-bad_line c).In-Err)

pub returns-in-Err-clause-reads : goal.returns-in-Err-clause-reads
returns-in-Err-clause-reads c numbers file = absurd (no_bad_line (bad_here (goal.at.returns-in-Err-clause-reads c).In-Err) file)

pub returns-in-Err-clause-refuses : goal.returns-in-Err-clause-refuses
returns-in-Err-clause-refuses c line first = let same = one_bad_line (bad_here (goal.at.returns-in-Err-clause-refuses c).In-Err) first in inl cc

all_read : (c : In-None) → IsNumbersFile c.args.least c.args.text.now c.loop-bytes.numbers.items
all_read c =
    let end = YieldsList-end (YieldsList-from_slice_split _ (λ b. eqb b 10) c.args.text.now (cc) (cc) (cc) (λ x b q k. search (rules, tests))) c.loop-bytes.yielded _ c.loop-bytes.yielded_by _ _ c.in-None.is c.next.ensures.steps in
    let file = read_end c.args.text.now c.loop-bytes.invariant end.0 in
    subst (λ least. IsNumbersFile least c.args.text.now c.loop-bytes.numbers.items) (to_z-of_z w64 c.args.least c.ranges.least) file

pub returns-clause-numbers : goal.returns-clause-numbers
returns-clause-numbers c = all_read c

pub returns-clause-refuses : goal.returns-clause-refuses
returns-clause-refuses c line first = absurd (no_bad_line first (all_read c))
