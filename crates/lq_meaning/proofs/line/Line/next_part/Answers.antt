use Rattle.std.proofs.Common.{subst, sym, ◌∙◌}
use Rattle.std.proofs.lemmas.Bool.{eqb-true}
use Rattle.std.proofs.lemmas.List.{nil_from_length}
use Rattle.std.specs.Prelude.{List, ℤ}
use Rattle.lq_meaning.specs.Moves.{TestsFor}
use Rattle.lq_meaning.proofs.LineMoves.{at_end, went_on, tested, tested_again, repeated_on}
use Rattle.lq_meaning.proofs.line.Line.next_part.Goals as goal

pub returns-in-None : goal.returns-in-None
returns-in-None c p = at_end p c.args.self.now c.pop.new.self c.leave.result c.leave.new.self c.requires c.in-None.ensures.0 c.in-None.ensures.1 (c.leave.ensures p)

pub returns-in-Some-Row : goal.returns-in-Some-Row
returns-in-Some-Row c p = went_on p c.args.self.now c.pop.new.self c.in-Some-Row.row c.requires (rw c.in-Some-Row.field-0-is at c.in-Some-Row.ensures)

pub returns-in-Some-Test : goal.returns-in-Some-Test
returns-in-Some-Test c p =
    tested p c.args.self.now c.pop.new.self c.in-Some-Test.repeat c.in-Some-Test.made c.test-stop.result _ _ c.requires (rw c.in-Some-Test.field-0-is at c.in-Some-Test.ensures)
    (subst (λ (slots : List ℤ). TestsFor p c.in-Some-Test.repeat c.in-Some-Test.made slots c.test-stop.result) c.as_slice.ensures (c.test-stop.ensures p)) c.stand.ensures.value c.stand.ensures.after

pub returns-then-is_empty : goal.returns-then-is_empty
returns-then-is_empty c p =
    let no_head = nil_from_length c.in-Some-Again.repeat.head.now (eqb-true _ _ (sym c.is_empty.ensures ∙ c.if-is_empty.true)) in
    tested_again p c.args.self.now c.pop.new.self c.in-Some-Again.repeat c.in-Some-Again.made c.test-stop-then-is_empty.result _ _ c.requires (rw c.in-Some-Again.field-0-is at c.in-Some-Again.ensures) no_head
    (subst (λ (slots : List ℤ). TestsFor p c.in-Some-Again.repeat c.in-Some-Again.made slots c.test-stop-then-is_empty.result) c.as_slice-then-is_empty.ensures (c.test-stop-then-is_empty.ensures p)) c.stand-then-is_empty.ensures.value c.stand-then-is_empty.ensures.after

pub returns-in_ok-turn-in-Some-Again : goal.returns-in_ok-turn-in-Some-Again
returns-in_ok-turn-in-Some-Again c p =
    repeated_on p c.args.self.now c.pop.new.self c.in-Some-Again.repeat c.in-Some-Again.made c.turn.new.self c.requires (rw c.in-Some-Again.field-0-is at c.in-Some-Again.ensures) c.in_ok-turn-in-Some-Again.ensures
