use Rattle.lq_text.proofs.LiteralLemmas.{literal_read, no_literal_zero, no_literal_byte}
use Rattle.std.proofs.lemmas.Bool.{true≢false}
use Rattle.std.proofs.Common.{sym, ◌∙◌}
use Rattle.lq_text.proofs.literal.read_literal.Goals as goal
use Rattle.lq_text.proofs.literal.read_literal.Goals.{then-has_needless_zero-via-then-has_needless_zero, then-has_needless_zero-via-else-has_needless_zero+then-not-are_digits}

pub returns-then-has_needless_zero : goal.returns-then-has_needless_zero
returns-then-has_needless_zero c =
    elim c.then-has_needless_zero.branch [
      | then-has_needless_zero-via-then-has_needless_zero w ↦
          let zero = c.has_needless_zero.ensures.0 w.if-has_needless_zero.true in
          no_literal_zero c.args.text.now zero.0 zero.1
      | then-has_needless_zero-via-else-has_needless_zero+then-not-are_digits w ↦
          no_literal_byte c.args.text.now (sym w.are_digits.ensures ∙ w.if-not-are_digits.true)
    ]

pub returns : goal.returns
returns c =
    literal_read c.args.text.now c.read_number.result (sym c.are_digits.ensures ∙ c.if-not-are_digits.false) (λ zero long. absurd (true≢false (sym (c.has_needless_zero.ensures.1 (zero, long)) ∙ c.if-has_needless_zero.false)))
    c.read_number.ensures.some c.read_number.ensures.none
