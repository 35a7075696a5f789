use Rattle.std.proofs.Common.{length, ◌-◌, ◌≤◌}
use Rattle.lq_lexer.proofs.Reading.{Continues}
use Rattle.lq_lexer.proofs.lexing.pieces.Given as goal

abbrev pub invariant-loop-at : goal.invariant-loop-at
invariant-loop-at l = (l.at ≤ length l.text) × Continues l.text l.at l.tokens.items

abbrev pub decreases-loop-at : goal.decreases-loop-at
decreases-loop-at l = length l.text - l.at
