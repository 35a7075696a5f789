-- A call on the same lexemes goes to a rule of a lower rank.
use Rattle.std.proofs.Common.{◌+◌, ◌*◌, length}
use Rattle.lq_parser.proofs.expressions.+expressions.Given as goal

abbrev pub decreases-binary : goal.decreases-binary
decreases-binary l = 4294967360 * length l.lexemes.now + l.loosest + 10

abbrev pub decreases-chain : goal.decreases-chain
decreases-chain l = 4294967360 * length l.lexemes.now

abbrev pub decreases-unary : goal.decreases-unary
decreases-unary l = 4294967360 * length l.lexemes.now + 5

abbrev pub decreases-postfix : goal.decreases-postfix
decreases-postfix l = 4294967360 * length l.lexemes.now + 4

abbrev pub decreases-tail : goal.decreases-tail
decreases-tail l = 4294967360 * length l.lexemes.now

abbrev pub decreases-closed : goal.decreases-closed
decreases-closed l = 4294967360 * length l.lexemes.now + 20

abbrev pub decreases-primary : goal.decreases-primary
decreases-primary l = 4294967360 * length l.lexemes.now + 3

abbrev pub decreases-named : goal.decreases-named
decreases-named l = 4294967360 * length l.lexemes.now

abbrev pub decreases-calloc : goal.decreases-calloc
decreases-calloc l = 4294967360 * length l.lexemes.now

abbrev pub decreases-arguments : goal.decreases-arguments
decreases-arguments l = 4294967360 * length l.lexemes.now + 20

abbrev pub decreases-more_arguments : goal.decreases-more_arguments
decreases-more_arguments l = 4294967360 * length l.lexemes.now
