use Rattle.std.proofs.Common.{arith}
use Rattle.lq_cli.proofs.TextStops.{annotation_told, syntax_told, annotation_within, syntax_within}
use Rattle.lq_cli.proofs.text.tree_of.Goals as goal

pub place_of-requires-clause-within : goal.place_of-requires-clause-within
place_of-requires-clause-within c = annotation_within c.args.text.now c.args.tokens.now c.in-Err-Annotation.at (c.tokens_lie_in_text.ensures.spans c.args.text.now c.args.tokens.now c.requires.shaped.tokens_are) (rw c.in-Err-Annotation.field-0-is at c.in-Err-Annotation.ensures.annotation)

pub place_of-requires-clause-fits : goal.place_of-requires-clause-fits
place_of-requires-clause-fits c = omega (arith, c.requires.short, annotation_within c.args.text.now c.args.tokens.now c.in-Err-Annotation.at (c.tokens_lie_in_text.ensures.spans c.args.text.now c.args.tokens.now c.requires.shaped.tokens_are) (rw c.in-Err-Annotation.field-0-is at c.in-Err-Annotation.ensures.annotation))

pub place_of-requires-in-Err-Syntax-clause-within : goal.place_of-requires-in-Err-Syntax-clause-within
place_of-requires-in-Err-Syntax-clause-within c = syntax_within c.args.text.now c.args.tokens.now c.in-Err-Syntax.at (c.tokens_lie_in_text.ensures.spans c.args.text.now c.args.tokens.now c.requires.shaped.tokens_are) (rw c.in-Err-Syntax.field-0-is at c.in-Err-Syntax.ensures.syntax).1

pub place_of-requires-in-Err-Syntax-clause-fits : goal.place_of-requires-in-Err-Syntax-clause-fits
place_of-requires-in-Err-Syntax-clause-fits c = omega (arith, c.requires.short, syntax_within c.args.text.now c.args.tokens.now c.in-Err-Syntax.at (c.tokens_lie_in_text.ensures.spans c.args.text.now c.args.tokens.now c.requires.shaped.tokens_are) (rw c.in-Err-Syntax.field-0-is at c.in-Err-Syntax.ensures.syntax).1)

pub returns-in-Err-Annotation-clause-told : goal.returns-in-Err-Annotation-clause-told
returns-in-Err-Annotation-clause-told c = annotation_told c.args.text.now c.in-Err-Annotation.at c.place_of.result c.place_of.ensures.line c.place_of.ensures.column c.args.tokens.now c.requires.shaped (rw c.in-Err-Annotation.field-0-is at c.in-Err-Annotation.ensures.annotation)

pub returns-in-Err-Syntax-clause-told : goal.returns-in-Err-Syntax-clause-told
returns-in-Err-Syntax-clause-told c = syntax_told c.args.text.now c.in-Err-Syntax.at c.place_of-in-Err-Syntax.result c.place_of-in-Err-Syntax.ensures.line c.place_of-in-Err-Syntax.ensures.column c.args.tokens.now c.requires.shaped (rw c.in-Err-Syntax.field-0-is at c.in-Err-Syntax.ensures.syntax).0 (rw c.in-Err-Syntax.field-0-is at c.in-Err-Syntax.ensures.syntax).1
