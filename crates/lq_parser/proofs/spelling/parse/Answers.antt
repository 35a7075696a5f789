use Rattle.std.proofs.Common.{[]}
use Rattle.lq_lexer.proofs.Spans.{all_spans, all_apart, all_spelled}
use Rattle.lq_parser.specs.Programs.{IsProgram}
use Rattle.lq_parser.specs.Source.{lexemes_of}
use Rattle.lq_parser.specs.Outcome.{Fails, AtEnd}
use Rattle.lq_parser.proofs.FaultPlaces.{annotation_spells_nothing, tree_no_fails, fault_at, byte_behind}
use Rattle.lq_parser.proofs.spelling.parse.Goals as goal

pub returns-in-Some-clause-spelled : goal.returns-in-Some-clause-spelled
returns-in-Some-clause-spelled c = λ p x. absurd (annotation_spells_nothing c.args.text.now c.args.tokens.now c.in-Some.at p c.in-Some.ensures.some x)

pub lexemes-requires-clause-spans : goal.lexemes-requires-clause-spans
lexemes-requires-clause-spans c = all_spans c.args.text.now c.args.tokens.now [] c.requires.tokens.whole

pub lexemes-requires-clause-apart : goal.lexemes-requires-clause-apart
lexemes-requires-clause-apart c = all_apart c.args.text.now c.args.tokens.now [] c.requires.tokens.whole

pub lexemes-requires-clause-spelled : goal.lexemes-requires-clause-spelled
lexemes-requires-clause-spelled c = all_spelled c.args.text.now c.args.tokens.now [] c.requires.tokens.whole

pub returns-in-Err-Syntax-clause-spelled : goal.returns-in-Err-Syntax-clause-spelled
returns-in-Err-Syntax-clause-spelled c = λ p x.
    let stops = rw c.in-Err-Syntax.field-0-is at c.in-Err-Syntax.ensures.stops in
    let f : Fails IsProgram AtEnd (lexemes_of c.args.text.now c.args.tokens.now) c.in-Err-Syntax.rest.now = rw (← c.in_ok-lexemes.ensures, ← c.as_slice.ensures.value) stops in
    absurd (tree_no_fails x f)

pub returns-in-Err-Syntax-clause-syntax : goal.returns-in-Err-Syntax-clause-syntax
returns-in-Err-Syntax-clause-syntax c =
    let stops = rw c.in-Err-Syntax.field-0-is at c.in-Err-Syntax.ensures.stops in
    let f : Fails IsProgram AtEnd (lexemes_of c.args.text.now c.args.tokens.now) c.in-Err-Syntax.rest.now = rw (← c.in_ok-lexemes.ensures, ← c.as_slice.ensures.value) stops in
    (c.in_default.ensures.none, fault_at c.args.text.now c.args.tokens.now c.in-Err-Syntax.rest.now c.byte_at-at.result f (λ before behind split len. byte_behind c.args.text.now c.args.tokens.now before behind _ c.byte_at-at.result split len c.byte_at-at.ensures))
