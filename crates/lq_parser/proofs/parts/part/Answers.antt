use Rattle.std.proofs.Common.{refl}
use Rattle.lq_parser.proofs.Onward.{goes_on, stops_on, there, not_there}
use Rattle.lq_parser.specs.declared.lexeme.Keyword.TheVariants.{Int as IntWord, Struct as StructWord}
use Rattle.lq_parser.proofs.FlatRules.{leads_declaration, leads_simple}
use Rattle.lq_parser.proofs.parts.part.Goals as goal

pub returns-then-is_some-clause-done : goal.returns-then-is_some-clause-done
returns-then-is_some-clause-done c = goes_on (leads_declaration {k = IntWord} refl (there c.eat_word.result c.if-is_some.ensures c.eat_word.ensures.some).1) c.declaration.result c.declaration.ensures.done

pub returns-then-is_some-clause-stops : goal.returns-then-is_some-clause-stops
returns-then-is_some-clause-stops c = stops_on (leads_declaration {k = IntWord} refl (there c.eat_word.result c.if-is_some.ensures c.eat_word.ensures.some).1) c.declaration.result c.declaration.ensures.stops

pub returns-then-is_some-2-clause-done : goal.returns-then-is_some-2-clause-done
returns-then-is_some-2-clause-done c =
    goes_on (leads_declaration {k = StructWord} refl (there c.eat_word-2.result c.if-is_some-2.ensures c.eat_word-2.ensures.some).1) c.declaration-then-is_some-2.result c.declaration-then-is_some-2.ensures.done

pub returns-then-is_some-2-clause-stops : goal.returns-then-is_some-2-clause-stops
returns-then-is_some-2-clause-stops c =
    stops_on (leads_declaration {k = StructWord} refl (there c.eat_word-2.result c.if-is_some-2.ensures c.eat_word-2.ensures.some).1) c.declaration-then-is_some-2.result c.declaration-then-is_some-2.ensures.stops

pub returns-clause-done : goal.returns-clause-done
returns-clause-done c = goes_on (leads_simple (not_there c.eat_word.result c.if-is_some.ensures c.eat_word.ensures.none) (not_there c.eat_word-2.result c.if-is_some-2.ensures c.eat_word-2.ensures.none)) c.simple.result c.simple.ensures.done

pub returns-clause-stops : goal.returns-clause-stops
returns-clause-stops c = stops_on (leads_simple (not_there c.eat_word.result c.if-is_some.ensures c.eat_word.ensures.none) (not_there c.eat_word-2.result c.if-is_some-2.ensures c.eat_word-2.ensures.none)) c.simple.result c.simple.ensures.stops
