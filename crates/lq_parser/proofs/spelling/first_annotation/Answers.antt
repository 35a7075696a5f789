use Rattle.std.proofs.Common.{◌≡◌, ◌≢◌, rules, tests, arith}
use Rattle.std.proofs.lemmas.Iterator.{first_from_find, YieldsList-from_slice}
use Rattle.lq_lexer.specs.declared.token.Token.{Token}
use Rattle.lq_lexer.specs.declared.token.TokenKind.TheVariants.{Annotation}
use Rattle.lq_parser.proofs.FaultPlaces.{first_at}
use Rattle.lq_parser.proofs.spelling.first_annotation.Goals as goal

pub returns-clause-some : goal.returns-clause-some
returns-clause-some c =
    let found = first_from_find _ _ c.find.result (λ (t : Token). t.kind ≡ Annotation) (λ (t : Token). t.kind ≢ Annotation) c.find.ensures.ran (YieldsList-from_slice c.args.tokens.now cc) (λ x q k. search (rules, tests)) (λ x q k. search (rules, tests)) in
    let here = rw c.in_ok-found.was at found in
    first_at c.args.tokens.now here.1 c.in_ok-found.found.now here.2 (here.3 c.in_ok-found.found.now) (λ k d lt. here.4 k d (omega arith) lt) here.0
