use Rattle.lq_parser.proofs.SourceText.{lexemes_so_far, begins_before}
use Rattle.lq_parser.proofs.source.lexemes.Goals as goal

pub loop-token-preserved : goal.loop-token-preserved
loop-token-preserved c = record {
  place = c.place_on-at.ensures;
  before = λ k d h lt. begins_before c.args.tokens.now _ c.loop-token.token-index k _ d c.requires.spans c.requires.apart c.loop-token-test.true h lt;
  so_far = lexemes_so_far c.args.text.now c.args.tokens.now c.loop-token.token-index _ c.loop-token.lexemes.items c.push.new.self.items c.text.result.now c.in_ok-symbol.symbol c.place_on-at.result
      c.loop-token-test.true c.loop-token.invariant.so_far c.text.ensures c.in_ok-symbol.ensures c.place_on-at.ensures c.in_ok-push.ensures.items;
}
