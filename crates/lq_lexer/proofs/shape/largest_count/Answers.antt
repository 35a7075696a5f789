use Rattle.std.proofs.Common.{ap, ◌∙◌, arith}
use Rattle.lq_lexer.specs.Counts.{count_after}
use Rattle.lq_lexer.proofs.Shapes.{token_inside, count_more, all_counted, count_after_le}
use Rattle.lq_lexer.proofs.shape.largest_count.Goals as goal

pub text-requires-clause-ordered : goal.text-requires-clause-ordered
text-requires-clause-ordered c = (token_inside c.args.text.now c.args.tokens.now c.loop-token.token-index _ c.requires (omega arith)).0

pub text-requires-clause-inside : goal.text-requires-clause-inside
text-requires-clause-inside c = (token_inside c.args.text.now c.args.tokens.now c.loop-token.token-index _ c.requires (omega arith)).1

pub loop-token-preserved : goal.loop-token-preserved
loop-token-preserved c =
    let by_text = c.count_after-count.ensures ∙ ap (count_after c.args.what c.loop-token.count) c.text.ensures in
    let more = count_more (count_after c.args.what) c.args.text.now c.args.tokens.now c.loop-token.token-index c.loop-token.count c.loop-token.most c.count_after-count.result _ (omega arith) c.loop-token.invariant.counted c.loop-token.invariant.so_far by_text in
    record {
      within = omega (arith, c.count_after-count.ensures, count_after_le c.args.what c.loop-token.count c.text.result.now, c.loop-token.invariant.within);
      counted = more.0;
      so_far = c.max-most.ensures ∙ more.1;
    }

pub returns : goal.returns
returns c = all_counted (count_after c.args.what) c.args.text.now c.args.tokens.now c.loop-token.token-index c.loop-token.most (omega arith) (omega arith) c.loop-token.invariant.so_far
