use Rattle.std.proofs.Common.{length, All}
use Rattle.std.proofs.lemmas.List.Elements.{All-get_or}
use Rattle.lq_meaning.specs.Blocks.{Below, no_span}
use Rattle.lq_meaning.proofs.memory.Memory.of.Goals as goal

pub words_in-requires : goal.words_in-requires
words_in-requires c =
    let below : All (Below (length c.args.words.now)) c.spans-spans.result.now = rw c.spans-spans.ensures.same c.requires in
    All-get_or (Below (length c.args.words.now)) c.spans-spans.result.now c.loop-span.span-index no_span c.loop-span-test.true below
