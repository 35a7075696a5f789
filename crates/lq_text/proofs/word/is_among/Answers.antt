use Rattle.std.proofs.Common.{◌∙◌}
use Rattle.lq_text.proofs.WordLemmas.{is_among-map}
use Rattle.lq_text.proofs.word.is_among.Goals as goal

pub returns : goal.returns
returns c = c.contains.ensures.value ∙ is_among-map c.args.texts.now c.args.text.now
