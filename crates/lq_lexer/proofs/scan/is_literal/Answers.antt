use Rattle.std.proofs.Common.{◌∙◌}
use Rattle.lq_lexer.proofs.Standing.{literal_told}
use Rattle.lq_lexer.proofs.scan.is_literal.Goals as goal

pub returns : goal.returns
returns c = c.is_some.ensures ∙ literal_told c.args.run.now c.read_literal.result _ c.requires c.read_literal.ensures
