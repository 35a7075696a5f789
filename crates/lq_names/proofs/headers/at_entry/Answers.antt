use Rattle.std.proofs.Common.{sym, ap, ◌∙◌, not}
use Rattle.lq_names.specs.Headers.{start, is_entry}
use Rattle.lq_names.proofs.LeastLaws.{step, noted_none}
use Rattle.lq_names.proofs.headers.at_entry.Goals as goal

pub returns : goal.returns
returns c = sym (step start c.args.found 1 _ c.note.ensures (ap not (c.is_entry.ensures ∙ ap is_entry c.main_of.ensures)) ∙ noted_none _ _)
