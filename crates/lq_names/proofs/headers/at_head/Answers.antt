use Rattle.std.proofs.Common.{sym, ap, ◌∙◌}
use Rattle.lq_names.specs.Headers.{has_twins}
use Rattle.lq_names.proofs.LeastLaws.{step, noted_none}
use Rattle.lq_names.proofs.headers.at_head.Goals as goal

pub returns : goal.returns
returns c = sym (step c.args.item.now.at c.args.found 2 _ c.note-found.ensures c.has.ensures
    ∙ step c.args.item.now.at c.note-found.result 3 _ c.note-found-2.ensures c.head_is_unknown.ensures
    ∙ step c.args.item.now.at c.note-found-2.result 4 _ c.note-found-3.ensures (c.has_twins.ensures ∙ ap has_twins c.as_slice.ensures)
    ∙ step c.args.item.now.at c.note-found-3.result 7 _ c.note.ensures c.head_is_bare.ensures
    ∙ noted_none _ _)
