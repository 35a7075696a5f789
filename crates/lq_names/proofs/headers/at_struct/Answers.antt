use Rattle.std.proofs.Common.{sym, ap, ◌∙◌, None}
use Rattle.lq_names.specs.Headers.{some_type, is_unknown, is_bare}
use Rattle.lq_names.proofs.LeastLaws.{step, noted_none}
use Rattle.lq_names.proofs.headers.at_struct.Goals as goal

pub returns : goal.returns
returns c = sym (step c.args.item.now.at c.args.found 2 _ c.note-found.ensures c.is_doubled.ensures
    ∙ step c.args.item.now.at c.note-found.result 3 _ c.note-found-2.ensures
    (c.one_is_unknown.ensures ∙ ap (some_type (is_unknown c.args.program.now) None) c.as_slice-fields.ensures)
    ∙ step c.args.item.now.at c.note-found-2.result 7 _ c.note.ensures (c.one_is_bare.ensures ∙ ap (some_type is_bare None) c.as_slice-fields.ensures)
    ∙ noted_none _ _)
