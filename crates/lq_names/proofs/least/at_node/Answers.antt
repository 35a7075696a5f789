use Rattle.std.proofs.Common.{sym, ◌∙◌}
use Rattle.lq_names.proofs.LeastLaws.{step, noted_none}
use Rattle.lq_names.proofs.least.at_node.Goals as goal

pub returns : goal.returns
returns c = sym (step c.args.at c.args.found 1 _ c.note-found.ensures c.n1.ensures
    ∙ step c.args.at c.note-found.result 3 _ c.note-found-2.ensures c.n3.ensures
    ∙ step c.args.at c.note-found-2.result 5 _ c.note-found-3.ensures c.n5.ensures
    ∙ step c.args.at c.note-found-3.result 6 _ c.note-found-4.ensures c.n6.ensures
    ∙ step c.args.at c.note-found-4.result 7 _ c.note-found-5.ensures c.n7.ensures
    ∙ step c.args.at c.note-found-5.result 8 _ c.note-found-6.ensures c.n8.ensures
    ∙ step c.args.at c.note-found-6.result 9 _ c.note.ensures c.n9.ensures
    ∙ noted_none _ _)
