use Rattle.std.proofs.Common.{sym, ◌∙◌}
use Rattle.lq_names.proofs.LeastLaws.{step, noted_none}
use Rattle.lq_names.proofs.least.at_statement.Goals as goal

pub returns : goal.returns
returns c = sym (step c.args.at c.args.found 1 _ c.note-found.ensures c.s1.ensures
    ∙ step c.args.at c.note-found.result 3 _ c.note-found-2.ensures c.s3.ensures
    ∙ step c.args.at c.note-found-2.result 4 _ c.note-found-3.ensures c.s4.ensures
    ∙ step c.args.at c.note-found-3.result 5 _ c.note-found-4.ensures c.s5.ensures
    ∙ step c.args.at c.note-found-4.result 6 _ c.note-found-5.ensures c.s6.ensures
    ∙ step c.args.at c.note-found-5.result 7 _ c.note-found-6.ensures c.s7.ensures
    ∙ step c.args.at c.note-found-6.result 8 _ c.note-found-7.ensures c.s8.ensures
    ∙ step c.args.at c.note-found-7.result 9 _ c.note-found-8.ensures c.s9.ensures
    ∙ step c.args.at c.note-found-8.result 10 _ c.note-found-9.ensures c.s10.ensures
    ∙ step c.args.at c.note-found-9.result 11 _ c.note-found-10.ensures c.s11.ensures
    ∙ step c.args.at c.note-found-10.result 12 _ c.note-found-11.ensures c.s12.ensures
    ∙ step c.args.at c.note-found-11.result 13 _ c.note.ensures c.s13.ensures
    ∙ noted_none _ _)
