use Rattle.lq_meaning.specs.Meaning.{sequential}
use Rattle.lq_meaning.specs.PlainMeaning.{sequential as plain_sequential}
use Rattle.lq_cli.specs.Seen.{sink_state}
use Rattle.lq_cli.proofs.SeqRuns.{is_formed, same_run, is_ruled, run_of}
use Rattle.lq_cli.proofs.commands.seq.run.Goals as goal

pub run_seq-end-requires-clause-formed : goal.run_seq-end-requires-clause-formed
run_seq-end-requires-clause-formed g c = is_formed c.plain_is_formed.ensures c.args.tree.now c.requires.tree c.in-Ok.p c.in-Ok.ensures

pub returns : goal.returns
returns g c =
    let o = sequential c.args.fuel c.args.words c.args.tree.now c.args.input.now in
    let old = (sink_state g.K.Sink.written g.K.Sink.faults c.args.out.now) in
    c.tell_end.ensures o old
    (run_of c.run_seq-end.result (plain_sequential c.args.fuel c.args.words c.in-Ok.p c.args.input.now) o old (sink_state g.K.Sink.written g.K.Sink.faults c.run_seq-end.new.out)
    (same_run c.stores_go_to_places.ensures c.args.tree.now c.requires.tree c.args.fuel c.args.words c.args.input.now c.meaning_stays.ensures c.in-Ok.p c.in-Ok.ensures)
    (is_ruled c.stores_go_to_places.ensures c.args.tree.now c.requires.tree c.args.fuel c.args.words c.args.input.now c.meanings_have_rules.ensures)
    c.run_seq-end.ensures.tells c.run_seq-end.ensures.all c.run_seq-end.ensures.prefix c.run_seq-end.ensures.failed c.run_seq-end.ensures.other)
