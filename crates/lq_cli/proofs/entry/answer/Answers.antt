use Rattle.std.proofs.Common.{map, string_bytes}
use Rattle.lq_cli.specs.declared.answer.Answer.TheVariants.{BadWords}
use Rattle.lq_cli.specs.Liquid.{Answers, bad_words, seq, replay}
use Rattle.lq_cli.specs.Seen.{shelf_state, sink_state}
use Rattle.lq_cli.specs.commands.Replay.{ReplayAnswers, command_of as replay_of}
use Rattle.lq_cli.specs.commands.Seq.{SeqAnswers, command_of as seq_of}
use Rattle.lq_cli.proofs.Told.{answered_more, answered_line}
use Rattle.lq_cli.proofs.entry.answer.Goals as goal

pub returns-in-Some : goal.returns-in-Some
returns-in-Some g c =
    answered_more {A = SeqAnswers (seq_of c.in-Some.words)} {B = Answers (map string_bytes c.args.words.now)}
    (shelf_state g.H.Shelf.holding g.H.Shelf.faults g.H.Shelf.failed_name c.args.shelf.now) (shelf_state g.H.Shelf.holding g.H.Shelf.faults g.H.Shelf.failed_name c.seq.new.shelf)
    (sink_state g.K.Sink.written g.K.Sink.faults c.args.out.now) (sink_state g.K.Sink.written g.K.Sink.faults c.seq.new.out) c.seq.result
    (λ s status bytes a. seq (seq_of c.in-Some.words) c.in-Some.ensures.some a) c.seq.ensures

pub returns-in-Some-read_replay : goal.returns-in-Some-read_replay
returns-in-Some-read_replay g c =
    answered_more {A = ReplayAnswers (replay_of c.in-Some-read_replay.words)} {B = Answers (map string_bytes c.args.words.now)}
    (shelf_state g.H.Shelf.holding g.H.Shelf.faults g.H.Shelf.failed_name c.args.shelf.now) (shelf_state g.H.Shelf.holding g.H.Shelf.faults g.H.Shelf.failed_name c.replay.new.shelf)
    (sink_state g.K.Sink.written g.K.Sink.faults c.args.out.now) (sink_state g.K.Sink.written g.K.Sink.faults c.replay.new.out) c.replay.result
    (λ s status bytes a. replay (replay_of c.in-Some-read_replay.words) c.in-Some-read_replay.ensures.some a) c.replay.ensures

pub returns : goal.returns
returns g c =
    answered_line {A = Answers (map string_bytes c.args.words.now)} (shelf_state g.H.Shelf.holding g.H.Shelf.faults g.H.Shelf.failed_name c.args.shelf.now) BadWords
    (sink_state g.K.Sink.written g.K.Sink.faults c.args.out.now) (sink_state g.K.Sink.written g.K.Sink.faults c.tell.new.out) c.tell.result
    (bad_words (record { no_seq = c.in_default.ensures.none; no_replay = c.in_default-read_replay.ensures.none })) c.tell.ensures
