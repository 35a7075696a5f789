use Rattle.std.proofs.Common.{List, ℕ}
use Rattle.std.proofs.lemmas.Result.{err_from_is_err_and}
use Rattle.lq_shelf.specs.Shelf.{Holding}
use Rattle.lq_cli.specs.declared.numbers.NumbersFile.TheVariants.{Input, Picks}
use Rattle.lq_cli.specs.Numbers.{AreNumbers, NumbersAnswers}
use Rattle.lq_cli.specs.Readers.{IsRead}
use Rattle.lq_cli.specs.Seen.{shelf_state}
use Rattle.lq_cli.specs.Text.{SourceAnswers}
use Rattle.lq_cli.specs.commands.Replay.{ReplayAnswers, source, input, picks, command_of}
use Rattle.lq_cli.proofs.Readings.{stopped_more, stopped_behind, had_behind}
use Rattle.lq_cli.proofs.SeqRuns.{source_of}
use Rattle.lq_cli.proofs.commands.replay.fetch_ready.Goals as goal

pub returns-in_err-source : goal.returns-in_err-source
returns-in_err-source g c =
    let p = err_from_is_err_and c.from_residual.result c.from_residual.ensures.1 in
    rw (p.1, p.2)
    (stopped_more {A = SourceAnswers c.args.words.now.source.now} {B = ReplayAnswers (command_of c.args.words.now)}
    (shelf_state g.H.Shelf.holding g.H.Shelf.faults g.H.Shelf.failed_name c.args.shelf.now) (shelf_state g.H.Shelf.holding g.H.Shelf.faults g.H.Shelf.failed_name c.fetch_source.new.shelf)
    c.in_err-source.field-0.0 (λ status bytes a. source a) c.in_err-source.ensures)

pub returns-in_err-input : goal.returns-in_err-input
returns-in_err-input g c =
    let shelf = (shelf_state g.H.Shelf.holding g.H.Shelf.faults g.H.Shelf.failed_name c.args.shelf.now) in
    let middle = (shelf_state g.H.Shelf.holding g.H.Shelf.faults g.H.Shelf.failed_name c.fetch_source.new.shelf) in
    let p = err_from_is_err_and c.from_residual-in_err-input.result c.from_residual-in_err-input.ensures.1 in
    rw (p.1, p.2)
    (stopped_behind shelf middle c.in_ok-source.ensures {A = NumbersAnswers Input c.args.words.now.input.now} {B = ReplayAnswers (command_of c.args.words.now)}
    (shelf_state g.H.Shelf.holding g.H.Shelf.faults g.H.Shelf.failed_name c.fetch_numbers.new.shelf) c.in_err-input.field-0.0
    (λ status bytes a. input c.in_ok-source.source.tree (source_of shelf.held c.args.words.now.source.now c.in_ok-source.source c.in_ok-source.ensures.fact) a) c.in_err-input.ensures)

pub returns-in_err-picks : goal.returns-in_err-picks
returns-in_err-picks g c =
    let w = c.args.words.now in
    let shelf = (shelf_state g.H.Shelf.holding g.H.Shelf.faults g.H.Shelf.failed_name c.args.shelf.now) in
    let middle = (shelf_state g.H.Shelf.holding g.H.Shelf.faults g.H.Shelf.failed_name c.fetch_source.new.shelf) in
    let behind = (shelf_state g.H.Shelf.holding g.H.Shelf.faults g.H.Shelf.failed_name c.fetch_numbers.new.shelf) in
    let numbers : (List ℕ → Holding) → Type 0 = λ held. AreNumbers held Input w.input.now c.in_ok-input.input.items in
    let both = had_behind shelf middle c.in_ok-source.ensures {X = IsRead shelf.held w.source.now c.in_ok-source.source × numbers shelf.held} numbers behind c.in_ok-input.ensures (λ read are. (read, are)) in
    let p = err_from_is_err_and c.from_residual-in_err-picks.result c.from_residual-in_err-picks.ensures.1 in
    rw (p.1, p.2)
    (stopped_behind shelf behind both {A = NumbersAnswers Picks w.picks.now} {B = ReplayAnswers (command_of w)}
    (shelf_state g.H.Shelf.holding g.H.Shelf.faults g.H.Shelf.failed_name c.fetch_picks.new.shelf) c.in_err-picks.field-0.0
    (λ status bytes a. picks c.in_ok-source.source.tree c.in_ok-input.input.items (source_of shelf.held w.source.now c.in_ok-source.source both.fact.0) both.fact.1 a) c.in_err-picks.ensures)
