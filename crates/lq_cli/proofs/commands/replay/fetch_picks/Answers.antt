use Rattle.lq_cli.specs.declared.numbers.NumbersFile.TheVariants.{Picks}
use Rattle.lq_cli.specs.Numbers.{AreNumbers}
use Rattle.lq_cli.specs.Seen.{shelf_state}
use Rattle.lq_cli.proofs.NumbersStops.{are_picks}
use Rattle.lq_cli.proofs.Readings.{had_more}
use Rattle.lq_cli.proofs.commands.replay.fetch_picks.Goals as goal

pub returns : goal.returns
returns g c =
    had_more (shelf_state g.H.Shelf.holding g.H.Shelf.faults g.H.Shelf.failed_name c.args.shelf.now) (shelf_state g.H.Shelf.holding g.H.Shelf.faults g.H.Shelf.failed_name c.fetch_numbers.new.shelf)
    (are_picks (g.H.Shelf.holding c.args.shelf.now) c.args.name.now c.in_ok-numbers.numbers.items c.in_ok-picks_of.field-0.items (rw c.deref.ensures.value at c.in_ok-picks_of.ensures)) c.in_ok-numbers.ensures
