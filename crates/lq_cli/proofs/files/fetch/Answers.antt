use Rattle.std.proofs.Common.{Err, ap, ◌∙◌, arith}
use Rattle.lq_cli.specs.Files.{unread}
use Rattle.lq_cli.specs.Seen.{shelf_state}
use Rattle.lq_cli.proofs.FileStops.{larger_stops}
use Rattle.lq_cli.proofs.files.fetch.Goals as goal

pub returns-in-Ok-2 : goal.returns-in-Ok-2
returns-in-Ok-2 g c =
    larger_stops c.args.size c.args.name.now (shelf_state g.H.Shelf.holding g.H.Shelf.faults g.H.Shelf.failed_name c.args.shelf.now) (shelf_state g.H.Shelf.holding g.H.Shelf.faults g.H.Shelf.failed_name c.fetch.new.self)
    c.in-Ok.bytes.items c.allowed-allowed.result c.len-in-Ok-2.result c.passed.result c.from.result
    c.from.ensures c.passed.ensures (omega (arith, c.len-in-Ok-2.ensures)) c.allowed-allowed.ensures c.in-Ok.ensures.first
    (omega (arith, c.in-Ok.ensures.within, c.allowed-allowed.ensures)) (grind (arith, c.if-len-allowed.false, c.len.ensures, c.len-in-Ok-2.ensures, c.allowed-allowed.ensures))
    c.in-Ok.ensures.ok_count c.in-Ok.ensures.unchanged

pub returns-in-Err-Failed : goal.returns-in-Err-Failed
returns-in-Err-Failed g c =
    let failed = c.in-Err-Failed.is ∙ ap Err c.in-Err-Failed.field-0-is in
    record { told = unread (c.fetch.ensures.failed_rose failed, c.fetch.ensures.failed_here failed); count = tt; held = c.fetch.ensures.unchanged }
