use Rattle.std.proofs.Common.{Err, ap}
use Rattle.lq_cli.proofs.NumbersStops.{bad_line_told}
use Rattle.lq_cli.proofs.numbers.read_lines.Goals as goal

pub returns-in-Err-BadLine-clause-told : goal.returns-in-Err-BadLine-clause-told
returns-in-Err-BadLine-clause-told c =
    bad_line_told c.args.kind c.args.text.now c.in-Err-BadLine.line c.least.result c.least.ensures
    (c.in-Err-BadLine.ensures.bad_line c.in-Err-BadLine.line (ap Err c.in-Err-BadLine.field-0-is))
