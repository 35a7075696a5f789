use Rattle.std.proofs.Common.{ap, ◌∙◌}
use Rattle.lq_rule.specs.Steps.{Seated}
use Rattle.lq_words.specs.Part.{value_at, holding_of}
use Rattle.lq_words.proofs.Holdings.{opening_zero}
use Rattle.lq_words.proofs.memory.WordMemory.make.Goals as goal

pub returns-clause-zeros : goal.returns-clause-zeros
returns-clause-zeros c = λ cell.
    ap (λ (m : Seated). value_at (holding_of c.in_ok-table.seat.table_id m) cell) c.in_ok-table.ensures.4 ∙ opening_zero c.in_ok-table.seat.table_id record { cells = c.args.cells; units = c.args.workers } cell
