use Rattle.std.proofs.Common.{List, Option, ℕ, ap, ◌∙◌, slice_get}
use Rattle.std.proofs.lemmas.Result.{on_ok_weaker}
use Rattle.lq_ground.specs.Noted.{row_of}
use Rattle.lq_ground.proofs.NumberLemmas.{noted-in}
use Rattle.lq_ground.proofs.noted.note_in.Goals as goal

pub returns : goal.returns
returns c =
    on_ok_weaker c.put_row.result (λ put n m.
    noted-in c.args.rows.now c.put_row.new.rows c.in_ok-row.row c.note.new.table c.args.at c.args.place c.args.number n m
    (c.in_ok-row.ensures ∙ ap (λ (rows : List (List (Option ℕ))). row_of (slice_get rows c.args.at)) c.as_slice.ensures) c.in_ok-note.ensures put) c.put_row.ensures
