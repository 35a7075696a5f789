use Rattle.std.proofs.Common.{◌≡◌, ◌+◌, sym, ap, ◌∙◌, arith}
use Rattle.std.specs.Prelude.{slice_index, slice_index_or, pos}
use Rattle.std.specs.Int.{w64, cast_signed, cast_unsigned}
use Rattle.std.specs.Slots.{slots_items}
use Rattle.std.proofs.lemmas.Int.{of_z-to_z}
use Rattle.lq_words.proofs.Closing.{read_there, one_more}
use Rattle.lq_words.proofs.memory.values_of.Goals as goal

pub loop-cell-preserved : goal.loop-cell-preserved
loop-cell-preserved c =
    let cell = c.loop-cell.cell in
    let known = c.loop-cell.invariant in
    let words = slots_items c.args.closed.words in
    let pushed = c.push_reserved.ensures in
    let bits : cast_unsigned w64 c.cast_signed.result ≡ slice_index words (cell + 1) =
    ap (cast_unsigned w64) c.cast_signed.ensures ∙ of_z-to_z w64 c.word.result c.word.type_inv ∙ sym (read_there words (cell + 1) c.word.result 0 c.word.ensures)
    in record {
      count = omega arith;
      room = omega arith;
      values = λ k below.
          ap (λ vs. slice_index_or vs k (pos 0)) pushed.items
          ∙ one_more (λ j. cast_signed w64 (slice_index words (j + 1))) c.loop-cell.values.items _ cell (sym c.loop-cell.values.ok.0 ∙ known.count) known.values (ap (cast_signed w64) bits) k below;
    }
