-- A write moves its bytes from what is left to what has been written.
use Rattle.std.proofs.Common.{◌≡◌, ℕ, ◌+◌, ◌-◌, List, ◌++◌, length, take, drop, sym, ◌∙◌, ap, subst}
use Rattle.std.specs.Prelude.{Option}
use Rattle.std.specs.Io.KnownBytes.{Appends}
use Rattle.std.proofs.KnownBytes.{Appends-trans}
use Rattle.std.proofs.lemmas.List.{take_rest, drop-drop}
use lib.Seq.{take-add}
use Rattle.lq_shelf.proofs.writer_sink.write_whole.Goals as goal

left_after : (all rest : List ℕ) (done n : ℕ) → rest ≡ drop done all → take (length rest - n) (drop n rest) ≡ drop (done + n) all
left_after all rest done n left = take_rest rest n ∙ ap (drop n) left ∙ drop-drop n done all

written_after : (a b c : Option (List ℕ)) (all rest : List ℕ) (done n : ℕ) → rest ≡ drop done all → Appends a b (take done all) → Appends b c (take n rest) → Appends a c (take (done + n) all)
written_after a b c all rest done n left before now =
    let joined : take done all ++ take n rest ≡ take (done + n) all = ap (λ l. take done all ++ take n l) left ∙ sym (take-add done n all) in
    subst (Appends a c) joined (Appends-trans a b c (take done all) (take n rest) before now)

pub pieces-preserved : goal.pieces-preserved
pieces-preserved g c =
    let (done, left, before) = c.pieces.invariant in
    let n = c.in_ok-count.count in
    (done + n, left_after c.args.bytes.now c.pieces.rest.now done n left, written_after _ _ _ c.args.bytes.now c.pieces.rest.now done n left before c.in_ok-count.ensures.bytes)
