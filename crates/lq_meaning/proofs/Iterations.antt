-- The iterations of a `foreach`.
use Rattle.std.proofs.Common.{◌≡◌, ℕ, zero, suc, ◌+◌, ◌-◌, ◌/◌, ◌^◌, ◌<◌, ◌≤◌, ℤ, pos, negsuc, ◌-ℤ◌, ◌<ℤ◌, false, nat_lt, refl, ap, ◌∙◌, sym, arith}
use Rattle.std.specs.Prelude.{nat_abs}
use Rattle.std.specs.Borrow.{Bor}
use Rattle.std.proofs.Math.Nat.{add-div_right}
use Rattle.std.proofs.lemmas.Int.{ints}
use Rattle.lq_tree.specs.declared.place.Place.{Place}
use Rattle.lq_tree.specs.declared.plain.PExpr.{PExpr}
use Rattle.lq_tree.specs.declared.plain.PKind.{Foreach}
use Rattle.lq_tree.specs.declared.plain.Branch.{Branch}
use Rattle.lq_tree.specs.declared.plain.PProgram.{PProgram}
use Rattle.lq_meaning.specs.declared.line.Stop.TheVariants.{Iterations}
use Rattle.lq_meaning.specs.Operators.{Computes}
use Rattle.lq_meaning.specs.Control.{count_below, iteration_count}
use Rattle.lq_meaning.specs.PlainMeaning.{Slots, value}
use Rattle.lq_meaning.specs.Moves.{StandsFor}

counted_from : (distance : ℤ) (step : ℕ) → pos 0 <ℤ distance → 0 < step → (nat_abs distance - 1) / step + 1 ≡ count_below distance step
counted_from (pos d) step above some =
    let e : d - 1 + step ≡ d + (step - 1) = omega (arith, ints) in sym (add-div_right (d - 1) {k = step} some) ∙ ap (λ n. n / step) e
counted_from (negsuc n) step above some = absurd (omega (arith, ints))

-- how many iterations there are, by the distance of the ends
pub counted_by : (low high : ℤ) (step distance : ℕ) → distance ≡ nat_abs (high -ℤ low) → low <ℤ high → 0 < step → (distance - 1) / step + 1 ≡ iteration_count low high step
counted_by low high step distance is above some =
    let far : pos 0 <ℤ (high -ℤ low) = omega (arith, ints) in ap (λ n. (n - 1) / step + 1) is ∙ counted_from (high -ℤ low) step far some

-- a line that stands in front of a `foreach`
pub foreaches : (p : PProgram) (at : Place) (slot : ℕ) (low high : PExpr) (step : ℤ) (branch : Bor Branch) (slots : Slots) (from to : ℤ) (count : ℕ)
    → value slots low ≡ Computes from → value slots high ≡ Computes to → count ≡ iteration_count from to (nat_abs step) → 0 < count → count ≤ 2 ^ 20
    → StandsFor p at (Foreach slot low high step branch.now) slots (Iterations at slot from (nat_abs step) count branch)
foreaches p at slot low high step branch slots from to zero first last is some few = absurd (omega arith)
foreaches p at slot low high step branch slots from to (suc n) first last is some few =
    let fits : nat_lt (2 ^ 20) (suc n) ≡ false = grind arith in
    record { same = λ turns branch left next passed. rw (first, last, ← is, fits) refl; few = λ turns. tt }
