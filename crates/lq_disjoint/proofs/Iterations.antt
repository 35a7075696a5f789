-- The facts of two iterations.
use Rattle.std.proofs.Common.{◌≡◌, ℕ, ◌+◌, ℤ, List, Option, None, Some, ap, ◌∙◌}
use Rattle.std.specs.Option.{SomeIff}
use Rattle.lq_tree.specs.declared.place.Place.{Place}
use Rattle.lq_linear.specs.Form.{Linear}
use Rattle.lq_linear.specs.Collect.{symbol}
use Rattle.lq_linear.specs.Sides.{at_most, plus, below}
use Rattle.lq_templates.specs.declared.template.Template.{Template}
use Rattle.lq_tally.specs.declared.tally.Tally.{Tally}
use Rattle.lq_tally.specs.Tally.{tallied}
use Rattle.lq_symbolic.specs.declared.state.SymState.{SymState as State}
use Rattle.lq_symbolic.specs.State.{with_row, with_rows}
use Rattle.lq_disjoint.specs.declared.beside.Beside.{Beside}
use Rattle.lq_disjoint.specs.Pairs.{apart, asked_pairs, asked_iterations}

-- the number that a sum is, where it fits
pub sum_is : (P : Type 0) (found : Option ℕ) (sum n : ℕ) → SomeIff found P sum → found ≡ Some n → n ≡ sum
sum_is P None sum n h is = absurd cc
sum_is P (Some x) sum n h is = let same : x ≡ sum = h.1 in cc

-- a state that learns the rows of two iterations one after the other
rows_learned : (low high : Linear) (step : ℤ) (s fork one two three : State) (earlier later least : Linear) →
    earlier ≡ symbol s.next → later ≡ symbol (s.next + 1) → least ≡ plus (symbol s.next) step → fork ≡ s →
    one ≡ with_row (at_most low earlier) fork → two ≡ with_row (at_most least later) one → three ≡ with_row (below later high) two →
    three ≡ with_rows (apart low high step (symbol s.next) (symbol (s.next + 1))) s
rows_learned low high step s fork one two three earlier later least is_earlier is_later is_least is_fork first second third =
    let learned = λ (i j l : Linear) (from : State). with_row (below j high) (with_row (at_most l j) (with_row (at_most low i) from)) in
    third ∙ ap (λ from. with_row (below later high) from) second ∙ ap (λ from. with_row (below later high) (with_row (at_most least later) from)) first
    ∙ ap (learned earlier later least) is_fork ∙ ap (λ i. learned i later least s) is_earlier
    ∙ ap (λ j. learned (symbol s.next) j least s) is_later ∙ ap (λ l. learned (symbol s.next) (symbol (s.next + 1)) l s) is_least

-- the pairs of two iterations are asked with these facts
pub iterations_are : (templates : List Template) (at : Place) (low high : Linear) (step : ℤ) (s fork one two three : State) (first second : Beside) (last : ℕ) (earlier later least element : Linear) (now out : Tally) →
    last ≡ s.next + 2 → earlier ≡ symbol s.next → later ≡ symbol (s.next + 1) → least ≡ plus (symbol s.next) step → element ≡ symbol last → fork ≡ s →
    one ≡ with_row (at_most low earlier) fork → two ≡ with_row (at_most least later) one → three ≡ with_row (below later high) two →
    out ≡ tallied (asked_pairs templates at three.items element first second) now →
    out ≡ tallied (asked_iterations templates at low high step s first second) now
iterations_are templates at low high step s fork one two three first second last earlier later least element now out is_last is_earlier is_later is_least is_element is_fork a b c asked =
    let rows = rows_learned low high step s fork one two three earlier later least is_earlier is_later is_least is_fork a b c in
    asked ∙ ap (λ (t : State). tallied (asked_pairs templates at t.items element first second) now) rows
    ∙ ap (λ e. tallied (asked_pairs templates at (with_rows (apart low high step (symbol s.next) (symbol (s.next + 1))) s).items e first second) now) (is_element ∙ ap symbol is_last)
