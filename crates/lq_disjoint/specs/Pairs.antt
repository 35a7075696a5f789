-- What is asked of each two branches of a parallel statement (docs/CHECKING.md, "Pairs").
use Rattle.std.specs.Prelude.{ℕ, ◌+◌, ◌==◌, Bool, ◌&&◌, ◌||◌, List, [], ◌∷◌, ◌++◌, map, filter, ℤ}
use Rattle.std.specs.List.{flat_map}
use Rattle.lq_tree.specs.declared.place.Place.{Place}
use Rattle.lq_linear.specs.Form.{Linear}
use Rattle.lq_linear.specs.Row.{Inequality}
use Rattle.lq_linear.specs.Collect.{symbol}
use Rattle.lq_linear.specs.Sides.{at_most, plus, below}
use Rattle.lq_templates.specs.declared.condition.Given.{Given}
use Rattle.lq_templates.specs.declared.condition.Rule.TheVariants.{Pair}
use Rattle.lq_templates.specs.declared.condition.Site.{Site}
use Rattle.lq_templates.specs.declared.condition.Condition.{Condition}
use Rattle.lq_templates.specs.declared.template.Template.{Template}
use Rattle.lq_templates.specs.Accesses.{Access}
use Rattle.lq_templates.specs.Conditions.{asks, absurdity}
use Rattle.lq_symbolic.specs.declared.state.SymState.{SymState as State}
use Rattle.lq_symbolic.specs.State.{with_rows}
use Rattle.lq_effects.specs.declared.effect.Effect.{Effect}
use Rattle.lq_effects.specs.Effects.{effects_of, effect_rows}
use Rattle.lq_disjoint.specs.declared.beside.Beside.{Beside}

-- two accesses may not meet: both write, to any fields of the record, or one writes the field that the other reads
abbrev pub clash : Access → Access → Bool
clash a b = a.class == b.class && ((a.write && b.write) || (a.field == b.field && (a.write || b.write)))

-- where a pair is asked: at a statement, between two blocks, of two accesses
abbrev pub pair_site : Place → (first second : Place) → (a b : Access) → Site
pair_site at first second a b =
    record { at = at; first = first; second = second; class = a.class; kinds = (a.write, b.write); fields = (a.field, b.field) }

-- one element in the effects of both: the facts must contradict each other
abbrev pub asked_pair : Place → (facts : List Given) → (element : Linear) → (first second : Beside) → (a b : Effect) → Condition
asked_pair at facts element first second a b =
    asks Pair (pair_site at first.place second.place a.access b.access)
    (facts ++ effect_rows a element first.start.values ∷ effect_rows b element second.start.values ∷ []) absurdity

-- the effects of a scope that an effect may not meet
abbrev pub clashing : List Template → (scope : ℕ) → Effect → List Effect
clashing templates scope a = filter (λ (b : Effect). clash a.access b.access) (effects_of templates scope)

-- the effects of the first branch in order, and for each of them those of the second that it may not meet; effects stand in order of class
abbrev pub asked_pairs : List Template → Place → (facts : List Given) → (element : Linear) → (first second : Beside) → List Condition
asked_pairs templates at facts element first second =
    flat_map (λ (a : Effect). map (asked_pair at facts element first second a) (clashing templates second.start.scope a))
    (effects_of templates first.start.scope)

-- each two blocks of a `cobegin`: the first with the second, the first with the third and so on
abbrev pub asked_cobegin : List Template → Place → (facts : List Given) → (element : Linear) → List Beside → List Condition
asked_cobegin templates at facts element [] = []
asked_cobegin templates at facts element (first ∷ later) =
    flat_map (asked_pairs templates at facts element first) later ++ asked_cobegin templates at facts element later

-- two iterations of a `foreach` with these indices, the first of them earlier: `low <= i`, `i + step <= j`, `j + 1 <= high`
abbrev pub apart : (low high : Linear) → (step : ℤ) → (i j : Linear) → List Inequality
apart low high step i j = at_most low i ∷ at_most (plus i step) j ∷ below j high ∷ []

-- each two iterations of a `foreach`, on two new indices and a new element; they start with the indices
abbrev pub asked_iterations : List Template → Place → (low high : Linear) → (step : ℤ) → State → (first second : Beside) → List Condition
asked_iterations templates at low high step s first second =
    let facts = (with_rows (apart low high step (symbol s.next) (symbol (s.next + 1))) s).items in
    asked_pairs templates at facts (symbol (s.next + 2)) first second
