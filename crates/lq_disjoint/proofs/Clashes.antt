-- Effects that clash, and the conditions of their pairs.
use Rattle.std.proofs.Common.{◌≡◌, ℕ, ◌≤◌, ◌==◌, List, ◌∷◌, length, map, filter, sym, ap, ◌∙◌}
use Rattle.std.specs.List.{flat_map}
use Rattle.std.proofs.lemmas.Bool.{eqb-true, eq-eqb}
use Rattle.std.proofs.lemmas.List.{length-map}
use Rattle.lq_tree.specs.declared.place.Place.{Place}
use Rattle.lq_linear.specs.Form.{Linear}
use Rattle.lq_templates.specs.declared.condition.Given.{Given}
use Rattle.lq_templates.specs.declared.template.Template.{Template}
use Rattle.lq_tally.specs.declared.tally.Tally.{Tally}
use Rattle.lq_tally.specs.Tally.{tallied}
use Rattle.lq_tally.proofs.Tallies.{tallied_again, tallied_full}
use Rattle.lq_effects.specs.declared.effect.Effect.{Effect}
use Rattle.lq_effects.specs.Effects.{effects_of}
use Rattle.lq_effects.specs.Table.{is_on, effects_on}
use Rattle.lq_effects.specs.Counted.{counted}
use Rattle.lq_effects.proofs.Asking.{filter_within, first_passes, length-flat_map_same}
use Rattle.lq_disjoint.specs.declared.beside.Beside.{Beside}
use Rattle.lq_disjoint.specs.Pairs.{clash, clashing, asked_pair, asked_pairs, asked_cobegin}

-- what clashes with an effect is among the effects on its class
pub clashing-on : (templates : List Template) (scope : ℕ) (a : Effect) →
    filter (λ (b : Effect). clash a.access b.access) (effects_on templates scope a.access.class) ≡ clashing templates scope a
clashing-on templates scope a =
    filter_within (λ (b : Effect). clash a.access b.access) (is_on a.access.class)
    (λ b met. eq-eqb b.access.class a.access.class (sym (eqb-true a.access.class b.access.class (first_passes (a.access.class == b.access.class) _ met))))
    (effects_of templates scope)

-- where no more are kept, the pairs are counted
pub pairs_full : (templates : List Template) (at : Place) (facts : List Given) (element : Linear) (first second : Beside) (now later : Tally) → 4096 ≤ length now.kept →
    later ≡ counted (length (flat_map (clashing templates second.start.scope) (effects_of templates first.start.scope))) now →
    later ≡ tallied (asked_pairs templates at facts element first second) now
pairs_full templates at facts element first second now later full is =
    let as_many : length (flat_map (clashing templates second.start.scope) (effects_of templates first.start.scope)) ≡ length (asked_pairs templates at facts element first second) =
    length-flat_map_same (clashing templates second.start.scope) (λ (a : Effect). map (asked_pair at facts element first second a) (clashing templates second.start.scope a))
    (λ a. sym (length-map (clashing templates second.start.scope a) (asked_pair at facts element first second a))) (effects_of templates first.start.scope) in
    is ∙ ap (λ n. counted n now) as_many ∙ tallied_full (asked_pairs templates at facts element first second) now full

-- the pairs of the first block, and then those of the later ones among themselves
pub cobegin_next : (templates : List Template) (at : Place) (facts : List Given) (element : Linear) (first : Beside) (later : List Beside) (now next : Tally) →
    next ≡ tallied (flat_map (asked_pairs templates at facts element first) later) now →
    tallied (asked_cobegin templates at facts element later) next ≡ tallied (asked_cobegin templates at facts element (first ∷ later)) now
cobegin_next templates at facts element first later now next is =
    ap (tallied (asked_cobegin templates at facts element later)) is
    ∙ tallied_again (flat_map (asked_pairs templates at facts element first) later) (asked_cobegin templates at facts element later) now
