-- What scopes are asked about accesses (docs/CHECKING.md, "Statements").
use Rattle.std.specs.Prelude.{ℕ, suc, ◌==◌, if◌then◌else◌, List, [], ◌∷◌, ◌++◌, map, filter}
use Rattle.std.specs.List.{flat_map}
use Rattle.lq_linear.specs.Form.{Linear}
use Rattle.lq_linear.specs.Collect.{symbol}
use Rattle.lq_templates.specs.declared.condition.Given.{Given}
use Rattle.lq_templates.specs.declared.condition.Given.TheVariants.{Of}
use Rattle.lq_templates.specs.declared.condition.Rule.TheVariants.{Effect as EffectRule}
use Rattle.lq_templates.specs.declared.condition.Site.{Site}
use Rattle.lq_templates.specs.declared.condition.Condition.{Condition}
use Rattle.lq_templates.specs.declared.template.TemplateKind.{TemplateKind}
use Rattle.lq_templates.specs.declared.template.TemplateKind.TheVariants.{Effect as EffectTemplate}
use Rattle.lq_templates.specs.declared.template.Template.{Template}
use Rattle.lq_templates.specs.Accesses.{Access, same_access}
use Rattle.lq_templates.specs.Conditions.{asks}
use Rattle.lq_symbolic.specs.declared.state.Start.{Start}
use Rattle.lq_symbolic.specs.declared.state.SymState.{SymState as State}
use Rattle.lq_effects.specs.declared.effect.Effect.{Effect}

-- the template with this number, if it is an effect template of the scope
abbrev pub effect_at : (scope number : ℕ) → TemplateKind → List Effect
effect_at scope number (EffectTemplate ref class field write) =
    if ref.scope == scope then record { number = number; access = record { class = class; field = field; write = write } } ∷ [] else []
effect_at scope number _ = []

-- the effect templates of a scope among the templates from this number on
abbrev pub effects_from : (scope number : ℕ) → List Template → List Effect
effects_from scope number [] = []
effects_from scope number (t ∷ rest) = effect_at scope number t.kind ++ effects_from scope (suc number) rest

-- the effect templates of a scope; templates are numbered from 1
abbrev pub effects_of : List Template → (scope : ℕ) → List Effect
effects_of templates scope = effects_from scope 1 templates

-- the rows of an effect template at an element and the values of its scope's names
abbrev pub effect_rows : Effect → (element : Linear) → (values : List Linear) → Given
effect_rows e element values = Of e.number (element ∷ values)

-- a scope is asked about an access to an element
abbrev pub asked_of : List Template → Site → (facts : List Given) → Access → (element : Linear) → Start → List Condition
asked_of templates site facts access element start =
    map (λ e. asks EffectRule site facts (effect_rows e element start.values))
    (filter (λ (e : Effect). same_access e.access access) (effects_of templates start.scope))

-- each scope around is asked, innermost first
abbrev pub asked_access : List Template → Site → (facts : List Given) → Access → (element : Linear) → State → List Condition
asked_access templates site facts access element s = flat_map (asked_of templates site facts access element) s.scopes

-- what a called function may access, on a new element: its rows are further facts
abbrev pub asked_call : List Template → Site → (values : List Linear) → State → Effect → List Condition
asked_call templates site values s e =
    let element = symbol s.next in
    asked_access templates site (s.items ++ effect_rows e element values ∷ []) e.access element s

-- each effect template of the function that is called, whose scope and parameters these are
abbrev pub asked_calls : List Template → Site → (scope : ℕ) → (values : List Linear) → State → List Condition
asked_calls templates site scope values s = flat_map (asked_call templates site values s) (effects_of templates scope)
