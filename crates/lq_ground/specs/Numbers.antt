-- The numbers of pre and post templates, and how many effect templates scopes have.
use Rattle.std.specs.Prelude.{ℕ, suc, ◌+◌, ◌==◌, Bool, if◌then◌else◌, List, [], ◌∷◌, Option, None, Some}
use Rattle.lq_linear.specs.Form.{Linear}
use Rattle.lq_templates.specs.declared.condition.Given.{Given}
use Rattle.lq_templates.specs.declared.condition.Given.TheVariants.{Of}
use Rattle.lq_templates.specs.declared.template.Template.{Template}
use Rattle.lq_templates.specs.declared.template.TemplateKind.{TemplateKind}
use Rattle.lq_templates.specs.declared.template.TemplateKind.TheVariants.{Pre, Post, Effect}
use Rattle.lq_ground.specs.Noted.{first_of, number_for}

-- the function of whose entry a template is
abbrev pub pre_of : TemplateKind → Option ℕ
pre_of (Pre func) = Some func
pre_of _ = None

-- the function of whose returns a template is
abbrev pub post_of : TemplateKind → Option ℕ
post_of (Post func) = Some func
post_of _ = None

-- the scope of whose accesses a template is
abbrev pub effect_of : TemplateKind → Option ℕ
effect_of (Effect scope class field write) = Some scope.scope
effect_of _ = None

-- a number is noted for a function, if there is one
abbrev pub noted_too : Option ℕ → (func : Option ℕ) → (number place : ℕ) → Option ℕ
noted_too found None number place = found
noted_too found (Some func) number place = first_of found (number_for func number place)

-- the number of the first template that passes, among those from this number on
abbrev pub first_where : (TemplateKind → Bool) → (number : ℕ) → List Template → Option ℕ
first_where test number [] = None
first_where test number (t ∷ rest) = if test t.kind then Some number else first_where test (suc number) rest

-- its rows at these values, if there is one
abbrev pub rows_of : Option ℕ → List Linear → List Given
rows_of None values = []
rows_of (Some number) values = Of number values ∷ []

-- 1 for the scope, if there is one
abbrev pub one_for : Option ℕ → (scope : ℕ) → ℕ
one_for None scope = 0
one_for (Some other) scope = if other == scope then 1 else 0

-- how many effect templates a scope has
abbrev pub count_effects : (scope : ℕ) → List Template → ℕ
count_effects scope [] = 0
count_effects scope (t ∷ rest) = one_for (effect_of t.kind) scope + count_effects scope rest
