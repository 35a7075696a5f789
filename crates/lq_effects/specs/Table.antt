-- The effects of a program, found by their scope, and by their scope and class.
use Rattle.std.specs.Prelude.{◌≡◌, ℕ, ◌==◌, nat_eq, Bool, ◌&&◌, List, [], filter, unwrap_or}
use Rattle.std.specs.HashMap.{HashMap, get}
use Rattle.lq_templates.specs.declared.template.Template.{Template}
use Rattle.lq_effects.specs.declared.effect.Effect.{Effect}
use Rattle.lq_effects.specs.Effects.{effects_of}

-- an effect is one on this class
abbrev pub is_on : (class : ℕ) → Effect → Bool
is_on class e = e.access.class == class

-- the effects of a scope on a class
abbrev pub effects_on : List Template → (scope class : ℕ) → List Effect
effects_on templates scope class = filter (is_on class) (effects_of templates scope)

-- what is listed under a key: nothing where there is no list
abbrev pub listed : {K S : Type 0} → (eq : K → K → Bool) → HashMap K (List Effect) S → K → List Effect
listed eq lists key = unwrap_or (get eq lists key) []

-- two keys of a scope and a class are equal
abbrev pub same_key : ℕ × ℕ → ℕ × ℕ → Bool
same_key a b = a.0 == b.0 && a.1 == b.1

-- the effects of these templates are listed under their scopes, and under their scopes and classes
pub record AreListed {S : Type 0} (templates : List Template) (by_scope : HashMap ℕ (List Effect) S) (by_class : HashMap (ℕ × ℕ) (List Effect) S) : Type 0 where
  pub scopes : (scope : ℕ) → listed nat_eq by_scope scope ≡ effects_of templates scope
  pub classes : (scope class : ℕ) → listed same_key by_class (scope, class) ≡ effects_on templates scope class
