-- Templates that are found in the list of all templates are there, and so are those of points of the text.
use Rattle.std.proofs.Common.{ℕ, suc, ◌+◌, ◌≤◌, Bool, true, false, cond, List, [], ◌∷◌, ◌++◌, map, length, arith, length-append}
use Rattle.std.specs.Prelude.{filter, ◌==◌, if◌then◌else◌}
use Rattle.std.specs.List.{AllByRecursion, flat_map}
use Rattle.lq_text.proofs.Lists.{all_joined}
use Rattle.lq_linear.specs.Form.{Linear}
use Rattle.lq_templates.specs.declared.condition.Given.{Given}
use Rattle.lq_templates.specs.declared.condition.Given.TheVariants.{Of}
use Rattle.lq_templates.specs.declared.template.TemplateKind.{TemplateKind}
use Rattle.lq_templates.specs.declared.template.TemplateKind.TheVariants.{Rec, Pre, Post, Join, Loop, Effect}
use Rattle.lq_templates.specs.declared.template.Template.{Template}
use Rattle.lq_templates.specs.Spots.{Spot, join, loop, inner_scope}
use Rattle.lq_templates.specs.Templates.{Env, spot_templates, effect_templates}
use Rattle.lq_effects.specs.declared.effect.Effect.{Effect as EffectOf}
use Rattle.lq_effects.specs.Effects.{effect_at, effects_from, effects_of}
use Rattle.lq_ground.specs.Ground.{rows_where}
use Rattle.lq_conditions.specs.There.{IsNumber, IsThere}

-- ---- lists

pub all_mapped : {X Y : Type 0} (P : Y → Type 0) (Q : X → Type 0) (f : X → Y) → ((x : X) → Q x → P (f x)) → (xs : List X) → AllByRecursion Q xs → AllByRecursion P (map f xs)
all_mapped P Q f by [] h = tt
all_mapped P Q f by (x ∷ xs) h = (by x h.0, all_mapped P Q f by xs h.1)

pub all_flat : {X Y : Type 0} (P : Y → Type 0) (Q : X → Type 0) (f : X → List Y) → ((x : X) → Q x → AllByRecursion P (f x)) → (xs : List X) → AllByRecursion Q xs → AllByRecursion P (flat_map f xs)
all_flat P Q f by [] h = tt
all_flat P Q f by (x ∷ xs) h = all_joined P (f x) (flat_map f xs) (by x h.0) (all_flat P Q f by xs h.1)

pub all_any : {X : Type 0} (xs : List X) → AllByRecursion (λ x. Unit {0}) xs
all_any [] = tt
all_any (x ∷ xs) = (tt, all_any xs)

all_cond : {X : Type 0} (P : X → Type 0) (test : Bool) (x : X) (xs : List X) → P x → AllByRecursion P xs → AllByRecursion P (cond test (x ∷ xs) xs)
all_cond P true x xs h k = (h, k)
all_cond P false x xs h k = k

pub all_filtered : {X : Type 0} (P : X → Type 0) (test : X → Bool) (xs : List X) → AllByRecursion P xs → AllByRecursion P (filter test xs)
all_filtered P test [] h = tt
all_filtered P test (x ∷ xs) h = all_cond P (test x) x (filter test xs) h.0 (all_filtered P test xs h.1)

-- ---- templates that are found

abbrev IsNumbered : (count : ℕ) → EffectOf → Type 0
IsNumbered count e = IsNumber count e.number

if_there : (count : ℕ) (test : Bool) (e : EffectOf) → IsNumber count e.number → AllByRecursion (IsNumbered count) (if test then e ∷ [] else [])
if_there count true e h = (h, tt)
if_there count false e h = tt

effect_there : (count scope number : ℕ) (kind : TemplateKind) → IsNumber count number → AllByRecursion (IsNumbered count) (effect_at scope number kind)
effect_there count scope number (Effect ref class field write) h =
    if_there count (ref.scope == scope) (record { number = number; access = record { class = class; field = field; write = write } }) h
effect_there count scope number (Rec class) h = tt
effect_there count scope number (Pre f) h = tt
effect_there count scope number (Post f) h = tt
effect_there count scope number Join h = tt
effect_there count scope number Loop h = tt

effects_from_there : (count scope number : ℕ) (templates : List Template) → 1 ≤ number → number + length templates ≤ suc count → AllByRecursion (IsNumbered count) (effects_from scope number templates)
effects_from_there count scope number [] h k = tt
effects_from_there count scope number (t ∷ rest) h k =
    all_joined (IsNumbered count) (effect_at scope number t.kind) (effects_from scope (suc number) rest)
    (effect_there count scope number t.kind (record { from_one = h; within = omega arith }))
    (effects_from_there count scope (suc number) rest (omega arith) (omega arith))

-- the effect templates of a scope
pub effects_there : (templates : List Template) (scope : ℕ) → AllByRecursion (λ e. IsNumber (length templates) e.number) (effects_of templates scope)
effects_there templates scope = effects_from_there (length templates) scope 1 templates (omega arith) (omega arith)

if_rows : (count : ℕ) (test : Bool) (number : ℕ) (values : List Linear) (rest : List Given) → IsNumber count number → AllByRecursion (IsThere count) rest → AllByRecursion (IsThere count) (if test then Of number values ∷ [] else rest)
if_rows count true number values rest h k = (h, tt)
if_rows count false number values rest h k = k

rows_from_there : (count : ℕ) (test : TemplateKind → Bool) (number : ℕ) (templates : List Template) (values : List Linear) → 1 ≤ number → number + length templates ≤ suc count → AllByRecursion (IsThere count) (rows_where test number templates values)
rows_from_there count test number [] values h k = tt
rows_from_there count test number (t ∷ rest) values h k =
    if_rows count (test t.kind) number values (rows_where test (suc number) rest values) (record { from_one = h; within = omega arith })
    (rows_from_there count test (suc number) rest values (omega arith) (omega arith))

-- the pre and post templates
pub rows_there : (test : TemplateKind → Bool) (templates : List Template) (values : List Linear) → AllByRecursion (IsThere (length templates)) (rows_where test 1 templates values)
rows_there test templates values = rows_from_there (length templates) test 1 templates values (omega arith) (omega arith)

-- ---- templates of points of the text

-- points further on have no fewer
pub spots_grow : (env : Env) (scopes : ℕ) (spots more : List Spot) → length (spot_templates env scopes spots) ≤ length (spot_templates env scopes (spots ++ more))
spots_grow env scopes [] more = omega arith
spots_grow env scopes (join changed scope ∷ spots) more = omega (arith, spots_grow env scopes spots more)
spots_grow env scopes (loop changed scope ∷ spots) more = omega (arith, spots_grow env scopes spots more)
spots_grow env scopes (inner_scope at body scope ∷ spots) more =
    omega (
      arith,
      spots_grow env (suc scopes) spots more,
      length-append (effect_templates env scopes at body scope) (spot_templates env (suc scopes) spots),
      length-append (effect_templates env scopes at body scope) (spot_templates env (suc scopes) (spots ++ more)),
    )

-- a join or a loop is one more
pub data IsOne : Spot → Type 0 where
  a_join : {changed scope : List ℕ} → IsOne (join changed scope)
  a_loop : {changed scope : List ℕ} → IsOne (loop changed scope)

pub one_more : (env : Env) (scopes : ℕ) (spots : List Spot) (spot : Spot) → IsOne spot → suc (length (spot_templates env scopes spots)) ≤ length (spot_templates env scopes (spots ++ spot ∷ []))
one_more env scopes [] (join changed scope) h = omega arith
one_more env scopes [] (loop changed scope) h = omega arith
one_more env scopes [] (inner_scope at body scope) h = elim h [ ]
one_more env scopes (join changed scope ∷ spots) spot h = omega (arith, one_more env scopes spots spot h)
one_more env scopes (loop changed scope ∷ spots) spot h = omega (arith, one_more env scopes spots spot h)
one_more env scopes (inner_scope at body scope ∷ spots) spot h =
    omega (
      arith,
      one_more env (suc scopes) spots spot h,
      length-append (effect_templates env scopes at body scope) (spot_templates env (suc scopes) spots),
      length-append (effect_templates env scopes at body scope) (spot_templates env (suc scopes) (spots ++ spot ∷ [])),
    )
