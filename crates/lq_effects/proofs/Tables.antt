-- What is listed in a table, template by template.
use Rattle.std.proofs.Common.{◌≡◌, ℕ, suc, ◌+◌, ◌<◌, ◌==◌, nat_eq, cond, ◌&&◌, List, [], ◌∷◌, ◌++◌, length, take, get_or, filter, unwrap_or, sym, subst, ap, ap₂, ◌∙◌, append_assoc, append-nil, inl, inr, arith}
use Rattle.std.specs.HashMap.{HashMap, IsEmpty}
use Rattle.std.specs.Map.{lookup}
use Rattle.std.proofs.lemmas.List.{take_more, length-take}
use Rattle.std.proofs.lemmas.Bool.Decides.{eqb_tells}
use Rattle.std.proofs.lemmas.List.Elements.{filter-append}
use Rattle.lq_templates.specs.declared.template.Template.{Template}
use Rattle.lq_effects.specs.declared.effect.Effect.{Effect}
use Rattle.lq_effects.specs.Effects.{effect_at, effects_from, effects_of}
use Rattle.lq_effects.specs.Table.{is_on, listed, same_key, AreListed}

-- the effects of one more template
effects_from-append : (scope number : ℕ) (ts : List Template) (t : Template) →
    effects_from scope number (ts ++ t ∷ []) ≡ effects_from scope number ts ++ effect_at scope (number + length ts) t.kind
effects_from-append scope number [] t =
    append-nil (effect_at scope number t.kind) ∙ ap (λ n. effect_at scope n t.kind) (let e : number ≡ number + 0 = omega arith in e)
effects_from-append scope number (x ∷ ts) t =
    let own = effect_at scope number x.kind in
    ap (λ later. own ++ later) (effects_from-append scope (suc number) ts t)
    ∙ sym (append_assoc own (effects_from scope (suc number) ts) (effect_at scope (suc number + length ts) t.kind))
    ∙ ap (λ n. (own ++ effects_from scope (suc number) ts) ++ effect_at scope n t.kind) (let e : suc number + length ts ≡ number + suc (length ts) = omega arith in e)

-- one more template is listed
pub listed_more : {S : Type 0} (ts : List Template) (t : Template) (by_scope more_by_scope : HashMap ℕ (List Effect) S) (by_class more_by_class : HashMap (ℕ × ℕ) (List Effect) S) (number : ℕ) →
    number ≡ 1 + length ts → AreListed ts by_scope by_class →
    ((scope : ℕ) → listed nat_eq more_by_scope scope ≡ listed nat_eq by_scope scope ++ effect_at scope number t.kind) →
    ((scope class : ℕ) → listed same_key more_by_class (scope, class) ≡ listed same_key by_class (scope, class) ++ filter (is_on class) (effect_at scope number t.kind)) →
    AreListed (ts ++ t ∷ []) more_by_scope more_by_class
listed_more ts t by_scope more_by_scope by_class more_by_class number e before scopes classes =
    let more = λ (scope : ℕ). ap (λ n. effects_of ts scope ++ effect_at scope n t.kind) e ∙ sym (effects_from-append scope 1 ts t) in
    record {
      scopes = λ scope. scopes scope ∙ ap (λ es. es ++ effect_at scope number t.kind) (before.scopes scope) ∙ more scope;
      classes = λ scope class.
          classes scope class ∙ ap (λ es. es ++ filter (is_on class) (effect_at scope number t.kind)) (before.classes scope class)
          ∙ sym (filter-append (is_on class) (effects_of ts scope) (effect_at scope number t.kind)) ∙ ap (filter (is_on class)) (more scope);
    }

-- the next template is listed
pub listed_next : {S : Type 0} (ts : List Template) (i : ℕ) (t : Template) (by_scope more_by_scope : HashMap ℕ (List Effect) S) (by_class more_by_class : HashMap (ℕ × ℕ) (List Effect) S) (number : ℕ) →
    i < length ts → t ≡ get_or ts i t → number ≡ 1 + i → AreListed (take i ts) by_scope by_class →
    ((scope : ℕ) → listed nat_eq more_by_scope scope ≡ listed nat_eq by_scope scope ++ effect_at scope number t.kind) →
    ((scope class : ℕ) → listed same_key more_by_class (scope, class) ≡ listed same_key by_class (scope, class) ++ filter (is_on class) (effect_at scope number t.kind)) →
    AreListed (take (i + 1) ts) more_by_scope more_by_class
listed_next ts i t by_scope more_by_scope by_class more_by_class number below is e before scopes classes =
    let front : take (i + 1) ts ≡ take i ts ++ t ∷ [] = take_more ts i t below ∙ ap (λ x. take i ts ++ x ∷ []) (sym is) in
    let numbered : number ≡ 1 + length (take i ts) = omega (arith, length-take i ts) in
    subst (λ front. AreListed front more_by_scope more_by_class) (sym front)
    (listed_more (take i ts) t by_scope more_by_scope by_class more_by_class number numbered before scopes classes)

-- nothing is listed of no templates
pub none_listed : {S : Type 0} (by_scope : HashMap ℕ (List Effect) S) (by_class : HashMap (ℕ × ℕ) (List Effect) S) → IsEmpty by_scope → IsEmpty by_class → AreListed [] by_scope by_class
none_listed by_scope by_class no_scope no_class = record {
  scopes = λ scope. ap (λ entries. unwrap_or (lookup (nat_eq scope) entries) []) no_scope;
  classes = λ scope class. ap (λ entries. unwrap_or (lookup (same_key (scope, class)) entries) []) no_class;
}

-- an effect that is put under its scope
pub scope_put : (scope other : ℕ) (e : Effect) (old : ℕ → List Effect) (new : List Effect) →
    new ≡ cond (nat_eq scope other) (old scope ++ e ∷ []) (old other) → new ≡ old other ++ cond (scope == other) (e ∷ []) []
scope_put scope other e old new is = elim (eqb_tells scope other) [
  | inl same ↦
      is ∙ ap (λ b. cond b (old scope ++ e ∷ []) (old other)) same.0 ∙ ap (λ n. old n ++ e ∷ []) same.1
      ∙ ap (λ b. old other ++ cond b (e ∷ []) []) (sym same.0)
  | inr apart ↦
      is ∙ ap (λ b. cond b (old scope ++ e ∷ []) (old other)) apart.0 ∙ sym (append-nil (old other))
      ∙ ap (λ b. old other ++ cond b (e ∷ []) []) (sym apart.0)
]

-- an effect that is put under its scope and class
pub class_put : (scope class : ℕ) (other : ℕ × ℕ) (e : Effect) (old : ℕ × ℕ → List Effect) (new : List Effect) → e.access.class ≡ class →
    new ≡ cond (same_key (scope, class) other) (old (scope, class) ++ e ∷ []) (old other) →
    new ≡ old other ++ filter (is_on other.1) (cond (scope == other.0) (e ∷ []) [])
class_put scope class other e old new on is = elim (eqb_tells scope other.0) [
  | inl same ↦ elim (eqb_tells class other.1) [
    | inl both ↦
        let key : ◌≡◌ {A = ℕ × ℕ} (scope, class) other = ap₂ (λ a b. (a, b)) same.1 both.1 in
        is ∙ ap₂ (λ a b. cond (a && b) (old (scope, class) ++ e ∷ []) (old other)) same.0 both.0 ∙ ap (λ k. old k ++ e ∷ []) key
        ∙ ap (λ b. old other ++ cond b (e ∷ []) []) (sym (ap (λ c. c == other.1) on ∙ both.0))
        ∙ ap (λ b. old other ++ filter (is_on other.1) (cond b (e ∷ []) [])) (sym same.0)
    | inr apart ↦
        is ∙ ap₂ (λ a b. cond (a && b) (old (scope, class) ++ e ∷ []) (old other)) same.0 apart.0 ∙ sym (append-nil (old other))
        ∙ ap (λ b. old other ++ cond b (e ∷ []) []) (sym (ap (λ c. c == other.1) on ∙ apart.0))
        ∙ ap (λ b. old other ++ filter (is_on other.1) (cond b (e ∷ []) [])) (sym same.0)
  ]
  | inr apart ↦
      is ∙ ap (λ a. cond (a && (class == other.1)) (old (scope, class) ++ e ∷ []) (old other)) apart.0 ∙ sym (append-nil (old other))
      ∙ ap (λ b. old other ++ filter (is_on other.1) (cond b (e ∷ []) [])) (sym apart.0)
]
