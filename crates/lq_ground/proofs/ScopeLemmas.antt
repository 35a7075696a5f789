-- How many scopes there are before a function and at a point of its text.
use Rattle.std.proofs.Common.{◌≡◌, ℕ, zero, suc, ◌+◌, ◌-◌, ◌<◌, ◌≤◌, ◌==◌, ◌&&◌, cond, List, [], ◌∷◌, ◌++◌, length, get_or, true, false, refl, ap, sym, ◌∙◌, arith, below_more}
use Rattle.std.proofs.lemmas.Bool.{ne_eqb}
use Rattle.std.proofs.lemmas.List.{length_push, get_or_append_left, get_or_push}
use Rattle.lq_tree.specs.declared.plain.PKind.{PKind, Set, Load, Store, Calloc, Call, If', While', Cobegin', Foreach, Print, Return}
use Rattle.lq_tree.specs.declared.plain.PFunc.{PFunc}
use Rattle.lq_tree.specs.declared.plain.Branch.{Branch, out-Branch}
use Rattle.lq_templates.specs.Lives.{list_lives}
use Rattle.lq_templates.specs.Spots.{Spot, join, loop, inner_scope, Walk, spot_at, where_changed, changed, passed, spots}
use Rattle.lq_templates.specs.Templates.{count_scopes}
use Rattle.lq_templates.proofs.ReadingLemmas.{begun, branch_spot}
use Rattle.lq_ground.specs.Ground.{function_scope}
use Rattle.lq_ground.specs.Scopes.{AreScopes}

pub count-append : (xs ys : List Spot) → count_scopes (xs ++ ys) ≡ count_scopes xs + count_scopes ys
count-append [] ys = omega arith
count-append (join changed scope ∷ xs) ys = count-append xs ys
count-append (loop changed scope ∷ xs) ys = count-append xs ys
count-append (inner_scope at body scope ∷ xs) ys = let more = count-append xs ys in omega (arith, more)

count-joins : (scope changed : List ℕ) → count_scopes (where_changed (λ c. join c scope) changed) ≡ 0
count-joins scope [] = refl
count-joins scope (n ∷ changed) = refl

count-loops : (scope changed : List ℕ) → count_scopes (where_changed (λ c. loop c scope) changed) ≡ 0
count-loops scope [] = refl
count-loops scope (n ∷ changed) = refl

-- an If or a While is no scope
pub count-spot : (scope : List ℕ) (kind : PKind) → count_scopes (spot_at scope kind) ≡ 0
count-spot scope (If' e n body m other) =
    elim (list_lives body && list_lives other) as (λ b. count_scopes (cond b (where_changed (λ c. join c scope) (changed scope (If' e n body m other))) []) ≡ 0) [
      | true ↦ count-joins scope (changed scope (If' e n body m other))
      | false ↦ refl
    ]
count-spot scope (While' n head e m body) = count-loops scope (changed scope (While' n head e m body))
count-spot scope (Set to e) = refl
count-spot scope (Load to base index field) = refl
count-spot scope (Store base index field e) = refl
count-spot scope (Calloc to size type) = refl
count-spot scope (Call to function args) = refl
count-spot scope (Cobegin' n blocks) = refl
count-spot scope (Foreach index low high step branch) = refl
count-spot scope (Print e) = refl
count-spot scope (Return e) = refl

pub count-begun : (kind : PKind) (w : Walk) → count_scopes (begun kind w).spots ≡ count_scopes w.spots
count-begun kind w = let both = count-append w.spots (spot_at w.scope kind) in let none = count-spot w.scope kind in omega (arith, both, none)

-- a branch is one
pub count-branch : (b : Branch) (w : Walk) → count_scopes (passed (branch_spot (out-Branch b).at (out-Branch b).body w.scope) w).spots ≡ count_scopes w.spots + 1
count-branch b w = count-append w.spots (branch_spot (out-Branch b).at (out-Branch b).body w.scope)

-- ---- the functions

-- behind the first function
pub scope_later : (g : PFunc) (funcs : List PFunc) (n : ℕ) → function_scope (g ∷ funcs) (suc n) ≡ suc (count_scopes (spots g)) + function_scope funcs n
scope_later g funcs n =
    let other : (suc n == 0) ≡ false = ne_eqb (suc n) 0 (omega arith) in
    let back : suc n - 1 ≡ n = omega arith in
    ap (λ b. cond b 0 (suc (count_scopes (spots g)) + function_scope funcs (suc n - 1))) other ∙ ap (λ k. suc (count_scopes (spots g)) + function_scope funcs k) back

-- before any function none comes
pub scope_first : (funcs : List PFunc) → function_scope funcs 0 ≡ 0
scope_first [] = refl
scope_first (g ∷ funcs) = refl

-- one function more
pub scope_more : (funcs : List PFunc) (n : ℕ) (f : PFunc) → n < length funcs → f ≡ get_or funcs n f → function_scope funcs (n + 1) ≡ suc (function_scope funcs n + count_scopes (spots f))
scope_more [] n f low is = absurd (omega (arith, low))
scope_more (g ∷ funcs) zero f low is =
    let e : f ≡ g = is in
    let size = ap (λ (h : PFunc). count_scopes (spots h)) e in
    let next : 0 + 1 ≡ suc 0 = omega arith in
    let one : function_scope (g ∷ funcs) (0 + 1) ≡ function_scope (g ∷ funcs) (suc 0) = ap (λ k. function_scope (g ∷ funcs) k) next in
    let later = scope_later g funcs 0 in let none = scope_first funcs in omega (arith, size, one, later, none)
scope_more (g ∷ funcs) (suc n) f low is =
    let more = scope_more funcs n f (omega (arith, low)) is in
    let next : suc n + 1 ≡ suc (n + 1) = omega arith in
    let one : function_scope (g ∷ funcs) (suc n + 1) ≡ function_scope (g ∷ funcs) (suc (n + 1)) = ap (λ k. function_scope (g ∷ funcs) k) next in
    let after = scope_later g funcs (n + 1) in let here = scope_later g funcs n in omega (arith, more, one, after, here)

-- behind the functions none comes
pub scope_past : (funcs : List PFunc) (n : ℕ) → length funcs ≤ n → function_scope funcs n ≡ function_scope funcs (length funcs)
scope_past [] n high = refl
scope_past (g ∷ funcs) zero high = absurd (omega (arith, high))
scope_past (g ∷ funcs) (suc n) high =
    scope_later g funcs n ∙ ap (λ k. suc (count_scopes (spots g)) + k) (scope_past funcs n (omega (arith, high))) ∙ sym (scope_later g funcs (length funcs))

-- ---- their table

-- the numbers so far, and the next one
pub record ScopesTo (funcs : List PFunc) (n : ℕ) (scopes : List ℕ) (next : ℕ) : Type 0 where
  pub size : length scopes ≡ n
  pub each : (k : ℕ) → k < n → get_or scopes k 0 ≡ function_scope funcs k
  pub here : next ≡ function_scope funcs n

-- one number more
pushed : (funcs : List PFunc) (n : ℕ) (scopes new : List ℕ) (next : ℕ) → ScopesTo funcs n scopes next → new ≡ scopes ++ next ∷ []
    → (length new ≡ n + 1) × ((k : ℕ) → k < n + 1 → get_or new k 0 ≡ function_scope funcs k)
pushed funcs n scopes new next to is = (
  ap length is ∙ length_push scopes next ∙ ap (λ k. k + 1) to.size,
  λ k low. ap (λ (xs : List ℕ). get_or xs k 0) is ∙ below_more (λ k. get_or (scopes ++ next ∷ []) k 0 ≡ function_scope funcs k) n
      (λ k low. (let size = to.size in get_or_append_left scopes (next ∷ []) 0 k (omega (arith, low, size))) ∙ to.each k low)
      (get_or_push scopes next 0 n to.size ∙ to.here) k low,
)

pub scopes_more : (funcs : List PFunc) (n : ℕ) (f : PFunc) (scopes new : List ℕ) (so_far next : ℕ) → n < length funcs → f ≡ get_or funcs n f → ScopesTo funcs n scopes so_far
    → new ≡ scopes ++ so_far ∷ [] → next ≡ (so_far + 1) + count_scopes (spots f) → ScopesTo funcs (n + 1) new next
scopes_more funcs n f scopes new so_far next low is to more count =
    let both = pushed funcs n scopes new so_far to more in
    let here = to.here in
    let step = scope_more funcs n f low is in
    record { size = both.0; each = both.1; here = omega (arith, count, here, step) }

pub scopes_are : (funcs : List PFunc) (n : ℕ) (scopes new : List ℕ) (so_far : ℕ) → n ≡ length funcs → ScopesTo funcs n scopes so_far → new ≡ scopes ++ so_far ∷ [] → AreScopes funcs new
scopes_are funcs n scopes new so_far all to more =
    let both = pushed funcs n scopes new so_far to more in
    record { size = both.0 ∙ ap (λ k. k + 1) all; each = λ k low. both.1 k (omega (arith, low, all)) }

-- what is looked up in it
pub scope_found : (funcs : List PFunc) (scopes : List ℕ) (func at : ℕ) → AreScopes funcs scopes → at + 1 ≡ length scopes → func < at → get_or scopes func 0 ≡ function_scope funcs func
scope_found funcs scopes func at are last low = let size = are.size in are.each func (omega (arith, size, last, low))

pub scope_last : (funcs : List PFunc) (scopes : List ℕ) (func at : ℕ) → AreScopes funcs scopes → at + 1 ≡ length scopes → at ≤ func → get_or scopes at 0 ≡ function_scope funcs func
scope_last funcs scopes func at are last high =
    let size = are.size in
    let e : at ≡ length funcs = omega (arith, size, last) in
    are.each at (omega (arith, e)) ∙ ap (function_scope funcs) e ∙ sym (scope_past funcs func (omega (arith, e, high)))

-- none yet
pub no_scopes : (funcs : List PFunc) (scopes : List ℕ) → scopes ≡ [] → ScopesTo funcs 0 scopes 0
no_scopes funcs scopes none = record { size = ap length none; each = λ k low. absurd (omega (arith, low)); here = sym (scope_first funcs) }
