-- The effect templates of a scope inside a function's text are all that have its number.
use Rattle.std.proofs.Common.{◌≡◌, ◌≢◌, Bool, ℕ, zero, suc, ◌+◌, ◌<◌, ◌≤◌, ◌==◌, cond, List, [], ◌∷◌, ◌++◌, length, map, Option, None, Some, true, false, refl, ap, ap₂, sym, subst, ◌∙◌, arith, append_assoc, slice_get}
use Rattle.std.proofs.Math.ListN.{length-append}
use Rattle.std.proofs.lemmas.Bool.{eq-eqb, ne_eqb}
use Rattle.lq_tree.specs.declared.expr.CType.{CType}
use Rattle.lq_tree.specs.declared.place.Place.{Place}
use Rattle.lq_tree.specs.declared.plain.Branch.{Branch, Branch'}
use Rattle.lq_tree.specs.declared.plain.PFunc.{PFunc}
use Rattle.lq_tree.specs.declared.plain.PProgram.{PProgram}
use Rattle.lq_tree.specs.declared.plain.PStmt.{PStmt}
use Rattle.lq_tree.specs.PlainWalk.{statements, within_row}
use Rattle.lq_templates.specs.declared.template.Named.{Named}
use Rattle.lq_templates.specs.declared.template.Template.{Template}
use Rattle.lq_tree.specs.PlainScopes.{is_among}
use Rattle.lq_templates.specs.declared.template.TemplateKind.TheVariants.{Pre, Join, Loop}
use Rattle.lq_templates.specs.Accesses.{Access}
use Rattle.lq_templates.specs.Names.{local_names}
use Rattle.lq_templates.specs.Classes.{ClassOf, Variable, variables, first_variables}
use Rattle.lq_templates.specs.Spots.{Spot, join, loop, inner_scope, Walk, params_of, spots}
use Rattle.lq_templates.specs.Templates.{template, effect_of, Env, scope_accesses, record_templates, effect_templates, spot_templates, count_scopes, param_names, post_template, border_templates, function_templates, functions_templates}
use Rattle.lq_ground.specs.Ground.{Ground, in_branch, function_scope}
use Rattle.lq_ground.specs.Numbers.{one_for, count_effects}
use Rattle.lq_ground.specs.Standing.{IsGround, Follows}
use Rattle.lq_ground.proofs.ScopeLemmas.{count-append, scope_first, scope_later}

-- ---- lists

pub effects-append : (k : ℕ) (xs ys : List Template) → count_effects k (xs ++ ys) ≡ count_effects k xs + count_effects k ys
effects-append k [] ys = omega arith
effects-append k (t ∷ xs) ys = let more = effects-append k xs ys in omega (arith, more)

pub spots-append : (env : Env) (s : ℕ) (xs ys : List Spot) → spot_templates env s (xs ++ ys) ≡ spot_templates env s xs ++ spot_templates env (s + count_scopes xs) ys
spots-append env s [] ys = ap (λ n. spot_templates env n ys) (omega arith)
spots-append env s (join changed scope ∷ xs) ys =
    ap (λ (ts : List Template). template Join (local_names env.func.slots (is_among changed) (is_among scope)) ∷ ts) (spots-append env s xs ys)
spots-append env s (loop changed scope ∷ xs) ys =
    ap (λ (ts : List Template). template Loop (local_names env.func.slots (is_among changed) (is_among scope)) ∷ ts) (spots-append env s xs ys)
spots-append env s (inner_scope at body scope ∷ xs) ys =
    let own = effect_templates env s at body scope in
    ap (λ (ts : List Template). own ++ ts) (spots-append env (suc s) xs ys ∙ ap (λ n. spot_templates env (suc s) xs ++ spot_templates env n ys) (omega arith))
    ∙ sym (append_assoc own (spot_templates env (suc s) xs) (spot_templates env (s + count_scopes (inner_scope at body scope ∷ xs)) ys))

-- ---- one scope

same_scope : (s : ℕ) (at : Place) (names : List Named) (accesses : List Access)
    → count_effects s (map (λ a. template (effect_of (record { scope = s; at = at }) a) names) accesses) ≡ length accesses
same_scope s at names [] = refl
same_scope s at names (a ∷ accesses) =
    let more = same_scope s at names accesses in
    let one : one_for (Some s) s ≡ 1 = ap (λ b. cond b 1 0) (eq-eqb s s refl) in omega (arith, more, one)

other_scope : (k s : ℕ) (at : Place) (names : List Named) (accesses : List Access) → s ≢ k
    → count_effects k (map (λ a. template (effect_of (record { scope = s; at = at }) a) names) accesses) ≡ 0
other_scope k s at names [] apart = refl
other_scope k s at names (a ∷ accesses) apart =
    let more = other_scope k s at names accesses apart in
    let none : one_for (Some s) k ≡ 0 = ap (λ b. cond b 1 0) (ne_eqb s k apart) in omega (arith, more, none)

length_map : {A B : Type 0} (f : A → B) (xs : List A) → length (map f xs) ≡ length xs
length_map f [] = refl
length_map f (x ∷ xs) = ap suc (length_map f xs)

own_effects : (env : Env) (s : ℕ) (at : Place) (body : List PStmt) (scope : List ℕ) → count_effects s (effect_templates env s at body scope) ≡ length (effect_templates env s at body scope)
own_effects env s at body scope = same_scope s at _ (scope_accesses env body) ∙ sym (length_map _ (scope_accesses env body))

other_effects : (k : ℕ) (env : Env) (s : ℕ) (at : Place) (body : List PStmt) (scope : List ℕ) → s ≢ k → count_effects k (effect_templates env s at body scope) ≡ 0
other_effects k env s at body scope apart = other_scope k s at _ (scope_accesses env body) apart

-- ---- the spots of a function

-- those before
low_spots : (k : ℕ) (env : Env) (s : ℕ) (list : List Spot) → k < s → count_effects k (spot_templates env s list) ≡ 0
low_spots k env s [] low = refl
low_spots k env s (join changed scope ∷ list) low = let more = low_spots k env s list low in omega (arith, more)
low_spots k env s (loop changed scope ∷ list) low = let more = low_spots k env s list low in omega (arith, more)
low_spots k env s (inner_scope at body scope ∷ list) low =
    let both = effects-append k (effect_templates env s at body scope) (spot_templates env (suc s) list) in
    let own = other_effects k env s at body scope (omega (arith, low)) in
    let more = low_spots k env (suc s) list (omega (arith, low)) in omega (arith, both, own, more)

-- and behind
high_spots : (k : ℕ) (env : Env) (s : ℕ) (list : List Spot) → s + count_scopes list ≤ k → count_effects k (spot_templates env s list) ≡ 0
high_spots k env s [] high = refl
high_spots k env s (join changed scope ∷ list) high = let more = high_spots k env s list high in omega (arith, more)
high_spots k env s (loop changed scope ∷ list) high = let more = high_spots k env s list high in omega (arith, more)
high_spots k env s (inner_scope at body scope ∷ list) high =
    let both = effects-append k (effect_templates env s at body scope) (spot_templates env (suc s) list) in
    let own = other_effects k env s at body scope (omega (arith, high)) in
    let more = high_spots k env (suc s) list (omega (arith, high)) in omega (arith, both, own, more)

-- the spot itself
spot_here : (env : Env) (s : ℕ) (before : List Spot) (at : Place) (body : List PStmt) (scope : List ℕ) (later : List Spot)
    → (let k = s + count_scopes before in count_effects k (spot_templates env s (before ++ inner_scope at body scope ∷ later)) ≡ length (effect_templates env k at body scope))
spot_here env s before at body scope later =
    let k = s + count_scopes before in
    let own = effect_templates env k at body scope in
    let whole = ap (count_effects k) (spots-append env s before (inner_scope at body scope ∷ later)) in
    let both = effects-append k (spot_templates env s before) (own ++ spot_templates env (suc k) later) in
    let rest = effects-append k own (spot_templates env (suc k) later) in
    let first = high_spots k env s before (omega arith) in
    let here = own_effects env k at body scope in
    let last = low_spots k env (suc k) later (omega arith) in
    omega (arith, whole, both, rest, first, here, last)

-- ---- functions

no_post : (k : ℕ) (env : Env) (o : Option CType) → count_effects k (post_template env o) ≡ 0
no_post k env None = refl
no_post k env (Some type) = refl

no_borders : (k : ℕ) (env : Env) → count_effects k (border_templates env) ≡ 0
no_borders k env =
    elim (env.number == env.program.main) as (λ b. count_effects k (cond b [] (template (Pre env.number) (param_names env.func) ∷ post_template env env.func.result)) ≡ 0) [
      | true ↦ refl
      | false ↦ (let none = no_post k env env.func.result in omega (arith, none))
    ]

function_effects : (k : ℕ) (env : Env) (s : ℕ) → s ≢ k → count_effects k (function_templates env s) ≡ count_effects k (spot_templates env (suc s) (spots env.func))
function_effects k env s apart =
    let own = effect_templates env s env.func.at (statements env.func.body) (params_of env.func) in
    let inside = spot_templates env (suc s) (spots env.func) in
    let both = effects-append k (border_templates env) (own ++ inside) in
    let rest = effects-append k own inside in
    let none = no_borders k env in
    let other = other_effects k env s env.func.at (statements env.func.body) (params_of env.func) apart in
    omega (arith, both, rest, none, other)

no_records : (k : ℕ) (p : PProgram) (class : ℕ) (list : List Variable) → count_effects k (record_templates p class list) ≡ 0
no_records k p class [] = refl
no_records k p class (v ∷ list) = let more = no_records k p (suc class) list in omega (arith, more)

module _ (p : PProgram) (class_of : ClassOf) (by : ℕ → Access → Bool) where
  abbrev env_of : (number : ℕ) → PFunc → Env
  env_of number f = record { program = p; class_of = class_of; by = by; number = number; func = f }

  low_functions : (k number s : ℕ) (funcs : List PFunc) → k < s → count_effects k (functions_templates p class_of by number s funcs) ≡ 0
  low_functions k number s [] low = refl
  low_functions k number s (f ∷ funcs) low =
      let env = env_of number f in
      let both = effects-append k (function_templates env s) (functions_templates p class_of by (suc number) (suc (s + count_scopes (spots f))) funcs) in
      let own = function_effects k env s (omega (arith, low)) in
      let inside = low_spots k env (suc s) (spots f) (omega (arith, low)) in
      let more = low_functions k (suc number) (suc (s + count_scopes (spots f))) funcs (omega (arith, low)) in
      omega (arith, both, own, inside, more)

  -- a scope inside the text of a function among these
  function_here : (number s m n k : ℕ) (funcs : List PFunc) (f : PFunc) (before : List Spot) (at : Place) (body : List PStmt) (scope : List ℕ) (later : List Spot)
      → slice_get funcs m ≡ Some f → before ++ inner_scope at body scope ∷ later ≡ spots f → n ≡ number + m → k ≡ suc ((s + function_scope funcs m) + count_scopes before)
      → count_effects k (functions_templates p class_of by number s funcs) ≡ length (effect_templates (env_of n f) k at body scope)
  function_here number s m n k [] f before at body scope later there text e is = absurd cc
  function_here number s zero n k (g ∷ funcs) f before at body scope later there text e is =
      let same : g ≡ f = cc in
      let number_is : n ≡ number = omega (arith, e) in
      let zeroth = scope_first (g ∷ funcs) in
      let k_is : suc s + count_scopes before ≡ k = omega (arith, is, zeroth) in
      let env = env_of number g in
      let text_is : before ++ inner_scope at body scope ∷ later ≡ spots g = text ∙ ap spots (sym same) in
      let both = effects-append k (function_templates env s) (functions_templates p class_of by (suc number) (suc (s + count_scopes (spots g))) funcs) in
      let own = function_effects k env s (omega (arith, k_is)) in
      let here : count_effects k (spot_templates env (suc s) (spots g)) ≡ length (effect_templates env k at body scope) =
      ap (λ (list : List Spot). count_effects k (spot_templates env (suc s) list)) (sym text_is)
      ∙ subst (λ j. count_effects j (spot_templates env (suc s) (before ++ inner_scope at body scope ∷ later)) ≡ length (effect_templates env j at body scope)) k_is
      (spot_here env (suc s) before at body scope later) in
      let size = ap count_scopes (sym text_is) ∙ count-append before (inner_scope at body scope ∷ later) in
      let more = low_functions k (suc number) (suc (s + count_scopes (spots g))) funcs (omega (arith, k_is, size)) in
      let sum : count_effects k (functions_templates p class_of by number s (g ∷ funcs)) ≡ length (effect_templates env k at body scope) = omega (arith, both, own, here, more) in
      sum ∙ ap₂ (λ i (h : PFunc). length (effect_templates (env_of i h) k at body scope)) (sym number_is) same
  function_here number s (suc m) n k (g ∷ funcs) f before at body scope later there text e is =
      let env = env_of number g in
      let next = suc (s + count_scopes (spots g)) in
      let past = scope_later g funcs m in
      let both = effects-append k (function_templates env s) (functions_templates p class_of by (suc number) next funcs) in
      let own = function_effects k env s (omega (arith, is, past)) in
      let inside = high_spots k env (suc s) (spots g) (omega (arith, is, past)) in
      let more = function_here (suc number) next m n k funcs f before at body scope later there text (omega (arith, e)) (omega (arith, is, past)) in
      omega (arith, both, own, inside, more)

-- a scope inside the text of the function of the ground
pub scope_here : (g : Ground) (before : List Spot) (at : Place) (body : List PStmt) (scope : List ℕ) (later : List Spot) → IsGround g → before ++ inner_scope at body scope ∷ later ≡ spots g.env.func
    → (let k = suc (g.scope + count_scopes before) in count_effects k g.templates ≡ length (effect_templates g.env k at body scope))
scope_here g before at body scope later is text =
    let p = g.env.program in
    let class_of = g.env.class_of in
    let by = g.env.by in
    let k = suc (g.scope + count_scopes before) in
    let records = record_templates p 1 (first_variables class_of 1 (variables 0 p.funcs)) in
    let whole = ap (count_effects k) is.listed in
    let both = effects-append k records (functions_templates p class_of by 0 0 p.funcs) in
    let none = no_records k p 1 (first_variables class_of 1 (variables 0 p.funcs)) in
    let first = is.scope in
    let here = function_here p class_of by 0 0 g.env.number g.env.number k p.funcs g.env.func before at body scope later is.there text (omega arith) (omega (arith, first)) in
    omega (arith, whole, both, none, here)

-- as many templates come behind a branch as its scope has, and one scope more
pub record Enters (g : Ground) (b : Branch) (w : Walk) : Type 0 where
  pub scope : (in_branch b w).scope ≡ w.scope
  pub assigned : (in_branch b w).assigned ≡ w.assigned
  pub scopes : count_scopes (in_branch b w).spots ≡ count_scopes w.spots + 1
  pub templates : length (spot_templates g.env (suc g.scope) (in_branch b w).spots)
      ≡ length (spot_templates g.env (suc g.scope) w.spots) + count_effects (suc (g.scope + count_scopes w.spots)) g.templates

pub enters : (g : Ground) (b : Branch) (w : Walk) → IsGround g → Follows g (in_branch b w) → Enters g b w
enters g (Branch' at n body) w is follows =
    let spot = inner_scope at (within_row body) w.scope in
    let own = effect_templates g.env (suc g.scope + count_scopes w.spots) at (within_row body) w.scope in
    let text : w.spots ++ spot ∷ follows.later ≡ spots g.env.func = sym (append_assoc w.spots (spot ∷ []) follows.later) ∙ follows.whole in
    let here = scope_here g w.spots at (within_row body) w.scope follows.later is text in
    let e : suc (g.scope + count_scopes w.spots) ≡ suc g.scope + count_scopes w.spots = omega arith in
    let here2 : count_effects (suc (g.scope + count_scopes w.spots)) g.templates ≡ length own = here ∙ ap (λ k. length (effect_templates g.env k at (within_row body) w.scope)) e in
    let whole = ap length (spots-append g.env (suc g.scope) w.spots (spot ∷ [])) in
    let both = length-append (spot_templates g.env (suc g.scope) w.spots) (own ++ []) in
    let rest = length-append own [] in
    record {
      scope = refl;
      assigned = refl;
      scopes = count-append w.spots (spot ∷ []);
      templates = omega (arith, here2, whole, both, rest);
    }
