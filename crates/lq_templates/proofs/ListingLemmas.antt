-- The list that the code makes is that of the templates.
use Rattle.std.proofs.Common.{◌≡◌, ℕ, suc, ◌+◌, ◌-◌, ◌<◌, ◌==◌, ◌≢◌, Bool, true, false, cond, List, [], ◌∷◌, ◌++◌, length, get_or, drop, drop-cons, add-one, map, filter, Option, inl, inr, refl, ap, ap₂, sym, ◌∙◌, append_assoc, append-nil, arith}
use Rattle.std.specs.List.{range_with_len}
use Rattle.std.proofs.lemmas.Bool.{cases_Bool}
use Rattle.std.proofs.lemmas.Bool.Decides.{Decides-eqb}
use Rattle.lq_tree.specs.declared.expr.CType.{CType}
use Rattle.lq_tree.specs.declared.place.Place.{Place}
use Rattle.lq_tree.specs.declared.plain.PFunc.{PFunc}
use Rattle.lq_tree.specs.declared.plain.PProgram.{PProgram}
use Rattle.lq_tree.specs.declared.plain.PStmt.{PStmt}
use Rattle.lq_tree.specs.declared.plain.Slot.{Slot}
use Rattle.lq_tree.specs.PlainScopes.{is_among}
use Rattle.lq_tree.specs.PlainWalk.{statements}
use Rattle.lq_templates.specs.declared.listing.Listing.{Listing}
use Rattle.lq_templates.specs.declared.makers.Makers.{Makers}
use Rattle.lq_templates.specs.declared.template.ScopeRef.{ScopeRef}
use Rattle.lq_templates.specs.declared.template.Template.{Template}
use Rattle.lq_templates.specs.declared.template.TemplateKind.TheVariants as kind
use Rattle.lq_templates.specs.declared.touches.Touch.{Touch}
use Rattle.lq_templates.specs.Accesses.{Access, make, possible_accesses}
use Rattle.lq_templates.specs.Classes.{ClassOf, variables, first_variables}
use Rattle.lq_templates.specs.Listing.{any_env, effect, effects, with_templates, with_scope, with_points, borders, with_function, with_functions}
use Rattle.lq_templates.specs.Makers.{round, makers_of}
use Rattle.lq_templates.specs.Names.{marked, local_names, element}
use Rattle.lq_templates.specs.Reading.{point}
use Rattle.lq_templates.specs.Spots.{Spot, join, loop, inner_scope, params_of, spots}
use Rattle.lq_templates.specs.Templates.{template, param_names, post_template, effect_of, Env, effect_templates, spot_templates, count_scopes, function_templates, functions_templates, record_templates, all_templates}
use Rattle.lq_templates.specs.Touches.{each_touches, body_touches, all_touches, touches_make}
use Rattle.lq_templates.proofs.AccessSets.{rounds}
use Rattle.lq_templates.proofs.Rounds.{round_is}
use Rattle.lq_templates.proofs.TouchLemmas.{each_makes}

pub listing_same : {n m : ℕ} {r s : List Template} → n ≡ m → r ≡ s → (let t : Listing = record { scopes = n; templates = r } in let u : Listing = record { scopes = m; templates = s } in t ≡ u)
listing_same x y = λ i. record { scopes = x i; templates = y i }

length-all : (class_of : ClassOf) (number : ℕ) (funcs : List PFunc) → length (all_touches class_of number funcs) ≡ length funcs
length-all class_of number [] = refl
length-all class_of number (f ∷ funcs) = ap suc (length-all class_of (suc number) funcs)

module _ (p : PProgram) (class_of : ClassOf) where
  -- what functions access
  abbrev by : ℕ → Access → Bool
  by = rounds p class_of (length p.funcs)

  abbrev all : List (List Touch)
  all = all_touches class_of 0 p.funcs

  -- as the code has it
  abbrev pub found : List Makers
  found = map (makers_of all) (possible_accesses p class_of)

  abbrev env : ℕ → PFunc → Env
  env number f = record { program = p; class_of = class_of; by = by; number = number; func = f }

  makes_same : (number : ℕ) (body : List PStmt) (a : Access) → touches_make (marked (round a all (length all))) a (each_touches (class_of number) body) ≡ make (class_of number) by a body
  makes_same number body a =
      let done = each_touches (class_of number) body in
      let same : marked (round a all (length p.funcs)) ≡ (λ k. by k a) = λ i k. round_is p class_of a (length p.funcs) k i in
      ap (λ n. touches_make (marked (round a all n)) a done) (length-all class_of 0 p.funcs) ∙ ap (λ set. touches_make set a done) same ∙ each_makes (class_of number) by a body

  effects_are : (number : ℕ) (f : PFunc) (scope : ScopeRef) (body : List PStmt) (slots : List ℕ) (accesses : List Access)
      → effects f.slots scope (each_touches (class_of number) body) (is_among slots) (map (makers_of all) accesses)
      ≡ map (λ a. template (effect_of scope a) (element ∷ local_names f.slots (is_among []) (is_among slots))) (filter (λ a. make (class_of number) by a body) accesses)
  effects_are number f scope body slots [] = refl
  effects_are number f scope body slots (a ∷ accesses) =
      let of_access : Access → Template = λ a. template (effect_of scope a) (element ∷ local_names f.slots (is_among []) (is_among slots)) in
      let rest : List Access = filter (λ a. make (class_of number) by a body) accesses in
      ap₂ (λ (b : Bool) (ts : List Template). cond b (of_access a ∷ []) [] ++ ts) (makes_same number body a) (effects_are number f scope body slots accesses)
      ∙ elim (make (class_of number) by a body) as (λ b. cond b (of_access a ∷ []) [] ++ map of_access rest ≡ map of_access (cond b (a ∷ rest) rest)) [ true ↦ refl | false ↦ refl ]

  scope_is : (number : ℕ) (f : PFunc) (at : Place) (body : List PStmt) (slots : List ℕ) (l : Listing)
      → (let u : Listing = record { scopes = suc l.scopes; templates = l.templates ++ effect_templates (env number f) l.scopes at body slots } in
      with_scope f.slots found at (each_touches (class_of number) body) slots l ≡ u)
  scope_is number f at body slots l =
      listing_same refl (ap (λ (ts : List Template). l.templates ++ ts) (effects_are number f (record { scope = l.scopes; at = at }) body slots (possible_accesses p class_of)))

  points_are : (number : ℕ) (f : PFunc) (list : List Spot) (l : Listing)
      → (let u : Listing = record { scopes = count_scopes list + l.scopes; templates = l.templates ++ spot_templates (env number f) l.scopes list } in
      with_points f.slots found (map (point (class_of number)) list) l ≡ u)
  points_are number f [] l = listing_same (omega arith) (sym (append-nil l.templates))
  points_are number f (join changed scope ∷ list) l =
      let one = template kind.Join (local_names f.slots (is_among changed) (is_among scope)) ∷ [] in
      points_are number f list (with_templates one l) ∙ listing_same refl (append_assoc l.templates one (spot_templates (env number f) l.scopes list))
  points_are number f (loop changed scope ∷ list) l =
      let one = template kind.Loop (local_names f.slots (is_among changed) (is_among scope)) ∷ [] in
      points_are number f list (with_templates one l) ∙ listing_same refl (append_assoc l.templates one (spot_templates (env number f) l.scopes list))
  points_are number f (inner_scope at body scope ∷ list) l =
      let own = effect_templates (env number f) l.scopes at body scope in
      let next : Listing = record { scopes = suc l.scopes; templates = l.templates ++ own } in
      ap (with_points f.slots found (map (point (class_of number)) list)) (scope_is number f at body scope l)
      ∙ points_are number f list next ∙ listing_same (omega arith) (append_assoc l.templates own (spot_templates (env number f) (suc l.scopes) list))

  function_is : (number : ℕ) (f : PFunc) (l : Listing)
      → (let u : Listing = record { scopes = suc (l.scopes + count_scopes (spots f)); templates = l.templates ++ function_templates (env number f) l.scopes } in
      with_function p class_of found number f l ≡ u)
  function_is number f l =
      let first = borders p class_of number f in
      let own = effect_templates (env number f) l.scopes f.at (statements f.body) (params_of f) in
      let rest = spot_templates (env number f) (suc l.scopes) (spots f) in
      let next : Listing = record { scopes = suc l.scopes; templates = (l.templates ++ first) ++ own } in
      ap (with_points f.slots found (map (point (class_of number)) (spots f))) (scope_is number f f.at (statements f.body) (params_of f) (with_templates first l))
      ∙ points_are number f (spots f) next
      ∙ listing_same (omega arith) (append_assoc (l.templates ++ first) own rest ∙ append_assoc l.templates first (own ++ rest))

  functions_are : (number : ℕ) (funcs : List PFunc) (l : Listing) → (with_functions p class_of found number funcs l).templates ≡ l.templates ++ functions_templates p class_of by number l.scopes funcs
  functions_are number [] l = sym (append-nil l.templates)
  functions_are number (f ∷ funcs) l =
      let own = function_templates (env number f) l.scopes in
      let next : Listing = record { scopes = suc (l.scopes + count_scopes (spots f)); templates = l.templates ++ own } in
      ap (λ m. (with_functions p class_of found (suc number) funcs m).templates) (function_is number f l)
      ∙ functions_are (suc number) funcs next ∙ append_assoc l.templates own (functions_templates p class_of by (suc number) next.scopes funcs)

  -- the whole list
  pub all_listed : (records : List Template) (l : Listing) → records ≡ record_templates p 1 (first_variables class_of 1 (variables 0 p.funcs))
      → (let start : Listing = record { scopes = 0; templates = records } in l ≡ with_functions p class_of found 0 p.funcs start) → all_templates p class_of by ≡ l.templates
  all_listed records l are is =
      let start : Listing = record { scopes = 0; templates = records } in
      sym (ap (λ (m : Listing). m.templates) is ∙ functions_are 0 p.funcs start ∙ ap (λ (ts : List Template). ts ++ functions_templates p class_of by 0 0 p.funcs) are)

-- ---- one more

pub params_more : (slot count : ℕ) (before after all : List ℕ) → slot < count → before ++ range_with_len slot (count - slot) ≡ all → after ≡ before ++ slot ∷ [] → after ++ range_with_len (slot + 1) (count - (slot + 1)) ≡ all
params_more slot count before after all low first more =
    let e : count - slot ≡ suc (count - (slot + 1)) = omega (arith, low) in
    ap (λ (xs : List ℕ). xs ++ range_with_len (slot + 1) (count - (slot + 1))) more ∙ append_assoc before (slot ∷ []) (range_with_len (slot + 1) (count - (slot + 1)))
    ∙ ap (λ n. before ++ range_with_len slot n) (sym e) ∙ first

pub touches_more : (class_of : ClassOf) (number : ℕ) (funcs : List PFunc) (f : PFunc) (before after all : List (List Touch)) → number < length funcs → f ≡ get_or funcs number f
    → before ++ all_touches class_of number (drop number funcs) ≡ all → after ≡ before ++ body_touches (class_of number) f.body ∷ []
    → after ++ all_touches class_of (number + 1) (drop (number + 1) funcs) ≡ all
touches_more class_of number funcs f before after all within is first more =
    let e : drop number funcs ≡ f ∷ drop (number + 1) funcs = rw (add-one) (drop-cons funcs number f within ∙ ap (λ g. g ∷ drop (suc number) funcs) (sym is)) in
    ap (λ (xs : List (List Touch)). xs ++ all_touches class_of (number + 1) (drop (number + 1) funcs)) more
    ∙ append_assoc before (body_touches (class_of number) f.body ∷ []) (all_touches class_of (number + 1) (drop (number + 1) funcs))
    ∙ ap (λ n. before ++ body_touches (class_of number) f.body ∷ all_touches class_of n (drop (number + 1) funcs)) (add-one number)
    ∙ ap (λ fs. before ++ all_touches class_of number fs) (sym e) ∙ first

pub listed_more : (p : PProgram) (class_of : ClassOf) (makers : List Makers) (number : ℕ) (funcs : List PFunc) (f : PFunc) (before after all : Listing) → number < length funcs → f ≡ get_or funcs number f
    → with_functions p class_of makers number (drop number funcs) before ≡ all → after ≡ with_function p class_of makers number f before
    → with_functions p class_of makers (number + 1) (drop (number + 1) funcs) after ≡ all
listed_more p class_of makers number funcs f before after all within is first more =
    let e : drop number funcs ≡ f ∷ drop (number + 1) funcs = rw (add-one) (drop-cons funcs number f within ∙ ap (λ g. g ∷ drop (suc number) funcs) (sym is)) in
    ap (with_functions p class_of makers (number + 1) (drop (number + 1) funcs)) more
    ∙ ap (λ n. with_functions p class_of makers n (drop (number + 1) funcs) (with_function p class_of makers number f before)) (add-one number)
    ∙ ap (λ fs. with_functions p class_of makers number fs before) (sym e) ∙ first

pub effects_more : (slots : List Slot) (scope : ScopeRef) (done : List Touch) (in_scope : ℕ → Bool) (makers : List Makers) (i : ℕ) (m : Makers) (before after all : List Template) → i < length makers → m ≡ get_or makers i m
    → before ++ effects slots scope done in_scope (drop i makers) ≡ all → after ≡ before ++ effect slots scope done in_scope m → after ++ effects slots scope done in_scope (drop (i + 1) makers) ≡ all
effects_more slots scope done in_scope makers i m before after all within is first more =
    let e : drop i makers ≡ m ∷ drop (i + 1) makers = rw (add-one) (drop-cons makers i m within ∙ ap (λ x. x ∷ drop (suc i) makers) (sym is)) in
    ap (λ (ts : List Template). ts ++ effects slots scope done in_scope (drop (i + 1) makers)) more
    ∙ append_assoc before (effect slots scope done in_scope m) (effects slots scope done in_scope (drop (i + 1) makers))
    ∙ ap (λ ms. before ++ effects slots scope done in_scope ms) (sym e) ∙ first

-- the template of an access that is made or isn't
pub effect_is : (slots : List Slot) (scope : ScopeRef) (done : List Touch) (in_scope : ℕ → Bool) (m : Makers) (functions : List Bool) (b : Bool) → functions ≡ m.functions → b ≡ touches_make (marked functions) m.access done
    → cond b (template (effect_of scope m.access) (element ∷ local_names slots (is_among []) in_scope) ∷ []) [] ≡ effect slots scope done in_scope m
effect_is slots scope done in_scope m functions b same made =
    ap (λ c. cond c (template (effect_of scope m.access) (element ∷ local_names slots (is_among []) in_scope) ∷ []) []) (made ∙ ap (λ fs. touches_make (marked fs) m.access done) same)

-- ---- the pre and the post template of a function

pub differs : (a b : ℕ) → a ≢ b → (a == b) ≡ false
differs a b apart = elim (cases_Bool (a == b)) [ inl same ↦ absurd (apart ((Decides-eqb a b).0 same)) | inr isnt ↦ isnt ]

pub borders_are : (p : PProgram) (class_of : ClassOf) (number : ℕ) (f : PFunc) (l : Listing) (pre : Template) (ts : List Template) (o : Option CType) → (number == p.main) ≡ false
    → f.result ≡ o → pre ≡ template (kind.Pre number) (param_names f) → ts ≡ (l.templates ++ pre ∷ []) ++ post_template (any_env p class_of number f) o
    → record l { templates = ts } ≡ with_templates (borders p class_of number f) l
borders_are p class_of number f l pre ts o isnt result first more =
    let env = any_env p class_of number f in
    ap (λ (xs : List Template). record l { templates = xs })
    (more ∙ append_assoc l.templates (pre ∷ []) (post_template env o)
    ∙ ap₂ (λ (t : Template) (q : Option CType). l.templates ++ (t ∷ post_template env q)) first (sym result)
    ∙ ap (λ b. l.templates ++ cond b [] (template (kind.Pre number) (param_names f) ∷ post_template env f.result)) (sym isnt))

-- tables of marks, as sets
pub same_marks : (marks : List Bool) (slots : List ℕ) → ((n : ℕ) → marked marks n ≡ is_among slots n) → marked marks ≡ is_among slots
same_marks marks slots each = λ i n. each n i
