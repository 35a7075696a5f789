-- What the name rules leave of a statement, and where it is silent.
use Rattle.std.proofs.Common.{◌≡◌, ℕ, Bool, true, false, List, [], ◌∷◌, ◌++◌, map, Some}
use Rattle.std.specs.List.{AllByRecursion, list_any, flat_map}
use Rattle.std.proofs.lemmas.Bool.{or_parts}
use Rattle.lq_tree.specs.declared.place.Place.{Place}
use Rattle.lq_tree.specs.declared.expr.Expr.{Expr}
use Rattle.lq_tree.specs.declared.stmt.Arm.{Arm}
use Rattle.lq_tree.specs.declared.stmt.StmtKind.{StmtKind, out-StmtKind}
use Rattle.lq_tree.specs.declared.stmt.StmtKind.TheOpen as layer
use Rattle.lq_tree.specs.Walk.{Form, condition, values, some_value, nodes}
use Rattle.lq_names.specs.declared.effects.Effect.{Effect}
use Rattle.lq_names.specs.declared.effects.Effect.TheVariants.{Prints, Allocates}
use Rattle.lq_names.specs.Calls.{form_does, expression_does, kind_does, placed_does}
use Rattle.lq_names.specs.Scopes.{Site}
use Rattle.lq_names.specs.Sites.{Placed}
use Rattle.lq_names.specs.Faults.{expression_rules, head_site, own_rules, statement_rules, placed_faults, fault_at, s1, s3, s4, s5, s6, s7, s8, s9, s10, s11, s12, s13}
use Rattle.lq_plain.proofs.NamedExpressions.{first_kept, both_empty}
use Rattle.lq_plain.proofs.NamedStatements.{none_mapped}
use Rattle.lq_plain.proofs.FitExpressions.{false_and, AreFit, expression_fit}

-- a statement that itself neither prints nor calls a function that may print or allocate
abbrev pub IsQuietForm : (prints allocates : List ℕ → Bool) → Form → Type 0
IsQuietForm prints allocates (layer.Print e) = ⊥
IsQuietForm prints allocates (layer.Call f args) = (prints f ≡ false) × (allocates f ≡ false)
IsQuietForm prints allocates _ = Unit {0}

quiet_does : (prints allocates : List ℕ → Bool) (form : Form) → form_does Prints prints form ≡ false → form_does Allocates allocates form ≡ false → IsQuietForm prints allocates form
quiet_does prints allocates (layer.Print e) h g = absurd cc
quiet_does prints allocates (layer.Call f args) h g = (h, g)
quiet_does prints allocates _ h g = tt

quiet_parallel : (s : Site) (form : Form) → s.parallel ≡ true → s8 s form ≡ false → s9 s form ≡ false → IsQuietForm s.prints s.allocates form
quiet_parallel s (layer.Print e) is h g = absurd cc
quiet_parallel s (layer.Call f args) is h g = (false_and s.parallel (s.prints f) is h, false_and s.parallel (s.allocates f) is g)
quiet_parallel s _ is h g = tt

-- where none of several passes a test, each fails it
pub each_fails : {A : Type 0} (test : A → Bool) (xs : List A) → list_any test xs ≡ false → AllByRecursion (λ x. test x ≡ false) xs
each_fails test [] h = tt
each_fails test (x ∷ xs) h = let both = or_parts (test x) (list_any test xs) h in (both.0, each_fails test xs both.1)

conditions_fail : (test : Expr → Bool) (arms : List Arm) → list_any (λ (arm : Arm). test (condition arm)) arms ≡ false → AllByRecursion (λ (e : Expr). test e ≡ false) (map condition arms)
conditions_fail test [] h = tt
conditions_fail test (arm ∷ arms) h = let both = or_parts (test (condition arm)) _ h in (both.0, conditions_fail test arms both.1)

-- none of the values of a statement passes a test
pub values_fail : (test : Expr → Bool) (form : Form) → some_value test form ≡ false → AllByRecursion (λ (e : Expr). test e ≡ false) (values form)
values_fail test (layer.Local type name (Some e)) h = (h, tt)
values_fail test (layer.Set name e) h = (h, tt)
values_fail test (layer.Store target e) h = let both = or_parts (test target) (test e) h in (both.0, (both.1, tt))
values_fail test (layer.Call f args) h = each_fails test args h
values_fail test (layer.If arms other) h = conditions_fail test arms h
values_fail test (layer.While e body) h = (h, tt)
values_fail test (layer.For first (Some e) third body) h = (h, tt)
values_fail test (layer.Return (Some e)) h = (h, tt)
values_fail test (layer.Print e) h = (h, tt)
values_fail test (layer.Foreach index low high step body) h = let both = or_parts (test low) (test high) h in (both.0, (both.1, tt))
values_fail test _ h = tt

module _ (silent : Bool) (prints allocates : List ℕ → Bool) where
  -- an expression at a site
  abbrev pub FitAt : Site → Expr → Type 0
  FitAt s e = AreFit silent prints allocates s (nodes e)

  -- a statement, with the expressions that stand in it
  pub record FormFit (s : Site) (form : Form) : Type 0 where
    pub main : s1 form ≡ false
    pub known : s3 s form ≡ false
    pub agrees : s5 s form ≡ false
    pub counts : s6 s form ≡ false
    pub whole : s7 s form ≡ false
    pub outside : s10 s form ≡ false
    pub returns : s12 s form ≡ false
    pub step : s13 form ≡ false
    pub quiet : silent ≡ true → IsQuietForm prints allocates form
    pub parallel : s.parallel ≡ true → IsQuietForm s.prints s.allocates form
    pub values : AllByRecursion (FitAt (head_site s form)) (values form)

  Still : (es : List Expr) → Type 0
  Still es = (silent ≡ true) → AllByRecursion (λ (e : Expr). expression_does Prints prints e ≡ false) es × AllByRecursion (λ (e : Expr). expression_does Allocates allocates e ≡ false) es

  values_fit : (s : Site) (es : List Expr) → flat_map (expression_rules s) es ≡ [] → Still es → AllByRecursion (FitAt s) es
  unfolding Still
  values_fit s [] h still = tt
  values_fit s (e ∷ es) h still =
      let both = both_empty (expression_rules s e) (flat_map (expression_rules s) es) h in (
        expression_fit silent prints allocates s e both.0 (λ is. let none = still is in ((none.0).0, (none.1).0)),
        values_fit s es both.1 (λ is. let none = still is in ((none.0).1, (none.1).1)),
      )

  -- where the function is silent, a statement does nothing of its own
  abbrev pub IsStill : StmtKind → Type 0
  IsStill kind = silent ≡ true → (kind_does Prints prints kind ≡ false) × (kind_does Allocates allocates kind ≡ false)

  form_fit : (s : Site) (at : Place) (kind : StmtKind) → placed_faults (record { site = s; at = at; kind = kind }) ≡ [] → IsStill kind → FormFit s (out-StmtKind kind)
  unfolding placed_faults Still
  form_fit s at kind h still =
      let form = out-StmtKind kind in
      let all = both_empty (own_rules s form) (flat_map (expression_rules (head_site s form)) (values form)) (none_mapped (fault_at at) (statement_rules s form) h) in
      let a = first_kept (s1 form) 1 _ all.0 in
      let b = first_kept (s3 s form) 3 _ a.1 in
      let c = first_kept (s4 s form) 4 _ b.1 in
      let d = first_kept (s5 s form) 5 _ c.1 in
      let e = first_kept (s6 s form) 6 _ d.1 in
      let f = first_kept (s7 s form) 7 _ e.1 in
      let g = first_kept (s8 s form) 8 _ f.1 in
      let i = first_kept (s9 s form) 9 _ g.1 in
      let j = first_kept (s10 s form) 10 _ i.1 in
      let k = first_kept (s11 s form) 11 _ j.1 in
      let l = first_kept (s12 s form) 12 _ k.1 in
      let m = first_kept (s13 form) 13 _ l.1 in
      let parts : (effect : Effect) (set : List ℕ → Bool) → kind_does effect set kind ≡ false → (form_does effect set form ≡ false) × (some_value (expression_does effect set) form ≡ false) =
      λ effect set none. or_parts _ _ none in
      record {
        main = a.0;
        known = b.0;
        agrees = d.0;
        counts = e.0;
        whole = f.0;
        outside = j.0;
        returns = l.0;
        step = m.0;
        quiet = λ is. let none = still is in quiet_does prints allocates form (parts Prints prints none.0).0 (parts Allocates allocates none.1).0;
        parallel = λ is. quiet_parallel s form is g.0 i.0;
        values = values_fit (head_site s form) (values form) all.1
            (λ is. let none = still is in (values_fail (expression_does Prints prints) form (parts Prints prints none.0).1, values_fail (expression_does Allocates allocates) form (parts Allocates allocates none.1).1));
      }

  -- statements at their sites
  abbrev pub PlacedFit : Placed → Type 0
  PlacedFit p = FormFit p.site (out-StmtKind p.kind)

  abbrev pub AllFit : List Placed → Type 0
  AllFit ps = AllByRecursion PlacedFit ps

  pub all_fit : (ps : List Placed) → flat_map placed_faults ps ≡ []
      → (silent ≡ true → (list_any (placed_does Prints prints) ps ≡ false) × (list_any (placed_does Allocates allocates) ps ≡ false)) → AllFit ps
  all_fit [] h still = tt
  all_fit (p ∷ ps) h still =
      let both = both_empty (placed_faults p) (flat_map placed_faults ps) h in (
        form_fit p.site p.at p.kind both.0 (λ is. let none = still is in ((or_parts _ _ none.0).0, (or_parts _ _ none.1).0)),
        all_fit ps both.1 (λ is. let none = still is in ((or_parts _ _ none.0).1, (or_parts _ _ none.1).1)),
      )

  pub both_placed : (xs ys : List Placed) → AllFit (xs ++ ys) → AllFit xs × AllFit ys
  both_placed [] ys fit = (tt, fit)
  both_placed (x ∷ xs) ys fit = let rest = both_placed xs ys fit.1 in ((fit.0, rest.0), rest.1)
