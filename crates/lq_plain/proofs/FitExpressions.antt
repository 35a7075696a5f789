-- What the name rules leave of the nodes of an expression, and where they are silent.
use Rattle.std.proofs.Common.{◌≡◌, ℕ, Bool, true, false, ◌&&◌, List, [], ◌∷◌, ◌++◌, refl, ap, ap₂, sym, ◌∙◌}
use Rattle.std.specs.List.{AllByRecursion, list_any, flat_map}
use Rattle.std.proofs.lemmas.Bool.{or_parts}
use Rattle.lq_tree.specs.declared.expr.Expr.{Expr, out-Expr}
use Rattle.lq_tree.specs.declared.expr.Expr.TheOpen as layer
use Rattle.lq_tree.specs.Walk.{nodes}
use Rattle.lq_names.specs.declared.effects.Effect.TheVariants.{Prints, Allocates}
use Rattle.lq_names.specs.Calls.{node_does, expression_does}
use Rattle.lq_names.specs.Scopes.{Site}
use Rattle.lq_names.specs.Rules.{Node, n1, n3, n5, n6, n7, n8, n9}
use Rattle.lq_names.specs.Faults.{node_rules, expression_rules}
use Rattle.lq_plain.proofs.NamedExpressions.{AreKept, first_kept, both_empty, node_of, out_is}

-- both are so
pub false_and : (a b : Bool) → a ≡ true → (a && b) ≡ false → b ≡ false
false_and true b is h = h
false_and false b is h = absurd cc

-- a node that neither allocates nor calls a function that may print or allocate
abbrev pub IsQuietNode : (prints allocates : List ℕ → Bool) → Node → Type 0
IsQuietNode prints allocates (layer.Call f args) = (prints f ≡ false) × (allocates f ≡ false)
IsQuietNode prints allocates (layer.Calloc e type) = ⊥
IsQuietNode prints allocates _ = Unit {0}

quiet_does : (prints allocates : List ℕ → Bool) (n : Node) → node_does Prints prints n ≡ false → node_does Allocates allocates n ≡ false → IsQuietNode prints allocates n
quiet_does prints allocates (layer.Call f args) h g = (h, g)
quiet_does prints allocates (layer.Calloc e type) h g = absurd cc
quiet_does prints allocates _ h g = tt

quiet_parallel : (s : Site) (n : Node) → s.parallel ≡ true → n8 s n ≡ false → n9 s n ≡ false → IsQuietNode s.prints s.allocates n
quiet_parallel s (layer.Call f args) is h g = (false_and s.parallel (s.prints f) is h, false_and s.parallel (s.allocates f) is g)
quiet_parallel s (layer.Calloc e type) is h g = absurd cc
quiet_parallel s _ is h g = tt

-- what a node keeps
pub record NodeKept (s : Site) (n : Node) : Type 0 where
  pub main : n1 n ≡ false
  pub known : n3 s n ≡ false
  pub agrees : n5 s n ≡ false
  pub gives : n6 s n ≡ false
  pub whole : n7 s n ≡ false
  pub parallel : s.parallel ≡ true → IsQuietNode s.prints s.allocates n

kept : (s : Site) (n : Node) → node_rules s n ≡ [] → NodeKept s n
kept s n h =
    let a = first_kept (n1 n) 1 _ h in
    let b = first_kept (n3 s n) 3 _ a.1 in
    let c = first_kept (n5 s n) 5 _ b.1 in
    let d = first_kept (n6 s n) 6 _ c.1 in
    let e = first_kept (n7 s n) 7 _ d.1 in
    let f = first_kept (n8 s n) 8 _ e.1 in
    let g = first_kept (n9 s n) 9 _ f.1 in
    record { main = a.0; known = b.0; agrees = c.0; gives = d.0; whole = e.0; parallel = λ is. quiet_parallel s n is f.0 g.0 }

-- in a silent function these neither print nor allocate
module _ (silent : Bool) (prints allocates : List ℕ → Bool) (s : Site) where
  pub record IsFit (e : Expr) : Type 0 where
    pub rules : node_rules s (out-Expr e) ≡ []
    pub quiet : silent ≡ true → IsQuietNode prints allocates (node_of e)

  pub kept_at : {e : Expr} → IsFit e → NodeKept s (node_of e)
  kept_at {e} fit = kept s (node_of e) (ap (node_rules s) (sym (out_is e)) ∙ fit.rules)

  abbrev pub AreFit : List Expr → Type 0
  AreFit es = AllByRecursion IsFit es

  pub fit_kept : (es : List Expr) → AreFit es → AreKept s es
  fit_kept [] fit = refl
  fit_kept (e ∷ es) fit = ap₂ {A = List ℕ} {B = List ℕ} (λ xs ys. xs ++ ys) (fit.0).rules (fit_kept es fit.1)

  pub both_fit : (xs ys : List Expr) → AreFit (xs ++ ys) → AreFit xs × AreFit ys
  both_fit [] ys fit = (tt, fit)
  both_fit (x ∷ xs) ys fit = let rest = both_fit xs ys fit.1 in ((fit.0, rest.0), rest.1)

  pub one_fit : (e : Expr) → AreFit (nodes e ++ []) → AreFit (nodes e)
  one_fit e fit = (both_fit (nodes e) [] fit).0

  nodes_fit : (es : List Expr) → flat_map (λ (n : Expr). node_rules s (out-Expr n)) es ≡ []
      → (silent ≡ true → (list_any (λ (n : Expr). node_does Prints prints (out-Expr n)) es ≡ false) × (list_any (λ (n : Expr). node_does Allocates allocates (out-Expr n)) es ≡ false)) → AreFit es
  nodes_fit [] h still = tt
  nodes_fit (e ∷ es) h still =
      let both = both_empty (node_rules s (out-Expr e)) _ h in (
        record {
          rules = both.0;
          quiet = λ is.
              let none = still is in
              quiet_does prints allocates (node_of e)
              (ap (node_does Prints prints) (sym (out_is e)) ∙ (or_parts _ _ none.0).0)
              (ap (node_does Allocates allocates) (sym (out_is e)) ∙ (or_parts _ _ none.1).0);
        },
        nodes_fit es both.1 (λ is. let none = still is in ((or_parts _ _ none.0).1, (or_parts _ _ none.1).1)),
      )

  -- an expression that breaks no rule
  pub expression_fit : (e : Expr) → expression_rules s e ≡ [] → (silent ≡ true → (expression_does Prints prints e ≡ false) × (expression_does Allocates allocates e ≡ false)) → AreFit (nodes e)
  unfolding expression_rules
  expression_fit e h still = nodes_fit (nodes e) h still
