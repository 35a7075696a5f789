-- The least fault over an expression, from that of its parts.
use Rattle.std.proofs.Common.{◌≡◌, ℕ, ◌+◌, ◌<◌, ◌≤◌, List, [], ◌∷◌, ◌++◌, length, get_or, drop, Option, refl, ap, sym, ◌∙◌, subst}
use Rattle.std.specs.List.{flat_map}
use Rattle.std.proofs.lemmas.Grind.{flat_map-append}
use Rattle.std.proofs.lemmas.List.{append-nil, drop_more, drop_all}
use Rattle.lq_tree.specs.declared.place.Place.{Place}
use Rattle.lq_tree.specs.declared.expr.Expr.{Expr, out-Expr}
use Rattle.lq_names.specs.declared.fault.Fault.{Fault}
use Rattle.lq_names.specs.Scopes.{Site}
use Rattle.lq_tree.specs.Walk.{nodes}
use Rattle.lq_names.specs.Faults.{expression_rules, node_rules, noted}
use Rattle.lq_tree.proofs.NodeLaws.{nodes_all}
use Rattle.lq_names.proofs.LeastLaws.{noted_append, noted_nothing}

module _ (s : Site) (at : Place) (found : Option Fault) where
  at_each : Expr → List ℕ
  at_each n = node_rules s (out-Expr n)

  rules_of_parts : (es : List Expr) → flat_map (λ (n : Expr). node_rules s (out-Expr n)) (nodes_all es) ≡ flat_map (expression_rules s) es
  unfolding expression_rules
  rules_of_parts [] = refl
  rules_of_parts (e ∷ es) = flat_map-append (λ (n : Expr). node_rules s (out-Expr n)) (nodes e) (nodes_all es) ∙ ap (λ rs. flat_map (λ (n : Expr). node_rules s (out-Expr n)) (nodes e) ++ rs) (rules_of_parts es)

  pub by_parts : (e : Expr) (es : List Expr) → nodes e ≡ e ∷ nodes_all es → expression_rules s e ≡ node_rules s (out-Expr e) ++ flat_map (expression_rules s) es
  unfolding expression_rules
  by_parts e es is = ap (flat_map (λ (n : Expr). node_rules s (out-Expr n))) is ∙ ap (λ rs. node_rules s (out-Expr e) ++ rs) (rules_of_parts es)

  -- an expression whose node is noted first, and then its parts
  pub through : (e f : Expr) (es : List Expr) (first last : Option Fault) → e ≡ f → nodes f ≡ f ∷ nodes_all es → first ≡ noted at found (node_rules s (out-Expr e))
      → last ≡ noted at first (flat_map (expression_rules s) es) → last ≡ noted at found (expression_rules s e)
  through e f es first last is parts at_first at_last =
      let own : nodes e ≡ e ∷ nodes_all es = subst (λ (x : Expr). nodes x ≡ x ∷ nodes_all es) (sym is) parts in
      at_last ∙ ap (λ (o : Option Fault). noted at o (flat_map (expression_rules s) es)) at_first
      ∙ sym (noted_append at found (node_rules s (out-Expr e)) (flat_map (expression_rules s) es)) ∙ ap (noted at found) (sym (by_parts e es own))

  pub none : (e f : Expr) (first : Option Fault) → e ≡ f → nodes f ≡ f ∷ [] → first ≡ noted at found (node_rules s (out-Expr e)) → first ≡ noted at found (expression_rules s e)
  none e f first is parts at_first = through e f [] first first is parts at_first (sym (noted_nothing at first))

  pub one : (e f a b : Expr) (first last : Option Fault) → e ≡ f → nodes f ≡ f ∷ nodes_all (a ∷ []) → b ≡ a → first ≡ noted at found (node_rules s (out-Expr e))
      → last ≡ noted at first (expression_rules s b) → last ≡ noted at found (expression_rules s e)
  one e f a b first last is parts same at_first at_last =
      through e f (a ∷ []) first last is parts at_first
      (at_last ∙ ap (λ (x : Expr). noted at first (expression_rules s x)) same ∙ ap (noted at first) (sym (append-nil (expression_rules s a))))

  pub two : (e f a b c d : Expr) (first next last : Option Fault) → e ≡ f → nodes f ≡ f ∷ nodes_all (a ∷ c ∷ []) → b ≡ a → d ≡ c → first ≡ noted at found (node_rules s (out-Expr e))
      → next ≡ noted at first (expression_rules s b) → last ≡ noted at next (expression_rules s d) → last ≡ noted at found (expression_rules s e)
  two e f a b c d first next last is parts same same_too at_first at_next at_last =
      through e f (a ∷ c ∷ []) first last is parts at_first
      (at_last ∙ ap (λ (x : Expr). noted at next (expression_rules s x)) same_too
      ∙ ap (λ (o : Option Fault). noted at o (expression_rules s c)) (at_next ∙ ap (λ (x : Expr). noted at first (expression_rules s x)) same)
      ∙ sym (noted_append at first (expression_rules s a) (expression_rules s c))
      ∙ ap (λ (rs : List ℕ). noted at first (expression_rules s a ++ rs)) (sym (append-nil (expression_rules s c))))

  -- a walk over several expressions, one more on; `last` is what all give
  pub one_more : (last next : Option Fault) (es : List Expr) (i : ℕ) (x : Expr) → i < length es → x ≡ get_or es i x → noted at found (flat_map (expression_rules s) (drop i es)) ≡ last
      → next ≡ noted at found (expression_rules s x) → noted at next (flat_map (expression_rules s) (drop (i + 1) es)) ≡ last
  one_more last next es i x lt is so_far at_next =
      ap (λ (o : Option Fault). noted at o (flat_map (expression_rules s) (drop (i + 1) es))) at_next
      ∙ sym (noted_append at found (expression_rules s x) (flat_map (expression_rules s) (drop (i + 1) es)))
      ∙ ap (λ (y : Expr). noted at found (expression_rules s y ++ flat_map (expression_rules s) (drop (i + 1) es))) is
      ∙ ap (λ (ys : List Expr). noted at found (flat_map (expression_rules s) ys)) (sym (drop_more es i x lt))
      ∙ so_far

  pub at_end : (last : Option Fault) (es : List Expr) (i : ℕ) → length es ≤ i → noted at found (flat_map (expression_rules s) (drop i es)) ≡ last → found ≡ last
  at_end last es i ge so_far = sym (noted_nothing at found) ∙ ap (λ (ys : List Expr). noted at found (flat_map (expression_rules s) ys)) (sym (drop_all i es ge)) ∙ so_far
