-- Tests of some item, over nodes, sites and walks.
use Rattle.std.proofs.Common.{◌≡◌, ℕ, ◌+◌, ◌<◌, ◌≤◌, Bool, true, false, ◌||◌, List, [], ◌∷◌, length, get_or, drop, refl, ap, sym, ◌∙◌}
use Rattle.std.specs.List.{list_any}
use Rattle.std.proofs.lemmas.List.{drop_more, drop_all}
use Rattle.std.proofs.lemmas.List.Folds.{list_any-append}
use Rattle.lq_tree.specs.declared.expr.Expr.{Expr}
use Rattle.lq_tree.specs.Walk.{nodes}
use Rattle.lq_tree.proofs.NodeLaws.{nodes_all}

pub or_assoc : (a b c : Bool) → ((a || b) || c) ≡ (a || (b || c))
or_assoc true b c = refl
or_assoc false b c = refl

pub or_false : (a : Bool) → (a || false) ≡ a
or_false true = refl
or_false false = refl

pub any_more : {A : Type 0} (f : A → Bool) (found next last : Bool) (xs : List A) (i : ℕ) (x : A) → i < length xs → x ≡ get_or xs i x
    → (found || list_any f (drop i xs)) ≡ last → next ≡ (found || f x) → (next || list_any f (drop (i + 1) xs)) ≡ last
any_more f found next last xs i x lt is so_far at_next =
    ap (λ (b : Bool). b || list_any f (drop (i + 1) xs)) at_next
    ∙ or_assoc found (f x) (list_any f (drop (i + 1) xs))
    ∙ ap (λ y. found || list_any f (y ∷ drop (i + 1) xs)) is
    ∙ ap (λ ys. found || list_any f ys) (sym (drop_more xs i x lt))
    ∙ so_far

pub any_end : {A : Type 0} (f : A → Bool) (found last : Bool) (xs : List A) (i : ℕ) → length xs ≤ i → (found || list_any f (drop i xs)) ≡ last → found ≡ last
any_end f found last xs i ge so_far = sym (or_false found) ∙ ap (λ ys. found || list_any f ys) (sym (drop_all i xs ge)) ∙ so_far

module _ (test : Expr → Bool) where
  any_nodes : (es : List Expr) → list_any test (nodes_all es) ≡ list_any (λ (e : Expr). list_any test (nodes e)) es
  any_nodes [] = refl
  any_nodes (e ∷ es) = list_any-append test (nodes e) (nodes_all es) ∙ ap (λ b. list_any test (nodes e) || b) (any_nodes es)

  -- a node first, and then its parts
  pub any_through : (e f : Expr) (es : List Expr) (own last : Bool) → e ≡ f → nodes f ≡ f ∷ nodes_all es → own ≡ test e → last ≡ (own || list_any (λ (x : Expr). list_any test (nodes x)) es)
      → last ≡ list_any test (nodes e)
  any_through e f es own last is parts at_own at_last =
      at_last ∙ ap (λ b. b || list_any (λ (x : Expr). list_any test (nodes x)) es) (at_own ∙ ap test is)
      ∙ ap (λ b. test f || b) (sym (any_nodes es)) ∙ ap (list_any test) (sym parts) ∙ ap (λ (x : Expr). list_any test (nodes x)) (sym is)

  pub any_none : (e f : Expr) (own : Bool) → e ≡ f → nodes f ≡ f ∷ [] → own ≡ test e → own ≡ list_any test (nodes e)
  any_none e f own is parts at_own = any_through e f [] own own is parts at_own (sym (or_false own))

  pub any_one : (e f a b : Expr) (own r last : Bool) → e ≡ f → nodes f ≡ f ∷ nodes_all (a ∷ []) → b ≡ a → own ≡ test e → r ≡ list_any test (nodes b) → last ≡ (own || r) → last ≡ list_any test (nodes e)
  any_one e f a b own r last is parts same at_own at_r at_last =
      any_through e f (a ∷ []) own last is parts at_own
      (at_last ∙ ap (λ x. own || x) (at_r ∙ ap (λ (x : Expr). list_any test (nodes x)) same ∙ sym (or_false (list_any test (nodes a)))))

  pub any_two : (e f a b c d : Expr) (own r first q last : Bool) → e ≡ f → nodes f ≡ f ∷ nodes_all (a ∷ c ∷ []) → b ≡ a → d ≡ c → own ≡ test e → r ≡ list_any test (nodes b)
      → first ≡ (own || r) → q ≡ list_any test (nodes d) → last ≡ (first || q) → last ≡ list_any test (nodes e)
  any_two e f a b c d own r first q last is parts same same_too at_own at_r at_first at_q at_last =
      any_through e f (a ∷ c ∷ []) own last is parts at_own
      (at_last ∙ ap (λ x. x || q) at_first ∙ or_assoc own r q ∙ ap (λ x. own || (x || q)) (at_r ∙ ap (λ (x : Expr). list_any test (nodes x)) same)
      ∙ ap (λ x. own || (list_any test (nodes a) || x)) (at_q ∙ ap (λ (x : Expr). list_any test (nodes x)) same_too ∙ sym (or_false (list_any test (nodes c)))))
