-- An expression that is wanted to be of a type: as a value, as the word of a local, and as a word that is stored.
use Rattle.std.proofs.Common.{◌≡◌, ℕ, Bool, true, false, ◌&&◌, if◌then◌else◌, pos, refl, ap, sym, ◌∙◌}
use Rattle.lq_tree.specs.declared.place.Place.{Place}
use Rattle.lq_tree.specs.declared.expr.Expr.{Expr}
use Rattle.lq_tree.specs.declared.plain.PExpr.{PExpr, Num, Null}
use Rattle.lq_tree.specs.declared.plain.PKind.{Set, Store}
use Rattle.lq_tree.specs.Types.{Ty, Number, is_pointer}
use Rattle.lq_plain.specs.Flat.{Env, type_of, Made, then_stands, Valued, valued, Flat, Is, atom, flat, operand, is_pure, is_zero, flatten}
use Rattle.lq_plain.specs.Plain.{flat_of, flat_as, put, assigned, stored}
use Rattle.lq_plain.specs.declared.flat.Flat.{Flat as Known}
use Rattle.lq_plain.specs.declared.flat.Flat.TheVariants as known
use Rattle.lq_plain.specs.SeenFlat.{flat_of as seen_flat, settled}
use Rattle.lq_plain.proofs.Settled.{put_settled, stored_settled}

module _ (env : Env) (at : Place) (type : Ty) (e : Expr) (m : Made) where
  abbrev chosen : Bool → Flat
  chosen null = if null then Is (valued Null m) else flatten env at e m

  pub null_flat : (null : Bool) → null ≡ (is_pointer type && is_zero e) → null ≡ true → valued Null m ≡ flat_as env at type e m
  null_flat null is holds = sym (ap (λ x. flat at (type_of env e) (chosen x)) (sym is ∙ holds))

  pub other_flat : (null : Bool) (v : Valued) → null ≡ (is_pointer type && is_zero e) → null ≡ false → v ≡ flat_of env at e m → v ≡ flat_as env at type e m
  other_flat null v is holds given = given ∙ sym (ap (λ x. flat at (type_of env e) (chosen x)) (sym is ∙ holds))

  pub null_put : (to : ℕ) (null : Bool) (m1 : Made) → null ≡ (is_pointer type && is_zero e) → null ≡ true → m1 ≡ then_stands at (Set to Null) m → m1 ≡ assigned env at to type e m
  null_put to null m1 is holds given = given ∙ sym (ap (λ x. put at to (chosen x)) (sym is ∙ holds))

  pub other_put : (to : ℕ) (null : Bool) (found : Flat) (m1 : Made) → null ≡ (is_pointer type && is_zero e) → null ≡ false → found ≡ settled at (flatten env at e m) → m1 ≡ put at to found → m1 ≡ assigned env at to type e m
  other_put to null found m1 is holds came given = given ∙ ap (put at to) came ∙ put_settled at to (flatten env at e m) ∙ sym (ap (λ x. put at to (chosen x)) (sym is ∙ holds))

module _ (env : Env) (at : Place) (type : Ty) (e : Expr) (named : Flat) where
  -- a store to an element
  pub at_element : (found : Known) (base field : ℕ) (index j w : PExpr) (t : Ty) (pure : Bool) (m1 m2 m3 m4 : Made) → found ≡ known.Names base index field → seen_flat found m1 ≡ settled at named
      → pure ≡ is_pure e → valued j m2 ≡ operand pure at Number (Is (valued index m1)) → t ≡ type → valued w m3 ≡ flat_as env at t e m2 → m4 ≡ then_stands at (Store base j field w) m3
      → m4 ≡ stored env at type e named
  at_element found base field index j w t pure m1 m2 m3 m4 is came p as_index t_is as_word last =
      last
      ∙ ap (λ (x : Valued). then_stands at (Store base j field x.value) x.made) (as_word ∙ ap (λ x. flat_as env at x e m2) t_is)
      ∙ ap (λ (x : Valued). then_stands at (Store base x.value field (flat_as env at type e x.made).value) (flat_as env at type e x.made).made) (as_index ∙ ap (λ x. operand x at Number (Is (valued index m1))) p)
      ∙ ap (λ (x : Known). stored env at type e (seen_flat x m1)) (sym is)
      ∙ ap (stored env at type e) came ∙ stored_settled env at type e named

  nowhere : (found : Known) (m1 : Made) → ((base : ℕ) (index : PExpr) (field : ℕ) → found ≡ known.Names base index field → ⊥)
      → then_stands at (Store 0 (Num (pos 0)) 0 (flat_as env at type e (atom at type (seen_flat found m1)).made).value) (flat_as env at type e (atom at type (seen_flat found m1)).made).made ≡ stored env at type e (seen_flat found m1)
  nowhere (known.Is v) m1 no_element = refl
  nowhere (known.Names base index field) m1 no_element = absurd (no_element base index field refl)
  nowhere (known.Call number args) m1 no_element = refl
  nowhere (known.Calloc count ctype) m1 no_element = refl

  -- a store to what has no place
  pub at_nothing : (found : Known) (u w : PExpr) (s t : Ty) (m1 m2 m3 m4 : Made) → ((base : ℕ) (index : PExpr) (field : ℕ) → found ≡ known.Names base index field → ⊥) → seen_flat found m1 ≡ settled at named
      → s ≡ type → valued u m2 ≡ atom at s (seen_flat found m1) → t ≡ type → valued w m3 ≡ flat_as env at t e m2 → m4 ≡ then_stands at (Store 0 (Num (pos 0)) 0 w) m3
      → m4 ≡ stored env at type e named
  at_nothing found u w s t m1 m2 m3 m4 no_element came s_is as_atom t_is as_word last =
      last
      ∙ ap (λ (x : Valued). then_stands at (Store 0 (Num (pos 0)) 0 x.value) x.made) (as_word ∙ ap (λ x. flat_as env at x e m2) t_is)
      ∙ ap (λ (x : Valued). then_stands at (Store 0 (Num (pos 0)) 0 (flat_as env at type e x.made).value) (flat_as env at type e x.made).made) (as_atom ∙ ap (λ x. atom at x (seen_flat found m1)) s_is)
      ∙ nowhere found m1 no_element ∙ ap (stored env at type e) came ∙ stored_settled env at type e named
