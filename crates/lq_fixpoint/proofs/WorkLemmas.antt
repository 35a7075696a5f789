-- Dropping rows, and the conditions that are due then.
use Rattle.std.proofs.Common.{◌≡◌, ℕ, zero, suc, ◌-◌, ◌<◌, ◌≤◌, ◌≢◌, Bool, true, false, List, [], ◌∷◌, map, length, length-set, get_or, get_or-set_same, get_or-set_other, set, slice_get, Some, ◌⊎◌, inl, inr, refl, sym, ap, ◌∙◌, arith, subst}
use Rattle.std.specs.Prelude.{◌||◌, MatchBool, Contains}
use Rattle.std.specs.List.{AllByRecursion, flat_map}
use Rattle.lq_linear.specs.Form.{Linear}
use Rattle.lq_linear.specs.Row.{Inequality}
use Rattle.lq_linear.specs.declared.item.Item.{Item}
use Rattle.lq_templates.specs.declared.condition.Given.{Given}
use Rattle.lq_templates.specs.declared.condition.Given.TheVariants.{Fixed, Of}
use Rattle.lq_templates.specs.declared.condition.Assign.{Assign}
use Rattle.lq_templates.specs.Conditions.{filled, rows_at, rows_of, IsDerived, IsPart, none, kept, left, IsWithin}
use Rattle.lq_fixpoint.specs.declared.work.Work.{Work}
use Rattle.lq_fixpoint.specs.Sifting.{IsSifted}
use Rattle.lq_fixpoint.specs.Thinning.{row_count, AreDerived}
use Rattle.lq_fixpoint.specs.Work.{marked, IsSettled, Drops}
use Rattle.lq_fixpoint.proofs.Parts.{part_map, part_at, all_itself, all_trans}
use Rattle.lq_fixpoint.proofs.SiftLemmas.{sifted_part, sifted_all, sifted_keeps, sifted_whole}
use Rattle.lq_fixpoint.proofs.GoalLemmas.{all_append, all_front, all_back}
use Rattle.lq_fixpoint.proofs.ThinLemmas.{count_within, count_set, within_set, keeps_set, got_rows}

-- ---- marks

in_none : (x : ℕ) → Contains [] x → ⊥
in_none x h = omega (arith, h.1)

in_first : (y x : ℕ) (xs : List ℕ) → Contains (y ∷ xs) x → (y ≡ x) ⊎ Contains xs x
in_first y x xs h = at h.0 h.1 h.2 where
  at : (k : ℕ) → k < length (y ∷ xs) → get_or (y ∷ xs) k x ≡ x → (y ≡ x) ⊎ Contains xs x
  at zero l e = inl e
  at (suc k) l e = inr (k, omega arith, e)

unset : (due : List Bool) (n k : ℕ) → get_or (set due n true) k true ≡ false → (get_or due k true ≡ false) × (n ≢ k)
unset [] n k h = absurd cc
unset (x ∷ due) zero zero h = absurd cc
unset (x ∷ due) zero (suc k) h = (h, λ e. omega arith)
unset (x ∷ due) (suc n) zero h = (h, λ e. omega arith)
unset (x ∷ due) (suc n) (suc k) h =
    let rest = unset due n k h in
    (rest.0, λ e. rest.1 (omega arith))

pub unmarked : (numbers : List ℕ) (due : List Bool) (k : ℕ) → get_or (marked numbers due) k true ≡ false → (get_or due k true ≡ false) × (Contains numbers k → ⊥)
unmarked [] due k h = (h, in_none k)
unmarked (n ∷ numbers) due k h =
    let rest = unmarked numbers (set due n true) k h in
    let here = unset due n k rest.0 in
    (here.0, λ there. elim (in_first n k numbers there) [ inl e ↦ here.1 e | inr later ↦ rest.1 later ])

pub marked_counted : (numbers : List ℕ) (due : List Bool) → length (marked numbers due) ≡ length due
marked_counted [] due = refl
marked_counted (n ∷ numbers) due = marked_counted numbers (set due n true) ∙ length-set due n true

-- ---- steps

pub drops_none : (A : Assign → Type 0) (users : List (List ℕ)) (old : Work) → A old.assign → Drops A users false old old
drops_none A users old h = record {
  within = all_itself old.assign.rows;
  keeps = λ other w a. w;
  asked = h;
  counted = refl;
  settled = λ number s. s;
  apart = λ number s place there. refl;
  told = refl;
}

-- the same, where what is asked comes to the same
pub drops_as : (A B : Assign → Type 0) (users : List (List ℕ)) (dropped : Bool) (old new : Work) → ((a : Assign) → IsWithin a old.assign → B a → A a) → (A new.assign → B new.assign)
    → Drops A users dropped old new → Drops B users dropped old new
drops_as A B users dropped old new f g d = record {
  within = d.within;
  keeps = λ other w b. d.keeps other w (f other w b);
  asked = g d.asked;
  counted = d.counted;
  settled = d.settled;
  apart = d.apart;
  told = d.told;
}

told_both : (d e : Bool) (old mid new : Work) → IsWithin new.assign mid.assign
    → MatchBool d (row_count mid.assign < row_count old.assign) (mid ≡ old) → MatchBool e (row_count new.assign < row_count mid.assign) (new ≡ mid)
    → MatchBool (d || e) (row_count new.assign < row_count old.assign) (new ≡ old)
told_both true e old mid new w first second = omega (arith, first, count_within new.assign.rows mid.assign.rows w)
told_both false true old mid new w first second = subst (λ (a : Work). row_count new.assign < row_count a.assign) first second
told_both false false old mid new w first second = second ∙ first

-- one step and another
pub drops_both : (A B : Assign → Type 0) (users : List (List ℕ)) (d e : Bool) (old mid new : Work) → ((a b : Assign) → IsWithin b a → A a → A b)
    → Drops A users d old mid → Drops B users e mid new → Drops (λ a. A a × B a) users (d || e) old new
drops_both A B users d e old mid new down first second = record {
  within = all_trans new.assign.rows mid.assign.rows old.assign.rows second.within first.within;
  keeps = λ other w both. second.keeps other (first.keeps other w both.0) both.1;
  asked = (down mid.assign new.assign second.within first.asked, second.asked);
  counted = second.counted ∙ first.counted;
  settled = λ number s. first.settled number (second.settled number s);
  apart = λ number s place there. second.apart number s place there ∙ first.apart number (second.settled number s) place there;
  told = told_both d e old mid new second.within first.told second.told;
}

-- ---- goals

all_of_map : {X Y : Type 0} (P : Y → Type 0) (f : X → Y) (xs : List X) → AllByRecursion P (map f xs) → AllByRecursion (λ x. P (f x)) xs
all_of_map P f [] h = tt
all_of_map P f (x ∷ xs) h = (h.0, all_of_map P f xs h.1)

all_map : {X Y : Type 0} (P : Y → Type 0) (f : X → Y) (xs : List X) → AllByRecursion (λ x. P (f x)) xs → AllByRecursion P (map f xs)
all_map P f [] h = tt
all_map P f (x ∷ xs) h = (h.0, all_map P f xs h.1)

all_of_part : {X : Type 0} (P : X → Type 0) {part whole : List X} → IsPart part whole → AllByRecursion P whole → AllByRecursion P part
all_of_part P none h = tt
all_of_part P (kept p) h = (h.0, all_of_part P p h.1)
all_of_part P (left p) h = all_of_part P p h.1

module _ (M : List ℕ) (facts : List Item) where
  abbrev Derived : Inequality → Type 0
  Derived goal = IsDerived M facts goal

  -- what is derived stays so where rows are dropped
  pub goal_down : (given : Given) (a b : Assign) → IsWithin b a → AllByRecursion (IsDerived M facts) (rows_of a given) → AllByRecursion (IsDerived M facts) (rows_of b given)
  goal_down (Fixed item) a b w h = h
  goal_down (Of template values) a b w h = all_of_part Derived (part_map (filled values) (part_at b.rows a.rows w (template - 1))) h

  pub goals_down : (goals : List Given) (a b : Assign) → IsWithin b a → AreDerived M facts goals a → AreDerived M facts goals b
  goals_down [] a b w h = tt
  goals_down (given ∷ goals) a b w h =
      all_append Derived (rows_of b given) (flat_map (rows_of b) goals) (goal_down given a b w (all_front Derived (rows_of a given) (flat_map (rows_of a) goals) h))
      (goals_down goals a b w (all_back Derived (rows_of a given) (flat_map (rows_of a) goals) h))

  module _ (users : List (List ℕ)) where
    -- the rows of one template are sifted
    module _ (template : ℕ) (values : List Linear) (old : Work) (part : List Inequality)
        (s : IsSifted (λ row. IsDerived M facts (filled values row)) (rows_at old.assign template) part) where
      pub rows_stay : length (rows_at old.assign template) ≤ length part
          → Drops (λ a. AllByRecursion (IsDerived M facts) (rows_of a (Of template values))) users false old old
      rows_stay long =
          drops_none (λ a. AllByRecursion (IsDerived M facts) (rows_of a (Of template values))) users old
          (all_map Derived (filled values) (rows_at old.assign template) (sifted_whole (λ row. IsDerived M facts (filled values row)) (rows_at old.assign template) part s long))

      abbrev after : Assign
      after = record { rows = set old.assign.rows (template - 1) part }

      apart_set : (new : Work) → new.assign ≡ after → new.due.items ≡ marked (get_or users (template - 1) []) old.due.items
          → (number : ℕ) → IsSettled new number → (place : ℕ) → Contains (get_or users place []) number → get_or new.assign.rows place [] ≡ get_or old.assign.rows place []
      apart_set new e m number settled place there =
          let gone = unmarked (get_or users (template - 1) []) old.due.items number (subst (λ due. get_or due number true ≡ false) m settled) in
          let other : place ≢ template - 1 = λ same. gone.1 (subst (λ p. Contains (get_or users p []) number) same there) in
          ap (λ (a : Assign). get_or a.rows place []) e ∙ get_or-set_other old.assign.rows (template - 1) place part [] other

      pub rows_go : (new : Work) → new.assign ≡ after → new.due.items ≡ marked (get_or users (template - 1) []) old.due.items
          → template - 1 < length old.assign.rows → length part < length (rows_at old.assign template)
          → Drops (λ a. AllByRecursion (IsDerived M facts) (rows_of a (Of template values))) users true old new
      rows_go new e m there less = record {
        within = subst (λ (a : Assign). IsWithin a old.assign) (sym e) (within_set old.assign.rows (template - 1) part (sifted_part (λ row. IsDerived M facts (filled values row)) s));
        keeps = λ other w h. subst (λ (a : Assign). IsWithin other a) (sym e) (keeps_set other.rows old.assign.rows (template - 1) part w
            (λ p. sifted_keeps (λ row. IsDerived M facts (filled values row)) s p (all_of_map Derived (filled values) (rows_at other template) h)));
        asked = subst (λ (a : Assign). AllByRecursion (IsDerived M facts) (rows_of a (Of template values))) (sym e)
            (subst (λ l. AllByRecursion (IsDerived M facts) (map (filled values) l)) (sym (get_or-set_same old.assign.rows (template - 1) part [] there))
            (all_map Derived (filled values) part (sifted_all (λ row. IsDerived M facts (filled values row)) s)));
        counted = ap length m ∙ marked_counted (get_or users (template - 1) []) old.due.items;
        settled = λ number h. (unmarked (get_or users (template - 1) []) old.due.items number (subst (λ due. get_or due number true ≡ false) m h)).0;
        apart = apart_set new e m;
        told = subst (λ (a : Assign). row_count a < row_count old.assign) (sym e) (count_set old.assign.rows (template - 1) part there less);
      }

    -- a goal whose template has no rows
    pub goal_empty : (template : ℕ) (values : List Linear) (given : Given) (old : Work) → given ≡ Of template values → [] ≡ rows_at old.assign template
        → Drops (λ a. AllByRecursion (IsDerived M facts) (rows_of a given)) users false old old
    goal_empty template values given old e empty =
        subst (λ g. Drops (λ a. AllByRecursion (IsDerived M facts) (rows_of a g)) users false old old) (sym e)
        (drops_none (λ a. AllByRecursion (IsDerived M facts) (rows_of a (Of template values))) users old
        (subst (λ l. AllByRecursion (IsDerived M facts) (map (filled values) l)) empty tt))

    -- a goal whose rows were sifted
    module _ (template place : ℕ) (values slice : List Linear) (given : Given) (old : Work) (rows kept part : List Inequality)
        (at : place ≡ template - 1) (same : slice ≡ values) (is : given ≡ Of template values) (found : Some rows ≡ slice_get old.assign.rows place) (are : kept ≡ rows)
        (s : IsSifted (λ row. IsDerived M facts (filled slice row)) kept part) where
      rows_there : rows_at old.assign template ≡ rows
      rows_there = ap (λ n. get_or old.assign.rows n []) (sym at) ∙ got_rows old.assign.rows place [] rows found

      sifted_there : IsSifted (λ row. IsDerived M facts (filled values row)) (rows_at old.assign template) part
      sifted_there =
          subst (λ l. IsSifted (λ row. IsDerived M facts (filled values row)) l part) (are ∙ sym rows_there)
          (subst (λ l. IsSifted (λ row. IsDerived M facts (filled l row)) kept part) same s)

      pub goal_stays : length rows ≤ length part → Drops (λ a. AllByRecursion (IsDerived M facts) (rows_of a given)) users false old old
      goal_stays long =
          subst (λ g. Drops (λ a. AllByRecursion (IsDerived M facts) (rows_of a g)) users false old old) (sym is)
          (rows_stay template values old part sifted_there (subst (λ l. length l ≤ length part) (sym rows_there) long))

      pub goal_goes : (new : Work) → new.assign ≡ record { rows = set old.assign.rows place part } → new.due.items ≡ marked (get_or users place []) old.due.items
          → place < length old.assign.rows → length part < length rows
          → Drops (λ a. AllByRecursion (IsDerived M facts) (rows_of a given)) users true old new
      goal_goes new e m there less =
          subst (λ g. Drops (λ a. AllByRecursion (IsDerived M facts) (rows_of a g)) users true old new) (sym is)
          (rows_go template values old part sifted_there new
          (subst (λ n. new.assign ≡ record { rows = set old.assign.rows n part }) at e)
          (subst (λ n. new.due.items ≡ marked (get_or users n []) old.due.items) at m)
          (subst (λ n. n < length old.assign.rows) at there) (subst (λ l. length part < length l) (sym rows_there) less))

    -- the goals of a list, the first and the others
    pub goals_thinned : (d e : Bool) (given : Given) (rest : List Given) (old mid new : Work)
        → Drops (λ a. AllByRecursion (IsDerived M facts) (rows_of a given)) users d old mid → Drops (AreDerived M facts rest) users e mid new
        → Drops (AreDerived M facts (given ∷ rest)) users (d || e) old new
    goals_thinned d e given rest old mid new first second =
        drops_as (λ a. AllByRecursion (IsDerived M facts) (rows_of a given) × AreDerived M facts rest a) (AreDerived M facts (given ∷ rest)) users (d || e) old new
        (λ a w h. (all_front Derived (rows_of a given) (flat_map (rows_of a) rest) h, all_back Derived (rows_of a given) (flat_map (rows_of a) rest) h))
        (λ h. all_append Derived (rows_of new.assign given) (flat_map (rows_of new.assign) rest) h.0 h.1)
        (drops_both (λ a. AllByRecursion (IsDerived M facts) (rows_of a given)) (AreDerived M facts rest) users d e old mid new (goal_down given) first second)
