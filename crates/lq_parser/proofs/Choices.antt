-- A rule behind lexemes that were read before, and a rule whose value holds the place of its first lexeme.
use Rattle.std.proofs.Common.{sym, ap, ◌∙◌, subst, refl}
use Rattle.std.specs.Prelude.{◌≡◌, Option, None, Some, List, [], ◌∷◌, ◌++◌}
use Rattle.lq_tree.specs.declared.place.Place.{Place}
use Rattle.lq_parser.specs.declared.lexeme.Lexeme.{Lexeme}
use Rattle.lq_parser.specs.Lexemes.{first}
use Rattle.lq_parser.specs.Outcome.{Done, Fails, place_of_first}
use Rattle.lq_parser.proofs.Leads.{Leads}

-- the list that begins with this lexeme
pub begins_with : (ls : List Lexeme) (l : Lexeme) → first ls ≡ Some l → (rest : List Lexeme) × (ls ≡ l ∷ rest)
begins_with [] l h = absurd cc
begins_with (m ∷ ls) l h = (ls, cc)

pub empty_front : (front other : List Lexeme) → front ++ other ≡ [] → front ≡ []
empty_front [] other h = refl
empty_front (l ∷ front) other h = absurd cc

pub is_empty : (ls : List Lexeme) → first ls ≡ None → ls ≡ []
is_empty [] h = refl
is_empty (l ∷ ls) h = absurd cc

-- the place of the first lexeme doesn't depend on what comes later
same_place : (u w : List Lexeme) → (u ≡ [] → ⊥) → place_of_first u ≡ place_of_first (u ++ w)
same_place [] w some = absurd (some refl)
same_place (l ∷ u) w some = refl

first_place : (other rest : List Lexeme) → first other ≡ first rest → place_of_first other ≡ place_of_first rest
first_place [] [] h = refl
first_place [] (l ∷ rest) h = absurd cc
first_place (m ∷ other) [] h = absurd cc
first_place (m ∷ other) (l ∷ rest) h = let e : m ≡ l = cc in ap (λ (k : Lexeme). k.at) e

places_agree : (x other rest : List Lexeme) → first other ≡ first rest → place_of_first (x ++ other) ≡ place_of_first (x ++ rest)
places_agree [] other rest h = first_place other rest h
places_agree (l ∷ x) other rest h = refl

-- a rule whose value holds the place of its first lexeme
pub leads_placed : {A : Type 0} {X : List Lexeme → A → Type 0} {R : Place → List Lexeme → A → Type 0} {F : Option Lexeme → Type 0} {ls : List Lexeme}
    → ((at : Place) (u : List Lexeme) (v : A) → R at u v → at ≡ place_of_first u → X u v)
    → ((u : List Lexeme) (v : A) → X u v → R (place_of_first u) u v)
    → ((at : Place) (u : List Lexeme) (v : A) → R at u v → u ≡ [] → ⊥)
    → ((at to : Place) (u : List Lexeme) (v : A) → R at u v → (w : A) × R to u w)
    → Leads X F ls (R (place_of_first ls)) ls
leads_placed {A = A} {X = X} {R = R} {F = F} {ls = ls} into from some moved = record { done = done; fails = fails }
  where
    here : (front end other f r : List Lexeme) (w : A) → ls ≡ front ++ end → first other ≡ first end → front ++ other ≡ f ++ r → X f w → R (place_of_first ls) f w
    here front end other f r w split h eq x =
        let y = from f w x in
        let e : place_of_first f ≡ place_of_first ls = same_place f r (some (place_of_first f) f w y) ∙ sym (ap place_of_first eq) ∙ places_agree front other end h ∙ sym (ap place_of_first split) in
        subst (λ (p : Place). R p f w) e y

    done : (v : A) (end : List Lexeme) → Done (R (place_of_first ls)) F ls v end → Done X F ls v end
    done v end e = record {
      front = e.front;
      split = e.split;
      spelled = into (place_of_first ls) e.front v e.spelled (ap place_of_first e.split ∙ sym (same_place e.front end (some (place_of_first ls) e.front v e.spelled)));
      only = λ other f r w h eq x s. e.only other f r w h eq (here e.front end other f r w e.split h eq x) s;
    }

    fails : (end : List Lexeme) → Fails (R (place_of_first ls)) F ls end → Fails X F ls end
    fails end e = let m = moved (place_of_first ls) (place_of_first (e.front ++ e.more)) (e.front ++ e.more) e.value e.viable in record {
      front = e.front;
      split = e.split;
      more = e.more;
      value = m.0;
      viable = into (place_of_first (e.front ++ e.more)) (e.front ++ e.more) m.0 m.1 refl;
      dead = λ other f r w h eq x s. e.dead other f r w h eq (here e.front end other f r w e.split h eq x) s;
    }
