-- The first multipliers.
use Rattle.std.proofs.Common.{◌≡◌, ℕ, ◌<◌, Bool, List, [], ◌∷◌, ◌++◌, length, get_or, refl, sym, ap, ◌∙◌, subst, append_assoc, append-nil}
use Rattle.std.proofs.lemmas.List.{map-append}
use Rattle.std.specs.Prelude.{Option, Some, None}
use Rattle.std.specs.List.{AllByRecursion}
use Rattle.lq_linear.specs.Row.{Inequality}
use Rattle.lq_linear.specs.Derivation.{Part, Combination, IsMultiplier}
use Rattle.lq_linear.specs.Ascend.{Ascend}
use Rattle.lq_validity.specs.Order.{Before, numbers_of, multipliers_of}
use Rattle.lq_validity.specs.Families.{WithParts, WithNumbers, WithNumbersBy, FindsFirst}
use Rattle.lq_validity.proofs.FirstLemmas.{not_by_multiplier, ascends_at, multiplier_at, place_of, first_here}

-- families with the same members have the same first
pub finds_map : (A B : Combination → Type 0) → ((c : Combination) → A c → B c) → ((c : Combination) → B c → A c) → (found : Option Combination) → FindsFirst A found → FindsFirst B found
finds_map A B f g None h = λ c b. h c (g c b)
finds_map A B f g (Some found) h = (f found h.0, λ other b. h.1 other (g other b))

module _ (multipliers : List ℕ) (all : List Inequality) (goal : Inequality) (direct : Bool) (parts : List Part) where
  alone : (c : Combination) → WithParts multipliers all goal direct parts c → WithNumbers multipliers all goal direct parts [] c
  alone c h = record { more = []; joined = h.0 ∙ sym (append-nil parts); numbered = refl; multiplied = tt; settles = h.1 }

  alone_back : (c : Combination) → WithNumbers multipliers all goal direct parts [] c → WithParts multipliers all goal direct parts c
  alone_back c h = (h.joined ∙ none h.more h.numbered, h.settles) where
    none : (more : List Part) → numbers_of more ≡ [] → parts ++ more ≡ parts
    none [] e = append-nil parts
    none (part ∷ more) e = cc

  pub finds_alone : (found : Option Combination) → FindsFirst (WithParts multipliers all goal direct parts) found → FindsFirst (WithNumbers multipliers all goal direct parts []) found
  finds_alone found h = finds_map (WithParts multipliers all goal direct parts) (WithNumbers multipliers all goal direct parts []) alone alone_back found h

  module _ (number : ℕ) (rest : List ℕ) where
    At : ℕ → Combination → Type 0
    At k c = WithNumbersBy multipliers all goal direct parts number rest (get_or multipliers k 0) c × (k < length multipliers)

    joined_with : (m : ℕ) (c : Combination) → IsMultiplier multipliers m → WithNumbersBy multipliers all goal direct parts number rest m c → WithNumbers multipliers all goal direct parts (number ∷ rest) c
    joined_with m c i h = record {
      more = (m, number) ∷ h.more;
      joined = h.joined ∙ append_assoc parts ((m, number) ∷ []) h.more;
      numbered = ap (λ l. number ∷ l) h.numbered;
      multiplied = (i, h.multiplied);
      settles = h.settles;
    }

    split_off : (c : Combination) → WithNumbers multipliers all goal direct parts (number ∷ rest) c → (m : ℕ) × IsMultiplier multipliers m × WithNumbersBy multipliers all goal direct parts number rest m c
    split_off c h = go h.more h.joined h.numbered h.multiplied where
      go : (more : List Part) → c.parts ≡ parts ++ more → numbers_of more ≡ number ∷ rest → AllByRecursion (λ part. IsMultiplier multipliers part.0) more → (m : ℕ) × IsMultiplier multipliers m × WithNumbersBy multipliers all goal direct parts number rest m c
      go [] j n i = cc
      go ((m, k) ∷ more) j n i =
          let head : k ≡ number = heads n in (
            m,
            i.0,
            record {
              more = more;
              joined = j ∙ sym (append_assoc parts ((m, k) ∷ []) more) ∙ ap (λ x. (parts ++ (m, x) ∷ []) ++ more) head;
              numbered = tails n;
              multiplied = i.1;
              settles = h.settles;
            },
          ) where
            heads : k ∷ numbers_of more ≡ number ∷ rest → k ≡ number
            heads e = cc

            tails : k ∷ numbers_of more ≡ number ∷ rest → numbers_of more ≡ rest
            tails e = cc

    numbers_with : (m : ℕ) (c : Combination) → WithNumbersBy multipliers all goal direct parts number rest m c → numbers_of c.parts ≡ numbers_of (parts ++ (0, number) ∷ []) ++ rest
    numbers_with m c h =
        ap numbers_of h.joined ∙ map-append (λ p. p.1) (parts ++ (m, number) ∷ []) h.more
        ∙ ap (λ l. l ++ numbers_of h.more) (map-append (λ p. p.1) parts ((m, number) ∷ []) ∙ sym (map-append (λ p. p.1) parts ((0, number) ∷ [])))
        ∙ ap (λ l. numbers_of (parts ++ (0, number) ∷ []) ++ l) h.numbered

    multipliers_with : (m : ℕ) (c : Combination) → (h : WithNumbersBy multipliers all goal direct parts number rest m c) → multipliers_of c.parts ≡ multipliers_of parts ++ m ∷ multipliers_of h.more
    multipliers_with m c h =
        ap multipliers_of (h.joined ∙ append_assoc parts ((m, number) ∷ []) h.more) ∙ map-append (λ p. p.0) parts ((m, number) ∷ h.more)

    module _ (up : Ascend (0 ∷ multipliers)) where
      pub multiplied_first : (i : ℕ) → i < length multipliers → (found : Combination)
          → ((k : ℕ) → k < i → (c : Combination) → WithNumbersBy multipliers all goal direct parts number rest (get_or multipliers k 0) c → ⊥)
          → WithNumbersBy multipliers all goal direct parts number rest (get_or multipliers i 0) found
          × ((other : Combination) → WithNumbersBy multipliers all goal direct parts number rest (get_or multipliers i 0) other → Before other found → ⊥)
          → WithNumbers multipliers all goal direct parts (number ∷ rest) found
          × ((other : Combination) → WithNumbers multipliers all goal direct parts (number ∷ rest) other → Before other found → ⊥)
      unfolding At
      multiplied_first i l found none h =
          first_here (WithNumbers multipliers all goal direct parts (number ∷ rest)) At i found
          (λ a. joined_with (get_or multipliers i 0) found (multiplier_at multipliers i up l) a.0)
          (λ other o.
          let s = split_off other o in
          let p = place_of multipliers s.0 s.1.1 in
          (p.0, (subst (λ m. WithNumbersBy multipliers all goal direct parts number rest m other) (sym p.2) s.2, p.1)))
          (λ k q c a. none k q c a.0)
          (λ k other q a b. not_by_multiplier other found (multipliers_of parts) (multipliers_of (a.0).more) (multipliers_of (h.0).more) (get_or multipliers k 0) (get_or multipliers i 0)
          (numbers_with (get_or multipliers k 0) other a.0 ∙ sym (numbers_with (get_or multipliers i 0) found h.0))
          (multipliers_with (get_or multipliers k 0) other a.0) (multipliers_with (get_or multipliers i 0) found h.0) (ascends_at multipliers i k up.1 q a.1) b)
          (h.0, l)
          (λ other a. h.1 other a.0)

      pub multiplied_none : ((k : ℕ) → k < length multipliers → (c : Combination) → WithNumbersBy multipliers all goal direct parts number rest (get_or multipliers k 0) c → ⊥)
          → (c : Combination) → WithNumbers multipliers all goal direct parts (number ∷ rest) c → ⊥
      multiplied_none none c h =
          let s = split_off c h in
          let p = place_of multipliers s.0 s.1.1 in
          none p.0 p.1 c (subst (λ m. WithNumbersBy multipliers all goal direct parts number rest m c) (sym p.2) s.2)

-- what was found, where something was
pub finds_at : (Those : Combination → Type 0) (r : Option Combination) (found : Combination) → r ≡ Some found → FindsFirst Those r → Those found × ((other : Combination) → Those other → Before other found → ⊥)
finds_at Those r found e h = subst (FindsFirst Those) e h
