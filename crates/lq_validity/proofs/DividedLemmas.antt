-- The first divisor.
use Rattle.std.proofs.Common.{◌≡◌, ℕ, ◌<◌, inl, inr, Bool, true, false, List, ◌∷◌, length, get_or, refl, sym, ◌∙◌, arith, subst}
use Rattle.std.proofs.lemmas.Bool.{true≢false, cases_Bool}
use Rattle.std.specs.Prelude.{Some, None}
use Rattle.lq_linear.specs.Row.{Inequality}
use Rattle.lq_linear.specs.Derivation.{Part, Combination, Proves, IsConsequence, IsContradiction}
use Rattle.lq_linear.specs.Ascend.{Ascend}
use Rattle.lq_validity.specs.Order.{Before}
use Rattle.lq_validity.specs.Families.{Settles, SettledBy, WithParts}
use Rattle.lq_validity.proofs.FirstLemmas.{divisor_decides, ascends_at, multiplier_at, place_of, first_here}

-- with just these parts and the divisor at this place
abbrev pub Dividing : List ℕ → List Inequality → Inequality → Bool → List Part → ℕ → Combination → Type 0
Dividing multipliers all goal direct parts k c = WithParts multipliers all goal direct parts c × (k < length multipliers) × (c.divisor ≡ get_or multipliers k 0)

-- what proves the goal is a consequence or a contradiction
pub consequence_of : (all : List Inequality) (goal : Inequality) (void : Bool) (d : ℕ) (parts : List Part) → void ≡ false → Proves all goal (record { void = void; divisor = d; parts = parts }) → IsConsequence all parts d goal
consequence_of all goal true d parts e p = absurd (true≢false e)
consequence_of all goal false d parts e p = p

pub contradiction_of : (all : List Inequality) (goal : Inequality) (void : Bool) (d : ℕ) (parts : List Part) → void ≡ true → Proves all goal (record { void = void; divisor = d; parts = parts }) → IsContradiction all parts × (d ≡ 1)
contradiction_of all goal true d parts e p = p
contradiction_of all goal false d parts e p = absurd (true≢false (sym e))

module _ (multipliers : List ℕ) (all : List Inequality) (goal : Inequality) (direct : Bool) (parts : List Part) where
  -- a consequence with these parts and this divisor
  consequence_at : (k : ℕ) (c : Combination) → Dividing multipliers all goal direct parts k c → c.void ≡ false → IsConsequence all parts (get_or multipliers k 0) goal
  consequence_at k c h e =
      subst (λ p. IsConsequence all p (get_or multipliers k 0) goal) h.0.0
      (subst (λ d. IsConsequence all c.parts d goal) h.2 (consequence_of all goal c.void c.divisor c.parts e h.0.1.proves))

  -- nothing was found with this divisor
  pub none_by : (k : ℕ) → SettledBy direct all goal parts (get_or multipliers k 0) None → (c : Combination) → Dividing multipliers all goal direct parts k c → ⊥
  none_by k s c h = elim (cases_Bool c.void) [
    | inr e ↦ s.0 (consequence_at k c h e)
    | inl e ↦
        let p = contradiction_of all goal c.void c.divisor c.parts e h.0.1.proves in
        s.1 (not_direct direct (λ d. true≢false (sym e ∙ h.0.1.directly d))) (sym h.2 ∙ p.1) (subst (IsContradiction all) h.0.0 p.0)
  ] where
    not_direct : (b : Bool) → (b ≡ true → ⊥) → b ≡ false
    not_direct true f = absurd (f refl)
    not_direct false f = refl

  module _ (up : Ascend (0 ∷ multipliers)) (i : ℕ) (l : i < length multipliers) where
    settled : (void : Bool) → SettledBy direct all goal parts (get_or multipliers i 0) (Some void) → Settles multipliers all goal direct (record { void = void; divisor = get_or multipliers i 0; parts = parts })
    settled true s = record { divides = multiplier_at multipliers i up l; proves = (s.3, s.2); directly = λ d. absurd (true≢false (sym d ∙ s.1)) }
    settled false s = record { divides = multiplier_at multipliers i up l; proves = s; directly = λ d. refl }

    least : (void : Bool) → SettledBy direct all goal parts (get_or multipliers i 0) (Some void) → (other : Combination) → Dividing multipliers all goal direct parts i other → Before other (record { void = void; divisor = get_or multipliers i 0; parts = parts }) → ⊥
    least void s other h b = elim (divisor_decides other (record { void = void; divisor = get_or multipliers i 0; parts = parts }) h.0.0 b) [
      | inl d ↦ omega (arith, d, h.2)
      | inr d ↦ no_consequence void d.2 s (consequence_at i other h d.1)
    ] where
      no_consequence : (void : Bool) → void ≡ true → SettledBy direct all goal parts (get_or multipliers i 0) (Some void) → IsConsequence all parts (get_or multipliers i 0) goal → ⊥
      no_consequence true e s q = s.0 q
      no_consequence false e s q = true≢false (sym e)

    pub divided_first : (void : Bool) → SettledBy direct all goal parts (get_or multipliers i 0) (Some void)
        → ((k : ℕ) → k < i → (c : Combination) → Dividing multipliers all goal direct parts k c → ⊥)
        → WithParts multipliers all goal direct parts (record { void = void; divisor = get_or multipliers i 0; parts = parts })
        × ((other : Combination) → WithParts multipliers all goal direct parts other → Before other (record { void = void; divisor = get_or multipliers i 0; parts = parts }) → ⊥)
    divided_first void s none =
        let found : Combination = record { void = void; divisor = get_or multipliers i 0; parts = parts } in
        first_here (WithParts multipliers all goal direct parts) (Dividing multipliers all goal direct parts) i found (λ h. h.0)
        (λ other h. let p = place_of multipliers other.divisor h.1.divides.1 in (p.0, (h, p.1, sym p.2)))
        none
        (λ k other q h b. elim (divisor_decides other found h.0.0 b) [
          | inl d ↦ omega (arith, d, h.2, ascends_at multipliers i k up.1 q h.1)
          | inr d ↦ omega (arith, d.0, h.2, ascends_at multipliers i k up.1 q h.1)
        ])
        ((refl, settled void s), l, refl) (least void s)
