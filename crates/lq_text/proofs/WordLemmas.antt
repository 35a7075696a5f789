-- Texts among others.
use Rattle.std.proofs.Common.{◌≡◌, ℕ, Bool, true, ◌||◌, List, Bor, [], ◌∷◌, map, refl, ap, subst, inl, inr}
use Rattle.std.specs.List.{list_any, list_all}
use Rattle.std.specs.Str.{bytes_eq}
use Rattle.std.proofs.lemmas.Bool.{and_parts, or_cases}
use Rattle.std.proofs.lemmas.Slice.Eq.{bytes_eq-Decides}
use Rattle.lq_text.specs.Word.{is_among}

-- a search through texts that are lent
pub is_among-map : (texts : List (Bor (List ℕ))) (text : List ℕ) → list_any (λ (each : Bor (List ℕ)). bytes_eq each.now text) texts ≡ is_among (map (λ (each : Bor (List ℕ)). each.now) texts) text
is_among-map [] text = refl
is_among-map (each ∷ texts) text = ap (λ (b : Bool). bytes_eq each.now text || b) (is_among-map texts text)

-- what each text of a list passes, a text among them passes
pub among_passes : (p : List ℕ → Bool) (texts : List (List ℕ)) (text : List ℕ) → list_all p texts ≡ true → is_among texts text ≡ true → p text ≡ true
among_passes p [] text all among = absurd cc
among_passes p (each ∷ texts) text all among =
    let parts = and_parts (p each) (list_all p texts) all in
    elim (or_cases (bytes_eq each text) (is_among texts text) among) [
      | inl same ↦ subst (λ (t : List ℕ). p t ≡ true) ((bytes_eq-Decides each text).0 same) parts.0
      | inr later ↦ among_passes p texts text parts.1 later
    ]
