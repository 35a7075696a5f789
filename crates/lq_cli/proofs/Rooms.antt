-- The last words of a command.
use Rattle.std.proofs.Common.{◌≡◌, ℕ, ◌∙◌, List, [], ◌∷◌, get_or, sym, ap, subst}
use Rattle.lq_cli.specs.Words.{most_words, IsCount, AreRoom}

module _ (most : ℕ) (last : List (List ℕ)) {fuel room : List ℕ} (form : last ≡ fuel ∷ room ∷ []) where
  pub is_room : (f w : ℕ) → IsCount most fuel f → IsCount most_words room w → AreRoom most last f w
  is_room f w is_fuel are_words = record { fuel_word = fuel; words_word = room; form = form; is_fuel = is_fuel; are_words = are_words }

  -- the counts are those of the words
  pub counted_fuel : (f w : ℕ) → AreRoom most last f w → IsCount most fuel f
  counted_fuel f w r = subst (λ (l : List ℕ). IsCount most l f) (ap (λ (l : List (List ℕ)). get_or l 0 []) (sym r.form ∙ form)) r.is_fuel

  pub counted_words : (f w : ℕ) → AreRoom most last f w → IsCount most_words room w
  counted_words f w r = subst (λ (l : List ℕ). IsCount most_words l w) (ap (λ (l : List (List ℕ)). get_or l 1 []) (sym r.form ∙ form)) r.are_words

abbrev tail_of : List (List ℕ) → List (List ℕ)
tail_of [] = []
tail_of (word ∷ words) = words

-- what stands behind the first word is one list
pub behind : (words first_rest other_rest : List (List ℕ)) (first other : List ℕ) → words ≡ first ∷ first_rest → words ≡ other ∷ other_rest → first_rest ≡ other_rest
behind words first_rest other_rest first other p q = ap tail_of (sym p ∙ q)
