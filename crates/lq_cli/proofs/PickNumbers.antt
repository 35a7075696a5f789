-- Numbers of which none is negative, as picks.
use Rattle.std.proofs.Common.{◌≡◌, ℕ, ℤ, pos, negsuc, List, ◌∷◌, map, unsigned_abs, refl, sym, subst, arith}
use Rattle.std.specs.Prelude.{◌≤ℤ◌}
use Rattle.lq_text.specs.Numbers.{SayAll, done, blank, number, IsNumbersFile}

natural : (z : ℤ) → pos 0 ≤ℤ z → pos (unsigned_abs z) ≡ z
natural (pos n) _ = refl
natural (negsuc n) h = absurd (omega (arith, h))

pub naturals : {lines : List (List ℕ)} {numbers : List ℤ} → SayAll (pos 0) lines numbers → map pos (map unsigned_abs numbers) ≡ numbers
naturals done = refl
naturals (blank _ rest) = naturals rest
naturals (number {z = z} _ least rest) = λ j. natural z least j ∷ naturals rest j

-- a file of the numbers is one of the picks
pub IsNumbersFile-picks : (text : List ℕ) (numbers : List ℤ) (picks : List ℕ) → IsNumbersFile (pos 0) text numbers → picks ≡ map unsigned_abs numbers → IsNumbersFile (pos 0) text (map pos picks)
IsNumbersFile-picks text numbers picks file same =
    subst (λ (l : List ℕ). IsNumbersFile (pos 0) text (map pos l)) (sym same) (subst (λ (l : List ℤ). IsNumbersFile (pos 0) text l) (sym (naturals file)) file)
