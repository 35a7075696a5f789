-- The bytes of names.
use Rattle.std.proofs.Common.{◌≡◌, ◌≢◌, ℕ, true, false, List, [], ◌∷◌, get_or, sym, ap, ◌∙◌}
use Rattle.std.specs.List.{list_all, AllByRecursion}
use Rattle.std.proofs.lemmas.Bool.{true≢false, or_left}
use Rattle.std.proofs.lemmas.List.Elements.{recursion_from_All}
use Rattle.std.proofs.lemmas.List.Sums.{AllPass-from_list_all}
use Rattle.lq_text.specs.Byte.{is_letter, is_name_byte}
use Rattle.lq_text.specs.Name.{IsIdentifier, IsName}
use Rattle.lq_text.proofs.Lists.{Avoids, all_weaker}

pub name_bytes : (text : List ℕ) → IsIdentifier text → AllByRecursion (λ b. is_name_byte b ≡ true) text
name_bytes [] h = absurd h
name_bytes (first ∷ more) h = (or_left _ _ h.0, recursion_from_All _ more h.1)

-- letters, digits and `_` hold no byte that names lack
avoids_outside : (byte : ℕ) (text : List ℕ) → is_name_byte byte ≡ false → AllByRecursion (λ b. is_name_byte b ≡ true) text → Avoids byte text
avoids_outside byte text lacks h =
    all_weaker _ _ (λ b yes same. true≢false (sym yes ∙ ap is_name_byte same ∙ lacks)) text h

pub name_avoids : (byte : ℕ) (text : List ℕ) → is_name_byte byte ≡ false → IsName text → Avoids byte text
name_avoids byte text lacks h = avoids_outside byte text lacks (name_bytes text h.identifier)

-- the same of a word that a test finds to have such bytes alone
pub word_avoids : (byte : ℕ) (text : List ℕ) → is_name_byte byte ≡ false → list_all is_name_byte text ≡ true → Avoids byte text
word_avoids byte text lacks h = avoids_outside byte text lacks (recursion_from_All _ text (AllPass-from_list_all is_name_byte text h))

identifier_first : (byte : ℕ) (text : List ℕ) → is_letter byte ≡ false → IsIdentifier text → get_or text 0 0 ≢ byte
identifier_first byte [] lacks h same = absurd h
identifier_first byte (first ∷ more) lacks h same = true≢false (sym h.0 ∙ ap is_letter same ∙ lacks)

-- a name begins with a letter or `_`
pub name_first : (byte : ℕ) (text : List ℕ) → is_letter byte ≡ false → IsName text → get_or text 0 0 ≢ byte
name_first byte text lacks h = identifier_first byte text lacks h.identifier
