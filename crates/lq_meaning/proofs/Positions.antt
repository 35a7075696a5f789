-- Where words stand in their blocks.
use Rattle.std.proofs.Common.{◌≡◌, ℕ, zero, suc, ◌+◌, ◌-◌, ◌*◌, ◌/◌, ◌<◌, false, IsTrue, length, slice_index_or, slice_set, ℤ, sym, ap, ◌∙◌, subst, arith, ⊎_elim}
use Rattle.std.proofs.lemmas.Nat.{mul-add-lt}
use Rattle.std.proofs.lemmas.List.{get_or_read, get_or_past}
use Rattle.std.proofs.lemmas.Bool.{cases_lt, false≢true}
use Rattle.std.proofs.lemmas.Bool.Decides.{nat_tests}
use Rattle.lq_meaning.specs.declared.memory.Block.{Block}
use Rattle.lq_meaning.specs.Memory.{Blocks, address, no_words, block_at, has, lies, with_word}

-- a field of an element of a block has its word within the block
pub position_within : (element field fields words : ℕ) → element < words / fields → field < fields → element * fields + field < words
position_within element field fields words e f =
    let within : element * fields + field < fields * (words / fields) = mul-add-lt element fields field (words / fields) e f in
    omega (arith, within)

-- a block of no words has no element
none_has : (element field : ℕ) → has no_words element field ≡ false
none_has element field = grind (arith, nat_tests)

-- a block that is read by its number, from 1, is the block with that number where an address lies in it
pub block_read : (m : Blocks) (n e f : ℕ) (b : Block) → IsTrue (lies m (address n e f)) → b ≡ slice_index_or m (n - 1) b → b ≡ block_at m n
block_read m zero e f b h r = absurd (false≢true (sym (none_has e f) ∙ h))
block_read m (suc n) e f b h r =
    let at : suc n - 1 ≡ n = omega arith in
    let r' = subst (λ k. b ≡ slice_index_or m k b) at r in
    ⊎_elim (λ within. get_or_read m n b within r' no_words)
    (λ past. absurd (false≢true (sym (ap (λ (c : Block). has c e f) (get_or_past m n no_words past) ∙ none_has e f) ∙ h)))
    (cases_lt n (length m))

-- a block with one other word, in the place of the block that was read, is the memory with that word
pub block_written : (m : Blocks) (n e f : ℕ) (word : ℤ) (old new : Block) → IsTrue (lies m (address n e f)) → old ≡ slice_index_or m (n - 1) old → new.fields ≡ old.fields → new.words ≡ slice_set old.words (e * old.fields + f) word → slice_set m (n - 1) new ≡ with_word m (address n e f) word
block_written m n e f word old new h r fields words =
    let b = block_read m n e f old h r in
    let whole : new ≡ record { fields = old.fields; words = slice_set old.words (e * old.fields + f) word } = λ i. record { fields = fields i; words = words i } in
    ap (slice_set m (n - 1)) (whole ∙ ap (λ (c : Block). record { fields = c.fields; words = slice_set c.words (e * c.fields + f) word }) b)
