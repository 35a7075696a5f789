-- Which elements of a block an address can name.
use Rattle.std.proofs.Common.{◌≡◌, ◌≢◌, ◌↔◌, ℕ, zero, suc, ◌+◌, ◌*◌, ◌/◌, ◌<◌, ◌≤◌, ◌^◌, ◌&&◌, false, nat_lt, length, ℤ, pos, negsuc, None, refl, sym, ap, ◌∙◌, arith, ⊎_elim}
use Rattle.std.proofs.Math.Nat.{div-le_self, div-lt_iff_lt-mul}
use Rattle.std.proofs.Math.Dec.{leb}
use Rattle.std.proofs.lemmas.List.Elements.{All-get_or}
use Rattle.std.proofs.lemmas.List.{get_or_past}
use Rattle.std.proofs.lemmas.Bool.{cases_lt, lt-ltb, le-ltb, cond-false, le-leb, lt-leb}
use Rattle.std.proofs.Math.Bool.{and-true}
use Rattle.lq_meaning.specs.declared.memory.Block.{Block}
use Rattle.lq_meaning.specs.Memory.{Blocks, Addressable, address, elements, no_words, block_at, has, lies, reach_element}

-- a number is below a quotient where its next multiple of the divisor is within
below_quotient : (element fields words : ℕ) → 0 < fields → nat_lt element (words / fields) ≡ leb ((element + 1) * fields) words
below_quotient element fields words h =
    let both : (words / fields < element + 1) ↔ (words < (element + 1) * fields) = div-lt_iff_lt-mul h in
    ⊎_elim
    (λ below.
    ⊎_elim (λ past. let contrary : words / fields < element + 1 = both.1 past in absurd (omega arith))
    (λ within. lt-ltb _ _ below ∙ sym (le-leb _ _ within))
    (cases_lt words ((element + 1) * fields)))
    (λ above.
    let near : words / fields < element + 1 = omega arith in
    le-ltb _ _ above ∙ sym (lt-leb _ _ (both.0 near)))
    (cases_lt element (words / fields))

-- a block has an element and a field where the words of the element are within
pub has_by_words : (block : Block) (element field : ℕ) → field < block.fields → leb ((element + 1) * block.fields) (length block.words) ≡ has block element field
has_by_words block element field h =
    let some : 0 < block.fields = omega arith in
    sym (below_quotient element block.fields (length block.words) some)
    ∙ (sym (and-true _) ∙ ap (λ t. nat_lt element (elements block) && t) (sym (lt-ltb _ _ h)))

-- a block of an addressable memory has few words
few_words : (blocks : Blocks) (n : ℕ) → Addressable blocks → length (block_at blocks n).words ≤ 2 ^ 32
few_words blocks zero all = omega arith
few_words blocks (suc n) all =
    ⊎_elim (λ within. All-get_or (λ (x : Block). length x.words ≤ 2 ^ 32) blocks n no_words within all)
    (λ past. rw (get_or_past blocks n no_words past) (omega arith))
    (cases_lt n (length blocks))

-- an element of a great number lies in no block
far : (blocks : Blocks) (block element field : ℕ) → Addressable blocks → 2 ^ 32 ≤ element → lies blocks (address block element field) ≡ false
far blocks block element field all great =
    let few = few_words blocks block all in
    let less : elements (block_at blocks block) ≤ length (block_at blocks block).words = div-le_self _ _ in
    let past : elements (block_at blocks block) ≤ element = omega arith in
    ap (λ t. t && nat_lt field (block_at blocks block).fields) (le-ltb _ _ past)

-- an element that has no small number is not reached
pub unreached : (blocks : Blocks) (block field : ℕ) (element : ℤ) → Addressable blocks → ((n : ℕ) → n < 2 ^ 32 → element ≢ pos n) → reach_element blocks block element field ≡ None
unreached blocks block field (pos n) all not =
    ⊎_elim (λ small. absurd (not n small refl)) (λ great. cond-false _ _ _ (far blocks block n field all great)) (cases_lt n (2 ^ 32))
unreached blocks block field (negsuc n) all not = refl
