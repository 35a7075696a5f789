-- The cells of addresses: each address has its own, and a memory that is taken from the cells has its words there.
use Rattle.std.proofs.Common.{◌≡◌, ℕ, zero, suc, ◌+◌, ◌-◌, ◌*◌, ◌/◌, ◌<◌, ◌≤◌, ◌&&◌, Bool, true, false, if◌then◌else◌, nat_lt, min, List, length, ℤ, pos, negsuc, All, Some, None, refl, sym, ap, ◌∙◌, subst, arith, ⊎_elim, get_or, drop, length-take, length-drop, slice_index_or}
use Rattle.std.specs.Option.{is_some}
use Rattle.std.proofs.Math.Nat.{mul-div_cancel}
use Rattle.std.proofs.Math.ListN.{get_or-map}
use Rattle.std.proofs.Math.Bool.{and-false}
use Rattle.std.proofs.lemmas.Nat.{mul-add-lt, same_from_place}
use Rattle.std.proofs.lemmas.List.{get_or_past, get_or-take, get_or-drop}
use Rattle.std.proofs.lemmas.List.Elements.{All-get_or}
use Rattle.std.proofs.lemmas.Option.{cond_some}
use Rattle.std.proofs.lemmas.Bool.{cases_lt, cases_order, and_parts, ltb-true, le-ltb}
use Rattle.lq_meaning.specs.declared.memory.Block.{Block}
use Rattle.lq_meaning.specs.declared.blocks.Span.{Span}
use Rattle.lq_meaning.specs.Memory.{address, elements, block_at, has, lies, word_at}
use Rattle.lq_meaning.specs.Blocks.{end, Covers, Below, Laid, no_span, span_at, holds, cell_in, cell_of, OneAddress, block_in, memory_of}

-- an address that has a cell: the number of its element, and that it lies in its block
pub record Found (spans : List Span) (block : ℕ) (element : ℤ) (field cell : ℕ) : Type 0 where
  pub number : ℕ
  pub is : element ≡ pos number
  pub inside : number < (span_at spans block).length
  pub within : field < (span_at spans block).fields
  pub at : cell ≡ cell_in (span_at spans block) number field

-- what has a cell lies in its block
pub found : (spans : List Span) (block : ℕ) (element : ℤ) (field cell : ℕ) → cell_of spans block element field ≡ Some cell → Found spans block element field cell
found spans block (pos n) field cell h =
    let parts = cond_some (holds (span_at spans block) n field) (cell_in (span_at spans block) n field) cell h in
    let both = and_parts _ _ parts.0 in
    record { number = n; is = refl; inside = ltb-true _ _ both.0; within = ltb-true _ _ both.1; at = sym parts.1 }
found spans block (negsuc n) field cell h = cc

-- the block of a field is one of the list
exists : (spans : List Span) (block field : ℕ) → field < (span_at spans block).fields → (k : ℕ) × (block ≡ suc k) × (k < length spans)
exists spans zero field h = absurd (omega arith)
exists spans (suc k) field h =
    let there : k < length spans = ⊎_elim (λ e. e) (λ past. absurd (omega (arith, rw (get_or_past spans k no_span past) at h))) (cases_lt k (length spans)) in
    (k, refl, there)

-- the cell of an element and a field is one of the block's
covers : (s : Span) (element field : ℕ) → element < s.length → field < s.fields → Covers s (cell_in s element field)
covers s element field e f =
    let within : element * s.fields + field < s.fields * s.length = mul-add-lt element s.fields field s.length e f in
    (omega arith, omega (arith, within))

-- no cell is in two blocks of the list
no_two : (spans : List Span) (cell j k : ℕ) → Laid spans → j < k → k < length spans → Covers (get_or spans j no_span) cell → Covers (get_or spans k no_span) cell → ⊥
no_two spans cell j k laid less within a b = laid.apart j k no_span less within cell a b

-- what has a cell has it in the list's block of that index
here : (spans : List Span) (block : ℕ) (element : ℤ) (field cell k : ℕ) → block ≡ suc k → Found spans block element field cell → Covers (get_or spans k no_span) cell
here spans block element field cell k is it =
    subst (λ n. Covers (span_at spans n) cell) is
    (subst (Covers (span_at spans block)) (sym it.at) (covers (span_at spans block) it.number field it.inside it.within))

-- in one block, a cell has one element and one field
one_place : (spans : List Span) (block : ℕ) (e f : ℤ) (m n cell : ℕ) → Found spans block e m cell → Found spans block f n cell → (e ≡ f) × (m ≡ n)
one_place spans block e f m n cell p q =
    let both : cell_in (span_at spans block) p.number m ≡ cell_in (span_at spans block) q.number n = sym p.at ∙ q.at in
    let offset : p.number * (span_at spans block).fields + m ≡ q.number * (span_at spans block).fields + n = omega arith in
    let place = same_from_place p.number m q.number n (span_at spans block).fields p.within q.within offset in
    (p.is ∙ (ap pos place.0 ∙ sym q.is), place.1)

-- an address has its own cell
pub one_address : (spans : List Span) → Laid spans → OneAddress spans
one_address spans laid b c e f m n cell first second =
    let p = found spans b e m cell first in
    let q = found spans c f n cell second in
    let j = exists spans b m p.within in
    let k = exists spans c n q.within in
    let in_first = here spans b e m cell j.0 j.1 p in
    let in_second = here spans c f n cell k.0 k.1 q in
    ⊎_elim
    (λ same.
    let block : b ≡ c = j.1 ∙ (ap suc same ∙ sym k.1) in
    let parts = one_place spans b e f m n cell p (subst (λ x. Found spans x f n cell) (sym block) q) in
    (block, parts.0, parts.1))
    (⊎_elim
    (λ less. absurd (no_two spans cell j.0 k.0 laid less k.2 in_first in_second))
    (λ more. absurd (no_two spans cell k.0 j.0 laid more j.2 in_second in_first)))
    (cases_order j.0 k.0)

-- the block with a number is that of its cells
pub block_at-memory_of : (spans : List Span) (words : List ℤ) (n : ℕ) → block_at (memory_of spans words) n ≡ block_in words (span_at spans n)
block_at-memory_of spans words zero = refl
block_at-memory_of spans words (suc n) = get_or-map (block_in words) spans n no_span

-- a block has as many words as cells
length_own : (words : List ℤ) (s : Span) → Below (length words) s → length (block_in words s).words ≡ s.length * s.fields
length_own words s below =
    let taken : length (block_in words s).words ≡ min (end s - s.first) (length words - s.first) = length-take (end s - s.first) (drop s.first words) ∙ ap (min (end s - s.first)) (length-drop s.first words) in
    ⊎_elim
    (λ some.
    let from : s.first ≤ end s - 1 = omega arith in
    let to : end s - 1 < end s = omega arith in
    let last = below (end s - 1) (from, to) in
    omega arith)
    (λ none. omega arith)
    (cases_lt s.first (end s))

-- it has the elements and the fields of its cells
has_own : (words : List ℤ) (s : Span) (element field : ℕ) → Below (length words) s → has (block_in words s) element field ≡ holds s element field
has_own words s element field below =
    ⊎_elim
    (λ some.
    let fields : 0 < s.fields = omega arith in
    let count : elements (block_in words s) ≡ s.length = ap (λ n. n / s.fields) (length_own words s below) ∙ mul-div_cancel s.length fields in
    ap (λ n. nat_lt element n && nat_lt field s.fields) count)
    (λ none. let no = le-ltb field s.fields none in
    (ap (λ t. nat_lt element (elements (block_in words s)) && t) no ∙ and-false _) ∙ sym (ap (λ t. nat_lt element s.length && t) no ∙ and-false _))
    (cases_lt field s.fields)

-- each block has its cells below where all have
below_at : (spans : List Span) (bound n : ℕ) → All (Below bound) spans → Below bound (span_at spans n)
below_at spans bound zero all = λ cell covered. absurd (omega (arith, covered.1))
below_at spans bound (suc n) all =
    ⊎_elim (λ within. All-get_or (Below bound) spans n no_span within all)
    (λ past. rw (get_or_past spans n no_span past) (λ cell covered. absurd (omega (arith, covered.1))))
    (cases_lt n (length spans))

-- there is an answer where the test passes
some_if : (t : Bool) (cell : ℕ) → is_some (if t then Some cell else None) ≡ t
some_if true cell = refl
some_if false cell = refl

-- an address lies in its block of the memory where it has a cell
pub lies-memory_of : (spans : List Span) (words : List ℤ) (block element field : ℕ) → All (Below (length words)) spans →
    lies (memory_of spans words) (address block element field) ≡ is_some (cell_of spans block (pos element) field)
lies-memory_of spans words block element field all =
    ap (λ (b : Block). has b element field) (block_at-memory_of spans words block)
    ∙ (has_own words (span_at spans block) element field (below_at spans (length words) block all)
    ∙ sym (some_if (holds (span_at spans block) element field) (cell_in (span_at spans block) element field)))

-- the word of an address is that of its cell
word_own : (words : List ℤ) (s : Span) (element field : ℕ) → element < s.length → field < s.fields →
    slice_index_or (block_in words s).words (element * s.fields + field) (pos 0) ≡ slice_index_or words (cell_in s element field) (pos 0)
word_own words s element field e f =
    let inside : element * s.fields + field < s.fields * s.length = mul-add-lt element s.fields field s.length e f in
    let within : element * s.fields + field < end s - s.first = omega (arith, inside) in
    get_or-take (end s - s.first) (drop s.first words) (element * s.fields + field) (pos 0) within
    ∙ (get_or-drop s.first words (element * s.fields + field) (pos 0)
    ∙ ap (λ n. get_or words n (pos 0)) (omega arith))

-- so it is in the memory
pub word_at-memory_of : (spans : List Span) (words : List ℤ) (block element field cell : ℕ) → cell_of spans block (pos element) field ≡ Some cell →
    word_at (memory_of spans words) (address block element field) ≡ slice_index_or words cell (pos 0)
word_at-memory_of spans words block element field cell h =
    let parts = cond_some (holds (span_at spans block) element field) (cell_in (span_at spans block) element field) cell h in
    let both = and_parts _ _ parts.0 in
    ap (λ (b : Block). slice_index_or b.words (element * b.fields + field) (pos 0)) (block_at-memory_of spans words block)
    ∙ (word_own words (span_at spans block) element field (ltb-true _ _ both.0) (ltb-true _ _ both.1)
    ∙ ap (λ n. slice_index_or words n (pos 0)) parts.1)
