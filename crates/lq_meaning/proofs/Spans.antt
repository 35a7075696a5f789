-- Blocks that lie among the cells, and the cells of their addresses.
use Rattle.std.proofs.Common.{◌≡◌, ◌≢◌, ℕ, zero, suc, ◌-◌, ◌*◌, ◌^◌, ◌<◌, ◌≤◌, ◌&&◌, false, nat_lt, List, [], ◌∷◌, ◌++◌, length, ℤ, pos, negsuc, All, None, refl, ap, arith, ⊎_elim, get_or}
use Rattle.std.proofs.Math.Nat.{le-mul_of_pos_right}
use Rattle.std.proofs.lemmas.List.Quantifiers.{all_pairs_push}
use Rattle.std.proofs.lemmas.List.Elements.{All-get_or, All-push}
use Rattle.std.proofs.lemmas.List.{length-append, get_or_past}
use Rattle.std.proofs.lemmas.Bool.{cases_lt, le-ltb, cond-false}
use Rattle.lq_meaning.specs.declared.blocks.Span.{Span}
use Rattle.lq_meaning.specs.Blocks.{end, Below, Apart, HasRoom, Laid, no_span, span_at, holds, cell_of}

-- the cells of a block end at 2^32 at most, where each of them is below and the first is
end_below : (s : Span) → s.first < 2 ^ 32 → Below (2 ^ 32) s → end s ≤ 2 ^ 32
end_below s first below =
    ⊎_elim
    (λ some.
    let from : s.first ≤ end s - 1 = omega arith in
    let to : end s - 1 < end s = omega arith in
    let last = below (end s - 1) (from, to) in
    omega arith)
    (λ none. omega arith)
    (cases_lt s.first (end s))

-- a block more, whose cells are free, still leaves the blocks where they lie
pub Laid_push : (spans : List Span) (s : Span) → Laid spans → 1 ≤ s.fields → s.first < 2 ^ 32 → Below (2 ^ 32) s → All (Apart s) spans → HasRoom spans → Laid (spans ++ s ∷ [])
Laid_push spans s laid fields first below free room = record {
  fields = All-push (λ (t : Span). 1 ≤ t.fields) spans s laid.fields fields;
  below = All-push (λ (t : Span). end t ≤ 2 ^ 32) spans s laid.below (end_below s first below);
  apart = all_pairs_push Apart spans s laid.apart (λ k d within cell there here. All-get_or (Apart s) spans k d within free cell here there);
  few = rw (length-append spans (s ∷ [])) (omega arith);
}

-- a block of fewer than 2^32 cells has no more elements
short : (s : Span) → 1 ≤ s.fields → end s ≤ 2 ^ 32 → s.length ≤ 2 ^ 32
short s fields below =
    let more : s.length ≤ s.length * s.fields = le-mul_of_pos_right s.length fields in
    omega arith

-- each block that lies among the cells has at most 2^32 elements
short_at : (spans : List Span) (n : ℕ) → Laid spans → (span_at spans n).length ≤ 2 ^ 32
short_at spans zero laid = omega arith
short_at spans (suc n) laid =
    ⊎_elim
    (λ within. short (get_or spans n no_span) (All-get_or (λ (t : Span). 1 ≤ t.fields) spans n no_span within laid.fields) (All-get_or (λ (t : Span). end t ≤ 2 ^ 32) spans n no_span within laid.below))
    (λ past. rw (get_or_past spans n no_span past) (omega arith))
    (cases_lt n (length spans))

-- an element of a great number has no cell
far : (spans : List Span) (block element field : ℕ) → Laid spans → 2 ^ 32 ≤ element → holds (span_at spans block) element field ≡ false
far spans block element field laid great =
    let few = short_at spans block laid in
    let past : (span_at spans block).length ≤ element = omega arith in
    ap (λ t. t && nat_lt field (span_at spans block).fields) (le-ltb _ _ past)

-- an element that has no small number has no cell
pub no_cell : (spans : List Span) (block field : ℕ) (element : ℤ) → Laid spans → ((n : ℕ) → n < 2 ^ 32 → element ≢ pos n) → cell_of spans block element field ≡ None
no_cell spans block field (pos n) laid not =
    ⊎_elim (λ small. absurd (not n small refl)) (λ great. cond-false _ _ _ (far spans block n field laid great)) (cases_lt n (2 ^ 32))
no_cell spans block field (negsuc n) laid not = refl
