-- The counts of a shape are the largest there are.
use Rattle.std.proofs.Common.{◌≡◌, ℕ, zero, suc, ◌+◌, ◌-◌, ◌<◌, ◌≤◌, Bool, List, ◌++◌, length, get_or, take, drop, reverse, [], refl, sym, ap, ◌∙◌, arith, add-one, append_assoc, inl, inr}
use Rattle.std.specs.Prelude.{fold}
use Rattle.std.specs.List.{AllPass, suffix_len, prefix_len, take_while}
use Rattle.std.proofs.lemmas.Bool.{cases_lt, cases_Bool, cond-true, cond-false}
use Rattle.std.proofs.lemmas.List.{length-append, take_at, take-append-drop, reverse-append, reverse-reverse, length-reverse, get_or-reverse, length-take-le}
use Rattle.std.proofs.lemmas.List.Sums.{fold_more, suffix_len-take_yes, suffix_len-take_no, prefix_len-le-length, AllPass-from_list_all, list_all-from_AllPass}
use Rattle.lq_lexer.specs.Shape.{open_behind, most_open, is_in_stretch, stretch_after, longest_stretch, largest, IsMostOpen, IsLongestStretch}
use Rattle.lq_lexer.proofs.Pieces.{prefix_len-append, list_all-take_while}

largest_each : (f : ℕ → ℕ) (n k : ℕ) → k ≤ n → f k ≤ largest f n
largest_each f zero k le = let none : k ≡ 0 = omega arith in omega (arith, ap f none)
largest_each f (suc n) k le =
    elim (cases_lt k (suc n)) [
      | inl lt ↦ omega (arith, largest_each f n k (omega arith))
      | inr ge ↦ let last : k ≡ suc n = omega arith in omega (arith, ap f last)
    ]

largest_some : (f : ℕ → ℕ) (n : ℕ) → (k : ℕ) × (k ≤ n) × (f k ≡ largest f n)
largest_some f zero = (0, omega arith, refl)
largest_some f (suc n) =
    let inner = largest_some f n in
    elim (cases_lt (largest f n) (f (suc n))) [
      | inl lt ↦ (suc n, omega arith, omega arith)
      | inr ge ↦ (inner.0, omega (arith, inner.1), omega (arith, inner.2))
    ]

pub most_open_is_most : (tokens : List (List ℕ)) → IsMostOpen tokens (most_open tokens)
unfolding most_open
most_open_is_most tokens =
    let f : ℕ → ℕ = λ n. open_behind (take n tokens) in
    let found = largest_some f (length tokens) in
    record {
      each = λ front rest split.
          let same : take (length front) tokens ≡ front = ap (take (length front)) split ∙ take_at front rest (length front) refl in
          omega (arith, largest_each f (length tokens) (length front) (omega (arith, ap length split, length-append front rest)), ap open_behind same);
      some = (take found.0 tokens, drop found.0 tokens, sym (take-append-drop found.0 tokens), found.2);
    }

-- ---- stretches

stretch_grows : (texts : List (List ℕ)) (i : ℕ) → i < length texts → suffix_len is_in_stretch (take (i + 1) texts) ≡ stretch_after (suffix_len is_in_stretch (take i texts)) (get_or texts i [])
stretch_grows texts i lt =
    let last : get_or texts (i + 1 - 1) [] ≡ get_or texts i [] = ap (λ (k : ℕ). get_or texts k []) (omega arith) in
    let before : take (i + 1 - 1) texts ≡ take i texts = ap (λ (k : ℕ). take k texts) (omega arith) in
    elim (cases_Bool (is_in_stretch (get_or texts i []))) [
      | inl has ↦ suffix_len-take_yes is_in_stretch texts (i + 1) [] (omega arith) (omega arith) (ap is_in_stretch last ∙ has) ∙ ap (λ (t : List (List ℕ)). 1 + suffix_len is_in_stretch t) before
          ∙ omega arith ∙ sym (cond-true (is_in_stretch (get_or texts i [])) (suffix_len is_in_stretch (take i texts) + 1) 0 has)
      | inr other ↦ suffix_len-take_no is_in_stretch texts (i + 1) [] (omega arith) (omega arith) (ap is_in_stretch last ∙ other) ∙ sym (cond-false (is_in_stretch (get_or texts i [])) (suffix_len is_in_stretch (take i texts) + 1) 0 other)
    ]

-- the count of the stretch behind the tokens is how many of the last ones it holds
stretch_counted : (texts : List (List ℕ)) (n : ℕ) → n ≤ length texts → fold stretch_after 0 (take n texts) ≡ suffix_len is_in_stretch (take n texts)
stretch_counted texts zero le = refl
stretch_counted texts (suc n) le =
    let before = stretch_counted texts n (omega arith) in
    let one : fold stretch_after 0 (take (n + 1) texts) ≡ suffix_len is_in_stretch (take (n + 1) texts) = fold_more stretch_after 0 texts n [] (omega arith) ∙ ap (λ (k : ℕ). stretch_after k (get_or texts n [])) before ∙ sym (stretch_grows texts n (omega arith)) in
    rw add-one at one

all_reverse : (p : List ℕ → Bool) (a : List (List ℕ)) → AllPass p a → AllPass p (reverse a)
all_reverse p a h k d lt =
    let inside : k < length a = omega (arith, length-reverse a) in
    ap p (get_or-reverse a k d inside) ∙ h (length a - 1 - k) d (omega arith)

stretch_le : (front run : List (List ℕ)) → AllPass is_in_stretch run → length run ≤ suffix_len is_in_stretch (front ++ run)
stretch_le front run h =
    omega (
      arith,
      ap (prefix_len is_in_stretch) (reverse-append front run),
      prefix_len-append is_in_stretch (reverse run) (reverse front) (list_all-from_AllPass is_in_stretch (reverse run) (all_reverse is_in_stretch run h)),
      length-reverse run,
    )

last_stretch : (tokens : List (List ℕ)) → (front run : List (List ℕ)) × (tokens ≡ front ++ run) × AllPass is_in_stretch run × (length run ≡ suffix_len is_in_stretch tokens)
last_stretch tokens =
    let back = reverse tokens in
    let n = prefix_len is_in_stretch back in
    let run = take_while is_in_stretch back in (
      reverse (drop n back),
      reverse run,
      sym (reverse-reverse tokens) ∙ ap reverse (sym (take-append-drop n back)) ∙ reverse-append run (drop n back),
      all_reverse is_in_stretch run (AllPass-from_list_all is_in_stretch run (list_all-take_while is_in_stretch back)),
      length-reverse run ∙ length-take-le n back (prefix_len-le-length is_in_stretch back),
    )

pub longest_stretch_is_longest : (tokens : List (List ℕ)) → IsLongestStretch tokens (longest_stretch tokens)
unfolding longest_stretch
longest_stretch_is_longest tokens =
    let f : ℕ → ℕ = λ n. fold stretch_after 0 (take n tokens) in
    let found = largest_some f (length tokens) in
    let last = last_stretch (take found.0 tokens) in
    record {
      each = λ run stretch.
          let n = length stretch.0 + length run in
          let same : take n tokens ≡ stretch.0 ++ run = ap (take n) (stretch.2 ∙ sym (append_assoc stretch.0 run stretch.1)) ∙ take_at (stretch.0 ++ run) stretch.1 n (length-append stretch.0 run) in
          let fits : n ≤ length tokens = omega (arith, ap length stretch.2, length-append stretch.0 (run ++ stretch.1), length-append run stretch.1) in
          omega (arith, largest_each f (length tokens) n fits, stretch_counted tokens n fits, ap (suffix_len is_in_stretch) same, stretch_le stretch.0 run stretch.3);
      some = (last.1, (last.0, drop found.0 tokens, sym (take-append-drop found.0 tokens) ∙ ap (λ (t : List (List ℕ)). t ++ drop found.0 tokens) last.2 ∙ append_assoc last.0 last.1 (drop found.0 tokens), last.3), last.4 ∙ sym (stretch_counted tokens found.0 found.1) ∙ found.2);
    }
