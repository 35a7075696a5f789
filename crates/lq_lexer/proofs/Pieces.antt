-- What a text begins with is what the scanner finds.
use Rattle.std.proofs.Common.{◌≡◌, ◌==◌, ℕ, ◌+◌, ◌<◌, ◌≤◌, ◌⊎◌, Bool, true, false, not, nat_eq, eqb, List, [], ◌∷◌, ◌++◌, codes, length, get_or, take, drop, refl, sym, ap, ◌∙◌, subst, inl, inr, arith, append_assoc, Option, Some, None}
use Rattle.std.specs.Prelude.{slice_index}
use Rattle.std.specs.List.{list_all, AllPass, prefix_len, take_while, starts_with}
use Rattle.std.proofs.lemmas.Bool.{and_parts, and_from, cases_Bool, cases_lt, cond-true, cond-false, both_ways, not-false, not_from_true, eq-eqb, eqb-true}
use Rattle.std.proofs.lemmas.Bool.Decides.{Decides-eqb, nat_tests}
use Rattle.std.proofs.lemmas.List.{length-append, take_at, drop_at, drop_all, drop_more, nil_from_length, append-nil}
use Rattle.std.proofs.lemmas.List.Sums.{take_while-cons, prefix_len_stops, list_all-from_AllPass}
use Rattle.std.proofs.lemmas.Slice.Eq.{starts_is}
use Rattle.lq_lexer.specs.declared.scan.Piece.TheVariants.{Blank}
use Rattle.lq_text.specs.Byte.{is_name_byte}
use Rattle.lq_lexer.specs.Bytes.{is_space}
use Rattle.lq_lexer.specs.Tokens.{EndsWord, EndsLine, EndsAtFirstClose, IsBlank, BeginsWithBlank, BeginsWithComment}
use Rattle.lq_lexer.specs.Tokens.IsBlank.{space, line_comment, block_comment}
use Rattle.lq_lexer.specs.Scan.{close_from, blank_or_nothing, piece_of}

pub cases_Option : (o : Option ℕ) → (o ≡ None) ⊎ ((n : ℕ) × (o ≡ Some n))
cases_Option None = inl refl
cases_Option (Some n) = inr (n, refl)

-- ---- lists that begin alike

-- the shorter of two fronts of one list begins the longer
pub front_of_front : (a b x y : List ℕ) → a ++ x ≡ b ++ y → length a ≤ length b → (more : List ℕ) × (b ≡ a ++ more) × (x ≡ more ++ y)
front_of_front [] b x y e le = (b, refl, e)
front_of_front (c ∷ a) [] x y e le = absurd (omega arith)
front_of_front (c ∷ a) (d ∷ b) x y e le =
    let inner = front_of_front a b x y (cc) (omega arith) in
    let head : c ≡ d = cc in
    (inner.0, subst (λ (h : ℕ). d ∷ b ≡ h ∷ (a ++ inner.0)) (sym head) (ap (λ (t : List ℕ). d ∷ t) inner.1), inner.2)

pub same_front : (a b x y : List ℕ) → a ++ x ≡ b ++ y → length a ≡ length b → (a ≡ b) × (x ≡ y)
same_front a b x y e same =
    let t : take (length a) (a ++ x) ≡ take (length a) (b ++ y) = ap (take (length a)) e in
    let d : drop (length a) (a ++ x) ≡ drop (length a) (b ++ y) = ap (drop (length a)) e in
    (sym (take_at a x (length a) refl) ∙ t ∙ take_at b y (length a) (sym same), sym (drop_at a x (length a) refl) ∙ d ∙ drop_at b y (length a) (sym same))

pub first_of_append : (a b : List ℕ) → 0 < length a → slice_index (a ++ b) 0 ≡ slice_index a 0
first_of_append [] b some = absurd (omega arith)
first_of_append (c ∷ a) b some = refl

-- ---- runs

pub prefix_len-append : {X : Type 0} (p : X → Bool) (a b : List X) → list_all p a ≡ true → prefix_len p (a ++ b) ≡ length a + prefix_len p b
prefix_len-append p [] b all = omega arith
prefix_len-append p (c ∷ a) b all =
    let parts = and_parts (p c) (list_all p a) all in
    cond-true (p c) (1 + prefix_len p (a ++ b)) 0 parts.0 ∙ omega (arith, prefix_len-append p a b parts.1)

pub list_all-take_while : {X : Type 0} (p : X → Bool) (a : List X) → list_all p (take_while p a) ≡ true
list_all-take_while p [] = refl
list_all-take_while p (c ∷ a) =
    rw take_while-cons (
    elim (cases_Bool (p c)) [
      | inl has ↦ rw (cond-true (p c) (c ∷ take_while p a) [] has) (and_from (p c) (list_all p (take_while p a)) has (list_all-take_while p a))
      | inr other ↦ rw (cond-false (p c) (c ∷ take_while p a) [] other) refl
    ])

pub prefix_len-ends : (rest : List ℕ) → EndsWord rest → prefix_len is_name_byte rest ≡ 0
prefix_len-ends [] h = refl
prefix_len-ends (b ∷ rest) h = cond-false (is_name_byte b) (1 + prefix_len is_name_byte rest) 0 h

pub ends_run : (text : List ℕ) → EndsWord (drop (prefix_len is_name_byte text) text)
ends_run text =
    elim (cases_lt (prefix_len is_name_byte text) (length text)) [
      | inl lt ↦ subst EndsWord (sym (drop_more text (prefix_len is_name_byte text) 0 lt)) (prefix_len_stops is_name_byte text 0 lt)
      | inr ge ↦ subst EndsWord (sym (drop_all (prefix_len is_name_byte text) text ge)) tt
    ]

-- ---- comments

pub comment_from : (text mark : List ℕ) → starts_with nat_eq text mark ≡ true → (rest : List ℕ) × (text ≡ mark ++ rest)
comment_from text mark h = (drop (length mark) text, (starts_is Decides-eqb text mark (starts_with nat_eq text mark) refl).0 h)

starts_from : (text mark rest : List ℕ) → text ≡ mark ++ rest → starts_with nat_eq text mark ≡ true
starts_from text mark rest h = (starts_is Decides-eqb text mark (starts_with nat_eq text mark) refl).1 rest h

pub no_comment_from : (text : List ℕ) → starts_with nat_eq text (codes "//") ≡ false → starts_with nat_eq text (codes "/*") ≡ false → ¬ BeginsWithComment text
no_comment_from text a b h =
    elim h.1 [
      | inl line ↦ both_ways (starts_with nat_eq text (codes "//")) a (starts_from text (codes "//") h.0 line)
      | inr block ↦ both_ways (starts_with nat_eq text (codes "/*")) b (starts_from text (codes "/*") h.0 block)
    ]

-- ---- the end of a comment in the lines of `close_from`

close_here : (b : ℕ) (more front back : List ℕ) (closed rest : List ℕ) → more ≡ closed ++ rest → starts_with nat_eq (b ∷ more) (codes "*/") ≡ false → b ∷ closed ≡ codes "*/" ++ back → ⊥
close_here b more front back closed rest split other e =
    both_ways (starts_with nat_eq (b ∷ more) (codes "*/")) other (starts_from (b ∷ more) (codes "*/") (back ++ rest) (ap (λ (t : List ℕ). b ∷ t) split ∙ ap (λ (t : List ℕ). t ++ rest) e))

ends_at_close : EndsAtFirstClose (codes "*/")
ends_at_close = (([], refl), λ front back e. nil_from_length back (omega (arith, simp length-append at (ap length e))))

ends_at_later : (b : ℕ) (more closed rest : List ℕ) → more ≡ closed ++ rest → starts_with nat_eq (b ∷ more) (codes "*/") ≡ false → EndsAtFirstClose closed → EndsAtFirstClose (b ∷ closed)
ends_at_later b more closed rest split other h =
    ((b ∷ h.0.0, ap (λ (t : List ℕ). b ∷ t) h.0.1), later)
  where
    later : (front back : List ℕ) → b ∷ closed ≡ front ++ (codes "*/" ++ back) → back ≡ []
    later [] back e = absurd (close_here b more [] back closed rest split other e)
    later (f ∷ front) back e = h.1 front back (cc)

pub close_some : (at : ℕ) (inside : List ℕ) (n : ℕ) → close_from at inside ≡ Some n → (closed rest : List ℕ) × (inside ≡ closed ++ rest) × EndsAtFirstClose closed × (n ≡ at + length closed)
close_some at [] n e = absurd cc
close_some at (b ∷ more) n e =
    elim (cases_Bool (starts_with nat_eq (b ∷ more) (codes "*/"))) [
      | inl has ↦
          let found = comment_from (b ∷ more) (codes "*/") has in
          let is : Some (at + 2) ≡ Some n = sym (cond-true (starts_with nat_eq (b ∷ more) (codes "*/")) (Some (at + 2)) (close_from (at + 1) more) has) ∙ e in
          let same : at + 2 ≡ n = cc in
          (codes "*/", found.0, found.1, ends_at_close, sym same)
      | inr other ↦
          let is : close_from (at + 1) more ≡ Some n = sym (cond-false (starts_with nat_eq (b ∷ more) (codes "*/")) (Some (at + 2)) (close_from (at + 1) more) other) ∙ e in
          let inner = close_some (at + 1) more n is in
          (b ∷ inner.0, inner.1, ap (λ (t : List ℕ). b ∷ t) inner.2, ends_at_later b more inner.0 inner.1 inner.2 other inner.3, omega (arith, inner.4))
    ]

pub close_none : (at : ℕ) (inside front back : List ℕ) → close_from at inside ≡ None → inside ≡ front ++ (codes "*/" ++ back) → ⊥
close_none at [] [] back e split = cc
close_none at [] (f ∷ front) back e split = cc
close_none at (b ∷ more) [] back e split =
    let is : Some (at + 2) ≡ None = sym (cond-true (starts_with nat_eq (b ∷ more) (codes "*/")) (Some (at + 2)) (close_from (at + 1) more) (starts_from (b ∷ more) (codes "*/") back split)) ∙ e in
    cc
close_none at (b ∷ more) (f ∷ front) back e split =
    elim (cases_Bool (starts_with nat_eq (b ∷ more) (codes "*/"))) [
      | inl has ↦
          let is : Some (at + 2) ≡ None = sym (cond-true (starts_with nat_eq (b ∷ more) (codes "*/")) (Some (at + 2)) (close_from (at + 1) more) has) ∙ e in
          cc
      | inr other ↦
          let is : close_from (at + 1) more ≡ None = sym (cond-false (starts_with nat_eq (b ∷ more) (codes "*/")) (Some (at + 2)) (close_from (at + 1) more) other) ∙ e in
          close_none (at + 1) more front back is (cc)
    ]

one_close : (a b x y : List ℕ) → a ++ x ≡ b ++ y → length a ≤ length b → EndsAtFirstClose a → EndsAtFirstClose b → length a ≡ length b
one_close a b x y e le h k =
    let f = front_of_front a b x y e le in
    let nothing : f.0 ≡ [] = k.1 h.0.0 f.0 (f.1 ∙ ap (λ (t : List ℕ). t ++ f.0) h.0.1 ∙ append_assoc h.0.0 (codes "*/") f.0) in
    ap length (sym (append-nil a) ∙ ap (λ (t : List ℕ). a ++ t) (sym nothing) ∙ sym f.1)

pub close_is : (at : ℕ) (closed rest : List ℕ) → EndsAtFirstClose closed → close_from at (closed ++ rest) ≡ Some (at + length closed)
close_is at closed rest h =
    elim (cases_Option (close_from at (closed ++ rest))) [
      | inl none ↦ absurd (close_none at (closed ++ rest) h.0.0 rest none (ap (λ (t : List ℕ). t ++ rest) h.0.1 ∙ append_assoc h.0.0 (codes "*/") rest))
      | inr some ↦
          let found = close_some at (closed ++ rest) some.0 some.1 in
          let same : length closed ≡ length found.0 =
          elim (cases_lt (length closed) (length found.0)) [
            | inl lt ↦ one_close closed found.0 rest found.1 found.2 (omega arith) h found.3
            | inr ge ↦ sym (one_close found.0 closed found.1 rest (sym found.2) ge found.3 h)
          ] in
          some.1 ∙ ap (λ (k : ℕ). Some k) (omega (arith, found.4))
    ]

-- ---- blanks

prefix_len-ends_line : (rest : List ℕ) → EndsLine rest → prefix_len (λ b. not (b == 10)) rest ≡ 0
prefix_len-ends_line [] h = refl
prefix_len-ends_line (b ∷ rest) h = cond-false (not (b == 10)) (1 + prefix_len (λ c. not (c == 10)) rest) 0 (not_from_true (b == 10) (eq-eqb b 10 h))

pub line_ends : (text : List ℕ) → EndsLine (drop (prefix_len (λ b. not (b == 10)) text) text)
line_ends text =
    elim (cases_lt (prefix_len (λ b. not (b == 10)) text) (length text)) [
      | inl lt ↦
          let stop : not (get_or text (prefix_len (λ b. not (b == 10)) text) 0 == 10) ≡ false = prefix_len_stops (λ b. not (b == 10)) text 0 lt in
          subst EndsLine (sym (drop_more text (prefix_len (λ b. not (b == 10)) text) 0 lt)) (eqb-true _ 10 (not-false _ stop))
      | inr ge ↦ subst EndsLine (sym (drop_all (prefix_len (λ b. not (b == 10)) text) text ge)) tt
    ]

space_no_slash : (b : ℕ) → is_space b ≡ true → eqb 47 b ≡ false
space_no_slash b h = grind (arith, nat_tests)

-- what the scanner finds at each kind of blank
space_piece : (b : ℕ) (rest : List ℕ) → is_space b ≡ true → piece_of (b ∷ rest) ≡ Blank 1
space_piece b rest h = rw (space_no_slash b h, h) refl

line_piece : (line rest : List ℕ) → AllPass (λ b. not (b == 10)) line → EndsLine rest → piece_of ((codes "//" ++ line) ++ rest) ≡ Blank (length (codes "//" ++ line))
line_piece line rest all ends =
    ap (λ (n : ℕ). Blank n) (omega (arith, prefix_len-append (λ b. not (b == 10)) line rest (list_all-from_AllPass (λ b. not (b == 10)) line all), prefix_len-ends_line rest ends))

block_piece : (inside rest : List ℕ) → EndsAtFirstClose inside → piece_of ((codes "/*" ++ inside) ++ rest) ≡ Blank (length (codes "/*" ++ inside))
block_piece inside rest h = ap blank_or_nothing (close_is 2 inside rest h) ∙ ap (λ (n : ℕ). Blank n) (omega arith)

blank_piece : (blank rest : List ℕ) → IsBlank blank rest → piece_of (blank ++ rest) ≡ Blank (length blank)
blank_piece blank rest (space {b} h) = space_piece b rest h
blank_piece blank rest (line_comment {line} all ends) = line_piece line rest all ends
blank_piece blank rest (block_comment {inside} h) = block_piece inside rest h

pub blank_is : (text blank rest : List ℕ) → BeginsWithBlank text blank rest → piece_of text ≡ Blank (length blank)
blank_is text blank rest h = ap piece_of h.split ∙ blank_piece blank rest h.is_blank
