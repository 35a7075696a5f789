-- The bytes of a written row, and its blanks, which part no token.
use Rattle.std.proofs.Common.{◌≡◌, ◌≢◌, ℕ, zero, suc, ◌+◌, ◌-◌, ◌^◌, ◌<◌, ◌||◌, ◌&&◌, eqb, not, cond, Bool, true, false, List, [], ◌∷◌, ◌++◌, length, get_or, take, Option, Some, None, ℤ, pos, negsuc, refl, sym, ap, subst, ◌∙◌, arith, append_assoc, append-nil, length-append}
use Rattle.std.specs.Prelude.{codes, int_lt, slice_get, unsigned_abs, IsSomeAnd}
use Rattle.std.specs.List.{AllByRecursion}
use Rattle.std.proofs.lemmas.Bool.{true≢false, ne_eqb, or_parts, or_from, and_left, and_right}
use Rattle.std.proofs.lemmas.Int.{ints}
use Rattle.std.proofs.lemmas.List.Elements.{filter-append}
use Rattle.lq_text.specs.Atom.{IsAtom, atom_text}
use Rattle.lq_text.specs.Byte.{is_name_byte}
use Rattle.lq_text.specs.Numeral.{decimal_of}
use Rattle.lq_text.specs.declared.atom.Atom.{Atom}
use Rattle.lq_text.proofs.LiteralLemmas.{literal_decimal}
use Rattle.lq_text.proofs.Lists.{Avoids, all_joined, all_weaker}
use Rattle.lq_linear.specs.Terms.{IsCoefficient, IsWithin}
use Rattle.lq_linear.specs.Row.{Inequality}
use Rattle.lq_quals.specs.Split.{is_relation_byte}
use Rattle.lq_quals.specs.Spacing.{without_return, without_blanks, is_blank, are_joined, is_skipped, IsTorn, IsSpaced}
use Rattle.lq_quals.specs.Writing.{sign_text, atom_text_at, multiple_text, term_text, terms_text, row_text}
use Rattle.lq_quals.proofs.TermLemmas.{is_atom_byte, atom_bytes, literal_bytes}
use Rattle.lq_quals.proofs.SpacingLemmas.{torn, is_whole}
use Rattle.lq_quals.proofs.SpellingLemmas.{AreReadable, bare_sign, bare_terms, small}

-- ---- the bytes of a row

-- what holds of the bytes of atoms, of `*` and of `-` holds of those of multiples and numbers
module _ (P : ℕ → Type 0) (of_atom : (byte : ℕ) → is_atom_byte byte ≡ true → P byte) (times : P 42) (dash : P 45) where
  digits_all : (n : ℕ) → n < 2 ^ 63 → AllByRecursion P (decimal_of (pos n))
  digits_all n h = all_weaker _ P of_atom (decimal_of (pos n)) (literal_bytes (decimal_of (pos n)) (literal_decimal n h))

  multiple_all : (z : ℤ) (o : Option Atom) → IsCoefficient z → IsSomeAnd o IsAtom → AllByRecursion P (multiple_text z o)
  multiple_all z None h k = absurd k
  multiple_all z (Some atom) h k =
      all_joined P (decimal_of (pos (unsigned_abs z))) (42 ∷ atom_text atom) (digits_all (unsigned_abs z) (small z h)) (times, all_weaker _ P of_atom (atom_text atom) (atom_bytes atom k))

  most_all : (z : ℤ) → IsWithin (2 ^ 40) z → AllByRecursion P (decimal_of z)
  most_all (pos n) h = let high = h.high in digits_all n (omega (arith, ints))
  most_all (negsuc n) h = let low = h.low in (dash, digits_all (suc n) (omega (arith, ints)))

  -- the same of whole rows, where it holds of blanks, `+` and relations
  module _ (space : P 32) (plus : P 43) where
    sign_all : (at_front is_negative : Bool) → AllByRecursion P (sign_text at_front is_negative)
    sign_all true false = tt
    sign_all true true = (dash, tt)
    sign_all false false = (space, (plus, (space, tt)))
    sign_all false true = (space, (dash, (space, tt)))

    terms_all : (at_front : Bool) (atoms : List Atom) (terms : List (ℕ × ℤ)) → AreReadable atoms terms → AllByRecursion P (terms_text at_front atoms terms)
    terms_all at_front atoms [] h = tt
    terms_all at_front atoms (term ∷ terms) h =
        all_joined P (term_text at_front atoms term) (terms_text false atoms terms)
        (all_joined P (sign_text at_front (int_lt term.1 (pos 0))) (multiple_text term.1 (slice_get atoms term.0)) (sign_all at_front (int_lt term.1 (pos 0))) (multiple_all term.1 (slice_get atoms term.0) h.0.0 h.0.1))
        (terms_all false atoms terms h.1)

    row_all : (atoms : List Atom) (between : List ℕ) (row : Inequality) → AllByRecursion P between → AreReadable atoms row.terms → IsWithin (2 ^ 40) row.most → AllByRecursion P (row_text atoms between row)
    row_all atoms between row b h w =
        all_joined P (terms_text true atoms row.terms) (between ++ decimal_of row.most) (terms_all true atoms row.terms h) (all_joined P between (decimal_of row.most) b (most_all row.most w))

-- a byte of atoms is none that they lack
other_byte : (byte one : ℕ) → is_atom_byte byte ≡ true → is_atom_byte one ≡ false → byte ≢ one
other_byte byte one holds lacks same = true≢false (sym holds ∙ ap is_atom_byte same ∙ lacks)

-- a byte that no row holds
pub row_avoids : (one : ℕ) (atoms : List Atom) (between : List ℕ) (row : Inequality) → is_atom_byte one ≡ false → 42 ≢ one → 45 ≢ one → 32 ≢ one → 43 ≢ one → Avoids one between → AreReadable atoms row.terms → IsWithin (2 ^ 40) row.most → Avoids one (row_text atoms between row)
row_avoids one atoms between row lacks times dash space plus b h w =
    row_all (λ byte. byte ≢ one) (λ byte holds. other_byte byte one holds lacks) times dash space plus atoms between row b h w

-- ---- blanks taken out

-- no blank, and no byte that begins a relation
abbrev IsPlain : ℕ → Type 0
IsPlain byte = (is_blank byte ≡ false) × (is_relation_byte byte ≡ false)

plain_byte : (byte : ℕ) → byte ≢ 32 → byte ≢ 9 → byte ≢ 60 → byte ≢ 62 → byte ≢ 61 → IsPlain byte
plain_byte byte space tab less more equals = (
  ap (λ b. b || eqb byte 9) (ne_eqb byte 32 space) ∙ ne_eqb byte 9 tab,
  ap (λ b. b || (eqb byte 62 || eqb byte 61)) (ne_eqb byte 60 less) ∙ ap (λ b. b || eqb byte 61) (ne_eqb byte 62 more) ∙ ne_eqb byte 61 equals,
)

plain_atom_byte : (byte : ℕ) → is_atom_byte byte ≡ true → IsPlain byte
plain_atom_byte byte holds =
    plain_byte byte (other_byte byte 32 holds refl) (other_byte byte 9 holds refl) (other_byte byte 60 holds refl) (other_byte byte 62 holds refl) (other_byte byte 61 holds refl)

plain_multiple : (z : ℤ) (o : Option Atom) → IsCoefficient z → IsSomeAnd o IsAtom → AllByRecursion IsPlain (multiple_text z o)
plain_multiple = multiple_all IsPlain plain_atom_byte (refl, refl) (refl, refl)

plain_most : (z : ℤ) → IsWithin (2 ^ 40) z → AllByRecursion IsPlain (decimal_of z)
plain_most = most_all IsPlain plain_atom_byte (refl, refl) (refl, refl)

no_blanks : (text : List ℕ) → AllByRecursion IsPlain text → without_blanks text ≡ text
no_blanks [] h = refl
no_blanks (byte ∷ text) h = ap (λ b. cond (not b) (byte ∷ without_blanks text) (without_blanks text)) h.0.0 ∙ ap (λ t. byte ∷ t) (no_blanks text h.1)

blanks_joined : (a b : List ℕ) → without_blanks (a ++ b) ≡ without_blanks a ++ without_blanks b
blanks_joined a b = filter-append _ a b

bare_sign_left : (at_front is_negative : Bool) → without_blanks (sign_text at_front is_negative) ≡ bare_sign at_front is_negative
bare_sign_left true false = refl
bare_sign_left true true = refl
bare_sign_left false false = refl
bare_sign_left false true = refl

bare_left : (at_front : Bool) (atoms : List Atom) (terms : List (ℕ × ℤ)) → AreReadable atoms terms → without_blanks (terms_text at_front atoms terms) ≡ bare_terms at_front atoms terms
bare_left at_front atoms [] h = refl
bare_left at_front atoms (term ∷ terms) h =
    let sign : List ℕ = sign_text at_front (int_lt term.1 (pos 0)) in
    let bare : List ℕ = bare_sign at_front (int_lt term.1 (pos 0)) in
    let body : List ℕ = multiple_text term.1 (slice_get atoms term.0) in
    let rest : List ℕ = terms_text false atoms terms in
    blanks_joined (sign ++ body) rest ∙ ap (λ t. t ++ without_blanks rest) (blanks_joined sign body) ∙ append_assoc (without_blanks sign) (without_blanks body) (without_blanks rest)
    ∙ ap (λ t. t ++ (without_blanks body ++ without_blanks rest)) (bare_sign_left at_front (int_lt term.1 (pos 0)))
    ∙ ap (λ t. bare ++ (t ++ without_blanks rest)) (no_blanks body (plain_multiple term.1 (slice_get atoms term.0) h.0.0 h.0.1))
    ∙ ap (λ t. bare ++ (body ++ t)) (bare_left false atoms terms h.1)

row_left : (atoms : List Atom) (between relation : List ℕ) (row : Inequality) → without_blanks between ≡ relation → AreReadable atoms row.terms → IsWithin (2 ^ 40) row.most → without_blanks (row_text atoms between row) ≡ bare_terms true atoms row.terms ++ (relation ++ decimal_of row.most)
row_left atoms between relation row e h w =
    let terms : List ℕ = terms_text true atoms row.terms in
    blanks_joined terms (between ++ decimal_of row.most)
    ∙ ap (λ t. t ++ without_blanks (between ++ decimal_of row.most)) (bare_left true atoms row.terms h)
    ∙ ap (λ t. bare_terms true atoms row.terms ++ t) (blanks_joined between (decimal_of row.most) ∙ ap (λ t. t ++ without_blanks (decimal_of row.most)) e ∙ ap (λ t. relation ++ t) (no_blanks (decimal_of row.most) (plain_most row.most w)))

-- ---- a carriage return

no_byte_at : (one : ℕ) (line : List ℕ) (k : ℕ) → 0 < one → Avoids one line → get_or line k 0 ≢ one
no_byte_at one [] k large h e = absurd (omega arith)
no_byte_at one (byte ∷ line) zero large h e = h.0 e
no_byte_at one (byte ∷ line) (suc k) large h e = no_byte_at one line k large h.1 e

pub no_return : (line : List ℕ) → Avoids 13 line → without_return line ≡ line
no_return line h = ap (λ b. cond b (take (length line - 1) line) line) (ne_eqb (get_or line (length line - 1) 0) 13 (no_byte_at 13 line (length line - 1) (omega arith) h))

-- ---- no token of a row is parted

no_join_next : (byte next : ℕ) → is_name_byte next ≡ false → eqb next 61 ≡ false → are_joined byte next ≡ false
no_join_next byte next h k = or_from (is_name_byte byte && is_name_byte next) (is_relation_byte byte && eqb next 61) (and_right (is_name_byte byte) (is_name_byte next) h) (and_right (is_relation_byte byte) (eqb next 61) k)

-- behind a byte that begins no relation, these bytes are not torn
abbrev Free : List ℕ → Type 0
Free text = (last : ℕ) → is_relation_byte last ≡ false → torn last false text ≡ false

free_plain : (text rest : List ℕ) → AllByRecursion IsPlain text → Free rest → Free (text ++ rest)
free_plain [] rest h k last l = k last l
free_plain (byte ∷ text) rest h k last l =
    ap (λ b. cond b (torn last true (text ++ rest)) (torn byte false (text ++ rest))) h.0.0 ∙ free_plain text rest h.1 k byte h.0.1

-- behind a blank
free_behind : (sign : ℕ) (text rest : List ℕ) → ((next : ℕ) → IsPlain next → are_joined sign next ≡ false) → 0 < length text → AllByRecursion IsPlain text → Free rest → torn sign true (text ++ rest) ≡ false
free_behind sign [] rest apart some h k = absurd (omega arith)
free_behind sign (byte ∷ text) rest apart some h k =
    ap (λ b. cond b (torn sign true (text ++ rest)) (are_joined sign byte || torn byte false (text ++ rest))) h.0.0
    ∙ or_from (are_joined sign byte) (torn byte false (text ++ rest)) (apart byte h.0) (free_plain text rest h.1 k byte h.0.1)

free_sign : (is_negative : Bool) (text rest : List ℕ) → 0 < length text → AllByRecursion IsPlain text → Free rest → Free (sign_text false is_negative ++ (text ++ rest))
free_sign false text rest some h k last l =
    or_from (are_joined last 43) (torn 43 true (text ++ rest)) (no_join_next last 43 refl refl) (free_behind 43 text rest (λ next p. refl) some h k)
free_sign true text rest some h k last l =
    or_from (are_joined last 45) (torn 45 true (text ++ rest)) (no_join_next last 45 refl refl) (free_behind 45 text rest (λ next p. refl) some h k)

multiple_some : (z : ℤ) (o : Option Atom) → 0 < length (multiple_text z o)
multiple_some z o = omega (arith, length-append (decimal_of (pos (unsigned_abs z))) (codes "*" ++ atom_text_at o))

free_terms : (atoms : List Atom) (terms : List (ℕ × ℤ)) (rest : List ℕ) → AreReadable atoms terms → Free rest → Free (terms_text false atoms terms ++ rest)
free_terms atoms [] rest h k = k
free_terms atoms (term ∷ terms) rest h k =
    let sign : List ℕ = sign_text false (int_lt term.1 (pos 0)) in
    let body : List ℕ = multiple_text term.1 (slice_get atoms term.0) in
    let later : List ℕ = terms_text false atoms terms in
    let free : Free (sign ++ (body ++ (later ++ rest))) =
    free_sign (int_lt term.1 (pos 0)) body (later ++ rest) (multiple_some term.1 (slice_get atoms term.0)) (plain_multiple term.1 (slice_get atoms term.0) h.0.0 h.0.1) (free_terms atoms terms rest h.1 k) in
    subst Free (sym (append_assoc (sign ++ body) later rest ∙ append_assoc sign body (later ++ rest))) free

plain_front : (is_negative : Bool) → AllByRecursion IsPlain (sign_text true is_negative)
plain_front false = tt
plain_front true = ((refl, refl), tt)

free_front : (atoms : List Atom) (terms : List (ℕ × ℤ)) (rest : List ℕ) → AreReadable atoms terms → Free rest → Free (terms_text true atoms terms ++ rest)
free_front atoms [] rest h k = k
free_front atoms (term ∷ terms) rest h k =
    let sign : List ℕ = sign_text true (int_lt term.1 (pos 0)) in
    let body : List ℕ = multiple_text term.1 (slice_get atoms term.0) in
    let later : List ℕ = terms_text false atoms terms in
    let free : Free ((sign ++ body) ++ (later ++ rest)) =
    free_plain (sign ++ body) (later ++ rest) (all_joined IsPlain sign body (plain_front (int_lt term.1 (pos 0))) (plain_multiple term.1 (slice_get atoms term.0) h.0.0 h.0.1)) (free_terms atoms terms rest h.1 k) in
    subst Free (sym (append_assoc (sign ++ body) later rest)) free

-- behind `=`
free_number : (text : List ℕ) → 0 < length text → AllByRecursion IsPlain text → torn 61 true text ≡ false
free_number text some h =
    subst (λ t. torn 61 true t ≡ false) (append-nil text)
    (free_behind 61 text [] (λ next p. let less = or_parts (eqb next 60) (eqb next 62 || eqb next 61) p.1 in (or_parts (eqb next 62) (eqb next 61) less.1).1) some h (λ last l. refl))

-- what stands between the terms of a row and its number
abbrev pub IsBetween : List ℕ → Type 0
IsBetween between = (number : List ℕ) → 0 < length number → AllByRecursion IsPlain number → Free (between ++ number)

pub between_at_most : IsBetween (codes " <= ")
between_at_most number some h last l = or_from (are_joined last 60) (torn 61 true number) (no_join_next last 60 refl refl) (free_number number some h)

pub between_equal : IsBetween (codes " == ")
between_equal number some h last l =
    or_from (are_joined last 61) (torn 61 true number)
    (or_from (is_name_byte last && is_name_byte 61) (is_relation_byte last && true) (and_right (is_name_byte last) (is_name_byte 61) refl) (and_left (is_relation_byte last) true l))
    (free_number number some h)

most_some : (z : ℤ) → IsWithin (2 ^ 40) z → 0 < length (decimal_of z)
most_some (pos n) h = let high = h.high in (literal_decimal n (omega (arith, ints))).digits.0
most_some (negsuc n) h = omega arith

row_whole : (atoms : List Atom) (between : List ℕ) (row : Inequality) → IsBetween between → AreReadable atoms row.terms → IsWithin (2 ^ 40) row.most → ¬ IsTorn (row_text atoms between row)
row_whole atoms between row b h w =
    is_whole (row_text atoms between row) (free_front atoms row.terms (between ++ decimal_of row.most) h (b (decimal_of row.most) (most_some row.most w) (plain_most row.most w)) 0 refl)

-- ---- the line

pub row_spaced : (atoms : List Atom) (between relation : List ℕ) (row : Inequality) → Avoids 13 between → without_blanks between ≡ relation → IsBetween between → AreReadable atoms row.terms → IsWithin (2 ^ 40) row.most
    → IsSpaced (without_return (row_text atoms between row)) (bare_terms true atoms row.terms ++ (relation ++ decimal_of row.most))
row_spaced atoms between relation row lacks b between_fits h w =
    subst (λ line. IsSpaced line (bare_terms true atoms row.terms ++ (relation ++ decimal_of row.most)))
    (sym (no_return (row_text atoms between row) (row_avoids 13 atoms between row refl (λ e. omega arith) (λ e. omega arith) (λ e. omega arith) (λ e. omega arith) lacks h w)))
    (record { text_left = row_left atoms between relation row b h w; whole = row_whole atoms between row between_fits h w })

kept_if : (P : ℕ → Type 0) (b : Bool) (byte : ℕ) (text : List ℕ) → P byte → AllByRecursion P text → AllByRecursion P (cond b (byte ∷ text) text)
kept_if P true byte text h k = (h, k)
kept_if P false byte text h k = k

blanks_kept : (P : ℕ → Type 0) (text : List ℕ) → AllByRecursion P text → AllByRecursion P (without_blanks text)
blanks_kept P [] h = tt
blanks_kept P (byte ∷ text) h = kept_if P (not (is_blank byte)) byte (without_blanks text) h.0 (blanks_kept P text h.1)

not_skipped : (text : List ℕ) → 0 < length text → Avoids 35 text → is_skipped text ≡ false
not_skipped [] some h = absurd (omega arith)
not_skipped (byte ∷ text) some h = ne_eqb byte 35 h.0

pub row_said : (atoms : List Atom) (between relation : List ℕ) (row : Inequality) → Avoids 35 between → without_blanks between ≡ relation → AreReadable atoms row.terms → IsWithin (2 ^ 40) row.most
    → is_skipped (bare_terms true atoms row.terms ++ (relation ++ decimal_of row.most)) ≡ false
row_said atoms between relation row lacks b h w =
    let bare : List ℕ = bare_terms true atoms row.terms in
    let some = most_some row.most w in
    not_skipped (bare ++ (relation ++ decimal_of row.most)) (omega (arith, length-append bare (relation ++ decimal_of row.most), length-append relation (decimal_of row.most), some))
    (subst (Avoids 35) (row_left atoms between relation row b h w)
    (blanks_kept (λ each. each ≢ 35) (row_text atoms between row) (row_avoids 35 atoms between row refl (λ e. omega arith) (λ e. omega arith) (λ e. omega arith) (λ e. omega arith) lacks h w)))
