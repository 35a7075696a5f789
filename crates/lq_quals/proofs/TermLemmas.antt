-- Terms: their bytes, and that a text is that of at most one.
use Rattle.std.proofs.Common.{◌≡◌, ◌≢◌, ◌<◌, ◌||◌, eqb, ℕ, Bool, true, false, List, [], ◌∷◌, ◌++◌, length, get_or, Option, Some, None, ℤ, pos, ◌^◌, w64, to_z, of_z, refl, sym, ap, subst, ◌∙◌, arith, length-append}
use Rattle.std.specs.Prelude.{codes}
use Rattle.std.specs.Char.{IsAsciiDigit}
use Rattle.std.specs.List.{AllByRecursion, list_all}
use Rattle.std.proofs.lemmas.Bool.{true≢false, or_left, or_right}
use Rattle.std.proofs.lemmas.Bool.Decides.{nat_tests}
use Rattle.std.proofs.lemmas.Int.{ints, to_z-of_z}
use Rattle.std.proofs.lemmas.List.{append-nil, nil_from_length}
use Rattle.std.proofs.lemmas.List.Elements.{recursion_from_All}
use Rattle.std.proofs.lemmas.List.Sums.{AllPass-from_list_all}
use Rattle.lq_text.specs.Atom.{IsSubject, IsAtom, subject_text, atom_text}
use Rattle.lq_text.specs.Byte.{is_letter, is_name_byte}
use Rattle.lq_text.specs.Literal.{IsLiteral}
use Rattle.lq_text.specs.Name.{IsIdentifier}
use Rattle.lq_text.specs.Numeral.{IsWord, place_value}
use Rattle.lq_text.specs.declared.atom.Subject.{Subject}
use Rattle.lq_text.specs.declared.atom.Subject.TheVariants.{Field, Local, Placeholder, Returned}
use Rattle.lq_text.specs.declared.atom.Atom.{Atom}
use Rattle.lq_text.specs.declared.atom.Atom.TheVariants.{Element, Value, Offset, Length}
use Rattle.lq_text.proofs.AtomLemmas.{atom_inject}
use Rattle.lq_text.proofs.LiteralLemmas.{test_of_digit}
use Rattle.lq_text.proofs.Lists.{Avoids, all_joined, all_weaker, meets, same_split}
use Rattle.lq_text.proofs.NameLemmas.{name_bytes, name_first}
use Rattle.lq_quals.specs.declared.term.Addend.{Addend}
use Rattle.lq_quals.specs.Split.{IsCut, is_times}
use Rattle.lq_quals.specs.Term.{signed, addend, IsTerm}
use Rattle.lq_quals.specs.Term.IsTerm.{number, multiple, single}
use Rattle.lq_quals.proofs.SplitLemmas.{only_split}

-- ---- the bytes of a term

-- what an atom may hold: a name's bytes, and `.`, `?`, `@` and brackets
abbrev pub is_atom_byte : ℕ → Bool
is_atom_byte byte = is_name_byte byte || (eqb byte 46 || (eqb byte 63 || (eqb byte 64 || (eqb byte 40 || eqb byte 41))))

abbrev pub AtomBytes : List ℕ → Type 0
AtomBytes text = AllByRecursion (λ byte. is_atom_byte byte ≡ true) text

by_test : (text : List ℕ) → list_all is_atom_byte text ≡ true → AtomBytes text
by_test text h = recursion_from_All _ text (AllPass-from_list_all is_atom_byte text h)

named : (text : List ℕ) → IsIdentifier text → AtomBytes text
named text h = all_weaker _ _ (λ byte is. or_left _ _ is) text (name_bytes text h)

digits : (text : List ℕ) → AllByRecursion IsAsciiDigit text → AtomBytes text
digits text h = all_weaker _ _ (λ byte d. or_left _ _ (or_right (is_letter byte) _ (test_of_digit byte d))) text h

subject_bytes : (s : Subject) → IsSubject s → AtomBytes (subject_text s)
subject_bytes (Field name) h = (refl, named name h.identifier)
subject_bytes (Local name) h = named name h.0.identifier
subject_bytes (Placeholder name) h = (refl, named name h.identifier)
subject_bytes Returned h = by_test (codes "result") refl

pub atom_bytes : (a : Atom) → IsAtom a → AtomBytes (atom_text a)
atom_bytes Element h = (refl, tt)
atom_bytes (Value s) h = subject_bytes s h
atom_bytes (Offset s) h =
    all_joined _ (codes "off(") (subject_text s ++ codes ")") (by_test (codes "off(") refl) (all_joined _ (subject_text s) (codes ")") (subject_bytes s h) (refl, tt))
atom_bytes (Length s) h =
    all_joined _ (codes "len(") (subject_text s ++ codes ")") (by_test (codes "len(") refl) (all_joined _ (subject_text s) (codes ")") (subject_bytes s h) (refl, tt))

-- such bytes hold no other
pub lacks : (byte : ℕ) (text : List ℕ) → is_atom_byte byte ≡ false → AtomBytes text → Avoids byte text
lacks byte text out h = all_weaker _ _ (λ each is same. true≢false (sym is ∙ ap is_atom_byte same ∙ out)) text h

pub literal_bytes : (text : List ℕ) → IsLiteral text → AtomBytes text
literal_bytes text h = digits text h.digits.1

pub term_avoids : {negated : Bool} {text : List ℕ} {a : Addend} (byte : ℕ) → is_atom_byte byte ≡ false → byte ≢ 42 → IsTerm negated text a → Avoids byte text
term_avoids byte out other (number {text} h) = lacks byte text out (literal_bytes text h)
term_avoids byte out other (multiple {text} {atom} h k) =
    all_joined _ text (codes "*" ++ atom_text atom) (lacks byte text out (literal_bytes text h)) (λ same. other (sym same), lacks byte (atom_text atom) out (atom_bytes atom k))
term_avoids byte out other (single {atom} k) = lacks byte (atom_text atom) out (atom_bytes atom k)

-- ---- one term for each text

subject_some : (s : Subject) → IsSubject s → 0 < length (subject_text s)
subject_some (Field name) h = omega arith
subject_some (Local []) h = absurd h.0.identifier
subject_some (Local (byte ∷ name)) h = omega arith
subject_some (Placeholder name) h = omega arith
subject_some Returned h = omega arith

atom_some : (a : Atom) → IsAtom a → 0 < length (atom_text a)
atom_some Element h = omega arith
atom_some (Value s) h = subject_some s h
atom_some (Offset s) h = omega arith
atom_some (Length s) h = omega arith

pub term_some : {negated : Bool} {text : List ℕ} {a : Addend} → IsTerm negated text a → 0 < length text
term_some (number h) = h.digits.0
term_some (multiple {text} {atom} h k) = let some = h.digits.0 in omega (arith, length-append text (codes "*" ++ atom_text atom))
term_some (single {atom} k) = atom_some atom k

first_digit : (text : List ℕ) → 0 < length text → AllByRecursion IsAsciiDigit text → IsAsciiDigit (get_or text 0 0)
first_digit [] some h = absurd (omega arith)
first_digit (byte ∷ text) some h = h.0

no_letter : (byte : ℕ) → IsAsciiDigit byte → is_letter byte ≡ false
no_letter byte h = grind (arith, nat_tests)

no_literal_subject : (s : Subject) (text : List ℕ) → IsSubject s → IsLiteral text → text ≡ subject_text s → ⊥
no_literal_subject (Field name) text h k e = let d = first_digit text k.digits.0 k.digits.1 in omega (arith, ap (λ t. get_or t 0 0) e, d)
no_literal_subject (Local name) text h k e =
    let d = first_digit text k.digits.0 k.digits.1 in
    name_first (get_or text 0 0) name (no_letter (get_or text 0 0) d) h.0 (ap (λ t. get_or t 0 0) (sym e))
no_literal_subject (Placeholder name) text h k e = let d = first_digit text k.digits.0 k.digits.1 in omega (arith, ap (λ t. get_or t 0 0) e, d)
no_literal_subject Returned text h k e = let d = first_digit text k.digits.0 k.digits.1 in omega (arith, ap (λ t. get_or t 0 0) e, d)

-- no atom is a literal
pub no_literal_atom : (a : Atom) (text : List ℕ) → IsAtom a → IsLiteral text → text ≡ atom_text a → ⊥
no_literal_atom Element text h k e = let d = first_digit text k.digits.0 k.digits.1 in omega (arith, ap (λ t. get_or t 0 0) e, d)
no_literal_atom (Value s) text h k e = no_literal_subject s text h k e
no_literal_atom (Offset s) text h k e = let d = first_digit text k.digits.0 k.digits.1 in omega (arith, ap (λ t. get_or t 0 0) e, d)
no_literal_atom (Length s) text h k e = let d = first_digit text k.digits.0 k.digits.1 in omega (arith, ap (λ t. get_or t 0 0) e, d)

-- what holds no `*` is no multiple
pub no_times : (text front back : List ℕ) → AtomBytes text → text ≡ front ++ (codes "*" ++ back) → ⊥
no_times text front back h e = meets 42 front back (subst (Avoids 42) e (lacks 42 text refl h))

pub one_term : {negated : Bool} {s t : List ℕ} {a b : Addend} → IsTerm negated s a → IsTerm negated t b → s ≡ t → a ≡ b
one_term {negated} (number h) (number k) e = ap (λ t. addend negated (place_value t) None) e
one_term (number {text} h) (multiple {text = n} {atom} k l) e = absurd (no_times text n (atom_text atom) (literal_bytes text h) e)
one_term (number {text} h) (single {atom} l) e = absurd (no_literal_atom atom text l h e)
one_term (multiple {text = n} {atom} h l) (number {text} k) e = absurd (no_times text n (atom_text atom) (literal_bytes text k) (sym e))
one_term {negated} (multiple {text = m} {atom = a} h l) (multiple {text = n} {atom = b} k r) e =
    let parts = same_split 42 m (atom_text a) n (atom_text b) (lacks 42 m refl (literal_bytes m h)) (lacks 42 n refl (literal_bytes n k)) e in
    ap (λ t. addend negated (place_value t) (Some a)) parts.0 ∙ ap (λ x. addend negated (place_value n) (Some x)) (atom_inject a b l r parts.1)
one_term (multiple {text = m} {atom = a} h l) (single {atom = b} r) e = absurd (no_times (atom_text b) m (atom_text a) (atom_bytes b r) (sym e))
one_term (single {atom} l) (number {text} k) e = absurd (no_literal_atom atom text l k (sym e))
one_term (single {atom = a} l) (multiple {text = n} {atom = b} k r) e = absurd (no_times (atom_text a) n (atom_text b) (atom_bytes a l) e)
one_term {negated} (single {atom = a} l) (single {atom = b} r) e = ap (λ x. addend negated 1 (Some x)) (atom_inject a b l r e)

-- ---- terms read

-- what holds no `*` before its end
pub no_times_in : (text front back : List ℕ) → IsCut is_times text front back → length back ≡ 0 → Avoids 42 text
no_times_in text front back cut e =
    let whole : text ≡ front = cut.joined ∙ ap (λ b. front ++ b) (nil_from_length back e) ∙ append-nil front in
    subst (Avoids 42) (sym whole) (all_weaker _ _ (λ byte out same. true≢false (sym (ap is_times same) ∙ out)) front cut.clear)

-- a literal, negated or not, is a word
word_fits : (negated : Bool) (n : ℕ) (r : ℤ) → n < 2 ^ 63 → r ≡ signed negated (pos n) → IsWord r
word_fits true n r h e = omega (arith, ints)
word_fits false n r h e = omega (arith, ints)

kept : (negated : Bool) (n : ℕ) (z r : ℤ) → n < 2 ^ 63 → z ≡ pos n → r ≡ signed negated (to_z w64 (of_z w64 z)) → to_z w64 (of_z w64 r) ≡ signed negated (pos n)
kept negated n z r h same e =
    let word : IsWord z = omega (arith, ints) in
    let made : r ≡ signed negated (pos n) = e ∙ ap (signed negated) (to_z-of_z w64 z word ∙ same) in
    to_z-of_z w64 r (word_fits negated n r h made) ∙ made

abbrev Reads : Bool → List ℕ → ℤ → Option Atom → Type 0
Reads negated text z atom = IsTerm negated text (record { coefficient = z; atom = atom })

pub number_read : (negated : Bool) (text : List ℕ) (z r : ℤ) → IsLiteral text × (z ≡ pos (place_value text)) → r ≡ signed negated (to_z w64 (of_z w64 z)) → IsTerm negated text (record { coefficient = to_z w64 (of_z w64 r); atom = None })
number_read negated text z r h e =
    subst (λ y. Reads negated text y None) (sym (kept negated (place_value text) z r h.0.small h.1 e)) (number h.0)

pub single_read : (negated : Bool) (text : List ℕ) (atom : Atom) (r : ℤ) → IsAtom atom × (atom_text atom ≡ text) → r ≡ signed negated (pos 1) → IsTerm negated text (record { coefficient = to_z w64 (of_z w64 r); atom = Some atom })
single_read negated text atom r h e =
    subst (λ y. Reads negated text y (Some atom)) (sym (kept negated 1 (pos 1) r (omega arith) refl e)) (subst (λ t. Reads negated t (signed negated (pos 1)) (Some atom)) h.1 (single h.0))

pub multiple_read : (negated : Bool) (front behind : List ℕ) (z r : ℤ) (atom : Atom) → IsLiteral front × (z ≡ pos (place_value front)) → IsAtom atom × (atom_text atom ≡ behind) → r ≡ signed negated (to_z w64 (of_z w64 z)) → IsTerm negated (front ++ (codes "*" ++ behind)) (record { coefficient = to_z w64 (of_z w64 r); atom = Some atom })
multiple_read negated front behind z r atom h k e =
    subst (λ y. Reads negated (front ++ (codes "*" ++ behind)) y (Some atom)) (sym (kept negated (place_value front) z r h.0.small h.1 e))
    (subst (λ t. Reads negated (front ++ (codes "*" ++ t)) (signed negated (pos (place_value front))) (Some atom)) k.1 (multiple h.0 k.0))

-- a text without `*` that is neither a literal nor an atom is no term
neither : {negated : Bool} {t : List ℕ} {a : Addend} → IsTerm negated t a → (text : List ℕ) → t ≡ text → Avoids 42 text → ¬ IsLiteral text → ((atom : Atom) → IsAtom atom → atom_text atom ≡ text → ⊥) → ⊥
neither (number h) text e avoids no_literal no_atom = no_literal (subst IsLiteral e h)
neither (multiple {text = n} {atom} h k) text e avoids no_literal no_atom = meets 42 n (atom_text atom) (subst (Avoids 42) (sym e) avoids)
neither (single {atom} k) text e avoids no_literal no_atom = no_atom atom k e

pub no_term : (negated : Bool) (text : List ℕ) → Avoids 42 text → ¬ IsLiteral text → ((atom : Atom) → IsAtom atom → atom_text atom ≡ text → ⊥) → (a : Addend) → ¬ IsTerm negated text a
no_term negated text avoids no_literal no_atom a h = neither h text refl avoids no_literal no_atom

-- what stands around the `*` of a term
around_times : {negated : Bool} {text : List ℕ} {a : Addend} → IsTerm negated text a → (front behind : List ℕ) → text ≡ front ++ (codes "*" ++ behind) → IsLiteral front × ((atom : Atom) × IsAtom atom × (atom_text atom ≡ behind))
around_times (number {text} h) front behind e = absurd (no_times text front behind (literal_bytes text h) e)
around_times (multiple {text} {atom} h k) front behind e =
    let parts = only_split 42 text (atom_text atom) front behind (lacks 42 text refl (literal_bytes text h)) (lacks 42 (atom_text atom) refl (atom_bytes atom k)) e in
    (subst IsLiteral parts.0 h, (atom, k, parts.1))
around_times (single {atom} k) front behind e = absurd (no_times (atom_text atom) front behind (atom_bytes atom k) e)

pub no_number : (negated : Bool) (front behind : List ℕ) → ¬ IsLiteral front → (a : Addend) → ¬ IsTerm negated (front ++ (codes "*" ++ behind)) a
no_number negated front behind out a h = out (around_times h front behind refl).0

pub no_atom_behind : (negated : Bool) (front behind : List ℕ) → ((atom : Atom) → IsAtom atom → atom_text atom ≡ behind → ⊥) → (a : Addend) → ¬ IsTerm negated (front ++ (codes "*" ++ behind)) a
no_atom_behind negated front behind out a h = let r = (around_times h front behind refl).1 in out r.0 r.1 r.2
