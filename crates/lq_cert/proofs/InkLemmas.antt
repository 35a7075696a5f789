-- No word of a line holds a byte up to that of a space.
use Rattle.std.proofs.Common.{◌≡◌, ℕ, ◌^◌, ◌<◌, ◌≤◌, true, List, [], ◌∷◌, ◌++◌, map, eqb, ℤ, refl, subst, arith, inl, inr}
use Rattle.std.specs.Prelude.{codes, nat_lt}
use Rattle.std.specs.Char.{IsAsciiDigit}
use Rattle.std.specs.List.{AllByRecursion, list_all, flat_map, slice_split}
use Rattle.std.proofs.lemmas.Bool.{and_parts, ltb-true}
use Rattle.std.proofs.lemmas.Bool.Decides.{nat_tests}
use Rattle.lq_text.specs.Byte.{is_name_byte}
use Rattle.lq_text.specs.Numeral.{decimal_of}
use Rattle.lq_text.proofs.Lists.{all_joined, all_weaker}
use Rattle.lq_text.proofs.NumeralLemmas.{IsSignOrDigit, numeral_bytes, decimal_numeral}
use Rattle.lq_linear.specs.Terms.{IsWithin}
use Rattle.lq_cert.specs.Numeral.{numeral}
use Rattle.lq_text.specs.Name.{IsName}
use Rattle.lq_text.specs.Atom.{IsSubject, subject_text, IsAtom, atom_text}
use Rattle.lq_cert.specs.Line.{IsTerm, IsLine, version_text, term_words, part_word, line_words, line_text}
use Rattle.lq_cert.specs.Split.{Avoids}
use Rattle.lq_text.specs.declared.atom.Subject.{Subject}
use Rattle.lq_text.specs.declared.atom.Subject.TheVariants.{Field, Local, Placeholder, Returned}
use Rattle.lq_text.specs.declared.atom.Atom.{Atom}
use Rattle.lq_text.specs.declared.atom.Atom.TheVariants.{Element, Value, Offset, Length}
use Rattle.lq_text.specs.declared.order.Term.{Term}
use Rattle.lq_cert.specs.declared.line.Part.{Part}
use Rattle.lq_cert.specs.declared.line.FileVersion.{FileVersion}
use Rattle.lq_cert.specs.declared.line.FileVersion.TheVariants.{One, Two}
use Rattle.lq_cert.specs.declared.line.Line.{Line}
use Rattle.lq_cert.specs.declared.line.Line.TheVariants.{Version, Row, Condition, Exact, Goal, Void, End}
use Rattle.lq_text.proofs.NameLemmas.{name_bytes}
use Rattle.lq_cert.proofs.NumbersLemmas.{word_of_within}
use Rattle.lq_cert.specs.Reading.{keyword_text}
use Rattle.lq_cert.proofs.SpellingLemmas.{keyword_of}
use Rattle.lq_cert.proofs.SplitLemmas.{slice_split-join}
use Rattle.lq_cert.proofs.NumeralLemmas.{numeral_digits}

-- each byte is above that of a space
abbrev pub IsInk : List ℕ → Type 0
IsInk bytes = AllByRecursion (λ byte. 32 < byte) bytes

ink_by_test : (bytes : List ℕ) → list_all (nat_lt 32) bytes ≡ true → IsInk bytes
ink_by_test [] h = tt
ink_by_test (byte ∷ bytes) h = let parts = and_parts _ _ h in (ltb-true 32 byte parts.0, ink_by_test bytes parts.1)

ink_joined : (a b : List ℕ) → IsInk a → IsInk b → IsInk (a ++ b)
ink_joined a b h k = all_joined _ a b h k

numeral_ink : (n : ℕ) → IsInk (numeral n)
numeral_ink n = all_weaker IsAsciiDigit _ (λ c h. omega arith) (numeral n) (numeral_digits n).all

ink_of_sign : (c : ℕ) → IsSignOrDigit c → 32 < c
ink_of_sign c (inl e) = omega arith
ink_of_sign c (inr d) = omega arith

decimal_ink : (most : ℕ) (z : ℤ) → most < 2 ^ 63 → IsWithin most z → IsInk (decimal_of z)
decimal_ink most z small h =
    all_weaker IsSignOrDigit _ ink_of_sign (decimal_of z) (numeral_bytes (decimal_numeral z (word_of_within most z small h)))

ink_of_name : (c : ℕ) → is_name_byte c ≡ true → 32 < c
ink_of_name c h = grind (arith, nat_tests)

name_ink : (text : List ℕ) → IsName text → IsInk text
name_ink text h = all_weaker _ _ ink_of_name text (name_bytes text h.identifier)

subject_ink : (s : Subject) → IsSubject s → IsInk (subject_text s)
subject_ink (Field name) h = (omega arith, name_ink name h)
subject_ink (Local name) h = name_ink name h.0
subject_ink (Placeholder name) h = (omega arith, name_ink name h)
subject_ink Returned h = ink_by_test (codes "result") refl

wrapped_ink : (front inner : List ℕ) → IsInk front → IsInk inner → IsInk (front ++ (inner ++ codes ")"))
wrapped_ink front inner h k = ink_joined front _ h (ink_joined inner (codes ")") k (ink_by_test (codes ")") refl))

atom_ink : (a : Atom) → IsAtom a → IsInk (atom_text a)
atom_ink Element h = ink_by_test (codes "@") refl
atom_ink (Value s) h = subject_ink s h
atom_ink (Offset s) h = wrapped_ink (codes "off(") (subject_text s) (ink_by_test (codes "off(") refl) (subject_ink s h)
atom_ink (Length s) h = wrapped_ink (codes "len(") (subject_text s) (ink_by_test (codes "len(") refl) (subject_ink s h)

part_ink : (part : Part) → IsInk (part_word part)
part_ink part = ink_joined (numeral part.multiplier) _ (numeral_ink part.multiplier) (omega arith, numeral_ink part.fact)

parts_ink : (parts : List Part) → AllByRecursion IsInk (map part_word parts)
parts_ink [] = tt
parts_ink (part ∷ parts) = (part_ink part, parts_ink parts)

terms_ink : (terms : List Term) → AllByRecursion IsTerm terms → AllByRecursion IsInk (flat_map term_words terms)
terms_ink [] h = tt
terms_ink (term ∷ terms) h =
    (decimal_ink (2 ^ 16) term.coefficient (omega arith) h.0.0.within, (atom_ink term.atom h.0.1.0, terms_ink terms h.1))

-- the words of a row behind its template
row_ink : (terms : List Term) (most : ℤ) → AllByRecursion IsTerm terms → IsWithin (2 ^ 40) most → AllByRecursion IsInk (flat_map term_words terms ++ codes "<=" ∷ decimal_of most ∷ [])
row_ink terms most h within =
    all_joined IsInk (flat_map term_words terms) _ (terms_ink terms h)
    (ink_by_test (codes "<=") refl, (decimal_ink (2 ^ 40) most (omega arith) within, tt))

version_ink : (version : FileVersion) → IsInk (version_text version)
version_ink One = ink_by_test (codes "1") refl
version_ink Two = ink_by_test (codes "2") refl

pub words_ink : (line : Line) → IsLine line → AllByRecursion IsInk (line_words line)
words_ink (Version version) h = (ink_by_test (codes "proof") refl, (version_ink version, tt))
words_ink (Row template terms most) h =
    (ink_by_test (codes "row") refl, (numeral_ink template, row_ink terms most h.1.are_terms h.2))
words_ink (Condition number) h = (ink_by_test (codes "cond") refl, (numeral_ink number, tt))
words_ink (Exact item divisor parts) h =
    (ink_by_test (codes "exact") refl, (numeral_ink item, (numeral_ink divisor, parts_ink parts)))
words_ink (Goal goal divisor parts) h =
    (ink_by_test (codes "goal") refl, (numeral_ink goal, (numeral_ink divisor, parts_ink parts)))
words_ink (Void goal parts) h = (ink_by_test (codes "void") refl, (numeral_ink goal, parts_ink parts))
words_ink End h = (ink_by_test (codes "end") refl, tt)

-- so they avoid such a byte
pub words_avoid : (byte : ℕ) (line : Line) → byte ≤ 32 → IsLine line → AllByRecursion (Avoids byte) (line_words line)
words_avoid byte line low h =
    all_weaker IsInk (Avoids byte) (λ word ink. all_weaker _ _ (λ b above same. omega arith) word ink) (line_words line) (words_ink line h)

-- cutting the text of a line gives its words
pub split_words : (line : Line) → IsLine line → slice_split (λ byte. eqb byte 32) (line_text line) ≡ line_words line
split_words line h =
    let r = keyword_of line in
    rw r.2 (slice_split-join 32 (keyword_text r.0) r.1 (subst (AllByRecursion (Avoids 32)) r.2 (words_avoid 32 line (omega arith) h)))
