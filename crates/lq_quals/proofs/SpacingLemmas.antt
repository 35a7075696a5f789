-- Blanks that part two bytes of one token.
use Rattle.std.proofs.Common.{◌≡◌, ℕ, ◌<◌, ◌&&◌, ◌||◌, Bool, true, false, cond, List, [], ◌∷◌, ◌++◌, length, refl, sym, ap, ◌∙◌, ◌⊎◌, inl, inr, arith}
use Rattle.std.specs.List.{AllByRecursion}
use Rattle.std.proofs.Math.Bool.{and-false}
use Rattle.std.proofs.lemmas.Bool.{true≢false, false_from_ne_true, cases_Bool, and_parts, or_cases, or_left, or_right}
use Rattle.std.proofs.lemmas.Bool.Decides.{nat_tests}
use Rattle.lq_text.specs.Byte.{is_name_byte}
use Rattle.lq_quals.specs.Split.{is_relation_byte}
use Rattle.lq_quals.specs.Spacing.{is_blank, are_joined, IsTorn}

-- the test as it is made byte by byte: behind the byte `last`, and blanks where `parted` says so, come these bytes
abbrev pub torn : ℕ → Bool → List ℕ → Bool
torn last parted [] = false
torn last parted (byte ∷ bytes) = cond (is_blank byte) (torn last true bytes) ((parted && are_joined last byte) || torn byte false bytes)

abbrev Blank : List ℕ → Type 0
Blank bytes = AllByRecursion (λ each. is_blank each ≡ true) bytes

-- the blanks behind `last`, if any, part it from a byte of the same token
record Behind (last : ℕ) (parted : Bool) (bytes : List ℕ) : Type 0 where
  blanks : List ℕ
  next : ℕ
  back : List ℕ
  parts : bytes ≡ blanks ++ next ∷ back
  some : (parted ≡ true) ⊎ (0 < length blanks)
  blank : Blank blanks
  joined : are_joined last next ≡ true

later : (byte : ℕ) (bytes : List ℕ) → IsTorn bytes → IsTorn (byte ∷ bytes)
later byte bytes t = record { front = byte ∷ t.front; byte = t.byte; blanks = t.blanks; next = t.next; back = t.back; parted = ap (λ bs. byte ∷ bs) t.parted; some = t.some; blank = t.blank; joined = t.joined }

more_blank : (last : ℕ) (parted : Bool) (byte : ℕ) (bytes : List ℕ) → is_blank byte ≡ true → Behind last true bytes → Behind last parted (byte ∷ bytes)
more_blank last parted byte bytes is b = record { blanks = byte ∷ b.blanks; next = b.next; back = b.back; parts = ap (λ bs. byte ∷ bs) b.parts; some = inr (omega arith); blank = (is, b.blank); joined = b.joined }

here : (byte : ℕ) (bytes : List ℕ) → Behind byte false bytes → IsTorn (byte ∷ bytes)
here byte bytes b = record {
  front = [];
  byte = byte;
  blanks = b.blanks;
  next = b.next;
  back = b.back;
  parted = ap (λ bs. byte ∷ bs) b.parts;
  some = elim b.some [ inl odd ↦ absurd (true≢false (sym odd)) | inr lt ↦ lt ];
  blank = b.blank;
  joined = b.joined;
}

sound : (last : ℕ) (parted : Bool) (bytes : List ℕ) → torn last parted bytes ≡ true → Behind last parted bytes ⊎ IsTorn bytes
sound last parted [] e = absurd (true≢false (sym e))
sound last parted (byte ∷ bytes) e = elim (cases_Bool (is_blank byte)) [
  | inl is ↦
      let e' : torn last true bytes ≡ true = sym (ap (λ b. cond b (torn last true bytes) ((parted && are_joined last byte) || torn byte false bytes)) is) ∙ e in
      elim (sound last true bytes e') [
        | inl b ↦ inl (more_blank last parted byte bytes is b)
        | inr t ↦ inr (later byte bytes t)
      ]
  | inr out ↦
      let e' : (parted && are_joined last byte) || torn byte false bytes ≡ true = sym (ap (λ b. cond b (torn last true bytes) ((parted && are_joined last byte) || torn byte false bytes)) out) ∙ e in
      elim (or_cases (parted && are_joined last byte) (torn byte false bytes) e') [
        | inl both ↦
            let two = and_parts parted (are_joined last byte) both in
            inl (record { blanks = []; next = byte; back = bytes; parts = refl; some = inl two.0; blank = tt; joined = two.1 })
        | inr after ↦ elim (sound byte false bytes after) [
          | inl b ↦ inr (here byte bytes b)
          | inr t ↦ inr (later byte bytes t)
        ]
      ]
]

nothing_joins_0 : (next : ℕ) → are_joined 0 next ≡ false
nothing_joins_0 next = refl

pub torn_is : (line : List ℕ) → torn 0 false line ≡ true → IsTorn line
torn_is line e = elim (sound 0 false line e) [
  | inl b ↦ absurd (true≢false (sym b.joined ∙ nothing_joins_0 b.next))
  | inr t ↦ t
]

blank_is : (byte : ℕ) → is_blank byte ≡ true → (byte ≡ 32) ⊎ (byte ≡ 9)
blank_is byte e = grind (arith, nat_tests)

-- no blank is of a token
blank_joins_none : (byte next : ℕ) → is_blank byte ≡ true → are_joined byte next ≡ false
blank_joins_none byte next e = elim (blank_is byte e) [
  | inl is ↦ ap (λ b. are_joined b next) is
  | inr is ↦ ap (λ b. are_joined b next) is
]

none_joins_blank : (byte next : ℕ) → is_blank next ≡ true → are_joined byte next ≡ false
none_joins_blank byte next e = elim (blank_is next e) [
  | inl is ↦ ap (are_joined byte) is ∙ rw (and-false (is_name_byte byte), and-false (is_relation_byte byte))
  | inr is ↦ ap (are_joined byte) is ∙ rw (and-false (is_name_byte byte), and-false (is_relation_byte byte))
]

at_blank : (last : ℕ) (parted : Bool) (byte : ℕ) (bytes : List ℕ) → is_blank byte ≡ true → torn last parted (byte ∷ bytes) ≡ torn last true bytes
at_blank last parted byte bytes e = ap (λ b. cond b (torn last true bytes) ((parted && are_joined last byte) || torn byte false bytes)) e

at_other : (last : ℕ) (parted : Bool) (byte : ℕ) (bytes : List ℕ) → is_blank byte ≡ false → torn last parted (byte ∷ bytes) ≡ (parted && are_joined last byte) || torn byte false bytes
at_other last parted byte bytes e = ap (λ b. cond b (torn last true bytes) ((parted && are_joined last byte) || torn byte false bytes)) e

behind_blanks : (last : ℕ) (parted : Bool) (blanks : List ℕ) (next : ℕ) (back : List ℕ) → Blank blanks → are_joined last next ≡ true → (parted ≡ true) ⊎ (0 < length blanks) → torn last parted (blanks ++ next ∷ back) ≡ true
behind_blanks last parted [] next back h joined some =
    let is : parted ≡ true = elim some [ inl is ↦ is | inr lt ↦ absurd (omega arith) ] in
    let out = false_from_ne_true (is_blank next) (λ is. true≢false (sym joined ∙ none_joins_blank last next is)) in
    at_other last parted next back out ∙ or_left _ _ (ap (λ b. b && are_joined last next) is ∙ joined)
behind_blanks last parted (byte ∷ blanks) next back h joined some =
    at_blank last parted byte (blanks ++ next ∷ back) h.0 ∙ behind_blanks last true blanks next back h.1 joined (inl refl)

within : (last : ℕ) (parted : Bool) (front : List ℕ) (byte : ℕ) (blanks : List ℕ) (next : ℕ) (back : List ℕ) → Blank blanks → 0 < length blanks → are_joined byte next ≡ true → torn last parted (front ++ (byte ∷ (blanks ++ next ∷ back))) ≡ true
within last parted [] byte blanks next back h some joined =
    let out = false_from_ne_true (is_blank byte) (λ is. true≢false (sym joined ∙ blank_joins_none byte next is)) in
    at_other last parted byte (blanks ++ next ∷ back) out ∙ or_right (parted && are_joined last byte) _ (behind_blanks byte false blanks next back h joined (inr some))
within last parted (first ∷ front) byte blanks next back h some joined = elim (cases_Bool (is_blank first)) [
  | inl is ↦ at_blank last parted first (front ++ (byte ∷ (blanks ++ next ∷ back))) is ∙ within last true front byte blanks next back h some joined
  | inr out ↦ at_other last parted first (front ++ (byte ∷ (blanks ++ next ∷ back))) out ∙ or_right (parted && are_joined last first) _ (within first false front byte blanks next back h some joined)
]

pub is_torn : (line : List ℕ) → IsTorn line → torn 0 false line ≡ true
is_torn line t = ap (torn 0 false) t.parted ∙ within 0 false t.front t.byte t.blanks t.next t.back t.blank t.some t.joined

-- where the test fails the line is whole
pub is_whole : (line : List ℕ) → torn 0 false line ≡ false → ¬ IsTorn line
is_whole line e t = true≢false (sym (is_torn line t) ∙ e)

-- ---- the loop

-- the bytes at hand are torn
pub torn_here : (line rest : List ℕ) (last byte : ℕ) (behind : List ℕ) (parted : Bool) → torn last parted rest ≡ torn 0 false line → rest ≡ byte ∷ behind → is_blank byte ≡ false → parted ≡ true → are_joined last byte ≡ true → torn 0 false line ≡ true
torn_here line rest last byte behind parted so_far e out by joined =
    sym so_far ∙ ap (torn last parted) e ∙ at_other last parted byte behind out ∙ or_left _ _ (ap (λ b. b && are_joined last byte) by ∙ joined)

empty_is_whole : (rest : List ℕ) (last : ℕ) (parted : Bool) → length rest ≡ 0 → torn last parted rest ≡ false
empty_is_whole [] last parted e = refl
empty_is_whole (byte ∷ rest) last parted e = absurd (omega arith)

pub all_whole : (line rest : List ℕ) (last : ℕ) (parted : Bool) → torn last parted rest ≡ torn 0 false line → length rest ≡ 0 → ¬ IsTorn line
all_whole line rest last parted so_far e = is_whole line (sym so_far ∙ empty_is_whole rest last parted e)
