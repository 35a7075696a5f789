-- Margins, and what a line says.
use Rattle.std.proofs.Common.{◌≡◌, ℕ, ◌+◌, ◌<◌, ◌≤◌, Bool, true, false, cond, eqb, ◌||◌, ◌↔◌, List, [], ◌∷◌, ◌++◌, length, length-append, append_assoc, append-nil, Option, Some, None, ℤ, ◌≤ℤ◌, refl, sym, ap, subst, ◌∙◌, arith, inl, inr}
use Rattle.std.specs.List.{AllByRecursion, count_by}
use Rattle.std.proofs.lemmas.Bool.{cases_lt, cases_eq, eq-eqb, ne_eqb, iff_false, true_from_ne_false, true≢false}
use Rattle.std.proofs.lemmas.List.{nil_from_length}
use Rattle.std.proofs.lemmas.List.Sums.{sum_by-append}
use Rattle.lq_text.specs.Numeral.{IsWord, IsNumeral}
use Rattle.lq_text.specs.Line.{IsBlank, IsMargin, Says, IsGoodLine, LeavesFront, LeavesBack}
use Rattle.lq_text.specs.Line.Says.{nothing, number}
use Rattle.lq_text.proofs.Lists.{front_of, back_of, all_left, all_right, all_joined, all_weaker, empty_by_both}
use Rattle.lq_text.proofs.NumeralLemmas.{IsSignOrDigit, numeral_bytes, numeral_some, numeral_word, one_value_of}

abbrev returns_in : List ℕ → ℕ
returns_in bytes = count_by (λ byte. eqb byte 13) bytes

returns-append : (a b : List ℕ) → returns_in (a ++ b) ≡ returns_in a + returns_in b
returns-append a b = sum_by-append _ a b

margin_right : (a b : List ℕ) → IsMargin (a ++ b) → IsMargin b
margin_right a b m = record { blank = all_right _ a b m.blank; one_return = omega (arith, returns-append a b, m.one_return) }

-- ---- the loops over the two ends

-- a margin was dropped so far, and `has_return` says whether it has a carriage return
pub record DroppedFront (line rest : List ℕ) (has_return : Bool) : Type 0 where
  pub margin : List ℕ
  pub parts : line ≡ margin ++ rest
  pub blank : AllByRecursion IsBlank margin
  pub returns : returns_in margin ≡ cond has_return 1 0

pub record DroppedBack (line rest : List ℕ) (has_return : Bool) : Type 0 where
  pub margin : List ℕ
  pub parts : line ≡ rest ++ margin
  pub blank : AllByRecursion IsBlank margin
  pub returns : returns_in margin ≡ cond has_return 1 0

-- one more byte, which turns `has_return` to `more`
front_more : {line rest : List ℕ} {has_return : Bool} → DroppedFront line rest has_return → (byte : ℕ) (after : List ℕ) (more : Bool) → rest ≡ byte ∷ after → IsBlank byte → cond has_return 1 0 + cond (eqb byte 13) 1 0 ≡ cond more 1 0 → DroppedFront line after more
front_more d byte after more e blank count = record {
  margin = d.margin ++ byte ∷ [];
  parts = d.parts ∙ ap (λ (r : List ℕ). d.margin ++ r) e ∙ sym (append_assoc d.margin (byte ∷ []) after);
  blank = all_joined _ d.margin (byte ∷ []) d.blank (blank, tt);
  returns = omega (arith, returns-append d.margin (byte ∷ []), d.returns, count);
}

at_most_one : (has_return : Bool) (margin : List ℕ) → returns_in margin ≡ cond has_return 1 0 → returns_in margin ≤ 1
at_most_one true margin e = omega arith
at_most_one false margin e = omega arith

-- the loop stops: the next byte is dropped by no margin that goes on from here
abbrev pub Stops : Bool → ℕ → Type 0
Stops has_return byte = IsBlank byte → (byte ≡ 13) × (has_return ≡ true)

-- the bytes that were dropped and one more have two carriage returns
no_longer : (margin : List ℕ) (has_return : Bool) → returns_in margin ≡ cond has_return 1 0 → (byte : ℕ) → Stops has_return byte → IsBlank byte → returns_in margin + returns_in (byte ∷ []) ≤ 1 → ⊥
no_longer margin has_return e byte stops blank one =
    let s = stops blank in
    let here : ◌≡◌ {A = ℕ} (cond (eqb byte 13) 1 0) 1 = ap (λ b. cond b 1 0) (eq-eqb byte 13 s.0) in
    let there : ◌≡◌ {A = ℕ} (cond has_return 1 0) 1 = ap (λ r. cond r 1 0) s.1 in
    absurd (omega arith)

front_past : (margin : List ℕ) (has_return : Bool) → returns_in margin ≡ cond has_return 1 0 → (byte : ℕ) (after : List ℕ) → Stops has_return byte → (x left : List ℕ) → IsMargin (margin ++ x) → byte ∷ after ≡ x ++ left → 0 < length x → ⊥
front_past margin has_return count byte after stops [] left m e some = absurd (omega arith)
front_past margin has_return count byte after stops (b ∷ x) left m e some =
    let same : b ≡ byte = cc in
    let blank : IsBlank byte = subst IsBlank same (all_right _ margin (b ∷ x) m.blank).0 in
    let here : ◌≡◌ {A = ℕ} (cond (eqb b 13) 1 0) (cond (eqb byte 13) 1 0) = ap (λ y. cond (eqb y 13) 1 0) same in
    no_longer margin has_return count byte stops blank (omega (arith, returns-append margin (b ∷ x), returns-append (b ∷ []) x, m.one_return))

-- what stays where the loop stops at the byte in front
pub front_stops : {line rest : List ℕ} {has_return : Bool} → DroppedFront line rest has_return → (byte : ℕ) (after : List ℕ) → rest ≡ byte ∷ after → Stops has_return byte → LeavesFront line rest
front_stops {line} {rest} {has_return} d byte after at stops = record {
  margin = d.margin;
  parts = d.parts;
  dropped = record { blank = d.blank; one_return = at_most_one has_return d.margin d.returns };
  longest = λ other left e m. elim (cases_lt (length d.margin) (length other)) [
    | inl lt ↦
        let r = front_of d.margin rest other left (sym d.parts ∙ e) (omega arith) in
        absurd (front_past d.margin has_return d.returns byte after stops r.0 left (subst IsMargin r.1 m) (sym at ∙ r.2) (omega (arith, length-append d.margin r.0, ap length r.1)))
    | inr le ↦ le
  ];
}

back_past : (margin : List ℕ) (has_return : Bool) → returns_in margin ≡ cond has_return 1 0 → (byte : ℕ) (before : List ℕ) → Stops has_return byte → (x left : List ℕ) → IsMargin (x ++ margin) → before ++ byte ∷ [] ≡ left ++ x → 0 < length x → ⊥
back_past margin has_return count byte before stops x left m e some =
    let r = back_of left x before (byte ∷ []) (sym e) (omega arith) in
    let whole : x ++ margin ≡ r.0 ++ (byte ∷ margin) = ap (λ (y : List ℕ). y ++ margin) r.2 ∙ append_assoc r.0 (byte ∷ []) margin in
    let m' = margin_right r.0 (byte ∷ margin) (subst IsMargin whole m) in
    no_longer margin has_return count byte stops m'.blank.0 (omega (arith, returns-append (byte ∷ []) margin, m'.one_return))

-- what stays where the loop stops at the byte at the back
pub back_stops : {line rest : List ℕ} {has_return : Bool} → DroppedBack line rest has_return → (byte : ℕ) (before : List ℕ) → rest ≡ before ++ byte ∷ [] → Stops has_return byte → LeavesBack line rest
back_stops {line} {rest} {has_return} d byte before at stops = record {
  margin = d.margin;
  parts = d.parts;
  dropped = record { blank = d.blank; one_return = at_most_one has_return d.margin d.returns };
  longest = λ other left e m. elim (cases_lt (length d.margin) (length other)) [
    | inl lt ↦
        let r = back_of left other rest d.margin (sym e ∙ d.parts) (omega arith) in
        absurd (back_past d.margin has_return d.returns byte before stops r.0 left (subst IsMargin r.2 m) (sym at ∙ r.1) (omega (arith, length-append r.0 d.margin, ap length r.2)))
    | inr le ↦ le
  ];
}

-- what the test of the loops says
abbrev pub GoesOn : Bool → ℕ → Type 0
GoesOn has_return byte = IsBlank byte × (byte ≡ 13 → has_return ≡ false)

pub stops_from : (result has_return : Bool) (byte : ℕ) → ((result ≡ true) ↔ GoesOn has_return byte) → result ≡ false → Stops has_return byte
stops_from result has_return byte tells e blank =
    elim (cases_eq byte 13) [
      | inl is ↦ (is, true_from_ne_false has_return (λ f. iff_false tells e (blank, λ _. f)))
      | inr other ↦ absurd (iff_false tells e (blank, λ is. absurd (other is)))
    ]

count_turn : (has_return more : Bool) (byte : ℕ) → (byte ≡ 13 → has_return ≡ false) → more ≡ (has_return || eqb byte 13) → cond has_return 1 0 + cond (eqb byte 13) 1 0 ≡ cond more 1 0
count_turn true more byte one e =
    let other : eqb byte 13 ≡ false = ne_eqb byte 13 (λ is. absurd (true≢false (one is))) in
    rw (e, other) refl
count_turn false more byte one e = rw e (omega arith)

pub front_turn : {line rest : List ℕ} {has_return : Bool} → DroppedFront line rest has_return → (byte : ℕ) (after : List ℕ) (more : Bool) → rest ≡ byte ∷ after → GoesOn has_return byte → more ≡ (has_return || eqb byte 13) → DroppedFront line after more
front_turn {has_return} d byte after more at goes e = front_more d byte after more at goes.0 (count_turn has_return more byte goes.1 e)

pub some_bytes : (text : List ℕ) → eqb (length text) 0 ≡ false → 0 < length text
some_bytes [] e = absurd (true≢false e)
some_bytes (x ∷ xs) e = omega arith

-- ---- what is left between the margins is what the line says

not_both : (byte : ℕ) → IsBlank byte → IsSignOrDigit byte → ⊥
not_both byte (inl e) (inl f) = absurd (omega arith)
not_both byte (inl e) (inr f) = absurd (omega arith)
not_both byte (inr (inl e)) (inl f) = absurd (omega arith)
not_both byte (inr (inl e)) (inr f) = absurd (omega arith)
not_both byte (inr (inr e)) (inl f) = absurd (omega arith)
not_both byte (inr (inr e)) (inr f) = absurd (omega arith)

none_blank : (bytes : List ℕ) → AllByRecursion IsSignOrDigit bytes → AllByRecursion (λ b. ¬ IsBlank b) bytes
none_blank bytes h = all_weaker _ _ (λ b s k. not_both b k s) bytes h

-- blanks that begin with a numeral are none
blank_front : (x n b r : List ℕ) → AllByRecursion IsBlank x → AllByRecursion IsSignOrDigit n → 0 < length n → n ++ b ≡ x ++ r → x ≡ []
blank_front [] n b r blank signs some e = refl
blank_front (c ∷ x) [] b r blank signs some e = absurd (omega arith)
blank_front (c ∷ x) (d ∷ n) b r blank signs some e = let same : d ≡ c = cc in absurd (not_both c blank.0 (subst IsSignOrDigit same signs.0))

-- a numeral that ends in a margin ends before it
numeral_end : (n text b margin : List ℕ) → AllByRecursion IsSignOrDigit n → AllByRecursion IsBlank margin → text ++ margin ≡ n ++ b → length b ≤ length margin → n ≡ text
numeral_end n text b margin signs blank e h =
    let r = back_of text margin n b e h in
    let y_blank = all_left _ r.0 b (subst (AllByRecursion IsBlank) r.2 blank) in
    let y_signs = all_right _ text r.0 (subst (AllByRecursion IsSignOrDigit) r.1 signs) in
    let nil = empty_by_both _ r.0 y_blank (none_blank r.0 y_signs) in
    r.1 ∙ ap (λ (y : List ℕ). text ++ y) nil ∙ append-nil text

pub says_nothing : {line rest text : List ℕ} → LeavesFront line rest → LeavesBack rest text → length text ≡ 0 → Says line None
says_nothing {line} {rest} {text} f b none =
    let bare : rest ≡ b.margin = b.parts ∙ ap (λ (t : List ℕ). t ++ b.margin) (nil_from_length text none) in
    subst (λ l. Says l None) (sym (f.parts ∙ ap (λ (r : List ℕ). f.margin ++ r) bare)) (nothing f.dropped b.dropped)

pub says_number : {line rest text : List ℕ} {z : ℤ} → LeavesFront line rest → LeavesBack rest text → IsNumeral text z → Says line (Some z)
says_number {z} f b n = subst (λ l. Says l (Some z)) (sym (f.parts ∙ ap (λ (r : List ℕ). f.margin ++ r) b.parts)) (number f.dropped n b.dropped)

pub says_none_of : {line rest text : List ℕ} {said : Option ℤ} → Says line said → LeavesFront line rest → LeavesBack rest text → 0 < length text → ((z : ℤ) → ¬ IsNumeral text z) → ⊥
says_none_of {rest} {text} (nothing {front} {back} mf mb) f b some none =
    let r = front_of front back f.margin rest f.parts (f.longest front back refl mf) in
    let all_of_it = b.longest rest [] refl (margin_right r.0 rest (subst IsMargin r.2 mb)) in
    absurd (omega (arith, length-append text b.margin, ap length b.parts))
says_none_of {rest} {text} (number {front} {text = n} {back} {z} mf num mb) f b some none =
    let r = front_of front (n ++ back) f.margin rest f.parts (f.longest front (n ++ back) refl mf) in
    let signs = numeral_bytes num in
    let x_blank = all_right _ front r.0 (subst (AllByRecursion IsBlank) r.1 f.dropped.blank) in
    let nil = blank_front r.0 n back rest x_blank signs (numeral_some num) r.2 in
    let same : n ++ back ≡ rest = r.2 ∙ ap (λ (x : List ℕ). x ++ rest) nil in
    let end = numeral_end n text back b.margin signs b.dropped.blank (sym b.parts ∙ sym same) (b.longest back n (sym same) mb) in
    none z (subst (λ t. IsNumeral t z) end num)

-- ---- a line says one thing

all_blank : (front back : List ℕ) → IsMargin front → IsMargin back → AllByRecursion IsBlank (front ++ back)
all_blank front back mf mb = all_joined _ front back mf.blank mb.blank

blank_no_numeral : (front back other text rest : List ℕ) (z : ℤ) → IsMargin front → IsMargin back → IsNumeral text z → front ++ back ≡ other ++ (text ++ rest) → ⊥
blank_no_numeral front back other text rest z mf mb num e =
    let blanks = subst (AllByRecursion IsBlank) e (all_blank front back mf mb) in
    let inside = all_left _ text rest (all_right _ other (text ++ rest) blanks) in
    let nil = empty_by_both _ text inside (none_blank text (numeral_bytes num)) in
    absurd (omega (arith, numeral_some num, ap length nil))

-- the numeral between margins is the same, wherever the margins seem to end
same_numeral : (f n b g m c : List ℕ) (y z : ℤ) → IsMargin f → IsNumeral n y → IsMargin b → IsMargin g → IsNumeral m z → IsMargin c → f ++ (n ++ b) ≡ g ++ (m ++ c) → length f ≤ length g → n ≡ m
same_numeral f n b g m c y z mf num mb mg num' mc e h =
    let r = front_of f (n ++ b) g (m ++ c) e h in
    let x_blank = all_right _ f r.0 (subst (AllByRecursion IsBlank) r.1 mg.blank) in
    let nil = blank_front r.0 n b (m ++ c) x_blank (numeral_bytes num) (numeral_some num) r.2 in
    let same : n ++ b ≡ m ++ c = r.2 ∙ ap (λ (x : List ℕ). x ++ (m ++ c)) nil in
    elim (cases_lt (length b) (length c)) [
      | inl lt ↦ numeral_end n m b c (numeral_bytes num) mc.blank (sym same) (omega arith)
      | inr le ↦ sym (numeral_end m n c b (numeral_bytes num') mb.blank same le)
    ]

says_same : {k l : List ℕ} {s t : Option ℤ} → Says k s → Says l t → k ≡ l → s ≡ t
says_same (nothing mf mb) (nothing mg mc) e = refl
says_same (nothing {front} {back} mf mb) (number {front = g} {text = m} {back = c} {z} mg num mc) e = absurd (blank_no_numeral front back g m c z mf mb num e)
says_same (number {front} {text = n} {back} {z} mf num mb) (nothing {front = g} {back = c} mg mc) e = absurd (blank_no_numeral g c front n back z mg mc num (sym e))
says_same (number {front = f} {text = n} {back = b} {z = y} mf num mb) (number {front = g} {text = m} {back = c} {z} mg num' mc) e =
    let same : n ≡ m = elim (cases_lt (length f) (length g)) [
      | inl lt ↦ same_numeral f n b g m c y z mf num mb mg num' mc e (omega arith)
      | inr le ↦ sym (same_numeral g m c f n b z y mg num' mc mf num mb (sym e) le)
    ] in
    ap Some (one_value_of m y z (subst (λ t. IsNumeral t y) same num) num')

pub says_one : {line : List ℕ} {s t : Option ℤ} → Says line s → Says line t → s ≡ t
says_one p q = says_same p q refl

pub says_word : {line : List ℕ} {z : ℤ} → Says line (Some z) → IsWord z
says_word (number mf num mb) = numeral_word num

pub none_and_some : {line : List ℕ} {z : ℤ} → Says line None → Says line (Some z) → ⊥
none_and_some {z} s t = let same : None ≡ Some z = says_one s t in absurd cc

-- ---- lines that are not good

pub not_good_none : {least : ℤ} {line rest text : List ℕ} → LeavesFront line rest → LeavesBack rest text → 0 < length text → ((z : ℤ) → ¬ IsNumeral text z) → ¬ IsGoodLine least line
not_good_none f b some none (inl s) = says_none_of s f b some none
not_good_none f b some none (inr (z, s, h)) = says_none_of s f b some none

pub not_good_small : {least : ℤ} {line : List ℕ} {number : ℤ} → Says line (Some number) → (least ≤ℤ number → ⊥) → ¬ IsGoodLine least line
not_good_small says small (inl s) = none_and_some s says
not_good_small {least} {number = n} says small (inr (z, s, h)) =
    let same : Some z ≡ Some n = says_one s says in
    let equal : z ≡ n = cc in
    small (subst (λ y. least ≤ℤ y) equal h)
