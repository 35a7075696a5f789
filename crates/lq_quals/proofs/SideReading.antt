-- Sides and comparisons read from the front.
use Rattle.std.proofs.Common.{◌≡◌, eqb, not, cond, ℕ, Bool, true, false, List, [], ◌∷◌, ◌++◌, length, refl, sym, ap, subst, ◌∙◌, inl, inr, arith, append_assoc}
use Rattle.std.proofs.Math.Bool.{beq}
use Rattle.std.proofs.lemmas.List.{nil_from_length}
use Rattle.std.proofs.lemmas.Bool.{or_cases, cases_Bool, true≢false, eqb-true}
use Rattle.lq_quals.specs.Split.{IsCut, is_sign, is_relation_byte}
use Rattle.lq_quals.specs.declared.term.Addend.{Addend}
use Rattle.lq_quals.specs.declared.comparison.Relation.{Relation}
use Rattle.lq_quals.specs.declared.comparison.Comparison.{Comparison}
use Rattle.lq_quals.specs.Term.{IsTerm}
use Rattle.lq_quals.specs.Side.{AreMore, IsSide}
use Rattle.lq_quals.specs.Side.AreMore.{none, plus, minus}
use Rattle.lq_quals.specs.Side.IsSide.{plain, opposite}
use Rattle.lq_quals.specs.Comparison.{relation_text, is_reversed, IsComparison, IsLongest}
use Rattle.lq_quals.proofs.SplitLemmas.{one_cut}
use Rattle.lq_quals.proofs.TermLemmas.{one_term}
use Rattle.lq_quals.proofs.SideLemmas.{term_clear, more_begins, no_minus, side_clear, side_avoids, relation_begins, longest_is}

-- ---- sides

-- whether a term is negated, by the sign before it and by whether the side is
abbrev pub flipped : Bool → Bool → Bool
flipped sign negated = cond sign (not negated) negated

pub flipped_is : (sign negated : Bool) → not (beq sign negated) ≡ flipped sign negated
flipped_is true true = refl
flipped_is true false = refl
flipped_is false true = refl
flipped_is false false = refl

-- what is left of a side behind a sign: a term and more
pub record IsTail (negated sign : Bool) (text : List ℕ) (addends : List Addend) : Type 0 where
  pub term : List ℕ
  pub rest : List ℕ
  pub first : Addend
  pub later : List Addend
  pub spelled : text ≡ term ++ rest
  pub joined : addends ≡ first ∷ later
  pub is_term : IsTerm (flipped sign negated) term first
  pub are_more : AreMore negated rest later

-- the text is a side exactly where what is left of it is a tail: these addends, and then the tail's
pub record ReadSide (negated : Bool) (text : List ℕ) (addends : List Addend) (sign : Bool) (rest : List ℕ) : Type 0 where
  pub there : (xs : List Addend) → IsTail negated sign rest xs → IsSide negated text (addends ++ xs)
  pub back : (ys : List Addend) → IsSide negated text ys → (xs : List Addend) × (ys ≡ addends ++ xs) × IsTail negated sign rest xs

minus_there : (negated : Bool) (text rest : List ℕ) → text ≡ 45 ∷ rest → (xs : List Addend) → IsTail negated true rest xs → IsSide negated text xs
minus_there negated text rest e xs t =
    let spelled : 45 ∷ (t.term ++ t.rest) ≡ text = ap (λ s. 45 ∷ s) (sym t.spelled) ∙ sym e in
    subst (IsSide negated text) (sym t.joined) (subst (λ s. IsSide negated s (t.first ∷ t.later)) spelled (opposite t.is_term t.are_more))

minus_back : {negated : Bool} {s : List ℕ} {ys : List Addend} → IsSide negated s ys → (rest : List ℕ) → s ≡ 45 ∷ rest → IsTail negated true rest ys
minus_back (plain {rest = b} h p) rest e = absurd (no_minus b rest h e)
minus_back (opposite {text = a} {rest = b} {first} {later} h p) rest e =
    let spelled : rest ≡ a ++ b = cc in
    record { term = a; rest = b; first = first; later = later; spelled = spelled; joined = refl; is_term = h; are_more = p }

pub begin_minus : (negated : Bool) (text rest : List ℕ) → text ≡ 45 ∷ rest → ReadSide negated text [] true rest
begin_minus negated text rest e = record {
  there = minus_there negated text rest e;
  back = λ ys s. (ys, refl, minus_back s rest e);
}

plain_there : (negated : Bool) (text : List ℕ) (xs : List Addend) → IsTail negated false text xs → IsSide negated text xs
plain_there negated text xs t =
    subst (IsSide negated text) (sym t.joined) (subst (λ s. IsSide negated s (t.first ∷ t.later)) (sym t.spelled) (plain t.is_term t.are_more))

plain_back : {negated : Bool} {s : List ℕ} {ys : List Addend} → IsSide negated s ys → ((rest : List ℕ) → s ≡ 45 ∷ rest → ⊥) → IsTail negated false s ys
plain_back (plain {text = a} {rest = b} {first} {later} h p) out =
    record { term = a; rest = b; first = first; later = later; spelled = refl; joined = refl; is_term = h; are_more = p }
plain_back (opposite {text = a} {rest = b} h p) out = absurd (out (a ++ b) refl)

pub begin_plain : (negated : Bool) (text : List ℕ) → ((rest : List ℕ) → text ≡ 45 ∷ rest → ⊥) → ReadSide negated text [] false text
begin_plain negated text out = record {
  there = plain_there negated text;
  back = λ ys s. (ys, refl, plain_back s out);
}

-- a tail's term is what stands before its first sign
tail_parts : {negated sign : Bool} {rest : List ℕ} {xs : List Addend} (t : IsTail negated sign rest xs) (term behind : List ℕ) → IsCut is_sign rest term behind → IsTerm (flipped sign negated) term t.first × AreMore negated behind t.later
tail_parts {negated} {sign} t term behind cut =
    let parts = one_cut is_sign t.term t.rest term behind (term_clear t.is_term) cut.clear (more_begins t.are_more) cut.begins (sym t.spelled ∙ cut.joined) in
    (subst (λ s. IsTerm (flipped sign negated) s t.first) parts.0 t.is_term, subst (λ s. AreMore negated s t.later) parts.1 t.are_more)

-- without a term there is no side
pub no_side : {negated sign : Bool} {text rest : List ℕ} {addends : List Addend} → ReadSide negated text addends sign rest → (term behind : List ℕ) → IsCut is_sign rest term behind → ((x : Addend) → ¬ IsTerm (flipped sign negated) term x) → (ys : List Addend) → ¬ IsSide negated text ys
no_side r term behind cut out ys s =
    let b = r.back ys s in
    out b.2.first (tail_parts b.2 term behind cut).0

-- the last term
pub side_end : {negated sign : Bool} {text rest : List ℕ} {addends : List Addend} → ReadSide negated text addends sign rest → (term behind : List ℕ) (x : Addend) → IsCut is_sign rest term behind → length behind ≡ 0 → IsTerm (flipped sign negated) term x → IsSide negated text (addends ++ x ∷ [])
side_end {negated} r term behind x cut e h =
    r.there (x ∷ []) (record { term = term; rest = behind; first = x; later = []; spelled = cut.joined; joined = refl; is_term = h; are_more = subst (λ s. AreMore negated s []) (sym (nil_from_length behind e)) none })

-- a sign and a tail are more terms
plus_there : (negated : Bool) (rest : List ℕ) (xs : List Addend) → IsTail negated false rest xs → AreMore negated (43 ∷ rest) xs
plus_there negated rest xs t =
    subst (AreMore negated (43 ∷ rest)) (sym t.joined) (subst (λ s. AreMore negated (43 ∷ s) (t.first ∷ t.later)) (sym t.spelled) (plus t.is_term t.are_more))

less_there : (negated : Bool) (rest : List ℕ) (xs : List Addend) → IsTail negated true rest xs → AreMore negated (45 ∷ rest) xs
less_there negated rest xs t =
    subst (AreMore negated (45 ∷ rest)) (sym t.joined) (subst (λ s. AreMore negated (45 ∷ s) (t.first ∷ t.later)) (sym t.spelled) (minus t.is_term t.are_more))

more_there : (negated : Bool) (byte : ℕ) (rest : List ℕ) (xs : List Addend) → is_sign byte ≡ true → IsTail negated (eqb byte 45) rest xs → AreMore negated (byte ∷ rest) xs
more_there negated byte rest xs is t = elim (cases_Bool (eqb byte 45)) [
  | inl at_45 ↦
      let same : byte ≡ 45 = eqb-true byte 45 at_45 in
      subst (λ b. AreMore negated (b ∷ rest) xs) (sym same) (less_there negated rest xs (subst (λ b. IsTail negated b rest xs) at_45 t))
  | inr out ↦
      let plus_sign : eqb byte 43 ≡ true = elim (or_cases (eqb byte 43) (eqb byte 45) is) [ inl plus_is ↦ plus_is | inr minus_is ↦ absurd (true≢false (sym minus_is ∙ out)) ] in
      let same : byte ≡ 43 = eqb-true byte 43 plus_sign in
      subst (λ b. AreMore negated (b ∷ rest) xs) (sym same) (plus_there negated rest xs (subst (λ b. IsTail negated b rest xs) out t))
]

more_back : {negated : Bool} {s : List ℕ} {xs : List Addend} → AreMore negated s xs → (byte : ℕ) (rest : List ℕ) → s ≡ byte ∷ rest → IsTail negated (eqb byte 45) rest xs
more_back none byte rest e = absurd cc
more_back {negated} (plus {text = a} {rest = b} {first} {later} h p) byte rest e =
    let sign : 43 ≡ byte = cc in
    let spelled : rest ≡ a ++ b = cc in
    subst (λ c. IsTail negated (eqb c 45) rest (first ∷ later)) sign (record { term = a; rest = b; first = first; later = later; spelled = spelled; joined = refl; is_term = h; are_more = p })
more_back {negated} (minus {text = a} {rest = b} {first} {later} h p) byte rest e =
    let sign : 45 ≡ byte = cc in
    let spelled : rest ≡ a ++ b = cc in
    subst (λ c. IsTail negated (eqb c 45) rest (first ∷ later)) sign (record { term = a; rest = b; first = first; later = later; spelled = spelled; joined = refl; is_term = h; are_more = p })

turn_there : {negated sign : Bool} {text rest : List ℕ} {addends : List Addend} → ReadSide negated text addends sign rest → (term : List ℕ) (byte : ℕ) (later : List ℕ) (x : Addend) → IsCut is_sign rest term (byte ∷ later) → IsTerm (flipped sign negated) term x → (xs : List Addend) → IsTail negated (eqb byte 45) later xs → IsSide negated text ((addends ++ x ∷ []) ++ xs)
turn_there {negated} {text} {addends} r term byte later x cut h xs t =
    subst (IsSide negated text) (sym (append_assoc addends (x ∷ []) xs))
    (r.there (x ∷ xs) (record { term = term; rest = byte ∷ later; first = x; later = xs; spelled = cut.joined; joined = refl; is_term = h; are_more = more_there negated byte later xs cut.begins t }))

turn_back : {negated sign : Bool} {text rest : List ℕ} {addends : List Addend} → ReadSide negated text addends sign rest → (term : List ℕ) (byte : ℕ) (later : List ℕ) (x : Addend) → IsCut is_sign rest term (byte ∷ later) → IsTerm (flipped sign negated) term x → (ys : List Addend) → IsSide negated text ys → (xs : List Addend) × (ys ≡ (addends ++ x ∷ []) ++ xs) × IsTail negated (eqb byte 45) later xs
turn_back {addends} r term byte later x cut h ys s =
    let b = r.back ys s in
    let parts = tail_parts b.2 term (byte ∷ later) cut in
    let same : b.2.first ≡ x = one_term parts.0 h refl in
    (b.2.later, b.1 ∙ ap (λ l. addends ++ l) (b.2.joined ∙ ap (λ y. y ∷ b.2.later) same) ∙ sym (append_assoc addends (x ∷ []) b.2.later), more_back parts.1 byte later refl)

-- a term and the sign behind it
pub side_turn : {negated sign : Bool} {text rest : List ℕ} {addends : List Addend} → ReadSide negated text addends sign rest → (term behind : List ℕ) (byte : ℕ) (later : List ℕ) (x : Addend) → IsCut is_sign rest term behind → behind ≡ byte ∷ later → IsTerm (flipped sign negated) term x → ReadSide negated text (addends ++ x ∷ []) (eqb byte 45) later
side_turn {rest} r term behind byte later x cut e h =
    let cut' = subst (IsCut is_sign rest term) e cut in
    record { there = turn_there r term byte later x cut' h; back = turn_back r term byte later x cut' h }

-- ---- comparisons

-- what stands around the relation of a comparison
pub record HasParts (c : Comparison) (r : Relation) (left right : List ℕ) (first later : List Addend) : Type 0 where
  pub same : c.relation ≡ r
  pub left_side : IsSide (is_reversed r) left first
  pub right_side : IsSide (not (is_reversed r)) right later
  pub joined : c.addends ≡ first ++ later

around_relation : {text : List ℕ} {c : Comparison} (p : IsComparison text c) (left behind : List ℕ) → IsCut is_relation_byte text left behind → (p.left ≡ left) × (relation_text c.relation ++ p.right ≡ behind)
around_relation {c} p left behind cut =
    one_cut is_relation_byte p.left (relation_text c.relation ++ p.right) left behind (side_clear p.left_side) cut.clear (relation_begins c.relation p.right) cut.begins (sym p.spelled ∙ cut.joined)

pub no_relation : (text left behind : List ℕ) → IsCut is_relation_byte text left behind → ((r : Relation) (rest : List ℕ) → ¬ (behind ≡ relation_text r ++ rest)) → (c : Comparison) → ¬ IsComparison text c
no_relation text left behind cut out c p = out c.relation p.right (sym (around_relation p left behind cut).1)

pub parts_of : {text : List ℕ} {c : Comparison} (p : IsComparison text c) (left behind : List ℕ) (r : Relation) (right : List ℕ) → IsCut is_relation_byte text left behind → IsLongest behind r right → HasParts c r left right p.first p.later
parts_of {c} p left behind r right cut l =
    let around = around_relation p left behind cut in
    let spelled : relation_text r ++ right ≡ relation_text c.relation ++ p.right = sym l.joined ∙ sym around.1 in
    let two = longest_is r c.relation right p.right (side_avoids 61 refl (omega arith) p.right_side) (l.longest c.relation p.right (sym around.1)) spelled in
    record {
      same = sym two.0;
      left_side = subst (λ q. IsSide (is_reversed q) left p.first) (sym two.0) (subst (λ s. IsSide (is_reversed c.relation) s p.first) around.0 p.left_side);
      right_side = subst (λ q. IsSide (not (is_reversed q)) right p.later) (sym two.0) (subst (λ s. IsSide (not (is_reversed c.relation)) s p.later) (sym two.1) p.right_side);
      joined = p.joined;
    }

pub no_left : (text left behind : List ℕ) (r : Relation) (right : List ℕ) → IsCut is_relation_byte text left behind → IsLongest behind r right → ((xs : List Addend) → ¬ IsSide (is_reversed r) left xs) → (c : Comparison) → ¬ IsComparison text c
no_left text left behind r right cut l out c p = out p.first (parts_of p left behind r right cut l).left_side

pub no_right : (text left behind : List ℕ) (r : Relation) (right : List ℕ) → IsCut is_relation_byte text left behind → IsLongest behind r right → ((xs : List Addend) → ¬ IsSide (not (is_reversed r)) right xs) → (c : Comparison) → ¬ IsComparison text c
no_right text left behind r right cut l out c p = out p.later (parts_of p left behind r right cut l).right_side
