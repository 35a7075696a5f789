-- Sides and comparisons: a text is that of at most one.
use Rattle.std.proofs.Common.{◌≡◌, ◌<◌, ◌≤◌, ◌||◌, eqb, not, ℕ, Bool, false, List, [], ◌∷◌, ◌++◌, length, get_or, refl, sym, ap, subst, ◌∙◌, inl, inr, arith}
use Rattle.std.specs.List.{AllByRecursion}
use Rattle.std.proofs.lemmas.Bool.{cases_lt, ne_eqb}
use Rattle.lq_text.proofs.Lists.{Avoids, all_joined}
use Rattle.lq_quals.specs.Split.{Begins, is_sign, is_relation_byte}
use Rattle.lq_quals.specs.declared.term.Addend.{Addend}
use Rattle.lq_quals.specs.declared.comparison.Relation.{Relation}
use Rattle.lq_quals.specs.declared.comparison.Relation.TheVariants.{AtMost, Less, AtLeast, More, Equal}
use Rattle.lq_quals.specs.declared.comparison.Comparison.{Comparison}
use Rattle.lq_quals.specs.Term.{IsTerm}
use Rattle.lq_quals.specs.Side.{AreMore, IsSide}
use Rattle.lq_quals.specs.Side.AreMore.{none, plus, minus}
use Rattle.lq_quals.specs.Side.IsSide.{plain, opposite}
use Rattle.lq_quals.specs.Comparison.{relation_text, is_reversed, IsComparison}
use Rattle.lq_quals.proofs.SplitLemmas.{one_cut}
use Rattle.lq_quals.proofs.TermLemmas.{is_atom_byte, term_avoids, term_some, one_term}

-- ---- more terms

no_sign : (text : List ℕ) → Avoids 43 text → Avoids 45 text → AllByRecursion (λ byte. is_sign byte ≡ false) text
no_sign [] h k = tt
no_sign (byte ∷ text) h k = (ap (λ b. b || eqb byte 45) (ne_eqb byte 43 h.0) ∙ ne_eqb byte 45 k.0, no_sign text h.1 k.1)

pub term_clear : {negated : Bool} {text : List ℕ} {a : Addend} → IsTerm negated text a → AllByRecursion (λ byte. is_sign byte ≡ false) text
term_clear {text} h = no_sign text (term_avoids 43 refl (omega arith) h) (term_avoids 45 refl (omega arith) h)

pub more_begins : {negated : Bool} {text : List ℕ} {addends : List Addend} → AreMore negated text addends → Begins is_sign text
more_begins none = tt
more_begins (plus h k) = refl
more_begins (minus h k) = refl

same_first : (s t : List ℕ) → s ≡ t → get_or s 0 0 ≡ get_or t 0 0
same_first s t e = ap (λ l. get_or l 0 0) e

pub one_more : {negated : Bool} {s t : List ℕ} {xs ys : List Addend} → AreMore negated s xs → AreMore negated t ys → s ≡ t → xs ≡ ys
one_more none none e = refl
one_more none (plus {text} {rest} k q) e = absurd (omega (arith, same_first [] (43 ∷ (text ++ rest)) e))
one_more none (minus {text} {rest} k q) e = absurd (omega (arith, same_first [] (45 ∷ (text ++ rest)) e))
one_more (plus {text} {rest} h p) none e = absurd (omega (arith, same_first (43 ∷ (text ++ rest)) [] e))
one_more (minus {text} {rest} h p) none e = absurd (omega (arith, same_first (45 ∷ (text ++ rest)) [] e))
one_more (plus {text} {rest} h p) (minus {text = t} {rest = r} k q) e = absurd (omega (arith, same_first (43 ∷ (text ++ rest)) (45 ∷ (t ++ r)) e))
one_more (minus {text} {rest} h p) (plus {text = t} {rest = r} k q) e = absurd (omega (arith, same_first (45 ∷ (text ++ rest)) (43 ∷ (t ++ r)) e))
one_more (plus {text = a} {rest = b} h p) (plus {text = c} {rest = d} k q) e =
    let behind : a ++ b ≡ c ++ d = cc in
    let parts = one_cut is_sign a b c d (term_clear h) (term_clear k) (more_begins p) (more_begins q) behind in
    let first = one_term h k parts.0 in
    let later = one_more p q parts.1 in
    cc
one_more (minus {text = a} {rest = b} h p) (minus {text = c} {rest = d} k q) e =
    let behind : a ++ b ≡ c ++ d = cc in
    let parts = one_cut is_sign a b c d (term_clear h) (term_clear k) (more_begins p) (more_begins q) behind in
    let first = one_term h k parts.0 in
    let later = one_more p q parts.1 in
    cc

-- ---- sides

cut_first : (text rest behind : List ℕ) → Avoids 45 text → 0 < length text → text ++ rest ≡ 45 ∷ behind → ⊥
cut_first [] rest behind h some e = omega arith
cut_first (byte ∷ text) rest behind h some e = h.0 (same_first (byte ∷ (text ++ rest)) (45 ∷ behind) e)

-- a term begins with no sign
pub no_minus : {negated : Bool} {text : List ℕ} {a : Addend} (rest behind : List ℕ) → IsTerm negated text a → text ++ rest ≡ 45 ∷ behind → ⊥
no_minus {text} rest behind h e = cut_first text rest behind (term_avoids 45 refl (omega arith) h) (term_some h) e

pub one_side : {negated : Bool} {s t : List ℕ} {xs ys : List Addend} → IsSide negated s xs → IsSide negated t ys → s ≡ t → xs ≡ ys
one_side (plain {text = a} {rest = b} h p) (plain {text = c} {rest = d} k q) e =
    let parts = one_cut is_sign a b c d (term_clear h) (term_clear k) (more_begins p) (more_begins q) e in
    let first = one_term h k parts.0 in
    let later = one_more p q parts.1 in
    cc
one_side (plain {rest = b} h p) (opposite {text = c} {rest = d} k q) e = absurd (no_minus b (c ++ d) h e)
one_side (opposite {text = a} {rest = b} h p) (plain {rest = d} k q) e = absurd (no_minus d (a ++ b) k (sym e))
one_side (opposite {text = a} {rest = b} h p) (opposite {text = c} {rest = d} k q) e =
    let behind : a ++ b ≡ c ++ d = cc in
    let parts = one_cut is_sign a b c d (term_clear h) (term_clear k) (more_begins p) (more_begins q) behind in
    let first = one_term h k parts.0 in
    let later = one_more p q parts.1 in
    cc

-- a side holds no byte that terms and signs lack
more_avoids : {negated : Bool} {text : List ℕ} {addends : List Addend} (byte : ℕ) → is_atom_byte byte ≡ false → 59 < byte → AreMore negated text addends → Avoids byte text
more_avoids byte out large none = tt
more_avoids byte out large (plus {text} {rest} h p) =
    (λ same. omega arith, all_joined _ text rest (term_avoids byte out (λ same. omega arith) h) (more_avoids byte out large p))
more_avoids byte out large (minus {text} {rest} h p) =
    (λ same. omega arith, all_joined _ text rest (term_avoids byte out (λ same. omega arith) h) (more_avoids byte out large p))

pub side_avoids : {negated : Bool} {text : List ℕ} {addends : List Addend} (byte : ℕ) → is_atom_byte byte ≡ false → 59 < byte → IsSide negated text addends → Avoids byte text
side_avoids byte out large (plain {text} {rest} h p) =
    all_joined _ text rest (term_avoids byte out (λ same. omega arith) h) (more_avoids byte out large p)
side_avoids byte out large (opposite {text} {rest} h p) =
    (λ same. omega arith, all_joined _ text rest (term_avoids byte out (λ same. omega arith) h) (more_avoids byte out large p))

-- ---- comparisons

no_relation : (text : List ℕ) → Avoids 60 text → Avoids 62 text → Avoids 61 text → AllByRecursion (λ byte. is_relation_byte byte ≡ false) text
no_relation [] h k l = tt
no_relation (byte ∷ text) h k l =
    (ap (λ b. b || (eqb byte 62 || eqb byte 61)) (ne_eqb byte 60 h.0) ∙ ap (λ b. b || eqb byte 61) (ne_eqb byte 62 k.0) ∙ ne_eqb byte 61 l.0, no_relation text h.1 k.1 l.1)

pub side_clear : {negated : Bool} {text : List ℕ} {addends : List Addend} → IsSide negated text addends → AllByRecursion (λ byte. is_relation_byte byte ≡ false) text
side_clear {text} h = no_relation text (side_avoids 60 refl (omega arith) h) (side_avoids 62 refl (omega arith) h) (side_avoids 61 refl (omega arith) h)

pub relation_begins : (r : Relation) (right : List ℕ) → Begins is_relation_byte (relation_text r ++ right)
relation_begins AtMost right = refl
relation_begins Less right = refl
relation_begins AtLeast right = refl
relation_begins More right = refl
relation_begins Equal right = refl

not_equals : (a b : List ℕ) → Avoids 61 a → a ≡ 61 ∷ b → ⊥
not_equals a b h e = (subst (Avoids 61) e h).0 refl

-- of two relations at the front, the longer one, with no `=` behind the other
pub longest_is : (r q : Relation) (a b : List ℕ) → Avoids 61 b → length (relation_text q) ≤ length (relation_text r) → relation_text r ++ a ≡ relation_text q ++ b → (r ≡ q) × (a ≡ b)
longest_is AtMost AtMost a b k le e = (refl, cc)
longest_is AtMost Less a b k le e = let same : b ≡ 61 ∷ a = cc in absurd (not_equals b a k same)
longest_is AtMost AtLeast a b k le e = absurd (omega (arith, same_first (60 ∷ 61 ∷ a) (62 ∷ 61 ∷ b) e))
longest_is AtMost More a b k le e = absurd (omega (arith, same_first (60 ∷ 61 ∷ a) (62 ∷ b) e))
longest_is AtMost Equal a b k le e = absurd (omega (arith, same_first (60 ∷ 61 ∷ a) (61 ∷ 61 ∷ b) e))
longest_is Less AtMost a b k le e = absurd (omega arith)
longest_is Less Less a b k le e = (refl, cc)
longest_is Less AtLeast a b k le e = absurd (omega (arith, same_first (60 ∷ a) (62 ∷ 61 ∷ b) e))
longest_is Less More a b k le e = absurd (omega (arith, same_first (60 ∷ a) (62 ∷ b) e))
longest_is Less Equal a b k le e = absurd (omega (arith, same_first (60 ∷ a) (61 ∷ 61 ∷ b) e))
longest_is AtLeast AtMost a b k le e = absurd (omega (arith, same_first (62 ∷ 61 ∷ a) (60 ∷ 61 ∷ b) e))
longest_is AtLeast Less a b k le e = absurd (omega (arith, same_first (62 ∷ 61 ∷ a) (60 ∷ b) e))
longest_is AtLeast AtLeast a b k le e = (refl, cc)
longest_is AtLeast More a b k le e = let same : b ≡ 61 ∷ a = cc in absurd (not_equals b a k same)
longest_is AtLeast Equal a b k le e = absurd (omega (arith, same_first (62 ∷ 61 ∷ a) (61 ∷ 61 ∷ b) e))
longest_is More AtMost a b k le e = absurd (omega (arith, same_first (62 ∷ a) (60 ∷ 61 ∷ b) e))
longest_is More Less a b k le e = absurd (omega (arith, same_first (62 ∷ a) (60 ∷ b) e))
longest_is More AtLeast a b k le e = absurd (omega arith)
longest_is More More a b k le e = (refl, cc)
longest_is More Equal a b k le e = absurd (omega (arith, same_first (62 ∷ a) (61 ∷ 61 ∷ b) e))
longest_is Equal AtMost a b k le e = absurd (omega (arith, same_first (61 ∷ 61 ∷ a) (60 ∷ 61 ∷ b) e))
longest_is Equal Less a b k le e = absurd (omega (arith, same_first (61 ∷ 61 ∷ a) (60 ∷ b) e))
longest_is Equal AtLeast a b k le e = absurd (omega (arith, same_first (61 ∷ 61 ∷ a) (62 ∷ 61 ∷ b) e))
longest_is Equal More a b k le e = absurd (omega (arith, same_first (61 ∷ 61 ∷ a) (62 ∷ b) e))
longest_is Equal Equal a b k le e = (refl, cc)

-- where neither right side begins with `=` the relations are the same
one_relation : (r q : Relation) (a b : List ℕ) → Avoids 61 a → Avoids 61 b → relation_text r ++ a ≡ relation_text q ++ b → (r ≡ q) × (a ≡ b)
one_relation r q a b h k e = elim (cases_lt (length (relation_text r)) (length (relation_text q))) [
  | inl lt ↦ let other = longest_is q r b a h (omega arith) (sym e) in (sym other.0, sym other.1)
  | inr le ↦ longest_is r q a b k le e
]

same_comparison : (c d : Comparison) → c.relation ≡ d.relation → c.addends ≡ d.addends → c ≡ d
same_comparison c d e k =
    let by_relation : Relation → Comparison = λ r. record { relation = r; addends = c.addends } in
    let by_addends : List Addend → Comparison = λ l. record { relation = d.relation; addends = l } in
    ap by_relation e ∙ ap by_addends k

pub one_comparison : (s t : List ℕ) (c d : Comparison) → IsComparison s c → IsComparison t d → s ≡ t → c ≡ d
one_comparison s t c d p q e =
    let cut = one_cut is_relation_byte p.left (relation_text c.relation ++ p.right) q.left (relation_text d.relation ++ q.right) (side_clear p.left_side) (side_clear q.left_side) (relation_begins c.relation p.right) (relation_begins d.relation q.right) (sym p.spelled ∙ e ∙ q.spelled) in
    let sides = one_relation c.relation d.relation p.right q.right (side_avoids 61 refl (omega arith) p.right_side) (side_avoids 61 refl (omega arith) q.right_side) cut.1 in
    let left = one_side p.left_side (subst (λ r. IsSide (is_reversed r) q.left q.first) (sym sides.0) q.left_side) cut.0 in
    let right = one_side p.right_side (subst (λ r. IsSide (not (is_reversed r)) q.right q.later) (sym sides.0) q.right_side) sides.1 in
    same_comparison c d sides.0 (p.joined ∙ ap (λ l. l ++ p.later) left ∙ ap (λ l. q.first ++ l) right ∙ sym q.joined)
