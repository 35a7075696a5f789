-- What writers append is the text of a line.
use Rattle.std.proofs.Common.{◌≡◌, ℕ, ◌^◌, ◌<◌, List, [], ◌∷◌, ◌++◌, map, Result, ℤ, pos, w64, to_z, of_z, sym, ap, subst, ◌∙◌, arith, append_assoc}
use Rattle.std.specs.Prelude.{codes, OnOk}
use Rattle.std.specs.List.{flat_map, join_with_byte}
use Rattle.std.proofs.lemmas.Int.{to_z-of_z}
use Rattle.std.proofs.lemmas.List.{append-nil}
use Rattle.std.proofs.lemmas.Grind.{flat_map-append}
use Rattle.lq_text.specs.Numeral.{decimal_of}
use Rattle.lq_cert.specs.Numeral.{numeral}
use Rattle.lq_cert.specs.Line.{term_words, part_word, line_text}
use Rattle.lq_cert.specs.Reading.{consequence_words}
use Rattle.lq_cert.specs.Writing.{spaced}
use Rattle.lq_text.specs.declared.order.Term.{Term}
use Rattle.lq_cert.specs.declared.line.Part.{Part}
use Rattle.lq_cert.specs.declared.line.Line.{Line}
use Rattle.lq_cert.specs.declared.line.Line.TheVariants.{Row, Exact, Goal, Void}
use Rattle.lq_cert.proofs.NumeralLemmas.{numeral_decimal}

-- the first word, and the others with a space before each
pub join_spaced : (word : List ℕ) (words : List (List ℕ)) → join_with_byte 32 (word ∷ words) ≡ word ++ spaced words
join_spaced word [] = sym (append-nil word)
join_spaced word (next ∷ words) = ap (λ t. word ++ 32 ∷ t) (join_spaced next words)

-- an unsigned number as it is written
pub multiplier_text : (n : ℕ) (z : ℤ) → n < 2 ^ 32 → z ≡ pos n → decimal_of (to_z w64 (of_z w64 z)) ≡ numeral n
multiplier_text n z small e =
    let kept : to_z w64 (of_z w64 z) ≡ pos n = rw e (to_z-of_z w64 (pos n) (record { sfits = omega arith })) in
    ap decimal_of kept ∙ sym (numeral_decimal n (omega arith))

-- the text of a row by its pieces
row_pieces : (template : ℕ) (terms : List Term) (most : ℤ) → (codes "row" ++ 32 ∷ numeral template) ++ (spaced (flat_map term_words terms) ++ (codes " <= " ++ decimal_of most)) ≡ line_text (Row template terms most)
row_pieces template terms most =
    let last : spaced (codes "<=" ∷ decimal_of most ∷ []) ≡ codes " <= " ++ decimal_of most = ap (λ t. codes " <= " ++ t) (append-nil (decimal_of most)) in
    let joined : spaced (flat_map term_words terms ++ codes "<=" ∷ decimal_of most ∷ []) ≡ spaced (flat_map term_words terms) ++ (codes " <= " ++ decimal_of most) = flat_map-append (λ word. 32 ∷ word) (flat_map term_words terms) (codes "<=" ∷ decimal_of most ∷ []) ∙ ap (λ t. spaced (flat_map term_words terms) ++ t) last in
    sym (join_spaced (codes "row") (numeral template ∷ flat_map term_words terms ++ codes "<=" ∷ decimal_of most ∷ []) ∙ ap (λ t. codes "row" ++ 32 ∷ numeral template ++ t) joined)

pub row_text : (a b c d : List ℕ) (template : ℕ) (terms : List Term) (most : ℤ) → b ≡ a ++ (codes "row" ++ 32 ∷ numeral template) → c ≡ b ++ spaced (flat_map term_words terms) → d ≡ c ++ codes " <= " → d ++ decimal_of most ≡ a ++ line_text (Row template terms most)
row_text a b c d template terms most eb ec ed =
    let row : List ℕ = codes "row" ++ 32 ∷ numeral template in
    let middle : List ℕ = spaced (flat_map term_words terms) in
    rw (ed, ec, eb)
    (append_assoc ((a ++ row) ++ middle) (codes " <= ") (decimal_of most)
    ∙ append_assoc (a ++ row) middle (codes " <= " ++ decimal_of most)
    ∙ append_assoc a row (middle ++ (codes " <= " ++ decimal_of most))
    ∙ ap (λ t. a ++ t) (row_pieces template terms most))

pub exact_text : (line : Line) (item divisor : ℕ) (parts others : List Part) → line ≡ Exact item divisor parts → others ≡ parts → codes "exact" ++ spaced (consequence_words (item, divisor, others)) ≡ line_text line
exact_text line item divisor parts others e same =
    rw (e, same) (sym (join_spaced (codes "exact") (consequence_words (item, divisor, parts))))

pub goal_text : (line : Line) (goal divisor : ℕ) (parts others : List Part) → line ≡ Goal goal divisor parts → others ≡ parts → codes "goal" ++ spaced (consequence_words (goal, divisor, others)) ≡ line_text line
goal_text line goal divisor parts others e same =
    rw (e, same) (sym (join_spaced (codes "goal") (consequence_words (goal, divisor, parts))))

pub void_text : (a b : List ℕ) (line : Line) (goal : ℕ) (parts others : List Part) → line ≡ Void goal parts → others ≡ parts → b ≡ a ++ (codes "void" ++ 32 ∷ numeral goal) → b ++ spaced (map part_word others) ≡ a ++ line_text line
void_text a b line goal parts others e same eb =
    rw (e, same, eb)
    (append_assoc a (codes "void" ++ 32 ∷ numeral goal) (spaced (map part_word parts))
    ∙ ap (λ t. a ++ t) (sym (join_spaced (codes "void") (numeral goal ∷ map part_word parts))))

-- an equation that holds on success, with its right side rewritten
pub ok_as : {E : Type 0} (r : Result (Unit {0}) E) (new : List ℕ) {a b : List ℕ} → a ≡ b → OnOk r (new ≡ a) → OnOk r (new ≡ b)
ok_as r new e h = subst (λ t. OnOk r (new ≡ t)) e h
