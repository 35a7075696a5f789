-- What writers append is the text of a row.
use Rattle.std.proofs.Common.{◌≡◌, ℕ, ◌+◌, ◌<◌, ◌≤◌, Bool, false, true, List, [], ◌++◌, length, get_or, drop, Option, Some, None, ℤ, pos, sym, ap, ◌∙◌, append_assoc, append-nil}
use Rattle.std.specs.Prelude.{int_lt, slice_get, MatchOption}
use Rattle.std.specs.Borrow.{Bor}
use Rattle.std.specs.List.{HoldsAt}
use Rattle.std.specs.Option.{option_copied}
use Rattle.std.proofs.lemmas.List.{at_drop_more, at_drop_all}
use Rattle.std.proofs.lemmas.Option.{slice_get-get_or, slice_get_past}
use Rattle.lq_text.specs.Numeral.{decimal_of}
use Rattle.lq_text.specs.declared.atom.Atom.{Atom}
use Rattle.lq_linear.specs.Row.{Inequality}
use Rattle.lq_quals.specs.Writing.{sign_text, multiple_text, term_text, terms_text, row_text}

-- what `get` lends
pub got : (atoms : List Atom) (i : ℕ) (r : Option (Bor Atom)) → MatchOption r (length atoms ≤ i) (λ x. (i < length atoms) × HoldsAt (λ y. x.now ≡ y) atoms i) → option_copied r ≡ slice_get atoms i
got atoms i None h = sym (slice_get_past atoms i h)
got atoms i (Some x) h = ap Some (h.1 x.now) ∙ sym (slice_get-get_or atoms i x.now h.0)

-- a term more of a row; the code's numbers are those of the term
pub term_more : (atoms : List Atom) (terms : List (ℕ × ℤ)) (i : ℕ) (at_front : Bool) (a b c whole : List ℕ) (z : ℤ) (o : Option Atom)
    → i < length terms → z ≡ (get_or terms i (0, pos 0)).1 → o ≡ slice_get atoms (get_or terms i (0, pos 0)).0
    → b ≡ a ++ sign_text at_front (int_lt z (pos 0)) → c ≡ b ++ multiple_text z o
    → a ++ terms_text at_front atoms (drop i terms) ≡ whole → c ++ terms_text false atoms (drop (i + 1) terms) ≡ whole
term_more atoms terms i at_front a b c whole z o h same atom sign multiple before =
    let term = get_or terms i (0, pos 0) in
    let later : List ℕ = terms_text false atoms (drop (i + 1) terms) in
    let here : sign_text at_front (int_lt z (pos 0)) ++ multiple_text z o ≡ term_text at_front atoms term =
    ap (λ y. sign_text at_front (int_lt y (pos 0)) ++ multiple_text y o) same ∙ ap (λ p. sign_text at_front (int_lt term.1 (pos 0)) ++ multiple_text term.1 p) atom in
    let next : terms_text at_front atoms (drop i terms) ≡ term_text at_front atoms term ++ later = at_drop_more (terms_text at_front atoms) terms i (0, pos 0) h in
    let front : c ≡ a ++ term_text at_front atoms term = multiple ∙ ap (λ t. t ++ multiple_text z o) sign ∙ append_assoc a (sign_text at_front (int_lt z (pos 0))) (multiple_text z o) ∙ ap (λ t. a ++ t) here in
    ap (λ t. t ++ later) front ∙ append_assoc a (term_text at_front atoms term) later ∙ ap (λ t. a ++ t) (sym next) ∙ before

-- all terms were gone through
pub row_end : (atoms : List Atom) (terms : List (ℕ × ℤ)) (i : ℕ) (at_front : Bool) (start a b between : List ℕ) (row : Inequality) (most : ℤ)
    → length terms ≤ i → terms ≡ row.terms → most ≡ row.most
    → a ++ terms_text at_front atoms (drop i terms) ≡ start ++ terms_text true atoms terms
    → b ≡ a ++ between → b ++ decimal_of most ≡ start ++ row_text atoms between row
row_end atoms terms i at_front start a b between row most h same last gone put =
    let none : terms_text at_front atoms (drop i terms) ≡ [] = at_drop_all (terms_text at_front atoms) terms i h in
    let all : a ≡ start ++ terms_text true atoms row.terms = sym (append-nil a) ∙ ap (λ t. a ++ t) (sym none) ∙ gone ∙ ap (λ ts. start ++ terms_text true atoms ts) same in
    ap (λ t. t ++ decimal_of most) put ∙ ap (λ t. (t ++ between) ++ decimal_of most) all ∙ ap (λ z. ((start ++ terms_text true atoms row.terms) ++ between) ++ decimal_of z) last
    ∙ append_assoc (start ++ terms_text true atoms row.terms) between (decimal_of row.most)
    ∙ append_assoc start (terms_text true atoms row.terms) (between ++ decimal_of row.most)
