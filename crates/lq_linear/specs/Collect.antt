-- Sums collected into forms and rows (docs/CHECKING.md, "Forms and rows").
use Rattle.std.specs.Prelude.{ℕ, ◌^◌, ◌==◌, nat_lt, nat_le, Bool, ◌&&◌, if◌then◌else◌, List, [], ◌∷◌, length, Option, None, Some, ℤ, pos, ◌+ℤ◌, nat_abs}
use Rattle.std.specs.List.{list_all}
use Rattle.std.specs.Ordering.{int_eq}
use Rattle.lq_linear.specs.Terms.{Term}
use Rattle.lq_linear.specs.Form.{Linear}
use Rattle.lq_linear.specs.Row.{Inequality}

-- a term in front of others, unless it is 0 times its symbol
abbrev pub with_first : Term → List Term → List Term
with_first term rest = if int_eq term.1 (pos 0) then rest else term ∷ rest

-- a term among collected ones: it is added to the one of its symbol, where there is one
abbrev pub with_term : Term → List Term → List Term
with_term term [] = with_first term []
with_term term (first ∷ rest) =
    if nat_lt term.0 first.0 then with_first term (first ∷ rest)
    else (if term.0 == first.0 then with_first (term.0, term.1 +ℤ first.1) rest else first ∷ with_term term rest)

-- like terms added up: the symbols ascend, and none is multiplied by 0
abbrev pub collected : List Term → List Term
collected [] = []
collected (term ∷ terms) = with_term term (collected terms)

-- z is at most n, its sign put aside
abbrev pub is_within : ℕ → ℤ → Bool
is_within n z = nat_le (nat_abs z) n

-- collected terms and a number are within the bounds
abbrev pub are_bounded : List Term → ℤ → Bool
are_bounded terms z = nat_le (length terms) 16 && list_all (λ (term : Term). is_within (2 ^ 16) term.1) terms && is_within (2 ^ 40) z

-- the form that a sum is once it is collected; none where that passes the bounds
abbrev pub as_form : Linear → Option Linear
as_form sum =
    let terms = collected sum.terms in
    if are_bounded terms sum.constant then Some (record { terms = terms; constant = sum.constant }) else None

-- the row that it is once it is collected; none where that passes the bounds
abbrev pub as_row : Inequality → Option Inequality
as_row row =
    let terms = collected row.terms in
    if are_bounded terms row.most then Some (record { terms = terms; most = row.most }) else None

-- the form that is a number
abbrev pub constant : ℤ → Linear
constant z = record { terms = []; constant = z }

-- the form that is a symbol
abbrev pub symbol : ℕ → Linear
symbol n = record { terms = (n, pos 1) ∷ []; constant = pos 0 }
