-- Rows: a sum of multiples of symbols is at most a constant.
use Rattle.std.specs.Prelude.{ℕ, ◌^◌, Bool, if◌then◌else◌, Option, IfSome, List, [], ◌++◌, ℤ, pos, negsuc, ◌+ℤ◌, ◌*ℤ◌, ◌≤ℤ◌}
use Rattle.std.specs.Option.{option_to_list}
use Rattle.lq_linear.specs.Form.{Linear}
use Rattle.lq_linear.specs.Terms.{Term, AreAlike, AreTerms, IsCoefficient, IsWithin, times, terms_value}

-- a sum, collected or not, and what it is at most
pub record Inequality : Type 0 where
  pub terms : List Term
  pub most : ℤ

-- the valuation meets it
abbrev pub Meets : (ℕ → ℤ) → Inequality → Type 0
Meets v row = terms_value v row.terms ≤ℤ row.most

-- the bounds of a row, once like terms are collected (docs/CHECKING.md, "Forms and rows")
pub record IsBounded (row : Inequality) : Type 0 where
  pub collected : List Term
  pub are_terms : AreTerms collected
  pub alike : AreAlike collected row.terms
  pub within : IsWithin (2 ^ 40) row.most

-- nothing is at most 0
abbrev pub nothing : Inequality
nothing = record { terms = []; most = pos 0 }

-- both added up
abbrev pub added : Inequality → Inequality → Inequality
added a b = record { terms = a.terms ++ b.terms; most = a.most +ℤ b.most }

-- n times the row
abbrev pub multiplied : ℕ → Inequality → Inequality
multiplied n row = record { terms = times (pos n) row.terms; most = pos n *ℤ row.most }

-- a sum, or what is opposite to it
abbrev pub signed : Bool → List Term → List Term
signed negated rest = if negated then times (negsuc 0) rest else rest

-- the terms of a row as an item gives it: a first term if there is one, and then a sum or what is opposite to it
abbrev pub loose_terms : Option Term → Bool → List Term → List Term
loose_terms lead negated rest = option_to_list lead ++ signed negated rest

-- a row as an item gives it has small parts
pub record IsLoose (lead : Option Term) (rest : List Term) (most : ℤ) : Type 0 where
  pub lead_small : IfSome lead (λ term. IsCoefficient term.1)
  pub rest_terms : AreTerms rest
  pub most_small : IsWithin (2 ^ 41) most

-- the row that says that a form isn't negative
abbrev pub not_negative : Linear → Inequality
not_negative form = record { terms = times (negsuc 0) form.terms; most = form.constant }
