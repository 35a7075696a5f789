-- Forms: collected sums of multiples of symbols, and a constant.
use Rattle.std.specs.Prelude.{◌≡◌, ℕ, ◌^◌, List, ◌++◌, ℤ, ◌+ℤ◌, ◌*ℤ◌}
use Rattle.lq_linear.specs.Terms.{Term, AreAlike, AreTerms, IsWithin, times, terms_value}

-- a sum of whole multiples of symbols and a constant
pub record Linear : Type 0 where
  pub terms : List Term
  pub constant : ℤ

-- the number that a sum is where v gives each symbol a whole number
abbrev pub value_of : (ℕ → ℤ) → Linear → ℤ
value_of v sum = terms_value v sum.terms +ℤ sum.constant

-- the sum is a form, within all bounds (docs/CHECKING.md, "Forms and rows")
pub record IsForm (sum : Linear) : Type 0 where
  pub are_terms : AreTerms sum.terms
  pub within : IsWithin (2 ^ 40) sum.constant

-- the terms of both and the sum of the constants
abbrev pub sum_of : Linear → Linear → Linear
sum_of a b = record { terms = a.terms ++ b.terms; constant = a.constant +ℤ b.constant }

-- each term and the constant multiplied by z
abbrev pub multiple_of : ℤ → Linear → Linear
multiple_of z a = record { terms = times z a.terms; constant = z *ℤ a.constant }

-- the form that a sum is once like terms are collected
pub record IsFormOf (sum form : Linear) : Type 0 where
  pub is_form : IsForm form
  pub alike : AreAlike form.terms sum.terms
  pub same : form.constant ≡ sum.constant

-- a sum is within the bounds of a form once like terms are collected
abbrev pub HasForm : Linear → Type 0
HasForm sum = (form : Linear) × IsFormOf sum form
