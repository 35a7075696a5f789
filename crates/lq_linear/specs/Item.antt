-- Items, what they say of symbols, and the rows that they stand for.
use Rattle.std.specs.Prelude.{◌≡◌, ℕ, ◌-◌, List, [], ◌∷◌, ◌++◌, ℤ, pos, negsuc, neg_ℤ, ◌+ℤ◌, ◌-ℤ◌, int_div, int_rem, slice_index_or}
use Rattle.lq_linear.specs.Terms.{times}
use Rattle.lq_linear.specs.Form.{value_of}
use Rattle.lq_linear.specs.Row.{Inequality, Meets, nothing, not_negative}
use Rattle.lq_linear.specs.declared.item.Item.{Item}
use Rattle.lq_linear.specs.declared.item.Item.TheVariants.{Holds, Division, Remainder}

-- v meets an item: the row holds, or the named number is the quotient of the dividend, cut toward zero, or what that division leaves over (C11 6.5.5)
abbrev pub MeetsItem : (ℕ → ℤ) → Item → Type 0
MeetsItem v (Holds row) = Meets v row
MeetsItem v (Division quotient dividend divisor) = v quotient ≡ int_div (value_of v dividend) divisor.value
MeetsItem v (Remainder remainder dividend divisor) = v remainder ≡ int_rem (value_of v dividend) divisor.value

-- that the dividend of a division or remainder isn't negative; of a row nothing
abbrev pub dividend_row : Item → Inequality
dividend_row (Holds row) = nothing
dividend_row (Division quotient dividend divisor) = not_negative dividend
dividend_row (Remainder remainder dividend divisor) = not_negative dividend

-- the rows of an item in their order, the third of which needs a dividend that isn't negative (docs/CHECKING.md, "Items as facts")
abbrev pub rows_of : Item → List Inequality
rows_of (Holds row) = row ∷ []
rows_of (Division q e d) =
    record { terms = (q, d.value) ∷ times (negsuc 0) e.terms; most = e.constant +ℤ (d.value -ℤ pos 1) }
    ∷ record { terms = (q, neg_ℤ d.value) ∷ e.terms; most = (d.value -ℤ pos 1) -ℤ e.constant }
    ∷ record { terms = (q, d.value) ∷ times (negsuc 0) e.terms; most = e.constant } ∷ []
rows_of (Remainder r e d) =
    record { terms = (r, pos 1) ∷ []; most = d.value -ℤ pos 1 }
    ∷ record { terms = (r, negsuc 0) ∷ []; most = d.value -ℤ pos 1 }
    ∷ record { terms = (r, negsuc 0) ∷ []; most = pos 0 } ∷ []

-- the rows of all items, in their order; the items stand newest first
abbrev pub rows : List Item → List Inequality
rows [] = []
rows (item ∷ before) = rows before ++ rows_of item

-- the row with this number, from 1
abbrev pub row_numbered : List Inequality → ℕ → Inequality
row_numbered all number = slice_index_or all (number - 1) nothing
