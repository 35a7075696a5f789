-- Rows of items.
use Rattle.std.proofs.Common.{◌≡◌, List, [], ◌∷◌, ◌++◌, refl, sym, ap, ◌∙◌, append_assoc}
use Rattle.lq_linear.specs.Item.{rows_of}
use Rattle.lq_linear.specs.declared.item.Item.{Item}
use Rattle.lq_linear.proofs.ItemLemmas.{rows_in}

pub rows_in-append : (xs ys : List Item) → rows_in (xs ++ ys) ≡ rows_in xs ++ rows_in ys
rows_in-append [] ys = refl
rows_in-append (x ∷ xs) ys = ap (λ l. rows_of x ++ l) (rows_in-append xs ys) ∙ sym (append_assoc (rows_of x) (rows_in xs) (rows_in ys))
