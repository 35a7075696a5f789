-- The rows of items, from the oldest on.
use Rattle.std.proofs.Common.{◌≡◌, ℕ, zero, suc, ◌+◌, ◌-◌, ◌<◌, ◌≤◌, List, [], ◌∷◌, ◌++◌, length, get_or, drop, reverse, refl, sym, ap, ◌∙◌, arith, append_assoc, append-nil, add-one, drop-cons, ℤ}
use Rattle.lq_linear.specs.Terms.{Term}
use Rattle.std.proofs.lemmas.Grind.{reverse_onto}
use Rattle.lq_linear.specs.Row.{Inequality}
use Rattle.lq_linear.specs.Item.{rows_of, rows}
use Rattle.lq_linear.specs.declared.item.Item.{Item}

-- the rows of items that stand oldest first
abbrev pub rows_in : List Item → List Inequality
rows_in [] = []
rows_in (item ∷ items) = rows_of item ++ rows_in items

pub rows_append : (xs ys : List Item) → rows (xs ++ ys) ≡ rows ys ++ rows xs
rows_append [] ys = sym (append-nil (rows ys))
rows_append (x ∷ xs) ys = ap (λ l. l ++ rows_of x) (rows_append xs ys) ∙ append_assoc (rows ys) (rows xs) (rows_of x)

pub rows-reverse : (xs : List Item) → rows (reverse xs) ≡ rows_in xs
rows-reverse [] = refl
rows-reverse (x ∷ xs) = ap rows (reverse_onto xs x []) ∙ rows_append (reverse xs) (x ∷ []) ∙ ap (λ l. rows_of x ++ l) (rows-reverse xs)

pub get_left : {X : Type 0} (xs ys : List X) (i : ℕ) (d : X) → i < length xs → get_or (xs ++ ys) i d ≡ get_or xs i d
get_left [] ys i d h = absurd (omega arith)
get_left (x ∷ xs) ys zero d h = refl
get_left (x ∷ xs) ys (suc i) d h = get_left xs ys i d (omega arith)

pub get_right : {X : Type 0} (xs ys : List X) (i : ℕ) (d : X) → length xs ≤ i → get_or (xs ++ ys) i d ≡ get_or ys (i - length xs) d
get_right [] ys i d h = ap (λ k. get_or ys k d) (omega arith)
get_right (x ∷ xs) ys zero d h = absurd (omega arith)
get_right (x ∷ xs) ys (suc i) d h = get_right xs ys i d (omega arith) ∙ ap (λ k. get_or ys k d) (omega arith)

pub drop_item : (xs : List Item) (i : ℕ) (d : Item) → i < length xs → drop i xs ≡ get_or xs i d ∷ drop (i + 1) xs
drop_item xs i d h = rw (add-one, drop-cons xs i d) refl

-- a row of a division, read from what the machine holds
pub same_row : (terms : ℤ → List Term) (y z m n : ℤ) → y ≡ z → m ≡ n → ◌≡◌ {A = Inequality} (record { terms = terms y; most = m }) (record { terms = terms z; most = n })
same_row terms y z m n e q = ap (λ x. record { terms = terms x; most = m }) e ∙ ap (λ x. record { terms = terms z; most = x }) q
