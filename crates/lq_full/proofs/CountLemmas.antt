-- What facts count.
use Rattle.std.proofs.Common.{◌≡◌, ℕ, suc, ◌+◌, ◌≤◌, max, List, [], ◌∷◌, ◌++◌, map, length, Option, None, Some, refl, ap, sym, ◌∙◌, arith}
use Rattle.std.specs.List.{filter_map, cons_option, flat_map, sum_by}
use Rattle.std.proofs.lemmas.List.Sums.{sum_by-cons, sum_by-append}
use Rattle.lq_linear.specs.Form.{Linear}
use Rattle.lq_linear.specs.Row.{Inequality}
use Rattle.lq_linear.specs.Collect.{as_row}
use Rattle.lq_linear.specs.Item.{rows_of}
use Rattle.lq_linear.specs.declared.item.Item.{Item}
use Rattle.lq_linear.specs.declared.item.Item.TheVariants.{Holds, Division, Remainder}
use Rattle.lq_templates.specs.declared.condition.Given.{Given}
use Rattle.lq_templates.specs.declared.condition.Given.TheVariants.{Of}
use Rattle.lq_templates.specs.declared.condition.Condition.{Condition}
use Rattle.lq_templates.specs.declared.condition.Assign.{Assign}
use Rattle.lq_templates.specs.Conditions.{filled, rows_at, items_of}
use Rattle.lq_full.specs.Full.{weight, count_facts, most_facts}

-- an item counts as many as it stands for rows
pub weight_is : (item : Item) → length (rows_of item) ≡ sum_by weight (item ∷ [])
weight_is (Holds row) = refl
weight_is (Division quotient dividend divisor) = refl
weight_is (Remainder remainder dividend divisor) = refl

-- rows count one each
pub weight_held : (rows : List Inequality) → sum_by weight (map Holds rows) ≡ length rows
weight_held [] = refl
weight_held (row ∷ rows) = omega (arith, sum_by-cons weight (Holds row) (map Holds rows), weight_held rows)

-- what is left of a list is no longer than it
pub left_short : {X Y : Type 0} (f : X → Option Y) (xs : List X) → length (filter_map f xs) ≤ length xs
left_short f [] = omega arith
left_short f (x ∷ xs) = elim (f x) as (λ y. length (cons_option y (filter_map f xs)) ≤ suc (length xs)) [
  | None ↦ omega (arith, left_short f xs)
  | Some y ↦ omega (arith, left_short f xs)
]

-- the rows of a template at forms count those within the bounds
pub held_count : (assign : Assign) (template : ℕ) (values : List Linear) (rows : List Inequality) → rows ≡ rows_at assign template
    → sum_by weight (items_of assign (Of template values)) ≡ length (filter_map (λ row. as_row (filled values row)) rows)
held_count assign template values rows is =
    weight_held (filter_map (λ row. as_row (filled values row)) (rows_at assign template))
    ∙ ap (λ l. length (filter_map (λ row. as_row (filled values row)) l)) (sym is)

-- and no more than it has
pub held_few : (assign : Assign) (template : ℕ) (values : List Linear) (rows : List Inequality) → rows ≡ rows_at assign template
    → sum_by weight (items_of assign (Of template values)) ≤ length rows
held_few assign template values rows is =
    omega (arith, held_count assign template values rows is, left_short (λ row. as_row (filled values row)) rows)

-- one fact more
pub one_more : (assign : Assign) (all later : List Given) (given : Given) → all ≡ given ∷ later
    → sum_by weight (flat_map (items_of assign) all) ≡ sum_by weight (items_of assign given) + sum_by weight (flat_map (items_of assign) later)
one_more assign all later given is =
    ap (λ l. sum_by weight (flat_map (items_of assign) l)) is ∙ sum_by-append weight (items_of assign given) (flat_map (items_of assign) later)

-- the last of some conditions
pub most_last : (assign : Assign) (before : List Condition) (c : Condition) → most_facts assign (before ++ c ∷ []) ≡ max (most_facts assign before) (count_facts assign c)
most_last assign [] c = omega arith
most_last assign (first ∷ before) c = omega (arith, most_last assign before c)
