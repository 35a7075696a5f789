-- What is derived under an assignment is derived under a greater one.
use Rattle.std.proofs.Common.{ℕ, ◌-◌, List, [], ◌∷◌}
use Rattle.std.specs.List.{AllByRecursion, flat_map}
use Rattle.lq_linear.specs.Row.{Inequality}
use Rattle.lq_linear.specs.Collect.{as_row}
use Rattle.lq_linear.specs.declared.item.Item.{Item}
use Rattle.lq_linear.specs.declared.item.Item.TheVariants.{Holds}
use Rattle.lq_templates.specs.declared.condition.Given.{Given}
use Rattle.lq_templates.specs.declared.condition.Given.TheVariants.{Fixed, Of}
use Rattle.lq_templates.specs.declared.condition.Condition.{Condition}
use Rattle.lq_templates.specs.declared.condition.Assign.{Assign}
use Rattle.lq_templates.specs.Conditions.{filled, items_of, facts_of, IsDerived, IsPart, none, IsWithin}
use Rattle.lq_fixpoint.proofs.MoreFacts.{derives_more}
use Rattle.lq_fixpoint.proofs.Parts.{part_itself, part_append, part_map, part_filter_map, part_reverse, part_at}

module _ (a b : Assign) (within : IsWithin a b) where
  items_part : (given : Given) → IsPart (items_of a given) (items_of b given)
  items_part (Fixed item) = part_itself (item ∷ [])
  items_part (Of template values) =
      part_map Holds (part_filter_map (λ row. as_row (filled values row)) (part_at a.rows b.rows within (template - 1)))

  all_items_part : (facts : List Given) → IsPart (flat_map (items_of a) facts) (flat_map (items_of b) facts)
  all_items_part [] = none
  all_items_part (given ∷ facts) = part_append (items_part given) (all_items_part facts)

  -- the facts of a condition
  pub facts_part : (c : Condition) → IsPart (facts_of a c) (facts_of b c)
  facts_part c = part_reverse (all_items_part c.facts)

-- goals that some items derive, more items derive
pub all_derived : (M : List ℕ) (few many : List Item) → IsPart few many → (goals : List Inequality)
    → AllByRecursion (IsDerived M few) goals → AllByRecursion (IsDerived M many) goals
all_derived M few many p [] d = tt
all_derived M few many p (goal ∷ goals) d =
    (record { bounded = d.0.bounded; derived = derives_more M few many goal p d.0.derived }, all_derived M few many p goals d.1)
