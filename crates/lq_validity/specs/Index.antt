-- What an index is of.
use Rattle.std.specs.Prelude.{◌≡◌, ℕ, ◌^◌, ◌<◌, List, length, reverse}
use Rattle.lq_linear.specs.Row.{Inequality}
use Rattle.lq_linear.specs.Item.{rows}
use Rattle.lq_linear.specs.declared.item.Item.{Item}
use Rattle.lq_validity.specs.declared.index.Parts.{Parts}
use Rattle.lq_validity.specs.Mults.{IsMultipliers}
use Rattle.lq_validity.specs.Known.{IsKnown}
use Rattle.lq_validity.specs.Narrow.{AreWeighed, IsPool, KeepsConsequences, KeepsContradictions}

-- the items, in the order in which they became known, and the multipliers
pub record Indexed : Type 0 where
  pub items : List Item
  pub multipliers : List ℕ

-- and the goals that may be looked up
pub record GoalIndexed : Type 0 where
  pub items : List Item
  pub multipliers : List ℕ
  pub goals : List Inequality

-- the parts of an index are right
pub record AreParts (p : Parts) : Type 0 where
  pub few : length p.items.now < 2 ^ 30
  pub multipliers : IsMultipliers p.multipliers.now
  pub fetched : p.rows.items ≡ rows (reverse p.items.now)
  pub weighed : AreWeighed p.sums.items p.rows.items
  pub known : IsKnown p.multipliers.now (reverse p.items.now) p.known.marks.items p.known.exacts
  pub left : KeepsContradictions p.multipliers.now p.known.marks.items p.known.left.items p.rows.items
  pub pool : IsPool p.multipliers.now p.known.left.items p.rows.items p.known.pool.multiples.items p.known.pool.table
  pub voids : KeepsContradictions p.multipliers.now p.known.left.items p.voids.items p.rows.items

-- each combination of facts that gives the goal as a consequence is of facts that are left
abbrev pub ServeFor : Parts → Inequality → Type 0
ServeFor p goal = KeepsConsequences p.multipliers.now p.known.marks.items p.known.left.items p.rows.items goal
