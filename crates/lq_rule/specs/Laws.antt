-- What the rule means for two seats, what each kind of step does to the views, and what it is for a kind of step to keep a rule.
use Rattle.std.specs.Prelude.{◌≡◌, ◌≢◌, ℕ, ◌+◌, ◌<◌, ◌≤◌, [], length, replicate}
use mathlib.Core.Option.{none, some}
use lib.ListN.{get_elem?}
use Rattle.atomic_table.specs.Table.{State, Step, step, opening, Allows, Splits, Joins}
use Rattle.lq_rule.specs.declared.view.Supply.{Supply}
use Rattle.lq_rule.specs.declared.view.View.{View}
use Rattle.lq_rule.specs.View.{units_at, units_of}
use Rattle.lq_rule.specs.Steps.{Seated}

-- a rule of the table: a fact of the words and all views, where this much is supplied
abbrev pub Rule : Type 1
Rule = Supply → State (Unit {0}) View → Type 0

-- what a step tells: of the step, the seat before, the number found or written, and the seat after
abbrev pub Told : Type 1
Told = Step (Unit {0}) → Seated → ℕ → Seated → Type 0

-- while a seat has all units of a cell, no other seat has a unit of it
abbrev pub HasOneHolder : Rule → Type 0
HasOneHolder holds = (supply : Supply) (state : State (Unit {0}) View) → holds supply state
    → (cell one other : ℕ) (v w : View) → one ≢ other → get_elem? state.views one ≡ some v → get_elem? state.views other ≡ some w
    → units_of v cell ≡ supply.units → units_of w cell ≡ 0

-- a split leaves the units of the foot and gives the others, and both know the words
abbrev pub DividesUnits : (ℕ → ℕ) → (View → View) → (View → View) → Type 0
DividesUnits foot left right = (v : View) → ((cell : ℕ) → foot cell ≤ units_at v.own cell)
    → ((cell : ℕ) → (units_of (left v) cell ≡ foot cell) × (foot cell + units_of (right v) cell ≡ units_at v.own cell))
    × ((left v).own.words ≡ v.own.words) × ((right v).own.words ≡ v.own.words)

-- a join adds the units up, keeps what both know, and leaves the other view with no unit
abbrev pub AddsUnits : (View → View → View) → View → Type 0
AddsUnits both spent = (v w : View) → ((cell : ℕ) → (units_of (both v w) cell ≡ units_at v.own cell + units_at w.own cell) × (units_of spent cell ≡ 0))
    × ((both v w).own ≡ v.own) × ((both v w).joined ≡ w.own)

-- a table of zeros with one seat keeps the rule
abbrev pub OpensKept : Rule → (Supply → View) → Type 0
OpensKept holds first = (supply : Supply) → holds supply (opening (replicate (supply.cells + 1) 0) [] (first supply))

-- a load keeps it, of a cell of which the view has a unit
abbrev pub LoadsKeep : Rule → Told → Type 0
LoadsKeep holds then = (supply : Supply) (slots seat cell : ℕ) (me : Seated) → 0 < units_at me.0.own cell
    → Allows (holds supply) slots seat me (cell + 1) (λ n. n) (then (step slots (cell + 1) 0 0 none) me)

-- a store keeps it, to a cell of the table of which the view has all units
abbrev pub StoresKeep : Rule → Told → Type 0
StoresKeep holds then = (supply : Supply) (slots seat cell new : ℕ) (me : Seated) → cell < supply.cells → cell < length me.0.own.words → 0 < me.0.all → units_at me.0.own cell ≡ me.0.all
    → Allows (holds supply) slots seat me (cell + 1) (λ _. new) (λ _. then (step slots (cell + 1) new 0 none) me new)

-- a split keeps it, where the foot is within the view
abbrev pub SplitsKeep : Rule → (ℕ → ℕ) → (View → View) → (View → View) → Type 0
SplitsKeep holds foot left right = (supply : Supply) (seat : ℕ) (v : View) → ((cell : ℕ) → foot cell ≤ units_at v.own cell) → Splits (holds supply) seat v (left v) (right v)

-- a join keeps it, into a view that isn't spent
abbrev pub JoinsKeep : Rule → (View → View → View) → View → Type 0
JoinsKeep holds both spent = (supply : Supply) (seat other : ℕ) (v w : View) → 0 < v.all → Joins (holds supply) seat v other w (both v w) spent

-- so does the look that ends a join
abbrev pub LooksKeep : Rule → Told → Type 0
LooksKeep holds then = (supply : Supply) (slots seat : ℕ) (me : Seated) → 0 < me.0.all → Allows (holds supply) slots seat me 0 (λ n. n) (then (step slots 0 0 0 none) me)
