-- What is broken in a program, and the least of it (docs/LANGUAGE.md, "Name rules").
use Rattle.std.specs.Prelude.{◌≡◌, ℕ, Bool, false, List, Option, None, Some}
use Rattle.std.specs.List.{Contains}
use Rattle.lq_tree.specs.declared.program.Program.{Program}
use Rattle.lq_names.specs.declared.fault.Fault.{Fault}
use Rattle.lq_names.specs.declared.fault.NamesFault.{NamesFault}
use Rattle.lq_names.specs.declared.fault.NamesFault.TheVariants.{Rule, NoMemory}
use Rattle.lq_names.specs.declared.effects.Effect.TheVariants.{Prints, Allocates}
use Rattle.lq_names.specs.Calls.{IsLeast}
use Rattle.lq_names.specs.Faults.{precedes}
use Rattle.lq_names.specs.Headers.{program_faults}

-- the rule is broken at the place, where `prints` are the functions that may print and `allocates` those that may allocate
pub record IsBroken (p : Program) (fault : Fault) : Type 0 where
  pub prints : List ℕ → Bool
  pub allocates : List ℕ → Bool
  pub may_print : IsLeast p Prints prints
  pub may_allocate : IsLeast p Allocates allocates
  pub told : Contains (program_faults p prints allocates) fault

-- it is broken, and nothing that is broken comes before it
pub record IsLeastBroken (p : Program) (fault : Fault) : Type 0 where
  pub broken : IsBroken p fault
  pub first : (other : Fault) → IsBroken p other → precedes other fault ≡ false

-- what the least fault tells: nothing is broken, or this is broken first
abbrev pub Tells : Program → Option Fault → Type 0
Tells p None = (fault : Fault) → IsBroken p fault → ⊥
Tells p (Some fault) = IsLeastBroken p fault

-- what a refusal tells; want of memory tells nothing
abbrev pub TellsFault : Program → NamesFault → Type 0
TellsFault p (Rule rule at) = IsLeastBroken p (record { rule = rule; at = at })
TellsFault p NoMemory = Unit {0}
