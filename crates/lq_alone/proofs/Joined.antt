-- What comes of a fork, by cases, and what holds of all accesses of its branches.
use Rattle.std.proofs.Common.{◌≡◌, ℕ, Bool, true, false, ◌||◌, List, [], ◌∷◌, Option, None, Some, refl, ⊎_elim}
use Rattle.std.specs.Prelude.{nat_lt, slice_get, filter_map}
use Rattle.std.specs.List.{list_any, AllByRecursion}
use Rattle.std.proofs.lemmas.List.Elements.{Contains-append_cases}
use Rattle.lq_meaning.specs.World.{World}
use Rattle.lq_meaning.specs.Ending.{Ending, Spent}
use Rattle.lq_meaning.specs.Control.{Came, Gives, Stops}
use Rattle.lq_alone.specs.Alone.{Access, Alone, all_accesses, merged, halting, trapping, is_spent, joined}
use Rattle.lq_alone.proofs.Marks.{Contains-none}
use Rattle.lq_alone.proofs.Alike.{Each}

-- the first such ending of a branch
abbrev pub first_such : (Ending → Option Ending) → List Alone → Option Ending
first_such such branches = slice_get (filter_map (λ (branch : Alone). such branch.ending) branches) 0

-- a branch has spent its fuel, or together they cost more than there is
abbrev pub is_out : (fuel : ℕ) → World → List Alone → Bool
is_out fuel w branches = list_any (λ (branch : Alone). is_spent branch.ending) branches || nat_lt fuel (merged w branches).cost

-- what comes of a fork of these branches
pub data Joins (fuel : ℕ) (branches : List Alone) (w : World) : Came (Unit {0}) → Type 0 where
  Halts : (ending : Ending) → first_such halting branches ≡ Some ending → Joins fuel branches w (Stops ending w)
  RunsOut : first_such halting branches ≡ None → is_out fuel w branches ≡ true → Joins fuel branches w (Stops Spent (record w { cost = fuel }))
  Traps : first_such halting branches ≡ None → is_out fuel w branches ≡ false → (ending : Ending) → first_such trapping branches ≡ Some ending → Joins fuel branches w (Stops ending (merged w branches))
  Passes : first_such halting branches ≡ None → is_out fuel w branches ≡ false → first_such trapping branches ≡ None → Joins fuel branches w (Gives tt (merged w branches))

pub joins : (fuel : ℕ) (branches : List Alone) (w : World) → Joins fuel branches w (joined fuel branches w)
joins fuel branches w = by (first_such halting branches) (is_out fuel w branches) (first_such trapping branches) refl refl refl where
  by : (h : Option Ending) (out : Bool) (t : Option Ending) → first_such halting branches ≡ h → is_out fuel w branches ≡ out → first_such trapping branches ≡ t →
      Joins fuel branches w (joined fuel branches w)
  by (Some ending) out t h o e = rw h (Halts ending h)
  by None true t h o e = rw (h, o) (RunsOut h o)
  by None false (Some ending) h o e = rw (h, o, e) (Traps h o ending e)
  by None false None h o e = rw (h, o, e) (Passes h o e)

-- what holds of each branch, by what else does
pub every : (P Q : Alone → Type 0) → ((b : Alone) → P b → Q b) → (branches : List Alone) → AllByRecursion P branches → AllByRecursion Q branches
every P Q f [] all = tt
every P Q f (b ∷ branches) all = (f b all.0, every P Q f branches all.1)

-- what holds of the accesses of each branch holds of all accesses
pub each_all : (P : Access → Type 0) (branches : List Alone) → AllByRecursion (λ b. Each P b.accesses) branches → Each P (all_accesses branches)
each_all P [] all = λ a c. absurd (Contains-none a c)
each_all P (b ∷ branches) all =
    λ a c. ⊎_elim (λ c. all.0 a c) (λ c. each_all P branches all.1 a c) (Contains-append_cases b.accesses (all_accesses branches) a c)
