-- Which programs are clean (docs/CHECKING.md, "What acceptance promises").
use Rattle.std.specs.Prelude.{ℕ, ◌^◌, ◌≤◌, ℤ, Bool, true, false, not, ◌&&◌, IsTrue, List}
use Rattle.lq_tree.specs.declared.plain.PProgram.{PProgram}
use Rattle.lq_meaning.specs.World.{World}
use Rattle.lq_meaning.specs.Ending.{Ending, Strayed}
use Rattle.lq_meaning.specs.Task.{Task}
use Rattle.lq_meaning.specs.Behaviour.{Beginning, beginning}
use Rattle.lq_alone.specs.Alone.{Alone, alone}

abbrev pub is_stray : Ending → Bool
is_stray (Strayed at) = true
is_stray ending = false

-- alone, no stray is met, and at each fork the accesses of different branches don't clash
abbrev pub is_clean : Alone → Bool
is_clean a = not (is_stray a.ending) && a.apart

abbrev pub clean : (fuel : ℕ) → Task → World → Bool
clean fuel task w = is_clean (alone fuel task w)

abbrev pub clean_from : (fuel : ℕ) → Beginning → Bool
clean_from fuel b = clean fuel b.task b.world

-- a program is clean on an input and with these words where it is with every fuel
abbrev pub IsClean : PProgram → (input : List ℤ) → (words : ℕ) → Type 0
IsClean p input words = (fuel : ℕ) → fuel ≤ 2 ^ 40 → IsTrue (clean_from fuel (beginning fuel words p input))
