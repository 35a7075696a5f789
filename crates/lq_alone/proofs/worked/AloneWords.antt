-- Short words for branches alone.
use Rattle.std.specs.Prelude.{ℕ, ℤ, Bool, List, None, Some}
use Rattle.lq_tree.specs.declared.plain.PProgram.{PProgram}
use Rattle.lq_meaning.specs.declared.memory.Address.{Address}
use Rattle.lq_meaning.specs.Ending.{Outcome}
use Rattle.lq_meaning.specs.Behaviour.{Beginning, beginning}
use Rattle.lq_alone.specs.Alone.{Access, Alone, alone}
use Rattle.lq_alone.specs.Clean.{clean_from}

abbrev alone_from : (fuel : ℕ) → Beginning → Alone
alone_from fuel b = alone fuel b.task b.world

-- a program on an input, branches alone
abbrev pub run_alone : (fuel words : ℕ) → PProgram → List ℤ → Alone
run_alone fuel words p input = alone_from fuel (beginning fuel words p input)

-- the ending, and the world that is left
abbrev outcome_of : Alone → Outcome
outcome_of a = record { ending = a.ending; world = a.world }

abbrev pub alone_outcome : (fuel words : ℕ) → PProgram → List ℤ → Outcome
alone_outcome fuel words p input = outcome_of (run_alone fuel words p input)

abbrev pub is_clean : (fuel words : ℕ) → PProgram → List ℤ → Bool
is_clean fuel words p input = clean_from fuel (beginning fuel words p input)

abbrev pub reads : Address → Access
reads a = record { address = a; written = None }

abbrev pub writes : Address → ℤ → Access
writes a word = record { address = a; written = Some word }
