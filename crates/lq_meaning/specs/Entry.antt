-- How `main` is entered (docs/LANGUAGE.md, "Entry of main").
use Rattle.std.specs.Prelude.{ℕ, zero, suc, ◌-◌, ℤ, pos, nat_lt, if◌then◌else◌, List, [], ◌∷◌, length}
use Rattle.lq_meaning.specs.Word.{null, pointer}
use Rattle.lq_meaning.specs.Memory.{Blocks}
use Rattle.lq_meaning.specs.World.{World}

-- the world before the first action, with this memory
abbrev pub opening : Blocks → (words : ℕ) → World
opening memory words = record { memory = memory; left = words; cost = 0; printed = [] }

-- without parameters the input isn't used
abbrev pub start : (words : ℕ) → World
start words = opening [] words

-- a non-empty input is block 1
abbrev pub input_memory : List ℤ → Blocks
input_memory [] = []
input_memory (x ∷ input) = record { fields = 1; words = x ∷ input } ∷ []

-- the pointer to its first element, or null
abbrev pub input_pointer : List ℤ → ℤ
input_pointer [] = null
input_pointer (x ∷ input) = pointer 1 0

-- the world of a `main` with parameters, and these
abbrev pub start_on : (words : ℕ) → List ℤ → World
start_on words input = opening (input_memory input) (words - length input)

-- the pointer to the input, and how many numbers it has
abbrev pub arguments : List ℤ → List ℤ
arguments input = input_pointer input ∷ pos (length input) ∷ []

-- `main` by the number of its parameters: with some the input must fit into the words, or the run is refused
abbrev pub enter : {R : Type 0} → (refused : World → R) → (entered : List ℤ → World → R) → (params words : ℕ) → List ℤ → R
enter refused entered zero words input = entered [] (start words)
enter refused entered (suc n) words input =
    if nat_lt words (length input) then refused (start words) else entered (arguments input) (start_on words input)
