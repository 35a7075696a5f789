-- The table of limits (docs/COMMANDS.md, "Limits").
use Rattle.std.specs.Prelude.{ℕ, nat_lt, ◌==◌, if◌then◌else◌, List, [], ◌∷◌, find, Option, Result, Ok, Err, codes}
use Prim.Native.String.{String}
use Rattle.lq_tree.specs.declared.limit.Limit.{Limit}
use Rattle.lq_tree.specs.declared.limit.Quantity.{Quantity}
use Rattle.lq_tree.specs.declared.limit.Quantity.TheVariants.{SourceBytes, QualifierBytes, InputBytes, PickBytes, ProofBytes, Brackets, Stretch, Functions, InputNumbers, PickNumbers, Structs, Fields, Locals, Branches, Instances, Conditions, Facts, Arms}

-- the number of a quantity in the table, its name, and how much of it is allowed
pub record Row : Type 0 where
  pub number : ℕ
  pub name : List ℕ
  pub allowed : ℕ

-- a row of the table
abbrev row : (number : ℕ) → (name : String) → (allowed : ℕ) → Row
row number name allowed = record { number = number; name = codes name; allowed = allowed }

-- the table
abbrev pub row_of : Quantity → Row
row_of SourceBytes = row 1 "source bytes" 262144
row_of QualifierBytes = row 2 "qualifier bytes" 65536
row_of InputBytes = row 3 "input bytes" 33554432
row_of PickBytes = row 4 "pick bytes" 33554432
row_of ProofBytes = row 5 "proof bytes" 67108864
row_of Brackets = row 6 "brackets" 64
row_of Stretch = row 7 "stretch" 512
row_of Functions = row 8 "functions" 256
row_of InputNumbers = row 9 "input numbers" 1048576
row_of PickNumbers = row 10 "pick numbers" 1048576
row_of Structs = row 11 "structs" 64
row_of Fields = row 12 "fields" 16
row_of Locals = row 13 "locals" 32
row_of Branches = row 14 "branches" 16
row_of Instances = row 15 "instances" 256
row_of Conditions = row 16 "conditions" 4096
row_of Facts = row 17 "facts" 512
row_of Arms = row 18 "arms" 64

-- all quantities, in the order of the table
abbrev pub quantities : List Quantity
quantities =
    SourceBytes ∷ QualifierBytes ∷ InputBytes ∷ PickBytes ∷ ProofBytes ∷ Brackets ∷ Stretch ∷ Functions ∷ InputNumbers
    ∷ PickNumbers ∷ Structs ∷ Fields ∷ Locals ∷ Branches ∷ Instances ∷ Conditions ∷ Facts ∷ Arms ∷ []

-- the quantity with this number
abbrev pub numbered : ℕ → Option Quantity
numbered which = find (λ (q : Quantity). (row_of q).number == which) quantities

-- so much of a quantity, told as what passes its limit
abbrev pub passed : Quantity → (found : ℕ) → Limit
passed q found = record { which = (row_of q).number; found = found; allowed = (row_of q).allowed }

-- whether so much of a quantity is allowed
abbrev pub checked : Quantity → (found : ℕ) → Result (Unit {0}) Limit
checked q found = if nat_lt (row_of q).allowed found then Err (passed q found) else Ok tt
