-- A shelf in memory, as contracts see it.
use Rattle.std.specs.Prelude.{◌≡◌, ◌⊎◌, ℕ, List, map, find, Contains, String, string_bytes, Vec, bytes_eq}
use Rattle.std.specs.Option.{option_map_or}
use Rattle.std.specs.declared.alloc.Global.{Global}
use Rattle.lq_shelf.specs.Faults.{next_count}
use Rattle.lq_shelf.specs.Shelf.{Holding, Missing, Contents}

-- files by name and bytes, the numbers of the calls that fail, and what has happened so far
pub record MemShelfState : Type 0 where
  pub files : List (List ℕ × List ℕ)
  pub fails : List ℕ
  pub calls : ℕ
  pub faults : ℕ
  pub failed_name : List ℕ

-- the name and the bytes of each file
abbrev pub files_of : List (String Global × Vec ℕ Global) → List (List ℕ × List ℕ)
files_of files = map (λ file. (string_bytes file.0, file.1.items)) files

-- what is held under a name: of files of one name the first
abbrev pub holding_of : List (List ℕ × List ℕ) → List ℕ → Holding
holding_of files name =
    option_map_or (λ file. Contents file.1) (find (λ file. bytes_eq file.0 name) files) Missing

-- the next fetch of this name fails: the number of the call is listed, or the name is missing
abbrev pub FailsNext : MemShelfState → List ℕ → Type 0
FailsNext shelf name =
    Contains shelf.fails (next_count shelf.calls) ⊎ (holding_of shelf.files name ≡ Missing)
