-- What the files of a shelf in memory hold.
use Rattle.std.proofs.Common.{◌≡◌, ℕ, List, [], ◌∷◌, true, false, cond, Option, Some, None, refl, sym, ◌∙◌, ap}
use Rattle.std.specs.Prelude.{find, option_map, bytes_eq, string_bytes, String, Vec}
use Rattle.std.specs.Option.{option_map_or}
use Rattle.std.specs.declared.alloc.Global.{Global}
use Rattle.lq_shelf.specs.Shelf.{Missing, Contents}
use Rattle.lq_shelf.specs.MemShelf.{files_of, holding_of}

-- the bytes of the first file of this name, by the names and the bytes of the files themselves
abbrev pub first_named : List (String Global × Vec ℕ Global) → List ℕ → Option (List ℕ)
first_named files name = option_map (λ file. file.1.items) (find (λ file. bytes_eq (string_bytes file.0) name) files)

-- it is what is held under the name
pub holding_of-files_of : (files : List (String Global × Vec ℕ Global)) (name : List ℕ) →
    holding_of (files_of files) name ≡ option_map_or Contents (first_named files name) Missing
holding_of-files_of [] name = refl
holding_of-files_of (file ∷ files) name = elim (bytes_eq (string_bytes file.0) name) as (λ same.
    option_map_or (λ f. Contents f.1) (cond same (Some (string_bytes file.0, file.1.items)) (find (λ f. bytes_eq f.0 name) (files_of files))) Missing
    ≡ option_map_or Contents (option_map (λ f. f.1.items) (cond same (Some file) (find (λ f. bytes_eq (string_bytes f.0) name) files))) Missing) [
      | true ↦ refl
      | false ↦ holding_of-files_of files name
    ]

-- where such a file is found, its bytes are held
pub holding_of_found : (files : List (String Global × Vec ℕ Global)) (name bytes : List ℕ) → Some bytes ≡ first_named files name → holding_of (files_of files) name ≡ Contents bytes
holding_of_found files name bytes found = holding_of-files_of files name ∙ ap (λ held. option_map_or Contents held Missing) (sym found)

-- where none is found, the name is missing
pub holding_of_none : (files : List (String Global × Vec ℕ Global)) (name : List ℕ) → None ≡ first_named files name → holding_of (files_of files) name ≡ Missing
holding_of_none files name none = holding_of-files_of files name ∙ ap (λ held. option_map_or Contents held Missing) (sym none)
