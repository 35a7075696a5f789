-- Short words for logs, and which of their entries race.
use Rattle.std.specs.Prelude.{ℕ, suc, Bool, true, false, if◌then◌else◌, List, [], ◌∷◌, ◌++◌}
use Rattle.lq_tree.specs.declared.place.Place.{Place}
use Rattle.lq_log.specs.declared.entry.Entry.{Entry}
use Rattle.lq_log.specs.Race.{races}
use Rattle.lq_meaning.specs.declared.memory.Address.{Address}

abbrev entry : (write : Bool) → (path : List ℕ) → Address → Place → Entry
entry write path a at = record { path = path; write = write; block = a.block; element = a.element; field = a.field; at = at }

abbrev pub stores : (path : List ℕ) → Address → Place → Entry
stores = entry true

abbrev pub loads : (path : List ℕ) → Address → Place → Entry
loads = entry false

-- the numbers, from here on, of the later entries that race with one
abbrev racing_with : Entry → (number later : ℕ) → List Entry → List (ℕ × ℕ)
racing_with e number later [] = []
racing_with e number later (other ∷ log) =
    if races e other then (number, later) ∷ racing_with e number (suc later) log else racing_with e number (suc later) log

abbrev racing_from : (number : ℕ) → List Entry → List (ℕ × ℕ)
racing_from number [] = []
racing_from number (e ∷ log) = racing_with e number (suc number) log ++ racing_from (suc number) log

-- the pairs of entries, numbered from 1, that race
abbrev pub racing : List Entry → List (ℕ × ℕ)
racing log = racing_from 1 log
