-- The lines that are written (docs/COMMANDS.md, "What is written").
use Rattle.std.specs.Prelude.{ℕ, List, [], ◌∷◌, ◌++◌, Option, None, Some, codes, decimal}
use Rattle.lq_tree.specs.declared.place.Place.{Place}
use Rattle.lq_tree.specs.declared.limit.Limit.{Limit}
use Rattle.lq_tree.specs.declared.limit.Quantity.{Quantity}
use Rattle.lq_tree.specs.Limit.{row_of, numbered}
use Rattle.lq_tree.specs.Place.{place_text}
use Rattle.lq_tree.specs.Trap.{kind_text}
use Rattle.lq_meaning.specs.Ending.{Trap}

-- a line ends with a line feed
abbrev pub line : List ℕ → List ℕ
line text = text ++ 10 ∷ []

abbrev pub read_fault : List ℕ → List ℕ
read_fault name = line (codes "read fault " ++ name)

-- how much of a quantity is allowed
abbrev pub most : Quantity → ℕ
most quantity = (row_of quantity).allowed

-- the name of a quantity that has a limit
abbrev pub name_of : Option Quantity → List ℕ
name_of None = []
name_of (Some quantity) = (row_of quantity).name

-- the limit that is passed, how much was found, and how much is allowed
abbrev pub limit : Limit → List ℕ
limit l = line (codes "limit " ++ name_of (numbered l.which) ++ codes " " ++ decimal l.found ++ codes " " ++ decimal l.allowed)

abbrev pub trap : Trap → List ℕ
trap t = line (codes "trap " ++ kind_text t.kind ++ codes " at " ++ place_text t.at)

abbrev pub stray : Place → List ℕ
stray at = line (codes "stray at " ++ place_text at)

abbrev pub race : (i j : ℕ) → (first second : Place) → List ℕ
race i j first second = line (codes "race " ++ decimal i ++ codes " " ++ decimal j ++ codes " at " ++ place_text first ++ codes " and " ++ place_text second)
