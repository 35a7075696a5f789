-- Two groups of branches over one block of four words, whose cells are 3 to 6: the first writes element 0 and reads element 2, the
-- second writes element 1 and reads elements 1 and 2. Nobody accesses element 3.
use Rattle.std.proofs.Common.{◌≡◌, ℕ, List, [], ◌∷◌, refl}
use Rattle.std.specs.Prelude.{pos, None, Some}
use Rattle.lq_meaning.specs.declared.blocks.Span.{Span}
use Rattle.lq_meaning.specs.Blocks.{span}
use Rattle.lq_meaning.specs.Memory.{address}
use Rattle.lq_alone.specs.Alone.{Access}
use Rattle.lq_runner.specs.Share.{Group, share, units_for}

abbrev block : List Span
block = span 3 1 4 ∷ []

abbrev load : (element : ℕ) → Access
load element = record { address = address 1 element 0; written = None }

abbrev store : (element word : ℕ) → Access
store element word = record { address = address 1 element 0; written = Some (pos word) }

abbrev group : (accesses : List Access) → (need : ℕ) → Group
group accesses need = record { accesses = accesses; need = need }

abbrev groups : List Group
groups = group (load 2 ∷ store 0 7 ∷ []) 3 ∷ group (store 1 8 ∷ load 1 ∷ load 2 ∷ []) 2 ∷ []

-- a cell that is written goes whole to the group that writes it
to_the_first : share block 3 8 groups ≡ 8 ∷ 0 ∷ []
to_the_first = refl

to_the_second : share block 4 8 groups ≡ 0 ∷ 8 ∷ []
to_the_second = refl

-- one that is only read is dealt out: the second gets what it needs, and the first the rest
dealt_out : share block 5 8 groups ≡ 6 ∷ 2 ∷ []
dealt_out = refl

-- one that nobody accesses stays with the first
left_over : share block 6 8 groups ≡ 8 ∷ 0 ∷ []
left_over = refl

-- so does one of no block
outside : share block 0 8 groups ≡ 8 ∷ 0 ∷ []
outside = refl

-- of a group that reads nothing the need is kept all the same
idle_group : share block 5 8 (group (load 2 ∷ []) 3 ∷ group [] 2 ∷ []) ≡ 6 ∷ 2 ∷ []
idle_group = refl

second_part : units_for block (λ cell. 8) groups 1 5 ≡ 2
second_part = refl
