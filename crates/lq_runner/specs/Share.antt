-- How the units of a cell are dealt out to the groups of branches of a fork (docs/THREADS.md, "Shares").
use Rattle.std.specs.Prelude.{◌≡◌, ℕ, ◌-◌, ◌==◌, ◌<◌, ◌≤◌, pos, Bool, false, not, ◌&&◌, IsTrue, if◌then◌else◌, List, [], ◌∷◌, map, length, replicate, take, drop, sum, sum_by, slice_index, slice_index_or, Option, None, Some}
use Rattle.std.specs.List.{list_any}
use Rattle.std.specs.Option.{is_some}
use Rattle.lq_meaning.specs.declared.blocks.Span.{Span}
use Rattle.lq_meaning.specs.Blocks.{cell_of}
use Rattle.lq_alone.specs.Alone.{Access, Alone, all_accesses}
use Rattle.lq_runner.specs.declared.chunks.Chunk.{Chunk}

-- A group of branches: the accesses that branches alone list for them, and how many units the group needs of a cell that is
-- read.
pub record Group : Type 0 where
  pub accesses : List Access
  pub need : ℕ

-- the group of the branches of a chunk, with what it needs
abbrev pub group_of : List Alone → Chunk × ℕ → Group
group_of branches dealt = record { accesses = all_accesses (take dealt.0.length (drop dealt.0.first branches)); need = dealt.1 }

abbrev pub groups_of : List Alone → List (Chunk × ℕ) → List Group
groups_of branches dealt = map (group_of branches) dealt

-- how many units all groups need together
abbrev pub needs : List Group → ℕ
needs groups = sum_by (λ (g : Group). g.need) groups

-- Of a cell that is only read each group but the first gets what it needs, and the first the rest.
abbrev pub by_need : (whole : ℕ) → List Group → List ℕ
by_need whole [] = []
by_need whole (first ∷ groups) = (whole - needs groups) ∷ map (λ (g : Group). g.need) groups

-- all units of a cell that no group accesses go to the first group
abbrev pub to_first : (whole : ℕ) → List Group → List ℕ
to_first whole [] = []
to_first whole (first ∷ groups) = whole ∷ replicate (length groups) 0

-- the cell, if there is one, is this one
abbrev pub is_cell : Option ℕ → (cell : ℕ) → Bool
is_cell None cell = false
is_cell (Some found) cell = found == cell

-- the spans say where the blocks stand among the cells
module _ (spans : List Span) where
  -- an access is one of the cell
  abbrev pub is_at : (cell : ℕ) → Access → Bool
  is_at cell a = is_cell (cell_of spans a.address.block (pos a.address.element) a.address.field) cell

  -- a group writes the cell; it reads it
  abbrev pub writes : (cell : ℕ) → Group → Bool
  writes cell g = list_any (λ a. is_at cell a && is_some a.written) g.accesses

  abbrev pub reads : (cell : ℕ) → Group → Bool
  reads cell g = list_any (λ a. is_at cell a && not (is_some a.written)) g.accesses

  -- all units of a cell that is written go to the group that writes it
  abbrev pub to_writer : (cell whole : ℕ) → List Group → List ℕ
  to_writer cell whole groups = map (λ g. if writes cell g then whole else 0) groups

  -- how many units of a cell each group gets, where the whole has so many
  abbrev pub share : (cell whole : ℕ) → List Group → List ℕ
  share cell whole groups =
      if list_any (writes cell) groups then to_writer cell whole groups
      else (if list_any (reads cell) groups then by_need whole groups else to_first whole groups)

  -- how many of each cell the group with this number gets, from 0
  abbrev pub units_for : (whole : ℕ → ℕ) → List Group → (number : ℕ) → (cell : ℕ) → ℕ
  units_for whole groups number cell = slice_index (share cell (whole cell) groups) number

  -- the whole has enough for the groups: what they need of each cell that is read, and all units of each that is written
  pub record IsEnough (all : ℕ) (whole : ℕ → ℕ) (groups : List Group) : Type 0 where
    pub to_read : (cell : ℕ) → IsTrue (list_any (reads cell) groups) → needs groups ≤ whole cell
    pub to_write : (cell : ℕ) → IsTrue (list_any (writes cell) groups) → whole cell ≡ all

  -- The units of the groups sum to the whole's. Each group has what it needs of each cell that it reads, and all units of each
  -- that it writes.
  pub record Suffices (all : ℕ) (whole : ℕ → ℕ) (groups : List Group) : Type 0 where
    pub together : (cell : ℕ) → sum (share cell (whole cell) groups) ≡ whole cell
    pub to_read : (cell number : ℕ) (d : Group) → number < length groups → IsTrue (reads cell (slice_index_or groups number d)) → (slice_index_or groups number d).need ≤ units_for whole groups number cell
    pub to_write : (cell number : ℕ) (d : Group) → number < length groups → IsTrue (writes cell (slice_index_or groups number d)) → units_for whole groups number cell ≡ all
