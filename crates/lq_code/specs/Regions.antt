-- The regions of a function's code: its branches and iterations (docs/CODE.md, "Regions").
use Rattle.std.specs.Prelude.{ℕ, ◌+◌, Bool, true, false, not, ◌&&◌, ◌||◌, nat_lt, nat_le, List, [], ◌∷◌}
use Rattle.std.specs.List.{flat_map, list_all, list_any, enumerate_from}
use Rattle.lq_code.specs.declared.op.Op.{Op}
use Rattle.lq_code.specs.declared.op.Op.TheVariants.{Fork, Each}
use Rattle.lq_code.specs.declared.code.Instr.{Instr}

-- a region: its first instruction, and the one behind its last
pub record Region : Type 0 where
  pub first : ℕ
  pub past : ℕ

-- the region from an instruction up to another one
abbrev pub up_to : (first past : ℕ) → Region
up_to first past = record { first = first; past = past }

-- where the region ends behind which there are these starts: at the first of them, or at the end of the Fork
abbrev pub next_start : List ℕ → (end : ℕ) → ℕ
next_start [] end = end
next_start (start ∷ rest) end = start

-- from each start up to the next one, and from the last one up to the end
abbrev pub branch_regions : List ℕ → (end : ℕ) → List Region
branch_regions [] end = []
branch_regions (start ∷ rest) end = up_to start (next_start rest end) ∷ branch_regions rest end

-- the regions of the instruction with this number
abbrev pub regions_of : ℕ → Op → List Region
regions_of n (Fork end starts) = branch_regions starts end
regions_of n (Each slot step end) = up_to (n + 1) end ∷ []
regions_of n _ = []

-- the regions of a function
abbrev pub regions : List Instr → List Region
regions instrs = flat_map (λ (i : ℕ × Instr). regions_of i.0 i.1.op) (enumerate_from 0 instrs)

-- an instruction stands in a region
abbrev pub holds : Region → ℕ → Bool
holds r n = nat_le r.first n && nat_lt n r.past

-- in one of them
abbrev pub in_some : List Region → ℕ → Bool
in_some regions n = list_any (λ r. holds r n) regions

-- both or neither
abbrev pub alike : Bool → Bool → Bool
alike true other = other
alike false other = not other

-- two instructions stand in the same regions, so in none or in one innermost region
abbrev pub are_together : List Region → ℕ → ℕ → Bool
are_together regions m n = list_all (λ r. alike (holds r m) (holds r n)) regions

-- a region lies in another one
abbrev pub lies_in : Region → Region → Bool
lies_in r other = nat_le other.first r.first && nat_le r.past other.past

-- two regions are apart, or one lies in the other
abbrev pub nest : Region → Region → Bool
nest r other = (nat_le r.past other.first || nat_le other.past r.first) || (lies_in r other || lies_in other r)
