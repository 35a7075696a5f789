-- How many words are on the stack in front of each instruction (docs/CODE.md, "Depths").
use Rattle.std.specs.Prelude.{ℕ, zero, suc, ◌-◌, ℤ, pos, ◌+ℤ◌, ◌-ℤ◌, Bool, true, false, ◌&&◌, ◌||◌, ◌==◌, nat_lt, if◌then◌else◌, List, length, map, Option, None, Some, slice_get}
use Rattle.std.specs.List.{list_any, position_from, range_with_len}
use Rattle.std.specs.Option.{option_map_or, option_and_then}
use Rattle.lq_code.specs.declared.op.Op.{Op}
use Rattle.lq_code.specs.declared.op.Op.TheVariants.{Num, Get, Put, Neg, Not, IsNull, Bin, Shift, Jump, JumpZero, Load, Store, Calloc, Call, Test, Fork, Each, Print, Return, End}
use Rattle.lq_code.specs.declared.code.Instr.{Instr}
use Rattle.lq_code.specs.declared.code.CFunc.{CFunc}
use Rattle.lq_code.specs.Regions.{Region, regions}
use Rattle.lq_code.specs.CodeMeaning.{params_of}

-- how many words an instruction pops
abbrev pub pops : List CFunc → Op → ℕ
pops funcs (Put slot) = 1
pops funcs Neg = 1
pops funcs Not = 1
pops funcs IsNull = 1
pops funcs (Bin o) = 2
pops funcs Shift = 2
pops funcs (JumpZero to) = 1
pops funcs (Load to base field) = 1
pops funcs (Store base field) = 2
pops funcs (Calloc to fields) = 1
pops funcs (Call to function) = params_of funcs function
pops funcs (Test to) = 1
pops funcs (Each slot step end) = 2
pops funcs Print = 1
pops funcs Return = 1
pops funcs _ = 0

-- how many it pushes
abbrev pub pushes : Op → ℕ
pushes (Num z) = 1
pushes (Get slot) = 1
pushes Neg = 1
pushes Not = 1
pushes IsNull = 1
pushes (Bin o) = 1
pushes Shift = 1
pushes _ = 0

-- how many are left behind an instruction; where it pops more than there are, a number below 0
abbrev pub left_by : List CFunc → Op → ℤ → ℤ
left_by funcs op depth = (depth -ℤ pos (pops funcs op)) +ℤ pos (pushes op)

-- whether the next instruction may follow
abbrev pub falls_through : Op → Bool
falls_through (Jump to) = false
falls_through (Fork end starts) = false
falls_through (Each slot step end) = false
falls_through Return = false
falls_through End = false
falls_through _ = true

-- where an instruction may jump
abbrev pub jump_of : Op → Option ℕ
jump_of (Jump to) = Some to
jump_of (JumpZero to) = Some to
jump_of (Test to) = Some to
jump_of _ = None

-- it jumps there
abbrev pub jumps_to : ℕ → Instr → Bool
jumps_to n i = option_map_or (λ to. to == n) (jump_of i.op) false

-- an instruction at which the stack is empty from the start: the first one, and the first of each region
abbrev pub is_opening : List Region → ℕ → Bool
is_opening regions n = n == 0 || list_any (λ (r : Region). r.first == n) regions

-- the instruction from which another one has its depth, if any, where this is the one in front of it: that one, or the first that
-- jumps there
abbrev pub source_behind : List Instr → ℕ → Option Instr → Option ℕ
source_behind instrs n None = None
source_behind instrs n (Some previous) = if falls_through previous.op then Some (n - 1) else position_from (jumps_to n) 0 instrs

-- the same of any instruction; one at which the stack is empty from the start needs none
abbrev pub source : List Instr → List Region → ℕ → Option ℕ
source instrs regions n = if is_opening regions n then None else source_behind instrs n (slice_get instrs (n - 1))

-- the number at a place of a list that may have none there
abbrev pub at : List (Option ℕ) → ℕ → Option ℕ
at list n = option_and_then (λ each. each) (slice_get list n)

-- going back from an instruction one comes to n, through no lesser one
abbrev pub leads_back : (steps : ℕ) → List (Option ℕ) → (n : ℕ) → Option ℕ → Bool
leads_back zero list n from = false
leads_back (suc steps) list n None = false
leads_back (suc steps) list n (Some m) = m == n || (nat_lt n m && leads_back steps list n (at list m))

-- no source of the least instruction of a circle counts
abbrev pub source_that_counts : List (Option ℕ) → ℕ → Option ℕ
source_that_counts list n = if leads_back (length list) list n (at list n) then None else at list n

-- the numbers of the instructions
abbrev pub numbers : List Instr → List ℕ
numbers instrs = range_with_len 0 (length instrs)

-- the sources of all instructions, with no circle among them
abbrev pub sources : List Instr → List (Option ℕ)
sources instrs =
    let all = map (source instrs (regions instrs)) (numbers instrs) in map (source_that_counts all) (numbers instrs)

-- what an instruction leaves that may be missing
abbrev pub left_behind : List CFunc → Option Instr → ℤ → ℤ
left_behind funcs None depth = depth
left_behind funcs (Some i) depth = left_by funcs i.op depth

-- the depth by the source; each comes from another instruction, and there are no more steps than instructions
abbrev pub depth_by : (steps : ℕ) → List CFunc → List Instr → (from : List (Option ℕ)) → Option ℕ → ℤ
depth_by zero funcs instrs from each = pos 0
depth_by (suc steps) funcs instrs from None = pos 0
depth_by (suc steps) funcs instrs from (Some m) =
    left_behind funcs (slice_get instrs m) (depth_by steps funcs instrs from (at from m))

-- the depth in front of each instruction
abbrev pub depths : List CFunc → List Instr → List ℤ
depths funcs instrs =
    let from = sources instrs in map (λ each. depth_by (length instrs) funcs instrs from each) from
