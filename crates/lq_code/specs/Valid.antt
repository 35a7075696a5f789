-- Valid code, and the first instruction that breaks a rule (docs/CODE.md, "Valid code").
use Rattle.std.specs.Prelude.{◌≡◌, ℕ, ◌+◌, ◌-◌, ℤ, pos, Bool, true, false, not, ◌&&◌, ◌||◌, ◌==◌, nat_lt, nat_le, int_le, if◌then◌else◌, List, [], ◌∷◌, ◌++◌, length, map, filter, Option, None, Some, slice_get, slice_index_or}
use Rattle.std.specs.Ordering.{int_eq}
use Rattle.std.specs.List.{list_all, list_any, flat_map, enumerate_from, range_with_len}
use Rattle.std.specs.Option.{option_map_or}
use Rattle.lq_code.specs.declared.op.Op.{Op}
use Rattle.lq_code.specs.declared.op.Op.TheVariants.{Get, Put, Jump, JumpZero, Load, Store, Calloc, Call, Test, Fork, Each, Print, Return, End}
use Rattle.lq_code.specs.declared.code.Instr.{Instr}
use Rattle.lq_code.specs.declared.code.CFunc.{CFunc}
use Rattle.lq_code.specs.declared.code.Code.{Code}
use Rattle.lq_code.specs.Regions.{Region, regions_of, regions, in_some, are_together, nest}
use Rattle.lq_code.specs.Depth.{pops, left_by, jump_of, depths}

-- what the rules look at: the functions, one of them, and of this one the regions and the depth in front of each instruction
pub record View : Type 0 where
  pub funcs : List CFunc
  pub func : CFunc
  pub regions : List Region
  pub depths : List ℤ

abbrev pub view : List CFunc → CFunc → View
view funcs f = record { funcs = funcs; func = f; regions = regions f.instrs; depths = depths funcs f.instrs }

-- ---- what is named is there

abbrev pub is_slot : View → ℕ → Bool
is_slot v slot = nat_lt slot v.func.slots

abbrev pub between : (least most n : ℕ) → Bool
between least most n = nat_le least n && nat_le n most

-- slots and functions are there; fields, branches and steps are within their limits
abbrev pub names_are_there : View → Op → Bool
names_are_there v (Get slot) = is_slot v slot
names_are_there v (Put slot) = is_slot v slot
names_are_there v (Load to base field) = (is_slot v to && is_slot v base) && nat_le field 15
names_are_there v (Store base field) = is_slot v base && nat_le field 15
names_are_there v (Calloc to fields) = is_slot v to && between 1 16 fields
names_are_there v (Call to function) = option_map_or (is_slot v) to true && nat_lt function (length v.funcs)
names_are_there v (Fork end starts) = between 2 16 (length starts)
names_are_there v (Each slot step end) = is_slot v slot && between 1 65536 step
names_are_there v _ = true

-- ---- targets

-- the instructions that an instruction names
abbrev pub targets : Op → List ℕ
targets (Jump to) = to ∷ []
targets (JumpZero to) = to ∷ []
targets (Test to) = to ∷ []
targets (Fork end starts) = end ∷ starts
targets (Each slot step end) = end ∷ []
targets _ = []

-- behind it nothing need follow
abbrev pub may_be_last : Op → Bool
may_be_last (Jump to) = true
may_be_last Return = true
may_be_last End = true
may_be_last _ = false

-- each target is an instruction of the function, and the last instruction leads nowhere else
abbrev pub targets_are_there : View → ℕ → Op → Bool
targets_are_there v n op =
    list_all (λ to. nat_lt to (length v.func.instrs)) (targets op)
    && (not (n + 1 == length v.func.instrs) || may_be_last op)

-- ---- depths

abbrev pub depth : View → ℕ → ℤ
depth v n = slice_index_or v.depths n (pos 0)

-- where a parallel statement goes on
abbrev pub end_of : Op → Option ℕ
end_of (Fork end starts) = Some end
end_of (Each slot step end) = Some end
end_of _ = None

-- some parallel statement goes on here
abbrev pub is_end : View → ℕ → Bool
is_end v n = list_any (λ (i : Instr). option_map_or (λ end. end == n) (end_of i.op) false) v.func.instrs

-- how many words are on the stack in front of these; an Each leaves it empty
abbrev pub has_its_depth : View → ℕ → Op → Bool
has_its_depth v n (Fork end starts) = int_eq (depth v n) (pos 0)
has_its_depth v n End = int_eq (depth v n) (pos 0)
has_its_depth v n (Each slot step end) = int_eq (depth v n) (pos 2)
has_its_depth v n _ = true

-- where a parallel statement goes on the stack is empty
abbrev pub is_empty_at_end : View → ℕ → Bool
is_empty_at_end v n = not (is_end v n) || int_eq (depth v n) (pos 0)

-- no more is popped than is there, no more than 1,024 words are left, and where it jumps as many are expected
abbrev pub depths_agree : View → ℕ → Op → Bool
depths_agree v n op =
    let behind = left_by v.funcs op (depth v n) in
    int_le (pos (pops v.funcs op)) (depth v n)
    && (int_le behind (pos 1024)
    && (option_map_or (λ to. int_eq behind (depth v to)) (jump_of op) true
    && (has_its_depth v n op && is_empty_at_end v n)))

-- ---- regions

abbrev pub is_op : (Op → Bool) → Option Instr → Bool
is_op test None = false
is_op test (Some i) = test i.op

abbrev pub is_end_op : Op → Bool
is_end_op End = true
is_end_op _ = false

-- the numbers ascend from one on
abbrev pub ascend : ℕ → List ℕ → Bool
ascend last [] = true
ascend last (n ∷ rest) = nat_lt last n && ascend n rest

-- the first start is the next instruction, and the others ascend
abbrev pub starts_ascend : ℕ → List ℕ → Bool
starts_ascend n [] = true
starts_ascend n (start ∷ rest) = start == n + 1 && ascend start rest

abbrev pub starts_in_order : ℕ → Op → Bool
starts_in_order n (Fork end starts) = starts_ascend n starts
starts_in_order n _ = true

-- a region has a last instruction, which is an End
abbrev pub ends_with_end : View → Region → Bool
ends_with_end v r = nat_lt r.first r.past && is_op is_end_op (slice_get v.func.instrs (r.past - 1))

-- a region ends with this instruction
abbrev pub ends_region : View → ℕ → Bool
ends_region v n = list_any (λ (r : Region). nat_le r.first n && r.past == n + 1) v.regions

-- an End is the last of a region, and no Print, Calloc or Return stands in one
abbrev pub stands_well : View → ℕ → Op → Bool
stands_well v n End = ends_region v n
stands_well v n Print = not (in_some v.regions n)
stands_well v n (Calloc to fields) = not (in_some v.regions n)
stands_well v n Return = not (in_some v.regions n)
stands_well v n _ = true

-- where an instruction may go on other than at the next one
abbrev pub goes_to : Op → Option ℕ
goes_to (Fork end starts) = Some end
goes_to (Each slot step end) = Some end
goes_to op = jump_of op

-- starts are in order, regions end with an End and nest, and nothing leads across an edge of a region
abbrev pub regions_are_right : View → ℕ → Op → Bool
regions_are_right v n op =
    starts_in_order n op
    && (list_all (λ r. ends_with_end v r && list_all (nest r) v.regions) (regions_of n op)
    && (stands_well v n op
    && option_map_or (are_together v.regions n) (goes_to op) true))

-- ---- jumps back

abbrev pub is_test : Op → Bool
is_test (Test to) = true
is_test _ = false

-- an instruction that jumps past the one with this number
abbrev pub jumps_past : ℕ → Op → Bool
jumps_past n op = option_map_or (nat_lt n) (jump_of op) false

-- so many instructions from one on
abbrev pub from_up_to : (first past : ℕ) → List ℕ
from_up_to first past = range_with_len first (past - first)

-- a jump back passes this test: it is one, stands in the jump's own regions, and no jump between leads past it
abbrev pub passes : View → (to n test : ℕ) → Bool
passes v to n test =
    is_op is_test (slice_get v.func.instrs test)
    && (are_together v.regions test n
    && list_all (λ m. not (is_op (jumps_past test) (slice_get v.func.instrs m))) (from_up_to to test))

-- a jump back passes some test between
abbrev pub jump_passes : View → (n to : ℕ) → Bool
jump_passes v n to = nat_lt n to || list_any (passes v to n) (from_up_to to n)

abbrev pub jumps_back_pass : View → ℕ → Op → Bool
jumps_back_pass v n op = option_map_or (jump_passes v n) (jump_of op) true

-- ---- all rules

-- an instruction keeps all rules
abbrev pub keeps_rules : View → ℕ × Instr → Bool
keeps_rules v i =
    names_are_there v i.1.op
    && (targets_are_there v i.0 i.1.op
    && (depths_agree v i.0 i.1.op
    && (regions_are_right v i.0 i.1.op
    && jumps_back_pass v i.0 i.1.op)))

-- an instruction by the number of its function and its own
abbrev pub Spot : Type 0
Spot = ℕ × ℕ

-- the first instruction of a function, where something is wrong with the function itself
abbrev pub unless : Bool → (function : ℕ) → List Spot
unless fine function = if fine then [] else (function, 0) ∷ []

-- a function has an instruction, and no more parameters than slots
abbrev pub is_func : CFunc → Bool
is_func f = nat_le f.params f.slots && nat_lt 0 (length f.instrs)

-- where a function breaks a rule, in order
abbrev pub broken_in : List CFunc → ℕ × CFunc → List Spot
broken_in funcs f =
    let v = view funcs f.1 in
    unless (is_func f.1) f.0
    ++ map (λ (i : ℕ × Instr). (f.0, i.0)) (filter (λ i. not (keeps_rules v i)) (enumerate_from 0 f.1.instrs))

-- where code breaks a rule, in order; a `main` that isn't there counts for function 0
abbrev pub broken : Code → List Spot
broken code =
    unless (nat_lt code.main (length code.funcs)) 0 ++ flat_map (broken_in code.funcs) (enumerate_from 0 code.funcs)

-- no instruction breaks a rule
abbrev pub IsValid : Code → Type 0
IsValid code = broken code ≡ []

-- the first instruction that breaks a rule
abbrev pub IsFirstBroken : Code → (func instr : ℕ) → Type 0
IsFirstBroken code func instr = slice_get (broken code) 0 ≡ Some (func, instr)
