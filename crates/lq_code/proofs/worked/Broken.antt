-- Codes that break a rule, and where: the first instruction at which one is broken.
use Rattle.std.proofs.Common.{refl}
use Rattle.std.specs.Prelude.{pos, List, [], ◌∷◌}
use Rattle.lq_code.specs.declared.op.Operator.TheVariants.{Add}
use Rattle.lq_code.specs.declared.op.Op.{Op}
use Rattle.lq_code.specs.declared.op.Op.TheVariants.{Num, Get, Put, Bin, Jump, JumpZero, Load, Test, Fork, Each, Print, Return, End}
use Rattle.lq_code.specs.declared.code.Instr.{Instr}
use Rattle.lq_code.specs.declared.code.Code.{Code}
use Rattle.lq_code.specs.Valid.{IsFirstBroken, IsValid}
use Rattle.lq_code.proofs.worked.CodeWords.{i, cfunc, code}

abbrev all_at_1 : List Op → List Instr
all_at_1 [] = []
all_at_1 (op ∷ rest) = i 1 1 op ∷ all_at_1 rest

-- one function with two slots and these instructions
abbrev only : List Op → Code
only ops = code (cfunc 1 1 0 2 (all_at_1 ops) ∷ []) 0

-- a jump to itself passes no test
jump-to-itself : IsFirstBroken (code (cfunc 1 1 0 0 (i 1 1 (Jump 0) ∷ []) ∷ []) 0) 0 0
jump-to-itself = refl

-- ---- what is named is there

no-main : IsFirstBroken (code [] 0) 0 0
no-main = refl

third-slot : IsFirstBroken (only (Num (pos 0) ∷ Put 2 ∷ Num (pos 0) ∷ Return ∷ [])) 0 1
third-slot = refl

more-parameters-than-slots : IsFirstBroken (code (cfunc 1 1 0 0 (all_at_1 (Num (pos 0) ∷ Return ∷ [])) ∷ cfunc 1 1 2 1 (all_at_1 (Num (pos 0) ∷ Return ∷ [])) ∷ []) 0) 1 0
more-parameters-than-slots = refl

field-16 : IsFirstBroken (only (Num (pos 0) ∷ Load 0 1 16 ∷ Num (pos 0) ∷ Return ∷ [])) 0 1
field-16 = refl

-- ---- targets

past-the-end : IsFirstBroken (only (Num (pos 0) ∷ JumpZero 4 ∷ Num (pos 0) ∷ Return ∷ [])) 0 1
past-the-end = refl

no-end : IsFirstBroken (only (Num (pos 0) ∷ Put 0 ∷ [])) 0 1
no-end = refl

no-instruction : IsFirstBroken (only []) 0 0
no-instruction = refl

-- ---- depths

empty-stack : IsFirstBroken (only (Num (pos 0) ∷ Bin Add ∷ Return ∷ [])) 0 1
empty-stack = refl

-- two ways to one instruction: with one word from the one before, and with none from the jump
uneven : IsFirstBroken (only (Num (pos 0) ∷ JumpZero 3 ∷ Num (pos 7) ∷ Return ∷ [])) 0 1
uneven = refl

-- ---- regions

-- one branch alone
one-branch : IsFirstBroken (only (Fork 2 (1 ∷ []) ∷ End ∷ Num (pos 0) ∷ Return ∷ [])) 0 0
one-branch = refl

-- the second branch doesn't end
unended : IsFirstBroken (only (Fork 4 (1 ∷ 2 ∷ []) ∷ End ∷ Num (pos 0) ∷ Put 0 ∷ Num (pos 0) ∷ Return ∷ [])) 0 0
unended = refl

-- a jump out of a branch
jump-out : IsFirstBroken (only (Fork 4 (1 ∷ 3 ∷ []) ∷ Jump 4 ∷ End ∷ End ∷ Num (pos 0) ∷ Return ∷ [])) 0 1
jump-out = refl

-- a print in an iteration
print-inside : IsFirstBroken (only (Num (pos 0) ∷ Num (pos 5) ∷ Each 0 1 6 ∷ Get 0 ∷ Print ∷ End ∷ Num (pos 0) ∷ Return ∷ [])) 0 4
print-inside = refl

-- an End outside
end-outside : IsFirstBroken (only (End ∷ [])) 0 0
end-outside = refl

-- ---- jumps back

-- a loop with its test
loop-valid : IsValid (only (Get 0 ∷ Test 3 ∷ Jump 0 ∷ Num (pos 0) ∷ Return ∷ []))
loop-valid = refl

-- a circle of instructions that nothing leads to
circle-valid : IsValid (only (Num (pos 0) ∷ Return ∷ Get 0 ∷ Test 5 ∷ Jump 2 ∷ Num (pos 0) ∷ Return ∷ []))
circle-valid = refl

-- a jump back that passes no test: only one that is led past
no-test : IsFirstBroken (only (Get 0 ∷ JumpZero 4 ∷ Get 0 ∷ Test 5 ∷ Jump 0 ∷ Num (pos 0) ∷ Return ∷ [])) 0 4
no-test = refl

-- a circle of instructions that leaves a word more: its least instruction counts as having none in front of it
uneven-circle : IsFirstBroken (only (Num (pos 0) ∷ Return ∷ Num (pos 0) ∷ Get 0 ∷ Test 6 ∷ Jump 2 ∷ Num (pos 0) ∷ Return ∷ [])) 0 5
uneven-circle = refl
