-- The bytes of code (docs/CODE.md, "Bytes").
use Rattle.std.specs.Prelude.{◌≡◌, ℕ, ◌-◌, ◌/◌, ◌%◌, ◌^◌, ℤ, List, [], ◌∷◌, ◌++◌, length, map, Option, None, Some, codes}
use Rattle.std.specs.List.{flat_map, concat}
use Rattle.std.specs.Int.{w64, to_be_bytes, cast_unsigned}
use Rattle.lq_tree.specs.declared.place.Place.{Place}
use Rattle.lq_code.specs.declared.op.Operator.{Operator}
use Rattle.lq_code.specs.declared.op.Operator.TheVariants.{Mul, Div, Rem, Add, Sub, Lt, Le, Gt, Ge, Eq, Ne}
use Rattle.lq_code.specs.declared.op.Op.{Op}
use Rattle.lq_code.specs.declared.op.Op.TheVariants.{Num, Get, Put, Neg, Not, IsNull, Bin, Shift, Jump, JumpZero, Load, Store, Calloc, Call, Test, Fork, Each, Print, Return, End}
use Rattle.lq_code.specs.declared.code.Instr.{Instr}
use Rattle.lq_code.specs.declared.code.CFunc.{CFunc}
use Rattle.lq_code.specs.declared.code.Code.{Code}

-- a field is some bytes
abbrev pub Field : Type 0
Field = List ℕ

-- one byte
abbrev pub byte : ℕ → Field
byte n = n ∷ []

-- a number in four bytes, the highest first; the first one of a number past 2^32 - 1 would be no byte, so that has no field
abbrev pub number : ℕ → Field
number n = n / 2 ^ 24 ∷ n / 2 ^ 16 % 256 ∷ n / 2 ^ 8 % 256 ∷ n % 256 ∷ []

-- a word in eight bytes, the highest first, in two's complement
abbrev pub word : ℤ → Field
word z = to_be_bytes w64 (cast_unsigned w64 z)

-- the number of an operator
abbrev pub operator_number : Operator → ℕ
operator_number Mul = 0
operator_number Div = 1
operator_number Rem = 2
operator_number Add = 3
operator_number Sub = 4
operator_number Lt = 5
operator_number Le = 6
operator_number Gt = 7
operator_number Ge = 8
operator_number Eq = 9
operator_number Ne = 10

-- the slot that gets what a call gives; none is the greatest number
abbrev pub slot_or_none : Option ℕ → Field
slot_or_none None = number (2 ^ 32 - 1)
slot_or_none (Some slot) = number slot

-- the byte of an instruction, and its operands
abbrev pub op_fields : Op → List Field
op_fields (Num z) = byte 1 ∷ word z ∷ []
op_fields (Get slot) = byte 2 ∷ number slot ∷ []
op_fields (Put slot) = byte 3 ∷ number slot ∷ []
op_fields Neg = byte 4 ∷ []
op_fields Not = byte 5 ∷ []
op_fields IsNull = byte 6 ∷ []
op_fields (Bin o) = byte 7 ∷ byte (operator_number o) ∷ []
op_fields Shift = byte 8 ∷ []
op_fields (Jump to) = byte 9 ∷ number to ∷ []
op_fields (JumpZero to) = byte 10 ∷ number to ∷ []
op_fields (Load to base field) = byte 11 ∷ number to ∷ number base ∷ number field ∷ []
op_fields (Store base field) = byte 12 ∷ number base ∷ number field ∷ []
op_fields (Calloc to fields) = byte 13 ∷ number to ∷ number fields ∷ []
op_fields (Call to function) = byte 14 ∷ slot_or_none to ∷ number function ∷ []
op_fields (Test to) = byte 15 ∷ number to ∷ []
op_fields (Fork end starts) = byte 16 ∷ number (length starts) ∷ number end ∷ map number starts
op_fields (Each slot step end) = byte 17 ∷ number slot ∷ number step ∷ number end ∷ []
op_fields Print = byte 18 ∷ []
op_fields Return = byte 19 ∷ []
op_fields End = byte 20 ∷ []

-- a line and a column
abbrev pub place_fields : Place → List Field
place_fields at = number at.line ∷ number at.col ∷ []

abbrev pub instr_fields : Instr → List Field
instr_fields i = place_fields i.at ++ op_fields i.op

abbrev pub func_fields : CFunc → List Field
func_fields f = place_fields f.at ++ number f.params ∷ number f.slots ∷ number (length f.instrs) ∷ flat_map instr_fields f.instrs

-- the fields of code, one behind the other
abbrev pub fields : Code → List Field
fields code = codes "LQC1" ∷ number (length code.funcs) ∷ number code.main ∷ flat_map func_fields code.funcs

-- the bytes are those of the code
abbrev pub Spells : (bytes : List ℕ) → Code → Type 0
Spells bytes code = bytes ≡ concat (fields code)
