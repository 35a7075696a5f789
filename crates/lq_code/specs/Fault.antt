-- What a fault of bytes says of them (docs/CODE.md, "Bytes" and "Valid code").
use Rattle.std.specs.Prelude.{ℕ, List, ⊤}
use Rattle.lq_code.specs.declared.code.Code.{Code}
use Rattle.lq_code.specs.declared.fault.CodeFault.{CodeFault}
use Rattle.lq_code.specs.declared.fault.CodeFault.TheVariants.{Bytes, Invalid, NoMemory}
use Rattle.lq_code.specs.Spelled.{Spells}
use Rattle.lq_code.specs.Wrong.{GoesWrong}
use Rattle.lq_code.specs.Valid.{IsFirstBroken}

-- the bytes spell code, whose first broken rule is there
pub record IsInvalid (bytes : List ℕ) (func instr : ℕ) : Type 0 where
  pub code : Code
  pub spelled : Spells bytes code
  pub first : IsFirstBroken code func instr

-- the fault is that of the bytes; want of memory says nothing of them
abbrev pub IsFaultOf : (bytes : List ℕ) → CodeFault → Type 0
IsFaultOf bytes (Bytes at) = GoesWrong bytes at
IsFaultOf bytes (Invalid func instr) = IsInvalid bytes func instr
IsFaultOf bytes NoMemory = ⊤
