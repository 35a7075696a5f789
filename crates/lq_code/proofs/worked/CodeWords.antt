-- Short words for code.
use Rattle.std.specs.Prelude.{ℕ, List}
use Rattle.lq_meaning.proofs.worked.SourceWords.{at}
use Rattle.lq_code.specs.declared.op.Op.{Op}
use Rattle.lq_code.specs.declared.code.Instr.{Instr}
use Rattle.lq_code.specs.declared.code.CFunc.{CFunc}
use Rattle.lq_code.specs.declared.code.Code.{Code}
use Rattle.lq_code.specs.Parts.{instr}

abbrev pub i : (line col : ℕ) → Op → Instr
i line col op = instr (at line col) op

abbrev pub cfunc : (line col params slots : ℕ) → List Instr → CFunc
cfunc line col params slots instrs = record { at = at line col; params = params; slots = slots; instrs = instrs }

abbrev pub code : List CFunc → (main : ℕ) → Code
code funcs main = record { funcs = funcs; main = main }
