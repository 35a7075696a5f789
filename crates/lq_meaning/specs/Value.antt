-- What a value of the code says of the value of an expression.
use Rattle.std.specs.Prelude.{ℤ, Result, Ok, Err}
use Rattle.lq_tree.specs.declared.trap.TrapKind.{TrapKind}
use Rattle.lq_meaning.specs.Operators.{Computed, Computes, Fails}

-- a word, or a trap
abbrev pub says : Result ℤ TrapKind → Computed
says (Ok x) = Computes x
says (Err kind) = Fails kind
