-- Code that is put together from parts (docs/CODE.md, "Compiled code").
use Rattle.std.specs.Prelude.{ℕ, ◌+◌, List, [], ◌∷◌, ◌++◌, length}
use Rattle.lq_tree.specs.declared.place.Place.{Place}
use Rattle.lq_code.specs.declared.op.Op.{Op}
use Rattle.lq_code.specs.declared.op.Op.TheVariants.{Jump, JumpZero, Test}
use Rattle.lq_code.specs.declared.code.Instr.{Instr}

-- an instruction at the place of its statement
abbrev pub instr : Place → Op → Instr
instr at op = record { at = at; op = op }

-- a part of a function's code, by the number of its first instruction
abbrev pub Part : Type 0
Part = (from : ℕ) → List Instr

-- no instruction
abbrev pub nothing : Part
nothing from = []

-- one instruction
abbrev pub one : Place → Op → Part
one at op from = instr at op ∷ []

-- first the one part, and then the other
infixl 10 ◌followed_by◌
abbrev pub ◌followed_by◌ : Part → Part → Part
◌followed_by◌ first second from = let front = first from in front ++ second (from + length front)

-- the first part where the condition is true, and the second where it is 0
abbrev pub choice : Place → (condition first second : Part) → Part
choice at condition first second from =
    let tested = condition from in
    let body = first (from + length tested + 1) in
    let otherwise = from + length tested + 1 + length body + 1 in
    let other = second otherwise in
    tested ++ instr at (JumpZero otherwise) ∷ body ++ instr at (Jump (otherwise + length other)) ∷ other

-- the body again and again, until the condition is 0
abbrev pub repeated : Place → (condition body : Part) → Part
repeated at condition body from =
    let tested = condition from in
    let turn = body (from + length tested + 1) in
    tested ++ instr at (Test (from + length tested + 1 + length turn + 1)) ∷ turn ++ instr at (Jump from) ∷ []
