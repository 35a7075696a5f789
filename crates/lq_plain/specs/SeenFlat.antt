-- What expressions come to, as the code has it. An index that the code keeps is a value already.
use Rattle.std.specs.Prelude.{Bool, Some, List}
use Rattle.lq_tree.specs.declared.place.Place.{Place}
use Rattle.lq_tree.specs.declared.expr.Expr.{Expr}
use Rattle.lq_tree.specs.declared.plain.PExpr.{PExpr}
use Rattle.lq_tree.specs.declared.plain.PKind.{Call, Calloc}
use Rattle.lq_tree.specs.declared.program.Param.{Param}
use Rattle.lq_tree.specs.Types.{Number}
use Rattle.lq_plain.specs.declared.flat.Flat.{Flat as Known}
use Rattle.lq_plain.specs.declared.flat.Flat.TheVariants as known
use Rattle.lq_plain.specs.Flat.{Env, type_of, Made, Valued, valued, Flat, Is, Names, Gets, atom, flat, operand, flatten, Values, wanted, first_type}

-- what an expression comes to, behind what stands in front of it
abbrev pub flat_of : Known → Made → Flat
flat_of (known.Is v) m = Is (valued v m)
flat_of (known.Names base index field) m = Names base (Is (valued index m)) field
flat_of (known.Call number args) m = Gets (λ slot. Call (Some slot) number args) m
flat_of (known.Calloc count type) m = Gets (λ slot. Calloc slot count type) m

-- with its index as a value
abbrev pub settled : Place → Flat → Flat
settled at (Is v) = Is v
settled at (Names base index field) = Names base (Is (flat at Number index)) field
settled at (Gets kind m) = Gets kind m

-- an expression as an operand
abbrev pub operand_of : (pure : Bool) → Env → Place → Expr → Made → Valued
operand_of pure env at e m = operand pure at (type_of env e) (flatten env at e m)

-- an argument as an atom, as its parameter wants it
abbrev pub given_of : Env → Place → List Param → Expr → Made → Valued
given_of env at params e m = atom at (type_of env e) (wanted (first_type params) e (flatten env at e m) m)

-- values behind what stands in front of them
abbrev pub values_of : List PExpr → Made → Values
values_of values m = record { values = values; made = m }
