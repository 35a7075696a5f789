-- The fields of a class with the classes of the pointers in them, as a table has these.
use Rattle.std.specs.Prelude.{ℕ, suc, List, [], ◌∷◌, Option, unwrap_or}
use Rattle.lq_tree.specs.declared.expr.CType.{CType}
use Rattle.lq_tree.specs.declared.program.Param.{Param}
use Rattle.lq_symbolic.specs.declared.state.FieldType.{FieldType}
use Rattle.lq_ground.specs.Noted.{noted}

-- a field of this type
abbrev pub field_type : (row : List (Option ℕ)) → (field : ℕ) → CType → FieldType
field_type row field type = record { ctype = type; class = unwrap_or (noted row field) 0 }

-- the fields from this number on
abbrev pub field_types : (row : List (Option ℕ)) → (field : ℕ) → List Param → List FieldType
field_types row field [] = []
field_types row field (f ∷ later) = field_type row field f.ctype ∷ field_types row (suc field) later
