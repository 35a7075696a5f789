-- What is in scope where (docs/LANGUAGE.md, "Scope").
use Rattle.std.specs.Prelude.{ℕ, Bool, true, length, List, [], ◌∷◌, ◌++◌, Option}
use Rattle.lq_tree.specs.declared.expr.CType.{CType}
use Rattle.lq_tree.specs.declared.program.Program.{Program}
pub use Rattle.lq_tree.specs.Types.{same, Ty, Number, Pointer, Element, Whole, Nothing, Unknown, declared_as, declared, Variable, or_later, type_in, is_in_scope, struct_of, function_of, field_among, field_of}

-- where a statement or an expression stands
pub record Site : Type 0 where
  -- the whole source
  pub program : Program
  -- the functions that may print
  pub prints : List ℕ → Bool
  -- the functions that may allocate
  pub allocates : List ℕ → Bool
  -- what its function returns; None is `void`
  pub returns : Option CType
  -- the variables in scope, in the order of their declarations
  pub scope : List Variable
  -- how many of them are declared outside the innermost parallel statement
  pub outside : ℕ
  -- it stands in a parallel statement
  pub parallel : Bool

-- the site behind a declaration
abbrev pub declare : Site → List ℕ → Ty → Site
declare s name type = record s { scope = s.scope ++ (record { name = name; type = type } ∷ []) }

-- the site in a parallel statement that stands at this one: all in scope is declared outside it
abbrev pub in_parallel : Site → Site
in_parallel s = record s { outside = length s.scope; parallel = true }
