-- The tables of a program.
use Rattle.std.specs.Prelude.{◌≡◌, ℕ, suc, List, [], ◌∷◌, Option, slice_get, slice_index, slice_index_or}
use Rattle.lq_tree.specs.declared.plain.PProgram.{PProgram}
use Rattle.lq_tree.specs.declared.program.Param.{Param}
use Rattle.lq_templates.specs.declared.template.Template.{Template}
use Rattle.lq_templates.specs.Classes.{class_in}
use Rattle.lq_symbolic.specs.declared.state.FieldType.{FieldType}
use Rattle.lq_ground.specs.Ground.{classes_moved, is_pre, is_post}
use Rattle.lq_ground.specs.Noted.{noted, noted_in}
use Rattle.lq_ground.specs.Numbers.{first_where, count_effects}
use Rattle.lq_ground.specs.Scopes.{AreScopes}

-- the fields from this number on of a class
abbrev pub fields_in : PProgram → (classes : List (List ℕ)) → (class field : ℕ) → List Param → List FieldType
fields_in p classes class field [] = []
fields_in p classes class field (f ∷ later) =
    record { ctype = f.ctype; class = slice_index_or (classes_moved (class_in classes) class field 0 p.funcs) 0 0 }
    ∷ fields_in p classes class (suc field) later

-- these tables have what is looked up in it
pub record AreTables (p : PProgram) (classes : List (List ℕ)) (templates : List Template)
    (fields : List (List (Option ℕ))) (scopes : List ℕ) (pre post : List (Option ℕ)) (effects : List ℕ) : Type 0 where
  pub right_fields : (class field : ℕ) → noted_in fields class field ≡ slice_get (classes_moved (class_in classes) class field 0 p.funcs) 0
  pub right_scopes : AreScopes p.funcs scopes
  pub right_pre : (func : ℕ) → noted pre func ≡ first_where (is_pre func) 1 templates
  pub right_post : (func : ℕ) → noted post func ≡ first_where (is_post func) 1 templates
  pub right_effects : (scope : ℕ) → slice_index effects scope ≡ count_effects scope templates
