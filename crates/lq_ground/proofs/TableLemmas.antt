-- What is looked up in tables is what the definitions say.
use Rattle.std.proofs.Common.{◌≡◌, ℕ, suc, Bool, true, false, cond, List, [], ◌∷◌, ◌++◌, Option, None, Some, refl, ap, ap₂, ◌∙◌, slice_get}
use Rattle.std.specs.Prelude.{unwrap_or, slice_index_or}
use Rattle.std.proofs.lemmas.Option.{unwrap_or-slice_get}
use Rattle.lq_tree.specs.declared.plain.PProgram.{PProgram}
use Rattle.lq_tree.specs.declared.program.Param.{Param}
use Rattle.lq_linear.specs.Form.{Linear}
use Rattle.lq_templates.specs.declared.condition.Given.TheVariants.{Of}
use Rattle.lq_templates.specs.declared.template.Template.{Template}
use Rattle.lq_templates.specs.declared.template.TemplateKind.{TemplateKind}
use Rattle.lq_templates.specs.Accesses.{Access}
use Rattle.lq_templates.specs.Classes.{class_in}
use Rattle.lq_symbolic.specs.declared.state.FieldType.{FieldType}
use Rattle.lq_ground.specs.declared.ground.Ground.{Ground as Held}
use Rattle.lq_ground.specs.Fields.{field_types}
use Rattle.lq_ground.specs.Ground.{classes_moved, fields_from, rows_where}
use Rattle.lq_ground.specs.Noted.{first_of, noted_in, row_of}
use Rattle.lq_ground.specs.Numbers.{first_where, rows_of}
use Rattle.lq_ground.specs.Standing.{seen}
use Rattle.lq_ground.specs.Tables.{fields_in}

-- ---- the first of two

pub first-none : (o : Option ℕ) → first_of o None ≡ o
first-none None = refl
first-none (Some n) = refl

pub first_assoc : (a b c : Option ℕ) → first_of (first_of a b) c ≡ first_of a (first_of b c)
first_assoc None b c = refl
first_assoc (Some n) b c = refl

pub first-append : (xs ys : List ℕ) → slice_get (xs ++ ys) 0 ≡ first_of (slice_get xs 0) (slice_get ys 0)
first-append [] ys = refl
first-append (x ∷ xs) ys = refl

-- ---- fields

pub fields_noted : (p : PProgram) (classes : List (List ℕ)) (fields : List (List (Option ℕ))) (class field : ℕ) (params : List Param)
    → ((class field : ℕ) → noted_in fields class field ≡ slice_get (classes_moved (class_in classes) class field 0 p.funcs) 0)
    → field_types (row_of (slice_get fields class)) field params ≡ fields_in p classes class field params
fields_noted p classes fields class field [] right = refl
fields_noted p classes fields class field (f ∷ later) right =
    let moved = classes_moved (class_in classes) class field 0 p.funcs in
    ap₂ (λ n (rest : List FieldType). record { ctype = f.ctype; class = n } ∷ rest)
    (ap (λ o. unwrap_or o 0) (right class field) ∙ unwrap_or-slice_get moved 0 0) (fields_noted p classes fields class (suc field) later right)

pub fields_same : (by : ℕ → Access → Bool) (g : Held) (class field : ℕ) (params : List Param) → fields_in g.tables.now.program.now g.tables.now.classes.now class field params ≡ fields_from (seen by g) class field params
fields_same by g class field [] = refl
fields_same by g class field (f ∷ later) =
    ap (λ (rest : List FieldType). record { ctype = f.ctype; class = slice_index_or (classes_moved (class_in g.tables.now.classes.now) class field 0 g.tables.now.program.now.funcs) 0 0 } ∷ rest)
    (fields_same by g class (suc field) later)

-- ---- pre and post rows

pub rows_first : (test : TemplateKind → Bool) (number : ℕ) (templates : List Template) (values : List Linear) → rows_of (first_where test number templates) values ≡ rows_where test number templates values
rows_first test number [] values = refl
rows_first test number (t ∷ rest) values =
    elim (test t.kind) as (λ b. rows_of (cond b (Some number) (first_where test (suc number) rest)) values ≡ cond b (Of number values ∷ []) (rows_where test (suc number) rest values)) [
      | true ↦ refl
      | false ↦ rows_first test (suc number) rest values
    ]
