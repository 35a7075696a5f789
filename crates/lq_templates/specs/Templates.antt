-- The templates of a program in the order of their numbers (docs/CHECKING.md, "Templates").
use Rattle.std.specs.Prelude.{◌≡◌, ℕ, suc, ◌+◌, ◌==◌, Bool, if◌then◌else◌, List, [], ◌∷◌, ◌++◌, map, filter, Option, None, Some}
use Rattle.lq_tree.specs.declared.expr.CType.{CType}
use Rattle.lq_tree.specs.declared.place.Place.{Place}
use Rattle.lq_tree.specs.declared.plain.PStmt.{PStmt}
use Rattle.lq_tree.specs.declared.plain.PFunc.{PFunc}
use Rattle.lq_tree.specs.declared.plain.PProgram.{PProgram}
use Rattle.lq_tree.specs.PlainWalk.{statements}
use Rattle.lq_tree.specs.PlainScopes.{is_among}
use Rattle.lq_templates.specs.declared.template.Named.{Named}
use Rattle.lq_templates.specs.declared.template.ScopeRef.{ScopeRef}
use Rattle.lq_templates.specs.declared.template.TemplateKind.{TemplateKind}
use Rattle.lq_templates.specs.declared.template.TemplateKind.TheVariants.{Rec, Pre, Post, Join, Loop, Effect}
use Rattle.lq_templates.specs.declared.template.Template.{Template}
use Rattle.lq_templates.specs.Spots.{Spot, join, loop, inner_scope, params_of, spots}
use Rattle.lq_templates.specs.Classes.{ClassOf, Variable, variables, first_variables, fields_behind}
use Rattle.lq_templates.specs.Accesses.{Access, make, possible_accesses, AreAccesses}
use Rattle.lq_templates.specs.Names.{local_names, field_names, element, result_names}

-- a template
abbrev pub template : TemplateKind → List Named → Template
template kind names = record { kind = kind; names = names }

-- the record templates of the classes from this number on, whose first variables these are
abbrev pub record_templates : PProgram → (class : ℕ) → List Variable → List Template
record_templates p class [] = []
record_templates p class (v ∷ rest) = template (Rec class) (field_names (fields_behind p.structs v.type)) ∷ record_templates p (suc class) rest

-- the kind of the template of an access in a scope
abbrev pub effect_of : ScopeRef → Access → TemplateKind
effect_of scope a = Effect scope a.class a.field a.write

-- where the templates of a function are listed: its program, the classes, what functions access, its number and itself
pub record Env : Type 0 where
  pub program : PProgram
  pub class_of : ClassOf
  pub by : ℕ → Access → Bool
  pub number : ℕ
  pub func : PFunc

-- the accesses of a scope with these statements, in their order
abbrev pub scope_accesses : Env → List PStmt → List Access
scope_accesses env body = filter (λ a. make (env.class_of env.number) env.by a body) (possible_accesses env.program env.class_of)

-- the effect templates of a scope: one for each access
abbrev pub effect_templates : Env → (number : ℕ) → Place → List PStmt → (scope : List ℕ) → List Template
effect_templates env number at body scope =
    map (λ a. template (effect_of (record { scope = number; at = at }) a) (element ∷ local_names env.func.slots (is_among []) (is_among scope))) (scope_accesses env body)

-- the templates of spots, where so many scopes have come before
abbrev pub spot_templates : Env → (scopes : ℕ) → List Spot → List Template
spot_templates env scopes [] = []
spot_templates env scopes (join changed scope ∷ rest) = template Join (local_names env.func.slots (is_among changed) (is_among scope)) ∷ spot_templates env scopes rest
spot_templates env scopes (loop changed scope ∷ rest) = template Loop (local_names env.func.slots (is_among changed) (is_among scope)) ∷ spot_templates env scopes rest
spot_templates env scopes (inner_scope at body scope ∷ rest) = effect_templates env scopes at body scope ++ spot_templates env (suc scopes) rest

-- how many scopes there are among spots
abbrev pub count_scopes : List Spot → ℕ
count_scopes [] = 0
count_scopes (inner_scope at body scope ∷ rest) = suc (count_scopes rest)
count_scopes (_ ∷ rest) = count_scopes rest

-- the names of a function's parameters
abbrev pub param_names : PFunc → List Named
param_names f = local_names f.slots (is_among []) (is_among (params_of f))

-- the post template of a function that isn't void
abbrev pub post_template : Env → Option CType → List Template
post_template env None = []
post_template env (Some type) = template (Post env.number) (param_names env.func ++ result_names type) ∷ []

-- the pre and the post template of a function, which `main` has none of
abbrev pub border_templates : Env → List Template
border_templates env =
    if env.number == env.program.main
    then []
    else template (Pre env.number) (param_names env.func) ∷ post_template env env.func.result

-- the templates of a function, where so many scopes have come before: its body is a scope itself
abbrev pub function_templates : Env → (scopes : ℕ) → List Template
function_templates env scopes =
    border_templates env ++ (
    effect_templates env scopes env.func.at (statements env.func.body) (params_of env.func) ++
    spot_templates env (suc scopes) (spots env.func))

-- those of the functions from this number on
abbrev pub functions_templates : PProgram → ClassOf → (by : ℕ → Access → Bool) → (number scopes : ℕ) → List PFunc → List Template
functions_templates p class_of by number scopes [] = []
functions_templates p class_of by number scopes (f ∷ rest) =
    function_templates (record { program = p; class_of = class_of; by = by; number = number; func = f }) scopes ++
    functions_templates p class_of by (suc number) (suc (scopes + count_scopes (spots f))) rest

-- all templates of a program, where `by` has the accesses that its functions make: those of its classes, then those of its functions
abbrev pub all_templates : PProgram → ClassOf → (by : ℕ → Access → Bool) → List Template
all_templates p class_of by =
    record_templates p 1 (first_variables class_of 1 (variables 0 p.funcs)) ++ functions_templates p class_of by 0 0 p.funcs

-- these are the templates of a program with these classes
pub record AreTemplates (p : PProgram) (class_of : ClassOf) (templates : List Template) : Type 0 where
  pub by : ℕ → Access → Bool
  pub are_accesses : AreAccesses p class_of by
  pub listed : templates ≡ all_templates p class_of by
