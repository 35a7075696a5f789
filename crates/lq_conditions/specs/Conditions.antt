-- The conditions of functions and programs, in the order of their numbers (docs/CHECKING.md, "Conditions" and "Statements").
use Rattle.std.specs.Prelude.{ℕ, zero, suc, ◌+◌, ◌==◌, Bool, if◌then◌else◌, List, [], ◌∷◌, ◌++◌, length, replicate, Option, None, Some, pos}
use Rattle.std.specs.List.{AllByRecursion}
use Rattle.lq_tree.specs.declared.expr.CType.{CType}
use Rattle.lq_tree.specs.declared.plain.PExpr.{PExpr, Num, Null}
use Rattle.lq_tree.specs.declared.plain.PFunc.{PFunc}
use Rattle.lq_tree.specs.declared.plain.PProgram.{PProgram}
use Rattle.lq_tree.specs.PlainWalk.{statements}
use Rattle.lq_linear.specs.Collect.{constant, symbol}
use Rattle.lq_linear.specs.Sides.{equal}
use Rattle.lq_templates.specs.declared.condition.Given.TheVariants.{Of}
use Rattle.lq_templates.specs.declared.condition.Rule.TheVariants.{Input}
use Rattle.lq_templates.specs.declared.condition.Condition.{Condition}
use Rattle.lq_templates.specs.declared.condition.Conditions.{Conditions}
use Rattle.lq_templates.specs.declared.condition.Assign.{Assign}
use Rattle.lq_templates.specs.declared.template.Template.{Template}
use Rattle.lq_templates.specs.Accesses.{Access}
use Rattle.lq_templates.specs.Classes.{ClassOf, variables, first_variables}
use Rattle.lq_templates.specs.Lives.{all_live}
use Rattle.lq_templates.specs.Spots.{Walk, params_of, spots}
use Rattle.lq_templates.specs.Templates.{Env, record_templates, border_templates, effect_templates, function_templates, all_templates, count_scopes}
use Rattle.lq_templates.specs.Conditions.{IsMet, IsValid}
use Rattle.lq_symbolic.specs.declared.value.SymValue.TheVariants.{Int as OfInt, Ptr as OfPointer}
use Rattle.lq_symbolic.specs.declared.state.SymState.{SymState as State}
use Rattle.lq_symbolic.specs.State.{length_of, Valued, value_at, with_items, with_rows, taken, next_block, not_below_zero}
use Rattle.lq_symbolic.specs.Value.{value}
use Rattle.lq_ground.specs.Ground.{Ground, slots_of, class_of_slot, put_slot, param_values, renewed, in_scope, pre_rows}
use Rattle.lq_conditions.specs.After.{after_all}
use Rattle.lq_conditions.specs.Asked.{ask, if_lives, asked_result, asked_all}

-- ---- the entry of a function

-- nothing is known yet
abbrev pub nothing_known : Ground → State
nothing_known g = record { slots = replicate (length (slots_of g)) (OfInt (constant (pos 0))); items = []; opened = []; scopes = []; next = 0 }

-- the parameters are new, and the pre rows on them are known
abbrev pub with_params : Ground → State → State
with_params g s =
    let new = renewed g (params_of g.env.func) s in
    with_items (pre_rows g g.env.number (param_values g.env.func (value_at new))) new

-- the input: a new block with offset 0, a new count, and the rows `len >= 0`, `len <= n`, `n <= len`
abbrev pub with_input : Ground → State → State
with_input g s =
    let p = next_block (constant (pos 0)) s in
    let n = symbol (s.next + 1) in
    with_rows (not_below_zero (length_of p) ∷ equal (length_of p) n) (put_slot g 1 (OfInt n) (put_slot g 0 (OfPointer p) (taken 2 s)))

-- `main` may be without parameters
abbrev pub with_input_if_any : Ground → (params : ℕ) → State → State
with_input_if_any g zero s = s
with_input_if_any g (suc n) s = with_input g s

-- it is `main`
abbrev pub is_main : Ground → Bool
is_main g = g.env.number == g.env.program.main

-- the parameters have their values
abbrev pub with_arguments : Ground → State
with_arguments g = if is_main g then with_input_if_any g g.env.func.params (nothing_known g) else with_params g (nothing_known g)

-- the state at the entry, in the function's scope
abbrev pub entered : Ground → State
entered g = let s = with_arguments g in in_scope (record { scope = g.scope; values = param_values g.env.func (value_at s) }) s

-- the walk stands in front of the body
abbrev pub before_body : Ground → Walk
before_body g = let params = params_of g.env.func in record { assigned = params; scope = params; spots = [] }

-- ---- the conditions of a function

-- the words of the input, if there is one, meet the record template of the class of its pointer
abbrev pub asked_input : Ground → (params : ℕ) → State → List Condition
asked_input g zero s = []
asked_input g (suc n) s = ask Input g.env.func.at s (Of (class_of_slot g 0) (symbol s.next ∷ []) ∷ [])

-- at the entry of a function
abbrev pub asked_entry : Ground → State → List Condition
asked_entry g s = if is_main g then asked_input g g.env.func.params s else []

-- a function whose end is reached gives 0 or null
abbrev pub zero_of : CType → PExpr
zero_of type = if type.stars == 0 then Num (pos 0) else Null

-- what a function gives whose end is reached, unless it is void
abbrev pub given_at_end : Option CType → State → Option Valued
given_at_end None s = None
given_at_end (Some type) s = Some (value (zero_of type) s)

-- at the end of a function
abbrev pub asked_end : Ground → State → List Condition
asked_end g s = asked_result g g.env.func.at s (given_at_end g.env.func.result s)

-- the conditions of a function: at its entry, of its body, and at its end, if that is reached
abbrev pub function_conditions : Ground → List Condition
function_conditions g =
    let s = entered g in
    let w = before_body g in
    let body = g.env.func.body in
    asked_entry g s ++ asked_all g body w s ++ if_lives (all_live body) (asked_end g (after_all g body w s))

-- ---- the conditions of a program

-- how many templates of a function come before those inside its text
abbrev pub count_outside : Env → (scopes : ℕ) → ℕ
count_outside env scopes =
    length (border_templates env) + length (effect_templates env scopes env.func.at (statements env.func.body) (params_of env.func))

-- the conditions of the functions from this number on, before which so many scopes and templates come
abbrev pub functions_conditions :
    PProgram → ClassOf → (by : ℕ → Access → Bool) → List Template → (number scopes before : ℕ) → List PFunc → List Condition
functions_conditions p class_of by templates number scopes before [] = []
functions_conditions p class_of by templates number scopes before (f ∷ rest) =
    let env : Env = record { program = p; class_of = class_of; by = by; number = number; func = f } in
    function_conditions (record { env = env; templates = templates; before = before + count_outside env scopes; scope = scopes })
    ++ functions_conditions p class_of by templates (suc number) (suc (scopes + count_scopes (spots f)))
    (before + length (function_templates env scopes)) rest

-- how many record templates there are
abbrev pub count_records : PProgram → ClassOf → ℕ
count_records p class_of = length (record_templates p 1 (first_variables class_of 1 (variables 0 p.funcs)))

-- the conditions of a program with these classes, where `by` has the accesses that its functions make
abbrev pub conditions : PProgram → ClassOf → (by : ℕ → Access → Bool) → Conditions
conditions p class_of by =
    let templates = all_templates p class_of by in
    record { templates = templates; list = functions_conditions p class_of by templates 0 0 (count_records p class_of) p.funcs }

-- ---- good and valid

-- an assignment is good: each goal of each condition is derived
abbrev pub IsGoodFor : (multipliers : List ℕ) → Assign → List Condition → Type 0
IsGoodFor multipliers assign list = AllByRecursion (IsMet multipliers assign) list

-- an assignment is valid: wherever the facts of a condition are met its goals are
abbrev pub IsValidFor : Assign → List Condition → Type 0
IsValidFor assign list = AllByRecursion (IsValid assign) list
