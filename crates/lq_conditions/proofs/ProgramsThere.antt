-- The conditions of functions and programs name templates that are there.
use Rattle.std.proofs.Common.{◌≡◌, ℕ, zero, suc, ◌+◌, ◌≤◌, Bool, true, false, List, [], ◌∷◌, ◌++◌, length, Option, None, Some, refl, arith, length-append}
use Rattle.std.specs.Prelude.{◌==◌, if◌then◌else◌, pos}
use Rattle.std.specs.List.{AllByRecursion}
use Rattle.lq_tree.specs.declared.expr.CType.{CType}
use Rattle.lq_tree.specs.declared.plain.PStmt.{PStmt}
use Rattle.lq_tree.specs.declared.plain.PFunc.{PFunc}
use Rattle.lq_tree.specs.declared.plain.PProgram.{PProgram}
use Rattle.lq_tree.specs.PlainWalk.{inside, statements}
use Rattle.lq_text.proofs.Lists.{all_left, all_right, all_joined}
use Rattle.lq_linear.specs.Collect.{constant, symbol}
use Rattle.lq_linear.specs.Sides.{equal}
use Rattle.lq_templates.specs.declared.condition.Given.TheVariants.{Of}
use Rattle.lq_templates.specs.declared.condition.Rule.TheVariants.{Input}
use Rattle.lq_templates.specs.declared.template.Template.{Template}
use Rattle.lq_templates.specs.Accesses.{Access}
use Rattle.lq_templates.specs.Classes.{ClassOf, variables, first_variables}
use Rattle.lq_templates.specs.Lives.{lives, all_live}
use Rattle.lq_templates.specs.Spots.{Walk, walked, walked_all, params_of, spots}
use Rattle.lq_templates.specs.Templates.{Env, record_templates, border_templates, effect_templates, spot_templates, function_templates, functions_templates, all_templates, count_scopes}
use Rattle.lq_symbolic.specs.declared.value.SymValue.TheVariants.{Int as OfInt, Ptr as OfPointer}
use Rattle.lq_symbolic.specs.declared.state.SymState.{SymState as State}
use Rattle.lq_symbolic.specs.State.{length_of, value_at, taken, next_block, not_below_zero}
use Rattle.lq_symbolic.specs.Value.{value}
use Rattle.lq_conditions.specs.There.{IsNumber, AreThere}
use Rattle.lq_ground.specs.Ground.{Ground, class_of_slot, put_slot, param_values, renewed, pre_rows, is_pre}
use Rattle.lq_conditions.specs.After.{after, after_all}
use Rattle.lq_conditions.specs.Asked.{if_lives, asked_result, asked, asked_all}
use Rattle.lq_conditions.specs.Conditions.{nothing_known, with_params, with_input, with_input_if_any, is_main, with_arguments, entered, before_body, asked_input, asked_entry, zero_of, given_at_end, asked_end, function_conditions, count_outside, functions_conditions, count_records, conditions}
use Rattle.lq_conditions.proofs.Numbers.{rows_there}
use Rattle.lq_conditions.proofs.FineStates.{taken_fine, items_fine, put_fine, rows_fine, value_fine}
use Rattle.lq_conditions.proofs.WalksOn.{Extends, itself, further, walked_on}
use Rattle.lq_conditions.proofs.FineStatements.{IsSorted, Own, Fine, All, Fits, fits_front, renewed_fine, in_scope_fine, after_fine}
use Rattle.lq_conditions.proofs.ConditionsThere.{ask_there, lives_there, result_there, asked_there}

-- a function's pointers have classes with templates: those through which it loads and stores, and the input of `main`
pub record FunctionIsSorted (count : ℕ) (class_of : ClassOf) (main number : ℕ) (f : PFunc) : Type 0 where
  pub body : AllByRecursion (λ (s : PStmt). IsSorted count (class_of number) s.kind) (statements f.body)
  pub input : (number == main) ≡ true → 1 ≤ f.params → IsNumber count (class_of number 0)

-- those of the functions from this number on
abbrev pub AreSorted : (count : ℕ) → ClassOf → (main number : ℕ) → List PFunc → Type 0
AreSorted count class_of main number [] = Unit {0}
AreSorted count class_of main number (f ∷ rest) = FunctionIsSorted count class_of main number f × AreSorted count class_of main (suc number) rest

walked_all_on : (body : List PStmt) (w : Walk) → Extends w.spots (walked_all body w).spots
walked_all_on [] w = itself w.spots
walked_all_on (s ∷ body) w = further w.spots (walked s.kind w).spots (walked_all body (walked s.kind w)).spots (walked_on s.kind w) (walked_all_on body (walked s.kind w))

module _ (g : Ground) where
  abbrev count : ℕ
  count = length g.templates

  -- ---- bodies

  here_fits : (s : PStmt) (body : List PStmt) (w : Walk) → Fits g (walked_all (s ∷ body) w).spots → Fits g (walked s.kind w).spots
  here_fits s body w fits = fits_front g (walked s.kind w).spots (walked_all body (walked s.kind w)).spots (walked_all_on body (walked s.kind w)) fits

  after_all_fine : (body : List PStmt) (w : Walk) (s : State) → AllByRecursion (Own g) (statements body) → Fits g (walked_all body w).spots → Fine g s → Fine g (after_all g body w s)
  after_all_fine [] w s all fits h = h
  after_all_fine (x ∷ body) w s all fits h =
      after_all_fine body (walked x.kind w) (after g x.kind w s) (all_right (Own g) (inside x.kind) (statements body) all.1) fits
      (after_fine g x.kind w s all.0 (all_left (Own g) (inside x.kind) (statements body) all.1) (here_fits x body w fits) h)

  asked_all_there : (body : List PStmt) (w : Walk) (s : State) → AllByRecursion (Own g) (statements body) → Fits g (walked_all body w).spots → Fine g s → All g (asked_all g body w s)
  asked_all_there [] w s all fits h = tt
  asked_all_there (x ∷ body) w s all fits h =
      let inner = all_left (Own g) (inside x.kind) (statements body) all.1 in
      let here = here_fits x body w fits in
      all_joined (AreThere count) (asked g x.at x.kind w s) _ (asked_there g x.at x.kind w s all.0 inner here h)
      (lives_there g (lives x.kind) (asked_all g body (walked x.kind w) (after g x.kind w s))
      (λ live. asked_all_there body (walked x.kind w) (after g x.kind w s) (all_right (Own g) (inside x.kind) (statements body) all.1) fits (after_fine g x.kind w s all.0 inner here h)))

  -- ---- entry and end

  nothing_fine : Fine g (nothing_known g)
  nothing_fine = record { items = tt; opened = tt }

  params_fine : (s : State) → Fine g s → Fine g (with_params g s)
  params_fine s h =
      let new = renewed g (params_of g.env.func) s in
      items_fine count (pre_rows g g.env.number (param_values g.env.func (value_at new))) new
      (rows_there (is_pre g.env.number) g.templates (param_values g.env.func (value_at new))) (renewed_fine g (params_of g.env.func) s h)

  input_fine : (s : State) → Fine g s → Fine g (with_input g s)
  input_fine s h =
      let p = next_block (constant (pos 0)) s in
      let n = symbol (s.next + 1) in
      let pointed = put_slot g 0 (OfPointer p) (taken 2 s) in
      rows_fine count (not_below_zero (length_of p) ∷ equal (length_of p) n) (put_slot g 1 (OfInt n) pointed)
      (put_fine count (class_of_slot g 1) 1 (OfInt n) pointed (put_fine count (class_of_slot g 0) 0 (OfPointer p) (taken 2 s) (taken_fine count 2 s h)))

  input_if_any_fine : (params : ℕ) (s : State) → Fine g s → Fine g (with_input_if_any g params s)
  input_if_any_fine zero s h = h
  input_if_any_fine (suc n) s h = input_fine s h

  arguments_fine : (test : Bool) → Fine g (if test then with_input_if_any g g.env.func.params (nothing_known g) else with_params g (nothing_known g))
  arguments_fine true = input_if_any_fine g.env.func.params (nothing_known g) nothing_fine
  arguments_fine false = params_fine (nothing_known g) nothing_fine

  entered_fine : Fine g (entered g)
  entered_fine = in_scope_fine g _ (with_arguments g) (arguments_fine (is_main g))

  input_there : (params : ℕ) (s : State) → (1 ≤ params → IsNumber count (class_of_slot g 0)) → Fine g s → All g (asked_input g params s)
  input_there zero s k h = tt
  input_there (suc n) s k h = ask_there g Input g.env.func.at s (Of (class_of_slot g 0) (symbol s.next ∷ []) ∷ []) h (k (omega arith), tt)

  entry_there : (test : Bool) (s : State) → (test ≡ true → 1 ≤ g.env.func.params → IsNumber count (class_of_slot g 0)) → Fine g s → All g (if test then asked_input g g.env.func.params s else [])
  entry_there true s k h = input_there g.env.func.params s (k refl) h
  entry_there false s k h = tt

  given_there : (result : Option CType) (s : State) → Fine g s → All g (asked_result g g.env.func.at s (given_at_end result s))
  given_there None s h = result_there g g.env.func.at s None h
  given_there (Some type) s h = result_there g g.env.func.at s (Some (value (zero_of type) s)) (value_fine count (zero_of type) s h)

  -- ---- a function

  pub function_there : FunctionIsSorted count g.env.class_of g.env.program.main g.env.number g.env.func → Fits g (spots g.env.func) → All g (function_conditions g)
  function_there sorted fits =
      let s = entered g in
      let w = before_body g in
      let body = g.env.func.body in
      let end = asked_end g (after_all g body w s) in
      all_joined (AreThere count) (asked_entry g s ++ asked_all g body w s) (if_lives (all_live body) end)
      (all_joined (AreThere count) (asked_entry g s) (asked_all g body w s)
      (entry_there (is_main g) s sorted.input entered_fine)
      (asked_all_there body w s sorted.body fits entered_fine))
      (lives_there g (all_live body) end (λ live. given_there g.env.func.result (after_all g body w s) (after_all_fine body w s sorted.body fits entered_fine)))

-- ---- a program

module _ (p : PProgram) (class_of : ClassOf) (by : ℕ → Access → Bool) where
  functions_there : (templates : List Template) (number scopes before : ℕ) (funcs : List PFunc) → AreSorted (length templates) class_of p.main number funcs
      → before + length (functions_templates p class_of by number scopes funcs) ≤ length templates
      → AllByRecursion (AreThere (length templates)) (functions_conditions p class_of by templates number scopes before funcs)
  functions_there templates number scopes before [] sorted h = tt
  functions_there templates number scopes before (f ∷ rest) sorted h =
      let env : Env = record { program = p; class_of = class_of; by = by; number = number; func = f } in
      let g : Ground = record { env = env; templates = templates; before = before + count_outside env scopes; scope = scopes } in
      let effects = effect_templates env scopes f.at (statements f.body) (params_of f) in
      let inner = spot_templates env (suc scopes) (spots f) in
      let later = functions_templates p class_of by (suc number) (suc (scopes + count_scopes (spots f))) rest in
      let whole : length (functions_templates p class_of by number scopes (f ∷ rest)) ≡ length (function_templates env scopes) + length later = length-append (function_templates env scopes) later in
      let parts : length (function_templates env scopes) ≡ length (border_templates env) + length (effects ++ inner) = length-append (border_templates env) (effects ++ inner) in
      let rest_parts : length (effects ++ inner) ≡ length effects + length inner = length-append effects inner in
      all_joined (AreThere (length templates)) (function_conditions g) _
      (function_there g sorted.0 (omega (arith, whole, parts, rest_parts, h)))
      (functions_there templates (suc number) (suc (scopes + count_scopes (spots f))) (before + length (function_templates env scopes)) rest sorted.1 (omega (arith, whole, h)))

  pub program_there : AreSorted (length (all_templates p class_of by)) class_of p.main 0 p.funcs → AllByRecursion (AreThere (length (all_templates p class_of by))) (conditions p class_of by).list
  program_there sorted =
      let records = record_templates p 1 (first_variables class_of 1 (variables 0 p.funcs)) in
      let inner = functions_templates p class_of by 0 0 p.funcs in
      functions_there (all_templates p class_of by) 0 0 (count_records p class_of) p.funcs sorted (omega (arith, length-append records inner))
