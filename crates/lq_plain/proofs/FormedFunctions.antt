-- The plain form of a function of a source that breaks no name rule and keeps its counts is formed, but for its scopes and its weight.
use Rattle.std.proofs.Common.{◌≡◌, ℕ, suc, ◌+◌, ◌≤◌, Bool, true, false, not, ◌&&◌, List, [], ◌∷◌, length, map, Option, None, Some, refl, ap, sym, ◌∙◌, inl, inr, subst, arith}
use denote.Hole.Carrier
use Rattle.std.specs.List.{list_any, list_all, slice_get}
use Rattle.std.proofs.lemmas.Bool.{cases_Bool, and_from, and_parts, or_from, not-true, not_from_false}
use Rattle.lq_tree.specs.declared.expr.CType.{CType}
use Rattle.lq_tree.specs.declared.plain.PFunc.{PFunc}
use Rattle.lq_tree.specs.declared.plain.PStmt.{PStmt}
use Rattle.lq_tree.specs.declared.plain.Slot.{Slot}
use Rattle.lq_tree.specs.declared.program.Func.{Func}
use Rattle.lq_tree.specs.declared.program.Param.{Param}
use Rattle.lq_tree.specs.declared.program.Program.{Program}
use Rattle.lq_tree.specs.declared.stmt.StmtKind.{StmtKind, out-StmtKind, Block', Cobegin'}
use Rattle.lq_tree.specs.Formed.{is_result}
use Rattle.lq_tree.specs.Locals.{Local, variables_of}
use Rattle.lq_tree.specs.Lookup.{function_of, number_of}
use Rattle.lq_tree.specs.PlainShape.{is_shaped, is_loud, keeps_quiet}
use Rattle.lq_tree.specs.PlainTypes.{is_value, is_slot_type, type_at, is_typed}
use Rattle.lq_tree.specs.PlainWalk.{statements as plain_statements}
use Rattle.lq_tree.specs.Types.{Variable, declared}
use Rattle.lq_tree.specs.Walk.{statements}
use Rattle.lq_names.specs.declared.effects.Effect.{Effect}
use Rattle.lq_names.specs.declared.effects.Effect.TheVariants.{Prints, Allocates}
use Rattle.lq_names.specs.Calls.{IsLeast, function_does, kind_does, placed_does}
use Rattle.lq_names.specs.Headers.{body_site, parameter}
use Rattle.lq_names.specs.Scopes.{Site}
use Rattle.lq_names.specs.Sites.{sites_list}
use Rattle.lq_names.proofs.SiteWalk.{walked_list}
use Rattle.lq_plain.specs.Plain.{fresh, param_slot, scope_from, plain_func, plain_program}
use Rattle.lq_plain.proofs.KeptFunctions.{params_variables}
use Rattle.lq_plain.proofs.Growing.{Extends, extends_same, all_grows}
use Rattle.lq_plain.proofs.WellMade.{AllGood}
use Rattle.lq_plain.proofs.FitStatements.{AllFit, all_fit}
use Rattle.lq_plain.proofs.FitTypes.{function_at, AreHeld}
use Rattle.lq_plain.proofs.FitPlain.{AreShaped, all_fits}
use Rattle.lq_plain.proofs.FitHeads.{AreGiven, IsResultGiven, given_slot, given_known, own_function, FunctionFit, HeadsFit, program_facts}
use Rattle.lq_plain.proofs.FitCounts.{FunctionWithin}

-- ---- quiet functions

module _ (p : Program) (prints allocates : List ℕ → Bool) where
  abbrev quiet_one : Option Func → Bool
  quiet_one None = false
  quiet_one (Some f) = not (prints f.name) && not (allocates f.name)

  -- the function of this number may neither print nor allocate
  abbrev pub is_quiet : ℕ → Bool
  is_quiet number = quiet_one (slice_get p.funcs number)

  pub quiet_named : (name : List ℕ) (g : Func) → function_of p.funcs name ≡ Some g → prints name ≡ false → allocates name ≡ false → is_quiet (number_of p.funcs name) ≡ true
  quiet_named name g is h k =
      let at = function_at p.funcs name g is in
      ap quiet_one at.0 ∙ and_from _ _ (not_from_false _ (ap prints at.1 ∙ h)) (not_from_false _ (ap allocates at.1 ∙ k))

-- ---- what a silent function does

-- a block or a `cobegin`
abbrev holds : StmtKind → Bool
holds (Block' n body) = true
holds (Cobegin' n blocks) = true
holds _ = false

does_nothing : (effect : Effect) (set : List ℕ → Bool) (kind : StmtKind) → holds kind ≡ true → kind_does effect set kind ≡ false
unfolding out-StmtKind denote.Hole.Carrier.out
does_nothing effect set (Block' n body) e = refl
does_nothing effect set (Cobegin' n blocks) e = refl
does_nothing effect set _ e = absurd cc

-- a function outside the least set has no statement that does this
still_at : (p : Program) (effect : Effect) (set : List ℕ → Bool) (f : Func) → IsLeast p effect set → function_of p.funcs f.name ≡ Some f → set f.name ≡ false → (s : Site) → list_any (placed_does effect set) (sites_list s f.body) ≡ false
still_at p effect set f least is outside s =
    walked_list (kind_does effect set) (does_nothing effect set) f.body s
    ∙ elim (cases_Bool (function_does effect set (Some f))) [
      | inl does ↦ let member : set f.name ≡ true = least.closed f.name (ap (function_does effect set) is ∙ does) in absurd cc
      | inr doesnt ↦ doesnt
    ]

-- ---- parameters

-- parameters hold the slots from this one on
held_from : (p : Program) (slots : List Slot) (n : ℕ) (params : List Param) (scope : List (Local ℕ)) → AreGiven p params
    → ((k : ℕ) (s : Slot) → slice_get (map param_slot params) k ≡ Some s → slice_get slots (n + k) ≡ Some s) → AreHeld p slots scope → AreHeld p slots (scope_from n params scope)
held_from p slots n [] scope given there held = held
held_from p slots n (q ∷ params) scope given there held =
    let first : n + 0 ≡ n = omega arith in
    let here : slice_get slots n ≡ Some (param_slot q) = ap (slice_get slots) (sym first) ∙ there 0 (param_slot q) refl in
    held_from p slots (suc n) params (record { name = q.name; type = declared q.ctype; what = n } ∷ scope) given.1
    (λ k s is. let more : suc n + k ≡ n + suc k = omega arith in ap (slice_get slots) more ∙ there (suc k) s is)
    (record { typed = ap type_at here; known = given_known p q.ctype given.0; worthy = (given.0).worthy }, held)

slots_given : (p : Program) (params : List Param) → AreGiven p params → list_all (λ (s : Slot). is_slot_type p.structs s.ctype) (map param_slot params) ≡ true
slots_given p [] given = refl
slots_given p (q ∷ params) given = and_from _ _ (given_slot p q.ctype given.0) (slots_given p params given.1)

result_given : (p : Program) (result : Option CType) → IsResultGiven p result → is_result p.structs result ≡ true
result_given p None given = refl
result_given p (Some type) given = given_slot p type given

result_worthy : (p : Program) (result : Option CType) → IsResultGiven p result → (type : CType) → result ≡ Some type → is_value (declared type) ≡ true
result_worthy p None given type is = absurd cc
result_worthy p (Some t) given type is = ap (λ (u : CType). is_value (declared u)) (sym (the_same is)) ∙ given.worthy where
  the_same : Some t ≡ Some type → t ≡ type
  the_same is = cc

-- as many slots as there are parameters, and more
as_many : (params : List Param) (slots : List Slot) → Extends (map param_slot params) slots → length params ≤ length slots
as_many [] slots extends = omega arith
as_many (q ∷ params) [] extends = let is = extends.there 0 (param_slot q) refl in absurd cc
as_many (q ∷ params) (s ∷ slots) extends =
    let rest : length params ≤ length slots = as_many params slots (record { there = λ n t is. extends.there (suc n) t is }) in
    omega arith

-- ---- functions

-- what a formed function has, but for its scopes and its weight
pub record IsFormedPart (p : Program) (quiet : ℕ → Bool) (number : ℕ) (f : PFunc) : Type 0 where
  pub params : f.params ≤ length f.slots
  pub few : f.params ≤ 32
  pub slots : list_all (λ (s : Slot). is_slot_type p.structs s.ctype) f.slots ≡ true
  pub result : is_result p.structs f.result ≡ true
  pub typed : list_all (λ (s : PStmt). is_typed (plain_program p) f s.kind) (plain_statements f.body) ≡ true
  pub shaped : list_all (λ (s : PStmt). is_shaped s.kind) (plain_statements f.body) ≡ true
  pub silent : quiet number ≡ true → not (list_any (λ (s : PStmt). is_loud quiet s.kind) (plain_statements f.body)) ≡ true
  pub parallel : list_all (λ (s : PStmt). keeps_quiet quiet s.kind) (plain_statements f.body) ≡ true

module _ (p : Program) (f : PFunc) (quiet : ℕ → Bool) (hush : Bool) where
  abbrev AreGood : List PStmt → Type 0
  AreGood ss = AllGood (plain_program p) f quiet hush false ss

  all_typed : (ss : List PStmt) → AreGood ss → list_all (λ (s : PStmt). is_typed (plain_program p) f s.kind) ss ≡ true
  all_typed [] good = refl
  all_typed (s ∷ ss) good = and_from _ _ (good.0).typed (all_typed ss good.1)

  all_shaped : (ss : List PStmt) → AreGood ss → list_all (λ (s : PStmt). is_shaped s.kind) ss ≡ true
  all_shaped [] good = refl
  all_shaped (s ∷ ss) good = and_from _ _ (good.0).shaped (all_shaped ss good.1)

  all_keep : (ss : List PStmt) → AreGood ss → list_all (λ (s : PStmt). keeps_quiet quiet s.kind) ss ≡ true
  all_keep [] good = refl
  all_keep (s ∷ ss) good = and_from _ _ (good.0).keeps (all_keep ss good.1)

  none_loud : (ss : List PStmt) → hush ≡ true → AreGood ss → list_any (λ (s : PStmt). is_loud quiet s.kind) ss ≡ false
  none_loud [] is good = refl
  none_loud (s ∷ ss) is good = or_from _ _ ((good.0).silent is) (none_loud ss is good.1)

module _ (p : Program) (prints allocates : List ℕ → Bool) (may_print : IsLeast p Prints prints) (may_allocate : IsLeast p Allocates allocates) (heads : HeadsFit p prints allocates) where
  pub function_formed : (number : ℕ) (f : Func) → slice_get p.funcs number ≡ Some f → FunctionFit p prints allocates f → FunctionWithin f → AreShaped (statements f.body)
      → IsFormedPart p (is_quiet p prints allocates) number (plain_func p f)
  function_formed number f there fit within shaped =
      let quiet = is_quiet p prints allocates in
      let g = plain_func p f in
      let silent = quiet number in
      let scope = scope_from 0 f.params [] in
      let m = fresh (map param_slot f.params) in
      let is = own_function p.funcs number f heads.func_names there in
      let grows : Extends m.slots g.slots = all_grows _ f.body m in
      let held : AreHeld p g.slots scope = held_from p g.slots 0 f.params [] fit.params (λ k s at. let none : 0 + k ≡ k = omega arith in ap (slice_get g.slots) none ∙ grows.there k s at) tt in
      let quiet_parts : silent ≡ true → (prints f.name ≡ false) × (allocates f.name ≡ false) = λ h.
      let parts = and_parts (not (prints f.name)) (not (allocates f.name)) (sym (ap (quiet_one p prints allocates) there) ∙ h) in
      (not-true _ parts.0, not-true _ parts.1) in
      let start = body_site p prints allocates f in
      let placed = all_fit silent prints allocates (sites_list start f.body) fit.body
      (λ h. (still_at p Prints prints f may_print is (quiet_parts h).0 start, still_at p Allocates allocates f may_allocate is (quiet_parts h).1 start)) in
      let variables : map parameter f.params ≡ variables_of scope = sym (params_variables 0 f.params []) in
      let sited = subst (λ (vs : List Variable). AllFit silent prints allocates
      (sites_list (record { program = p; prints = prints; allocates = allocates; returns = f.result; scope = vs; outside = 0; parallel = false }) f.body)) variables placed in
      let done = all_fits p (program_facts p prints allocates heads) quiet silent prints allocates (quiet_named p prints allocates) g f.result refl (result_worthy p f.result fit.result) f.body scope held m
      (record { front = tt; slots = slots_given p f.params fit.params }) (extends_same g.slots) sited shaped in
      record {
        params = as_many f.params g.slots grows;
        few = within.params;
        slots = done.slots;
        result = result_given p f.result fit.result;
        typed = all_typed p g quiet silent (plain_statements g.body) done.front;
        shaped = all_shaped p g quiet silent (plain_statements g.body) done.front;
        silent = λ h. not_from_false _ (none_loud p g quiet silent (plain_statements g.body) h done.front);
        parallel = all_keep p g quiet silent (plain_statements g.body) done.front;
      }
