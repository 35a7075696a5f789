-- In the plain form of a well-named source each slot is read in its scope, and no index is assigned.
use Rattle.std.proofs.Common.{◌≡◌, ℕ, zero, suc, ◌+◌, true, not, ◌==◌, List, [], ◌∷◌, ◌++◌, length, map, slice_get, None, Some, IsTrue, ⊎_elim, refl, sym, ap, ◌∙◌, subst, arith}
use Rattle.std.specs.List.{AllByRecursion, list_any}
use Rattle.std.proofs.lemmas.Bool.{and_from, not_from_false}
use Rattle.std.proofs.lemmas.List.{length-map}
use Rattle.lq_tree.specs.declared.plain.PStmt.{PStmt}
use Rattle.lq_tree.specs.declared.plain.PFunc.{PFunc}
use Rattle.lq_tree.specs.declared.program.Func.{Func}
use Rattle.lq_tree.specs.declared.program.Program.{Program}
use Rattle.lq_tree.specs.Formed.{are_different, below, own_indices}
use Rattle.lq_tree.specs.PlainScopes.{is_among, Reading, scoped, scoped_all, keeps_scopes}
use Rattle.lq_tree.specs.PlainWalk.{targets, indices}
use Rattle.lq_tree.specs.Types.{Variable, is_in_scope, result_of}
use Rattle.lq_tree.specs.Locals.{Local, variables_of}
use Rattle.lq_names.specs.declared.fault.Fault.{Fault}
use Rattle.lq_names.specs.Broken.{IsBroken}
use Rattle.lq_plain.specs.Plain.{fresh, param_slot, scope_from, plain_body, plain_func, plain_program}
use Rattle.lq_plain.specs.Places.{StoresToPlaces}
use Rattle.lq_plain.proofs.Regular.{IsRegularBody, IsRegularFunction, parameter}
use Rattle.lq_plain.proofs.Related.{Bounded, there}
use Rattle.lq_plain.proofs.KeptFunctions.{params_bounded, params_variables}
use Rattle.lq_plain.proofs.Named.{sound_where_named}
use Rattle.lq_plain.proofs.NamedAssignments.{AssignsWithin, inside_where_named}
use Rattle.lq_plain.proofs.SlotSets.{not_in, none_pass, different_is, different_on, in_below, below_in, different_below}
use Rattle.lq_plain.proofs.PlainLists.{scoped_list, gathered}
use Rattle.lq_plain.proofs.SlotsKept.{Below, Kept}
use Rattle.lq_plain.proofs.SlotsOfValues.{slots_of, known_name}
use Rattle.lq_plain.proofs.SlotsOfSteps.{Owns, fresh_kept}
use Rattle.lq_plain.proofs.SlotsOfStatements.{body_kept}

bounded_in : (scope : List (Local ℕ)) (n : ℕ) → Bounded scope n → Below (slots_of scope) n
bounded_in [] n bounded k h = absurd h
bounded_in (s ∷ scope) n bounded k h = ⊎_elim (λ (e : s.what ≡ k). omega (arith, bounded.0)) (λ rest. omega (arith, bounded.0, bounded_in scope s.what bounded.1 k rest)) h

all_listed : (body : List PStmt) (r : Reading) → scoped_all body r ≡ scoped_list [] body r
all_listed [] r = refl
all_listed (s ∷ body) r = all_listed body (scoped [] s.kind r)

-- a body whose statements are made behind so many parameters
module _ (n m : ℕ) (own known : List ℕ) (body : List PStmt) (kept : Kept own n m known [] body) where
  indices_own : IsTrue (own_indices (below n) body)
  indices_own =
      let all = gathered indices body in
      let to = gathered targets body in
      and_from (are_different (λ (i j : ℕ). i == j) (below n ++ all)) (not (list_any (is_among to) all))
      (different_is (below n ++ all) (different_on (below n) all (different_below n) kept.owned.different (λ k old index. absurd (omega (arith, in_below n k old, (kept.owned.made k index).0)))))
      (not_from_false (list_any (is_among to) all) (none_pass (is_among to) all (λ k index. not_in k to (kept.owned.apart k index))))

  scopes_well : Below known n → IsTrue (keeps_scopes (below n) body)
  scopes_well fits =
      let r : Reading = record { assigned = below n; scope = below n; well = true } in
      let passed = kept.passes [] r (λ k none. absurd none) (record { well = refl; below = in_below n; there = λ k h. below_in n k (fits k h) }) in
      ap (λ (x : Reading). x.well) (all_listed body r) ∙ passed.advanced.well

-- the two facts of a function
abbrev pub KeepsIts : PFunc → Type 0
KeepsIts f = IsTrue (own_indices (below f.params) f.body) × IsTrue (keeps_scopes (below f.params) f.body)

module _ (p : Program) where
  function_keeps : (f : Func) → IsRegularFunction p f → AssignsWithin f → KeepsIts (plain_func p f)
  function_keeps f regular inside =
      let scope = scope_from 0 f.params [] in
      let slots = map param_slot f.params in
      let size : length slots ≡ length f.params = length-map f.params param_slot in
      let none_more : 0 + length f.params ≡ length f.params = omega arith in
      let variables : variables_of scope ≡ map parameter f.params = params_variables 0 f.params [] in
      let known : Below (slots_of scope) (length f.params) =
      subst (Below (slots_of scope)) none_more (bounded_in scope (0 + length f.params) (params_bounded 0 f.params [] tt)) in
      let owns : Owns scope (map parameter f.params) (slots_of scope) =
      λ name among. known_name scope name (there scope name (subst (λ (vs : List Variable). is_in_scope vs name ≡ true) (sym variables) among)) in
      let stays = body_kept p (result_of f.result) scope (map parameter f.params) (slots_of scope) f.body (fresh slots) (subst (Below (slots_of scope)) (sym size) known) owns
      (subst (λ (vs : List Variable). IsRegularBody p vs f.body) (sym variables) regular) inside in
      let body = plain_body p f in
      let kept : Kept (slots_of scope) (length f.params) (length body.slots) (slots_of scope) [] body.front =
      subst (λ (n : ℕ). Kept (slots_of scope) n (length body.slots) (slots_of scope) [] body.front) size (fresh_kept stays) in
      (indices_own (length f.params) (length body.slots) (slots_of scope) (slots_of scope) body.front kept, scopes_well (length f.params) (length body.slots) (slots_of scope) (slots_of scope) body.front kept known)

  some_is : (g f : PFunc) → Some g ≡ Some f → g ≡ f
  some_is g f e = cc

  none_is : (f : PFunc) → None ≡ Some f → ⊥
  none_is f e = cc

  functions_keep : (funcs : List Func) → AllByRecursion (IsRegularFunction p) funcs → AllByRecursion AssignsWithin funcs → (number : ℕ) (f : PFunc) → slice_get (map (plain_func p) funcs) number ≡ Some f → KeepsIts f
  functions_keep [] regular inside number f found = absurd (none_is f found)
  functions_keep (g ∷ funcs) regular inside zero f found = subst KeepsIts (some_is (plain_func p g) f found) (function_keeps g regular.0 inside.0)
  functions_keep (g ∷ funcs) regular inside (suc number) f found = functions_keep funcs regular.1 inside.1 number f found

pub scopes_kept : (p : Program) → ((fault : Fault) → IsBroken p fault → ⊥) → StoresToPlaces p → (number : ℕ) (f : PFunc) → slice_get (plain_program p).funcs number ≡ Some f
    → IsTrue (own_indices (below f.params) f.body) × IsTrue (keeps_scopes (below f.params) f.body)
scopes_kept p named stored number f found = functions_keep p p.funcs (sound_where_named p named stored).regular.0 (inside_where_named p named) number f found
