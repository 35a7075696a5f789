-- A source that breaks no name rule and stores to places alone is regular.
use Rattle.std.proofs.Common.{◌≡◌, ℕ, Bool, true, List, [], ◌∷◌, ◌++◌, map, Option, None, Some, IsTrue, All, Contains, refl, arith, codes}
use Rattle.std.specs.List.{AllByRecursion, flat_map}
use Rattle.std.proofs.lemmas.Bool.{not-false, and_parts}
use Rattle.std.proofs.lemmas.List.Elements.{recursion_from_All}
use Rattle.lq_tree.specs.declared.stmt.Stmt.{Stmt}
use Rattle.lq_tree.specs.declared.program.Func.{Func}
use Rattle.lq_tree.specs.declared.program.Param.{Param}
use Rattle.lq_tree.specs.declared.program.Program.{Program}
use Rattle.lq_tree.specs.Lookup.{function_of}
use Rattle.lq_tree.specs.Walk.{statements}
use Rattle.lq_names.specs.declared.effects.Effect.TheVariants.{Prints, Allocates}
use Rattle.lq_names.specs.declared.fault.Fault.{Fault}
use Rattle.lq_names.specs.Broken.{IsBroken}
use Rattle.lq_names.specs.Faults.{fault_at, placed_faults}
use Rattle.lq_names.specs.Headers.{start, is_entry, gives_int, takes_input, entry_rules, struct_faults, head_rules, with_name, body_site, function_faults, program_faults}
use Rattle.lq_names.specs.Sites.{sites_list}
use Rattle.lq_plain.specs.Places.{stores_to_place, StoresToPlaces}
use Rattle.lq_plain.proofs.Regular.{parameter, IsRegularFunction, TakesInput, IsRegularEntry, IsRegularProgram}
use Rattle.lq_plain.proofs.Outside.{BodyReturnsOutside}
use Rattle.lq_plain.proofs.NamedReturns.{outside_list}
use Rattle.lq_plain.proofs.Ruled.{Exists}
use Rattle.lq_plain.proofs.LeastSets.{least_set}
use Rattle.lq_plain.proofs.NamedTypes.{AreTyped, suits_declared}
use Rattle.lq_plain.proofs.NamedExpressions.{first_kept, both_empty}
use Rattle.lq_plain.proofs.NamedStatements.{none_mapped, regular_body}

typed_parameters : (params : List Param) → AreTyped (map parameter params)
typed_parameters [] = tt
typed_parameters (q ∷ params) = (suits_declared q.ctype, typed_parameters params)

-- a list that has nothing
pub nothing_in : {A : Type 0} (xs : List A) → ((x : A) → Contains xs x → ⊥) → xs ≡ []
nothing_in [] none = refl
nothing_in (x ∷ xs) none = absurd (none x (0, omega arith, refl))

-- what `main` has to have
takes : (params : List Param) → takes_input params ≡ true → TakesInput params
takes [] h = tt
takes (a ∷ []) h = absurd cc
takes (a ∷ b ∷ []) h = tt
takes (a ∷ b ∷ q ∷ params) h = absurd cc

entry : (f : Option Func) → is_entry f ≡ true → Exists f × IsRegularEntry f
entry None h = absurd cc
entry (Some f) h = (tt, takes f.params (and_parts (gives_int f.result) (takes_input f.params) h).1)

-- what a source without a fault of names has
pub record IsSound (p : Program) : Type 0 where
  pub regular : IsRegularProgram p
  pub outside : AllByRecursion BodyReturnsOutside p.funcs
  pub main : Exists (function_of p.funcs (codes "main"))

module _ (p : Program) (prints allocates : List ℕ → Bool) where
  functions : (funcs : List Func) (earlier : List (List ℕ)) → function_faults p prints allocates earlier funcs ≡ [] → AllByRecursion (λ (f : Func). All (λ (s : Stmt). IsTrue (stores_to_place s.kind)) (statements f.body)) funcs
      → AllByRecursion (IsRegularFunction p) funcs × AllByRecursion BodyReturnsOutside funcs
  functions [] earlier h stored = (tt, tt)
  functions (f ∷ rest) earlier h stored =
      let site = body_site p prints allocates f in
      let next = function_faults p prints allocates (with_name earlier f.name) rest in
      let behind = both_empty (map (fault_at f.at) (head_rules p earlier f)) (flat_map placed_faults (sites_list site f.body) ++ next) h in
      let body = both_empty (flat_map placed_faults (sites_list site f.body)) next behind.1 in
      let others = functions rest (with_name earlier f.name) body.1 stored.1 in (
        (regular_body site f.body (typed_parameters f.params) body.0 (recursion_from_All (λ (s : Stmt). IsTrue (stores_to_place s.kind)) (statements f.body) stored.0), others.0),
        (outside_list f.body site body.0, others.1),
      )

  -- with these functions as those that may print and may allocate
  pub sound_by : program_faults p prints allocates ≡ [] → StoresToPlaces p → IsSound p
  sound_by h stored =
      let funcs = function_faults p prints allocates [] p.funcs in
      let behind = both_empty (map (fault_at start) (entry_rules p)) (struct_faults p [] p.structs ++ funcs) h in
      let bodies = both_empty (struct_faults p [] p.structs) funcs behind.1 in
      let all = functions p.funcs [] bodies.1 (recursion_from_All (λ (f : Func). All (λ (s : Stmt). IsTrue (stores_to_place s.kind)) (statements f.body)) p.funcs stored) in
      let entered = entry (function_of p.funcs (codes "main")) (not-false _ (first_kept _ 1 [] (none_mapped (fault_at start) (entry_rules p) behind.0)).0) in
      record { regular = (all.0, entered.1); outside = all.1; main = entered.0 }

pub sound_where_named : (p : Program) → ((fault : Fault) → IsBroken p fault → ⊥) → StoresToPlaces p → IsSound p
sound_where_named p named stored =
    let printing = least_set p Prints in
    let allocating = least_set p Allocates in
    sound_by p printing.0 allocating.0
    (nothing_in (program_faults p printing.0 allocating.0)
    (λ fault there. named fault (record { prints = printing.0; allocates = allocating.0; may_print = printing.1; may_allocate = allocating.1; told = there })))
    stored
