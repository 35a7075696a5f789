-- The plain form of a source that breaks no name rule and keeps its counts is formed.
use Rattle.std.proofs.Common.{◌≡◌, ℕ, zero, suc, ◌^◌, ◌<◌, ◌≤◌, ℤ, int_lt, Bool, true, List, [], ◌∷◌, ◌++◌, length, map, filter, Option, None, Some, IsTrue, refl, ap, sym, ◌∙◌, subst, codes, arith}
use Rattle.std.specs.Prelude.{option_map}
use Rattle.std.specs.List.{AllByRecursion, All, list_any, list_all, slice_get}
use Rattle.std.proofs.lemmas.Bool.{cond_both, and_from, and_parts, not-false}
use Rattle.std.proofs.lemmas.List.Elements.{recursion_from_All}
use Rattle.std.proofs.lemmas.List.{length-map}
use Rattle.std.proofs.lemmas.Option.{slice_get-map}
use Rattle.lq_tree.specs.declared.expr.Base.{Base}
use Rattle.lq_tree.specs.declared.expr.Base.TheVariants.{Int, Struct}
use Rattle.lq_tree.specs.declared.expr.CType.{CType}
use Rattle.lq_tree.specs.declared.plain.PFunc.{PFunc}
use Rattle.lq_tree.specs.declared.plain.Slot.{Slot}
use Rattle.lq_tree.specs.declared.program.Func.{Func}
use Rattle.lq_tree.specs.declared.program.Param.{Param}
use Rattle.lq_tree.specs.declared.program.Program.{Program}
use Rattle.lq_tree.specs.declared.program.StructDef.{StructDef}
use Rattle.lq_tree.specs.declared.stmt.Stmt.{Stmt}
use Rattle.lq_tree.specs.declared.stmt.StmtKind.{StmtKind, Cobegin'}
use Rattle.lq_tree.specs.Formed.{are_different, IsFormedStruct, IsFormedFunc, IsEntry, IsFormed, below, own_indices, weight, is_input, takes_input, ascend, is_factor}
use Rattle.lq_tree.specs.Lookup.{same, function_of, number_of}
use Rattle.lq_tree.specs.PlainScopes.{keeps_scopes}
use Rattle.lq_tree.specs.PlainShape.{is_shallow}
use Rattle.lq_tree.specs.PlainTypes.{is_slot_type}
use Rattle.lq_tree.specs.PlainWalk.{expressions}
use Rattle.lq_tree.specs.Types.{Ty, Number, Pointer, declared, declared_as}
use Rattle.lq_tree.specs.Walk.{statements}
use Rattle.lq_names.specs.declared.effects.Effect.TheVariants.{Prints, Allocates}
use Rattle.lq_names.specs.declared.fault.Fault.{Fault}
use Rattle.lq_names.specs.Broken.{IsBroken}
use Rattle.lq_names.specs.Calls.{IsLeast}
use Rattle.lq_names.specs.Counts.{first_passed, counts}
use Rattle.lq_names.specs.Faults.{fault_at}
use Rattle.lq_names.specs.Headers.{start, is_entry, is_int, is_int_pointer, gives_int, takes_input as takes_words, entry_rules, struct_faults, function_faults, program_faults}
use Rattle.lq_plain.specs.Factors.{function_takes, numbers_from}
use Rattle.lq_plain.specs.Places.{stores_to_place, StoresToPlaces}
use Rattle.lq_plain.specs.Plain.{fresh, param_slot, plain_func, plain_program}
use Rattle.lq_plain.proofs.Heads.{names_stay}
use Rattle.lq_plain.proofs.LeastSets.{least_set}
use Rattle.lq_plain.proofs.Named.{nothing_in}
use Rattle.lq_plain.proofs.NamedExpressions.{first_kept, both_empty}
use Rattle.lq_plain.proofs.NamedStatements.{none_mapped}
use Rattle.lq_plain.proofs.Growing.{Extends, all_grows}
use Rattle.lq_plain.proofs.SlotTypes.{same_self}
use Rattle.lq_plain.proofs.SpelledStores.{is_pair}
use Rattle.lq_plain.proofs.FitTypes.{function_at}
use Rattle.lq_plain.proofs.FitPlain.{is_few, AreShaped}
use Rattle.lq_plain.proofs.FitHeads.{AreGiven, given_slot, fields_differ, StructFit, FunctionFit, HeadsFit, heads_fit}
use Rattle.lq_plain.proofs.FitCounts.{IsWithin, within_limits, few_fields, is_narrow, AreNarrow, FunctionWithin, functions_within}
use Rattle.lq_plain.proofs.FormedFunctions.{is_quiet, IsFormedPart, function_formed}

-- ---- what the grammar gives

-- each struct has a field
abbrev pub HaveFields : Program → Type 0
HaveFields p = AllByRecursion (λ (d : StructDef). 1 ≤ length d.fields) p.structs

-- each `cobegin` of a body has two blocks
abbrev pub BodyPairs : Func → Type 0
BodyPairs f = AllByRecursion (λ (s : Stmt). is_pair s.kind ≡ true) (statements f.body)

abbrev pub HavePairs : Program → Type 0
HavePairs p = AllByRecursion BodyPairs p.funcs

few_by : (kind : StmtKind) → is_pair kind ≡ true → is_narrow kind ≡ true → is_few kind ≡ true
few_by (Cobegin' n blocks) h k = and_from _ _ h k
few_by _ h k = refl

shaped_by : (ss : List Stmt) → AllByRecursion (λ (s : Stmt). IsTrue (stores_to_place s.kind)) ss → AllByRecursion (λ (s : Stmt). is_pair s.kind ≡ true) ss → AreNarrow ss → AreShaped ss
shaped_by [] stores pairs narrow = tt
shaped_by (s ∷ ss) stores pairs narrow = ((stores.0, few_by s.kind pairs.0 narrow.0), shaped_by ss stores.1 pairs.1 narrow.1)

-- ---- lists

at_number : {X : Type 0} (P : X → Type 0) (xs : List X) (n : ℕ) (x : X) → AllByRecursion P xs → slice_get xs n ≡ Some x → P x
at_number P [] n x all is = absurd cc
at_number P (y ∷ ys) zero x all is = subst P (the_same is) all.0 where
  the_same : Some y ≡ Some x → y ≡ x
  the_same is = cc
at_number P (y ∷ ys) (suc n) x all is = at_number P ys n x all.1 is

-- ---- structs

types_given : (p : Program) (fields : List Param) → AreGiven p fields → list_all (λ (q : Param). is_slot_type p.structs q.ctype) fields ≡ true
types_given p [] given = refl
types_given p (q ∷ fields) given = and_from _ _ (given_slot p q.ctype given.0) (types_given p fields given.1)

structs_formed : (p : Program) (structs : List StructDef) → AllByRecursion (λ (d : StructDef). 1 ≤ length d.fields) structs → AllByRecursion (λ (d : StructDef). length d.fields ≤ 16) structs → AllByRecursion (StructFit p) structs
    → AllByRecursion (IsFormedStruct p.structs) structs
structs_formed p [] some few fit = tt
structs_formed p (d ∷ structs) some few fit =
    (record { some = some.0; few = few.0; names = fields_differ d.fields (fit.0).names; types = types_given p d.fields (fit.0).types }, structs_formed p structs some.1 few.1 fit.1)

-- ---- the function `main`

abbrev the_int : CType
the_int = record { base = Int; stars = 0 }

abbrev typed : Base → (stars : ℕ) → CType
typed base stars = record { base = base; stars = stars }

an_int : (base : Base) (stars : ℕ) → is_int (declared_as base stars) ≡ true → typed base stars ≡ the_int
an_int Int zero h = refl
an_int Int (suc n) h = absurd cc
an_int (Struct name) zero h = absurd cc
an_int (Struct name) (suc n) h = absurd cc

int_result : (result : Option CType) → gives_int result ≡ true → result ≡ Some the_int
int_result None h = absurd cc
int_result (Some type) h = ap Some (an_int type.base type.stars h)

input_types : (a b : Ty) → is_int_pointer a ≡ true → is_int b ≡ true → is_input a b ≡ true
input_types (Pointer Int zero) Number h k = refl
input_types _ _ h k = absurd cc

the_slot : {s t : Slot} → Some s ≡ Some t → s ≡ t
the_slot is = cc

input_slots : (params : List Param) (slots : List Slot) → takes_words params ≡ true → Extends (map param_slot params) slots → takes_input (length params) slots ≡ true
input_slots [] slots h extends = refl
input_slots (a ∷ []) slots h extends = absurd cc
input_slots (a ∷ b ∷ []) [] h extends = let is = extends.there 0 (param_slot a) refl in absurd cc
input_slots (a ∷ b ∷ []) (s ∷ []) h extends = let is = extends.there 1 (param_slot b) refl in absurd cc
input_slots (a ∷ b ∷ []) (s ∷ t ∷ slots) h extends =
    let both = and_parts (is_int_pointer (declared a.ctype)) (is_int (declared b.ctype)) h in
    input_types (declared s.ctype) (declared t.ctype) (ap (λ (u : Slot). is_int_pointer (declared u.ctype)) (the_slot (extends.there 0 (param_slot a) refl)) ∙ both.0)
    (ap (λ (u : Slot). is_int (declared u.ctype)) (the_slot (extends.there 1 (param_slot b) refl)) ∙ both.1)
input_slots (a ∷ b ∷ c ∷ params) slots h extends = absurd cc

record Main (p : Program) : Type 0 where
  pub main : PFunc
  pub is_main : slice_get (plain_program p).funcs (plain_program p).main ≡ Some main
  pub entry : IsEntry main

main_of : (p : Program) (found : Option Func) → function_of p.funcs (codes "main") ≡ found → is_entry found ≡ true → Main p
main_of p None is h = absurd cc
main_of p (Some f) is h =
    let at = function_at p.funcs (codes "main") f is in
    let both = and_parts (gives_int f.result) (takes_words f.params) h in
    record {
      main = plain_func p f;
      is_main = slice_get-map (plain_func p) p.funcs (number_of p.funcs (codes "main")) ∙ ap (option_map (plain_func p)) at.0;
      entry = record {
        name = ap (λ name. same name (codes "main")) at.1 ∙ same_self (codes "main");
        result = int_result f.result both.0;
        params = input_slots f.params (plain_func p f).slots both.1 (all_grows _ f.body (fresh (map param_slot f.params)));
      };
    }

-- ---- factors

module _ (test : ℤ → Bool) where
  all_kept : (q : ℤ → Bool) (xs : List ℤ) → list_all q xs ≡ true → list_all q (filter test xs) ≡ true
  all_kept q [] h = refl
  all_kept q (x ∷ xs) h =
      let both = and_parts (q x) (list_all q xs) h in
      cond_both (test x) (x ∷ filter test xs) (filter test xs) (λ ys. list_all q ys ≡ true) (λ _. and_from _ _ both.0 (all_kept q xs both.1)) (λ _. all_kept q xs both.1)

  ascend_kept : (xs : List ℤ) → ascend xs ≡ true → ascend (filter test xs) ≡ true
  ascend_kept [] h = refl
  ascend_kept (x ∷ xs) h =
      let both = and_parts (list_all (int_lt x) xs) (ascend xs) h in
      cond_both (test x) (x ∷ filter test xs) (filter test xs) (λ ys. ascend ys ≡ true) (λ _. and_from _ _ (all_kept (int_lt x) xs both.0) (ascend_kept xs both.1)) (λ _. ascend_kept xs both.1)

-- ---- functions

-- the source of a function of the plain form
source_of : (p : Program) (number : ℕ) (f : PFunc) (found : Option Func) → slice_get p.funcs number ≡ found → option_map (plain_func p) found ≡ Some f → (g : Func) × (slice_get p.funcs number ≡ Some g) × (plain_func p g ≡ f)
source_of p number f None is h = absurd cc
source_of p number f (Some g) is h = (g, is, the_same h) where
  the_same : Some (plain_func p g) ≡ Some f → plain_func p g ≡ f
  the_same is = cc

-- what is shown of each function apart
abbrev pub IsLight : PFunc → Type 0
IsLight f = IsTrue (list_all is_shallow (expressions f.body)) × (weight f < 2 ^ 23)

abbrev pub KeepsScopes : PFunc → Type 0
KeepsScopes f = IsTrue (own_indices (below f.params) f.body) × IsTrue (keeps_scopes (below f.params) f.body)

abbrev pub EachFunction : Program → (PFunc → Type 0) → Type 0
EachFunction p P = (number : ℕ) (f : PFunc) → slice_get (plain_program p).funcs number ≡ Some f → P f

whole : (p : Program) (quiet : ℕ → Bool) (number : ℕ) (f : PFunc) → IsFormedPart p quiet number f → IsLight f → KeepsScopes f → IsFormedFunc (plain_program p) quiet number f
whole p quiet number f part light scopes = record {
  params = part.params;
  few = part.few;
  slots = part.slots;
  result = part.result;
  typed = part.typed;
  shaped = part.shaped;
  shallow = light.0;
  indices = scopes.0;
  scoped = scopes.1;
  silent = part.silent;
  parallel = part.parallel;
  light = light.1;
}

module _ (p : Program) (prints allocates : List ℕ → Bool) (may_print : IsLeast p Prints prints) (may_allocate : IsLeast p Allocates allocates) (none : program_faults p prints allocates ≡ []) (within : IsWithin p) (stores : StoresToPlaces p)
    (fields : HaveFields p) (pairs : HavePairs p) (light : EachFunction p IsLight) (scopes : EachFunction p KeepsScopes) where
  all_faults : (struct_faults p [] p.structs ≡ []) × (function_faults p prints allocates [] p.funcs ≡ []) × (entry_rules p ≡ [])
  all_faults =
      let funcs = function_faults p prints allocates [] p.funcs in
      let behind = both_empty (map (fault_at start) (entry_rules p)) (struct_faults p [] p.structs ++ funcs) none in
      let bodies = both_empty (struct_faults p [] p.structs) funcs behind.1 in
      (bodies.0, bodies.1, none_mapped (fault_at start) (entry_rules p) behind.0)

  heads : HeadsFit p prints allocates
  heads = heads_fit p prints allocates all_faults.0 all_faults.1

  formed_at : (number : ℕ) (f : PFunc) → slice_get (plain_program p).funcs number ≡ Some f → IsFormedFunc (plain_program p) (is_quiet p prints allocates) number f
  formed_at number f there =
      let quiet = is_quiet p prints allocates in
      let source = source_of p number f (slice_get p.funcs number) refl (sym (slice_get-map (plain_func p) p.funcs number) ∙ there) in
      let g = source.0 in
      let fit = at_number (FunctionFit p prints allocates) p.funcs number g heads.funcs source.1 in
      let few = at_number FunctionWithin p.funcs number g (functions_within p within) source.1 in
      let stored = at_number (λ (h : Func). All (λ (s : Stmt). IsTrue (stores_to_place s.kind)) (statements h.body)) p.funcs number g
      (recursion_from_All (λ (h : Func). All (λ (s : Stmt). IsTrue (stores_to_place s.kind)) (statements h.body)) p.funcs stores) source.1 in
      let paired = at_number BodyPairs p.funcs number g pairs source.1 in
      let shaped = shaped_by (statements g.body) (recursion_from_All (λ (s : Stmt). IsTrue (stores_to_place s.kind)) (statements g.body) stored) paired few.narrow in
      let part = function_formed p prints allocates may_print may_allocate heads number g source.1 fit few shaped in
      whole p quiet number f (subst (IsFormedPart p quiet number) source.2 part) (light number f there) (scopes number f there)

  pub formed_by : IsFormed (plain_program p)
  formed_by =
      let entry = main_of p (function_of p.funcs (codes "main")) refl (not-false _ (first_kept _ 1 [] all_faults.2).0) in
      let takes = λ (n : ℤ). list_any (function_takes n) p.funcs in
      let many : length (plain_program p).funcs ≡ length p.funcs = length-map p.funcs (plain_func p) in
      record {
        few_structs = within.structs;
        few_funcs = omega (arith, many, within.functions);
        struct_names = heads.struct_names;
        func_names = ap (are_different same) (names_stay p p.funcs) ∙ heads.func_names;
        structs = structs_formed p p.structs fields (few_fields p within) heads.structs;
        main = entry.main;
        is_main = entry.is_main;
        entry = entry.entry;
        quiet = is_quiet p prints allocates;
        funcs = formed_at;
        ascending = ascend_kept takes (numbers_from 2 63) refl;
        factors = all_kept takes is_factor (numbers_from 2 63) refl;
      }

-- a source that keeps its counts and breaks no name rule, where stores go to places, structs have fields and `cobegin`s have
-- two blocks, has a formed plain form, where its functions are light and keep their scopes
pub formed_where : (p : Program) → first_passed (counts p) ≡ None → ((fault : Fault) → IsBroken p fault → ⊥) → StoresToPlaces p → HaveFields p → HavePairs p → EachFunction p IsLight → EachFunction p KeepsScopes → IsFormed (plain_program p)
formed_where p counted named stores fields pairs light scopes =
    let printing = least_set p Prints in
    let allocating = least_set p Allocates in
    formed_by p printing.0 allocating.0 printing.1 allocating.1
    (nothing_in (program_faults p printing.0 allocating.0)
    (λ fault there. named fault (record { prints = printing.0; allocates = allocating.0; may_print = printing.1; may_allocate = allocating.1; told = there })))
    (within_limits p counted) stores fields pairs light scopes
