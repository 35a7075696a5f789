-- A statement that breaks no name rule comes to good statements of the plain form, and leaves locals whose slots have their types.
use mathlib.Core.Former.{one_more}
use denote.Hole.Carrier
use Rattle.std.proofs.Common.{◌≡◌, ℕ, zero, suc, Bool, true, false, cond, not, ◌&&◌, List, [], ◌∷◌, ◌++◌, length, map, Option, None, Some, is_some, refl, ap, sym, ◌∙◌, ◌⊎◌, inl, inr, subst, arith}
use Rattle.std.specs.List.{AllByRecursion, list_any, list_all, flat_map}
use Rattle.std.proofs.lemmas.Bool.{cond_both, and_parts, and_from, or_parts, not-false}
use Rattle.lq_tree.specs.declared.place.Place.{Place}
use Rattle.lq_tree.specs.declared.expr.CType.{CType}
use Rattle.lq_tree.specs.declared.expr.Base.{Base}
use Rattle.lq_tree.specs.declared.expr.Base.TheVariants.{Int, Struct}
use Rattle.lq_tree.specs.declared.expr.Expr.{Expr}
use Rattle.lq_tree.specs.declared.plain.PExpr.{PExpr, Null}
use Rattle.lq_tree.specs.declared.plain.PKind.{PKind, Set as SetP, Store as StoreP, Call as CallP, If as IfP, While as WhileP, Cobegin as CobeginP, Foreach as ForeachP, Print as PrintP, Return as ReturnP}
use Rattle.lq_tree.specs.declared.plain.PFunc.{PFunc}
use Rattle.lq_tree.specs.declared.plain.PProgram.{PProgram}
use Rattle.lq_tree.specs.declared.plain.Slot.{Slot}
use Rattle.lq_tree.specs.declared.plain.Branch.{Branch}
use Rattle.lq_tree.specs.declared.program.Param.{Param}
use Rattle.lq_tree.specs.declared.program.Program.{Program}
use Rattle.lq_tree.specs.declared.stmt.Stmt.{Stmt}
use Rattle.lq_tree.specs.declared.stmt.Arm.{Arm, Arm', out-Arm}
use Rattle.lq_tree.specs.declared.stmt.StmtKind.{StmtKind, out-StmtKind, Empty, Block', Local as Declare, Set, Store, Call, If', While', For', Print, Return, Cobegin', Foreach', Row_of-Stmt, end_of-Stmt, more_of-Stmt, Row_of-Arm, end_of-Arm, more_of-Arm, None', Some', Held-StmtKind-If-1, items-the_row-Stmt, items-the_row-Arm}
use Rattle.lq_tree.specs.declared.stmt.StmtKind.TheOpen as layer
use Rattle.lq_tree.specs.Lookup.{function_of, number_of}
use Rattle.lq_tree.specs.PlainShape.{few_branches}
use Rattle.lq_tree.specs.Step.{is_step}
use Rattle.lq_tree.specs.PlainTypes.{is_value, is_slot_type, slot_type, plain_type, fits, return_fits}
use Rattle.lq_tree.specs.PlainWalk.{statements, within_branch}
use Rattle.lq_tree.specs.Types.{Ty, Number, Pointer, Variable, declared, declared_as, type_in, is_in_scope, is_number, is_pointer, is_known, result_of, expression_type}
use Rattle.lq_tree.specs.Locals.{Local, type_of_local, variables_of}
use Rattle.lq_tree.specs.Walk.{condition as condition_of, values, inside, within_row, within_arms, within_arm, within_held, statements as source_statements}
use Rattle.lq_names.specs.Scopes.{Site}
use Rattle.lq_names.specs.Rules.{is_zero as is_zero_node, misfits, argument_misfits, arguments_misfit, miscounts, is_nothing, is_struct, is_whole, gives_nothing, gives_struct}
use Rattle.lq_names.specs.Faults.{is_no_number}
use Rattle.lq_names.specs.Sites.{Placed, sites, sites_row, sites_each, sites_arms, sites_arm, sites_held, sites_list, after, after_row, after_first, iteration}
use Rattle.lq_plain.specs.Flat.{Env, slot_of, Made, then_stands, with_slot, int_type, Valued, valued, Flat, Is, Names, Gets, atom, flat, operand, is_pure, is_zero, wanted, params_of, flatten}
use Rattle.lq_plain.specs.Plain.{Behind, fresh, flat_of, flat_as, put, assigned, empty_of, initial, stored, arguments, called, condition, Branches, looped, branch, plain, plain_row, plain_held, plain_arms, plain_arm, plain_branches, plain_iteration, plain_all, plain_program}
use Rattle.lq_plain.specs.Places.{is_place, stores_to_place}
use Rattle.lq_plain.proofs.Related.{there, one_more as one_variable_more}
use Rattle.lq_plain.proofs.Taken.{made_of}
use Rattle.lq_plain.proofs.KeptForms.{IsNames}
use Rattle.lq_plain.proofs.KeptStatements.{IsOne}
use Rattle.lq_plain.proofs.NamedExpressions.{same_zero}
use Rattle.lq_plain.proofs.NamedStatements.{arms_of}
use Rattle.lq_plain.proofs.Growing.{Extends, extends_on, slice_get_push, initial_grows, operand_grows, flat_grows, put_grows, flatten_grows, flat_of_grows, flat_as_grows, assigned_grows, stored_grows, arguments_grows, condition_grows, row_grows, held_grows, arms_grow, branches_grow, iteration_grows, all_grows}
use Rattle.lq_plain.proofs.SlotTypes.{agreed, number_where, fits_of, is_known_type, known_with, type_there}
use Rattle.lq_plain.proofs.WellMade.{AllGood, Whole, Fine, good_both, good_by, then_fine, slot_fine, if_whole, while_whole, cobegin_whole, foreach_whole}
use Rattle.lq_plain.proofs.PlainLists.{within_branch-list}
use Rattle.lq_plain.proofs.FitStatements.{FitAt, FormFit, AllFit, both_placed}
use Rattle.lq_plain.proofs.FitTypes.{found_some, Facts, Held, AreHeld, slot_typed, value_named, type_named}
use Rattle.lq_plain.proofs.FitFlat.{Tells, ArgumentsFit, call_whole, set_whole, load_whole, Found, Operand, Standing, standing, slot_made, atom_found, flat_found, operand_found, known, worth, place_found, given, Arguments, called_by, flattened}

-- ---- what is asked of the tree

-- a `cobegin` has from 2 to 16 blocks
abbrev pub is_few : StmtKind → Bool
is_few (Cobegin' n blocks) = few_branches (length (items-the_row-Stmt _ blocks))
is_few _ = true

-- statements whose stores go to places, and whose blocks are few
abbrev pub AreShaped : List Stmt → Type 0
AreShaped ss = AllByRecursion (λ (s : Stmt). (stores_to_place s.kind ≡ true) × (is_few s.kind ≡ true)) ss

pub both_shaped : (a b : List Stmt) → AreShaped (a ++ b) → AreShaped a × AreShaped b
both_shaped [] b h = (tt, h)
both_shaped (s ∷ a) b h = let all = both_shaped a b h.1 in ((h.0, all.0), all.1)

-- ---- types of declarations

declared_value : (base : Base) (stars : ℕ) → is_whole (declared_as base stars) ≡ false → is_value (declared_as base stars) ≡ true
declared_value Int zero h = refl
declared_value Int (suc n) h = refl
declared_value (Struct name) zero h = absurd cc
declared_value (Struct name) (suc n) h = refl

-- a written type that is no struct is that of a value
pub value_declared : (type : CType) → is_whole (declared type) ≡ false → is_value (declared type) ≡ true
value_declared type h = declared_value type.base type.stars h

declared_known : (p : Program) (base : Base) (stars : ℕ) → is_known p base ≡ true → is_value (declared_as base stars) ≡ true → is_known_type p (declared_as base stars) ≡ true
declared_known p Int zero h v = refl
declared_known p Int (suc n) h v = h
declared_known p (Struct name) zero h v = absurd cc
declared_known p (Struct name) (suc n) h v = h

pub known_declared : (p : Program) (type : CType) → is_known p type.base ≡ true → is_value (declared type) ≡ true → is_known_type p (declared type) ≡ true
known_declared p type h v = declared_known p type.base type.stars h v

pub slot_declared : (p : Program) (type : CType) → is_known p type.base ≡ true → is_value (declared type) ≡ true → is_slot_type p.structs type ≡ true
slot_declared p type h v = and_from _ _ v (known_with p type.base ∙ h)

module _ (p : Program) (facts : Facts p) (quiet : ℕ → Bool) (silent : Bool) (prints allocates : List ℕ → Bool) (tells : Tells p facts quiet silent prints allocates)
    (f : PFunc) (returns : Option CType) (returns_so : f.result ≡ returns) (worthy : (type : CType) → returns ≡ Some type → is_value (declared type) ≡ true) where
  abbrev pp : PProgram
  pp = plain_program p

  abbrev env : List (Local ℕ) → Env
  env scope = record { program = p; result = result_of returns; scope = scope }

  -- where a statement stands
  abbrev pub site : List (Local ℕ) → (outside : ℕ) → (parallel : Bool) → Site
  site scope outside parallel = record { program = p; prints = prints; allocates = allocates; returns = returns; scope = variables_of scope; outside = outside; parallel = parallel }

  abbrev AllPlaced : List Placed → Type 0
  AllPlaced ps = AllFit silent prints allocates ps

  -- ---- at one place, with `hush` and `aside` as the list around it has them

  module _ (hush aside : Bool) (at : Place) (scope : List (Local ℕ)) (held : AreHeld p f.slots scope) (outside : ℕ) (parallel : Bool) (because : hush ≡ true → (silent ≡ true) ⊎ (parallel ≡ true)) where
    abbrev IsFine : Made → Type 0
    IsFine m = Fine pp f quiet hush aside m

    abbrev IsWhole : PKind → Type 0
    IsWhole kind = Whole pp f quiet hush aside kind

    abbrev s : Site
    s = site scope outside parallel

    abbrev type : Expr → Ty
    type e = expression_type p (variables_of scope) e

    -- an expression that is used as a value
    record Used (e : Expr) : Type 0 where
      fit : FitAt silent prints allocates s e
      gives : is_nothing (type e) ≡ false
      whole : is_struct (type e) ≡ false

    used_value : (e : Expr) → Used e → is_value (type e) ≡ true
    used_value e used = worth p facts quiet silent prints allocates tells f hush aside at scope held (result_of returns) returns outside parallel because e used.fit used.gives used.whole

    known_here : (e : Expr) → is_known_type p (type e) ≡ true
    known_here e = known p facts quiet silent prints allocates tells f hush aside at scope held (result_of returns) returns outside parallel because e

    flat_found_here : (e : Expr) (m : Made) → IsFine m → FitAt silent prints allocates s e → Extends (made_of (flatten (env scope) at e m)).slots f.slots
        → Found p facts quiet silent prints allocates tells f hush aside (type e) (flatten (env scope) at e m)
    flat_found_here e m fine fit extends = flattened p facts quiet silent prints allocates tells f hush aside at scope held (result_of returns) returns outside parallel because e m fine extends fit

    abbrev IsOperand : Ty → Valued → Type 0
    IsOperand t v = Operand p facts quiet silent prints allocates tells f hush aside t v

    abbrev IsStanding : Ty → Valued → Type 0
    IsStanding t v = Standing p facts quiet silent prints allocates tells f hush aside t v

    abbrev IsFound : Ty → Flat → Type 0
    IsFound t found = Found p facts quiet silent prints allocates tells f hush aside t found

    -- an int
    number_fit : (e : Expr) (m : Made) → IsFine m → Used e → is_pointer (type e) ≡ false → Extends (flat_of (env scope) at e m).made.slots f.slots → IsOperand Number (flat_of (env scope) at e m)
    number_fit e m fine used isnt extends =
        let val = used_value e used in
        let found = flatten (env scope) at e m in
        let o = flat_found p facts quiet silent prints allocates tells f hush aside at (type e) found val (known_here e) (flat_found_here e m fine used.fit (extends_on (flat_grows at (type e) found) extends)) extends in
        record { typed = o.typed ∙ number_where (type e) val isnt; fine = o.fine }

    -- the low end of a `foreach`, as an operand beside the high end
    low_fit : (pure : Bool) (e : Expr) (m : Made) → IsFine m → Used e → is_pointer (type e) ≡ false → Extends (operand pure at Number (flatten (env scope) at e m)).made.slots f.slots → IsOperand Number (operand pure at Number (flatten (env scope) at e m))
    low_fit pure e m fine used isnt extends =
        let found = flatten (env scope) at e m in
        operand_found p facts quiet silent prints allocates tells f hush aside at pure Number found refl refl
        (λ longer. subst (λ t. IsFound t found) (number_where (type e) (used_value e used) isnt) (flat_found_here e m fine used.fit longer)) extends

    -- a value that is wanted
    wanted_fit : (want : Ty) (e : Expr) (m : Made) → is_value want ≡ true → IsFine m → Used e → misfits s want e ≡ false → Extends (flat_as (env scope) at want e m).made.slots f.slots → IsStanding want (flat_as (env scope) at want e m)
    wanted_fit want e m val fine used agrees extends =
        let found = flatten (env scope) at e m in
        cond_both (is_pointer want && is_zero e) (Is (valued Null m)) found (λ x. Extends (flat at (type e) x).made.slots f.slots → IsStanding want (flat at (type e) x))
        (λ null _. record { fit = (and_parts (is_pointer want) (is_zero e) null).0; fine = fine })
        (λ other longer.
        let val_e = used_value e used in
        let o = flat_found p facts quiet silent prints allocates tells f hush aside at (type e) found val_e (known_here e) (flat_found_here e m fine used.fit (extends_on (flat_grows at (type e) found) longer)) longer in
        elim (agreed want (type e) (is_zero_node e) val val_e agrees) [
          | inl same ↦ standing p facts quiet silent prints allocates tells f hush aside want (flat at (type e) found) val (record { typed = o.typed ∙ same; fine = o.fine })
          | inr null ↦ let zero_there : (is_pointer want && is_zero e) ≡ true = ap (λ z. is_pointer want && z) (sym (same_zero e)) ∙ null in absurd cc
        ])
        extends

    -- what a local gets
    put_fine : (to : ℕ) (t : Ty) (found : Flat) → slot_type f.slots to ≡ t → is_value t ≡ true → IsFound t found → Extends (put at to found).slots f.slots → IsFine (put at to found)
    put_fine to t (Is v) is val of_type extends =
        then_fine pp f quiet hush aside at (SetP to v.value) v.made of_type.fine (set_whole p facts quiet silent prints allocates tells f hush aside to t v.value is (fits_of f.slots t v.value of_type.typed val))
    put_fine to t (Names base index field) is val of_type extends =
        let i = atom at Number index in
        let as_index = atom_found p facts quiet silent prints allocates tells f hush aside at Number index refl refl (record { typed = (of_type.typed).0; fine = of_type.fine }) extends in
        then_fine pp f quiet hush aside at _ i.made as_index.fine (load_whole p facts quiet silent prints allocates tells f hush aside to base i.value field t is val as_index.typed ((of_type.typed).1.0 val))
    put_fine to t (Gets kind m) is val of_type extends = then_fine pp f quiet hush aside at (kind to) m of_type.fine (of_type.typed to is val)

    assigned_fine : (to : ℕ) (want : Ty) (e : Expr) (m : Made) → slot_type f.slots to ≡ want → is_value want ≡ true → IsFine m → Used e → misfits s want e ≡ false → Extends (assigned (env scope) at to want e m).slots f.slots
        → IsFine (assigned (env scope) at to want e m)
    assigned_fine to want e m is val fine used agrees extends =
        let found = flatten (env scope) at e m in
        cond_both (is_pointer want && is_zero e) (Is (valued Null m)) found (λ x. Extends (put at to x).slots f.slots → IsFine (put at to x))
        (λ null _. then_fine pp f quiet hush aside at (SetP to Null) m fine (set_whole p facts quiet silent prints allocates tells f hush aside to want Null is (and_parts (is_pointer want) (is_zero e) null).0))
        (λ other longer.
        elim (agreed want (type e) (is_zero_node e) val (used_value e used) agrees) [
          | inl same ↦ put_fine to want found is val (subst (λ t. IsFound t found) same (flat_found_here e m fine used.fit (extends_on (put_grows at to found) longer))) longer
          | inr null ↦ let zero_there : (is_pointer want && is_zero e) ≡ true = ap (λ z. is_pointer want && z) (sym (same_zero e)) ∙ null in absurd cc
        ])
        extends

    -- a store to an element
    stored_fine : (t : Ty) (e : Expr) (found : Flat) → IsNames found → is_value t ≡ true → IsFound t found → Used e → misfits s t e ≡ false → Extends (stored (env scope) at t e found).slots f.slots → IsFine (stored (env scope) at t e found)
    stored_fine t e (Is v) named val of_type used agrees extends = absurd named
    stored_fine t e (Gets kind m) named val of_type used agrees extends = absurd named
    stored_fine t e (Names base index field) named val of_type used agrees extends =
        let i = operand (is_pure e) at Number index in
        let v = flat_as (env scope) at t e i.made in
        let as_index = operand_found p facts quiet silent prints allocates tells f hush aside at (is_pure e) Number index refl refl (λ _. record { typed = (of_type.typed).0; fine = of_type.fine }) (extends_on (flat_as_grows (env scope) at t e i.made) extends) in
        let word = wanted_fit t e i.made val as_index.fine used agrees extends in
        let is = (of_type.typed).1.0 val in
        then_fine pp f quiet hush aside at (StoreP base i.value field v.value) v.made word.fine
        (record {
          here = record {
            typed = and_from _ _ (and_from _ _ (fits_of f.slots Number i.value as_index.typed refl) (ap is_value is ∙ val)) (ap (λ u. fits f.slots u v.value) is ∙ word.fit);
            shaped = refl;
            keeps = refl;
            silent = λ _. refl;
            aside = λ _. refl;
          };
          within = tt;
        })

    -- arguments of a statement
    given_list : (params : List Param) (args : List Expr) (m : Made) → IsFine m → Extends (arguments (env scope) at params args m).made.slots f.slots → AllByRecursion (λ (q : Param). is_value (declared q.ctype) ≡ true) params
        → AllByRecursion (FitAt silent prints allocates s) args → length params ≡ length args → argument_misfits s params args ≡ false → list_any (gives_nothing s) args ≡ false → list_any (gives_struct s) args ≡ false
        → Arguments p facts quiet silent prints allocates tells f hush aside at scope held (result_of returns) returns outside parallel because params (arguments (env scope) at params args m)
    given_list [] [] m fine extends values fit many agrees gives whole = record { fit = tt; fine = fine }
    given_list [] (e ∷ args) m fine extends values fit many agrees gives whole = absurd (omega (arith, many))
    given_list (q ∷ params) [] m fine extends values fit many agrees gives whole = absurd (omega (arith, many))
    given_list (q ∷ params) (e ∷ args) m fine extends values fit many disagree give wholes =
        let gives = or_parts (is_nothing (type e)) _ give in
        let whole = or_parts (is_struct (type e)) _ wholes in
        let agrees = or_parts (misfits s (declared q.ctype) e) _ disagree in
        let v = atom at (type e) (wanted (declared q.ctype) e (flatten (env scope) at e m) m) in
        let first = given p facts quiet silent prints allocates tells f hush aside at scope held (result_of returns) returns outside parallel because (declared q.ctype) e m values.0 (used_value e (record { fit = fit.0; gives = gives.0; whole = whole.0 })) agrees.0 fine
        (λ even. flat_found_here e m fine fit.0 even) (extends_on (arguments_grows (env scope) at params args v.made) extends) in
        let others = given_list params args v.made first.fine extends values.1 fit.1 (omega (arith, many)) agrees.1 gives.1 whole.1 in
        record { fit = (first.fit, others.fit); fine = others.fine }

    -- several conditions
    record Condition (e : Expr) : Type 0 where
      pub used : Used e
      pub isnt : is_pointer (type e) ≡ false

    conditions_of : (arms : List Arm) → AllByRecursion (FitAt silent prints allocates s) (map condition_of arms) → list_any (λ (arm : Arm). is_no_number s (condition_of arm)) arms ≡ false
        → list_any (λ (arm : Arm). gives_nothing s (condition_of arm)) arms ≡ false → list_any (λ (arm : Arm). gives_struct s (condition_of arm)) arms ≡ false → AllByRecursion Condition (map condition_of arms)
    conditions_of [] fit isnt gives whole = tt
    conditions_of (arm ∷ arms) fit isnt gives whole =
        let a = or_parts (is_pointer (type (condition_of arm))) _ isnt in
        let b = or_parts (is_nothing (type (condition_of arm))) _ gives in
        let c = or_parts (is_struct (type (condition_of arm))) _ whole in
        (record { used = record { fit = fit.0; gives = b.0; whole = c.0 }; isnt = a.0 }, conditions_of arms fit.1 a.1 b.1 c.1)

    -- a condition that may be missing
    OptionFits : Option Expr → Type 0
    OptionFits None = Unit {0}
    OptionFits (Some e) = Condition e

    condition_fit : (e : Option Expr) (slots : List Slot) → IsFine (fresh slots) → OptionFits e → Extends (condition (env scope) at e slots).made.slots f.slots → IsOperand Number (condition (env scope) at e slots)
    unfolding OptionFits
    condition_fit None slots fine fit extends = record { typed = refl; fine = fine }
    condition_fit (Some e) slots fine fit extends = number_fit e (fresh slots) fine fit.used fit.isnt extends

    -- ---- statements with none inside them

    -- a local gets a slot of its own
    empty_fits : (t : Ty) → is_value t ≡ true → fits f.slots t (empty_of t) ≡ true
    empty_fits Number v = refl
    empty_fits (Pointer base stars) v = refl
    empty_fits _ v = absurd cc

    initial_fine : (type' : CType) (name : List ℕ) (e : Option Expr) (m : Made) → IsFine m → FormFit silent prints allocates s (layer.Local type' name e)
        → Extends (initial (env scope) at (length m.slots) type' e (with_slot (Some name) type' m)).slots f.slots → is_value (declared type') ≡ true → IsFine (initial (env scope) at (length m.slots) type' e (with_slot (Some name) type' m))
    initial_fine type' name e m fine k extends val = by_initial e k extends where
      there_known : is_known p type'.base ≡ true
      there_known = not-false (is_known p type'.base) k.known

      more : IsFine (with_slot (Some name) type' m)
      more = slot_fine pp f quiet hush aside (Some name) type' m fine (slot_declared p type' there_known val)

      by_initial : (e : Option Expr) → FormFit silent prints allocates s (layer.Local type' name e) → Extends (initial (env scope) at (length m.slots) type' e (with_slot (Some name) type' m)).slots f.slots
          → IsFine (initial (env scope) at (length m.slots) type' e (with_slot (Some name) type' m))
      by_initial None k extends =
          then_fine pp f quiet hush aside at (SetP (length m.slots) (empty_of (declared type'))) (with_slot (Some name) type' m) more
          (set_whole p facts quiet silent prints allocates tells f hush aside (length m.slots) (declared type') (empty_of (declared type')) (slot_made p facts quiet silent prints allocates tells f hush aside (Some name) type' m extends) (empty_fits (declared type') val))
      by_initial (Some e) k extends =
          let whole = or_parts (is_whole (declared type')) (is_struct (type e)) k.whole in
          assigned_fine (length m.slots) (declared type') e (with_slot (Some name) type' m)
          (slot_made p facts quiet silent prints allocates tells f hush aside (Some name) type' m (extends_on (assigned_grows (env scope) at (length m.slots) (declared type') e (with_slot (Some name) type' m)) extends)) val more
          (record { fit = (k.values).0; gives = k.counts; whole = whole.1 }) k.agrees extends

    set_fine : (name : List ℕ) (e : Expr) (m : Made) → IsFine m → FormFit silent prints allocates s (layer.Set name e) → Extends (assigned (env scope) at (slot_of (env scope) name) (type_of_local scope name) e m).slots f.slots
        → IsFine (assigned (env scope) at (slot_of (env scope) name) (type_of_local scope name) e m)
    set_fine name e m fine k extends =
        let among = there scope name (not-false (is_in_scope (variables_of scope) name) k.known) in
        let whole = or_parts (is_whole (type_in (variables_of scope) name)) (is_struct (type e)) k.whole in
        assigned_fine (slot_of (env scope) name) (type_of_local scope name) e m (slot_typed p f.slots scope name held among) (value_named p f.slots scope name held among) fine
        (record { fit = (k.values).0; gives = k.counts; whole = whole.1 }) (ap (λ t. misfits s t e) (type_named scope name) ∙ k.agrees) extends

    store_fine : (into e : Expr) (m : Made) → IsFine m → FormFit silent prints allocates s (layer.Store into e) → is_place into ≡ true → Extends (stored (env scope) at (type into) e (flatten (env scope) at into m)).slots f.slots
        → IsFine (stored (env scope) at (type into) e (flatten (env scope) at into m))
    store_fine into e m fine k placed extends =
        let gives = or_parts (is_nothing (type into)) (is_nothing (type e)) k.counts in
        let whole = or_parts (is_struct (type into)) (is_struct (type e)) k.whole in
        let found = flatten (env scope) at into m in
        let named = place_found p facts quiet silent prints allocates tells f hush aside at scope held (result_of returns) returns outside parallel because into m (k.values).0 placed in
        stored_fine (type into) e found named (used_value into (record { fit = (k.values).0; gives = gives.0; whole = whole.0 }))
        (flat_found_here into m fine (k.values).0 (extends_on (stored_grows (env scope) at (type into) e found) extends))
        (record { fit = (k.values).1.0; gives = gives.1; whole = whole.1 }) k.agrees extends

    print_fine : (e : Expr) (m : Made) → IsFine m → FormFit silent prints allocates s (layer.Print e) → Extends (flat_of (env scope) at e m).made.slots f.slots
        → IsFine (then_stands at (PrintP (flat_of (env scope) at e m).value) (flat_of (env scope) at e m).made)
    print_fine e m fine k extends =
        let v = flat_of (env scope) at e m in
        let o = number_fit e m fine (record { fit = (k.values).0; gives = k.counts; whole = k.whole }) k.agrees extends in
        then_fine pp f quiet hush aside at (PrintP v.value) v.made o.fine
        (record {
          here = record { typed = fits_of f.slots Number v.value o.typed refl; shaped = refl; keeps = refl; silent = λ h. absurd (never h); aside = λ _. refl };
          within = tt;
        }) where
          never : hush ≡ true → ⊥
          never h = elim (because h) [ inl is ↦ k.quiet is | inr is ↦ k.parallel is ]

    call_fine : (name : List ℕ) (args : List Expr) (m : Made) → IsFine m → FormFit silent prints allocates s (layer.Call name args)
        → Extends (arguments (env scope) at (params_of (function_of p.funcs name)) args m).made.slots f.slots → IsFine (called (env scope) at name (arguments (env scope) at (params_of (function_of p.funcs name)) args m))
    call_fine name args m fine k extends =
        let there = found_some (function_of p.funcs name) k.known in
        let g = there.0 in
        let params = params_of (function_of p.funcs name) in
        let same_params : params ≡ g.params = ap params_of there.1 in
        let counts = or_parts (miscounts (function_of p.funcs name) (length args)) (list_any (gives_nothing s) args) k.counts in
        let by = called_by p facts quiet silent prints allocates tells f hush aside at scope held (result_of returns) returns outside parallel because name (length args) g there.1 counts.0 in
        let all = given_list params args m fine extends (subst (λ qs. AllByRecursion (λ (q : Param). is_value (declared q.ctype) ≡ true) qs) (sym same_params) (facts.params name g there.1)) k.values
        (ap length same_params ∙ by.0) (ap (λ o. argument_misfits s (params_of o) args) there.1 ∙ sym (ap (λ o. arguments_misfit s o args) there.1) ∙ k.agrees) counts.1 k.whole in
        let given_all = arguments (env scope) at params args m in
        then_fine pp f quiet hush aside at (CallP None (number_of p.funcs name) given_all.values) given_all.made all.fine
        (call_whole p facts quiet silent prints allocates tells f hush aside None name g given_all.values there.1 k.main (subst (λ qs. ArgumentsFit f.slots qs given_all.values) same_params all.fit) refl
        (λ h. elim (because h) [ inl is ↦ k.quiet is | inr is ↦ k.parallel is ]))

    -- a return, which stands in no parallel statement
    return_good : (e : Option PExpr) → (aside ≡ true → parallel ≡ true) → parallel ≡ false → return_fits f.slots returns e ≡ true → IsWhole (ReturnP e)
    return_good e inner outer fit = record {
      here = record {
        typed = ap (λ r. return_fits f.slots r e) returns_so ∙ fit;
        shaped = refl;
        keeps = refl;
        silent = λ _. refl;
        aside = λ is. let both = inner is in absurd cc;
      };
      within = tt;
    }

    nothing_fits : (result : Option CType) → is_some result ≡ false → return_fits f.slots result None ≡ true
    nothing_fits None h = refl
    nothing_fits (Some t) h = absurd cc

    return_nothing_fine : (m : Made) → IsFine m → FormFit silent prints allocates s (layer.Return None) → (aside ≡ true → parallel ≡ true) → IsFine (then_stands at (ReturnP None) m)
    return_nothing_fine m fine k inner = then_fine pp f quiet hush aside at (ReturnP None) m fine (return_good None inner k.outside (nothing_fits returns k.returns))

    result_there : (result : Option CType) → not (is_some result) ≡ false → (t : CType) × (result ≡ Some t)
    result_there None h = absurd cc
    result_there (Some t) h = (t, refl)

    return_fine : (e : Expr) (m : Made) → IsFine m → FormFit silent prints allocates s (layer.Return (Some e)) → (aside ≡ true → parallel ≡ true) → Extends (flat_as (env scope) at (result_of returns) e m).made.slots f.slots
        → IsFine (then_stands at (ReturnP (Some (flat_as (env scope) at (result_of returns) e m).value)) (flat_as (env scope) at (result_of returns) e m).made)
    return_fine e m fine k inner extends =
        let v = flat_as (env scope) at (result_of returns) e m in
        let found = result_there returns k.returns in
        let same_result : result_of returns ≡ declared found.0 = ap result_of found.1 in
        let o = wanted_fit (result_of returns) e m (ap is_value same_result ∙ worthy found.0 found.1) fine (record { fit = (k.values).0; gives = k.counts; whole = k.whole }) k.agrees extends in
        then_fine pp f quiet hush aside at (ReturnP (Some v.value)) v.made o.fine
        (return_good (Some v.value) inner k.outside (ap (λ r. return_fits f.slots r (Some v.value)) found.1 ∙ ap (λ t. fits f.slots t v.value) (sym same_result) ∙ o.fit))

  -- ---- what is in scope behind a statement

  site_behind : (at : Place) (scope : List (Local ℕ)) (outside : ℕ) (parallel : Bool) (kind : StmtKind) (m : Made) → after (site scope outside parallel) kind ≡ site (plain (env scope) at kind m).scope outside parallel
  site_behind at scope outside parallel (Declare type name e) m =
      ap {A = List Variable} {B = Site} (λ vs. record { program = p; prints = prints; allocates = allocates; returns = returns; scope = vs; outside = outside; parallel = parallel })
      (sym (one_variable_more (record { name = name; type = declared type; what = length m.slots }) scope))
  site_behind at scope outside parallel (Return None) m = refl
  site_behind at scope outside parallel (Return (Some e)) m = refl
  site_behind at scope outside parallel kind m = refl

  nothing_more : {n : _} (scope : List (Local ℕ)) (rest : Row_of-Stmt n) (m : Made) → IsOne (one_more n) → (plain_row (env scope) rest m).scope ≡ scope
  nothing_more scope end_of-Stmt m one = refl
  nothing_more scope (more_of-Stmt at kind rest) m one = absurd one

  row_site : {n : _} (scope : List (Local ℕ)) (outside : ℕ) (parallel : Bool) (row : Row_of-Stmt n) (m : Made) → IsOne n → after_row (site scope outside parallel) row ≡ site (plain_row (env scope) row m).scope outside parallel
  row_site scope outside parallel end_of-Stmt m one = absurd one
  row_site scope outside parallel (more_of-Stmt at kind rest) m one =
      site_behind at scope outside parallel kind m ∙ ap (λ (inner : List (Local ℕ)). site inner outside parallel) (sym (nothing_more (plain (env scope) at kind m).scope rest (plain (env scope) at kind m).made one))

  held_site : (scope : List (Local ℕ)) (outside : ℕ) (parallel : Bool) (held : Held-StmtKind-If-1) (m : Made) → after_first (site scope outside parallel) held ≡ site (plain_held (env scope) held m).scope outside parallel
  held_site scope outside parallel None' m = refl
  held_site scope outside parallel (Some' q row) m = row_site scope outside parallel row m tt

  -- ---- statements

  -- in a parallel statement all is silent, and elsewhere what stands in a silent function
  abbrev hushed : Bool → Bool
  hushed parallel = cond parallel true silent

  because : (parallel : Bool) → hushed parallel ≡ true → (silent ≡ true) ⊎ (parallel ≡ true)
  because true h = inr refl
  because false h = inl h

  abbrev FineIn : Bool → Made → Type 0
  FineIn parallel m = Fine pp f quiet (hushed parallel) parallel m

  -- a list of its own begins with nothing
  begun : (hush aside parallel : Bool) (m : Made) → Fine pp f quiet hush aside m → FineIn parallel (fresh m.slots)
  begun hush aside parallel m fine = record { front = tt; slots = fine.slots }

  record Fits (parallel : Bool) (b : Behind) : Type 0 where
    pub fine : FineIn parallel b.made
    pub held : AreHeld p f.slots b.scope

  -- a new local, with the slot that it gets
  new_held : (name : List ℕ) (type : CType) (m : Made) → is_known p type.base ≡ true → is_value (declared type) ≡ true → Extends (with_slot (Some name) type m).slots f.slots
      → Held p f.slots (record { name = name; type = declared type; what = length m.slots })
  new_held name type m known_base val extends = record {
    typed = type_there (with_slot (Some name) type m).slots f.slots (length m.slots) (record { name = Some name; ctype = type }) extends (slice_get_push m.slots (record { name = Some name; ctype = type }));
    known = known_declared p type known_base val;
    worthy = val;
  }

  -- a loop
  loop_fine : (parallel : Bool) (at : Place) (c : Valued) (done m : Made) → FineIn parallel m → plain_type f.slots c.value ≡ Number → AllGood pp f quiet (hushed parallel) true (statements c.made.front) → FineIn parallel done
      → FineIn parallel (looped at c done m)
  loop_fine parallel at c done m fine is head turn =
      then_fine pp f quiet (hushed parallel) parallel at (WhileP c.made.front c.value done.front) (record { slots = done.slots; front = m.front }) (record { front = fine.front; slots = turn.slots })
      (while_whole pp f quiet (hushed parallel) parallel c.made.front c.value done.front (fits_of f.slots Number c.value is refl) head turn.front)

  for_condition : (parallel : Bool) (at : Place) (scope : List (Local ℕ)) (held : AreHeld p f.slots scope) (outside : ℕ) (first : Option Stmt) (e : Option Expr) (third : Option Stmt) (body : Stmt)
      → FormFit silent prints allocates (site scope outside parallel) (layer.For first e third body) → OptionFits (hushed parallel) true at scope held outside parallel (because parallel) e
  unfolding OptionFits
  for_condition parallel at scope held outside first None third body k = tt
  for_condition parallel at scope held outside first (Some e) third body k = record { used = record { fit = (k.values).0; gives = k.counts; whole = k.whole }; isnt = k.agrees }

  record BranchesFit (all : Branches) (count : ℕ) : Type 0 where
    pub good : AllGood pp f quiet true true (flat_map within_branch all.list)
    pub slots : list_all (λ (t : Slot). is_slot_type p.structs t.ctype) all.slots ≡ true
    pub many : length all.list ≡ count

  record IterationFits (made : Branch × List Slot) : Type 0 where
    pub good : AllGood pp f quiet true true (within_branch made.0)
    pub slots : list_all (λ (t : Slot). is_slot_type p.structs t.ctype) made.1 ≡ true

  mutual
    unfolding sites sites_row sites_each sites_arms sites_arm sites_held inside within_row within_arms within_arm within_held out-StmtKind out-Arm denote.Hole.Carrier.out OptionFits

    statement_fits : (kind : StmtKind) (at : Place) (scope : List (Local ℕ)) → AreHeld p f.slots scope → (outside : ℕ) (parallel : Bool) (m : Made) → FineIn parallel m → Extends (plain (env scope) at kind m).made.slots f.slots
        → AllPlaced (sites (site scope outside parallel) at kind) → stores_to_place kind ≡ true → is_few kind ≡ true → AreShaped (inside kind) → Fits parallel (plain (env scope) at kind m)
    statement_fits Empty at scope held outside parallel m fine extends placed stores few shaped = record { fine = fine; held = held }
    statement_fits (Block' n body) at scope held outside parallel m fine extends placed stores few shaped = record { fine = (row_fits body scope held outside parallel m fine extends placed shaped).fine; held = held }
    statement_fits (Declare type name e) at scope held outside parallel m fine extends placed stores few shaped =
        let k = placed.0 in
        let val = value_declared type (or_parts (is_whole (declared type)) _ k.whole).0 in
        record {
          fine = initial_fine (hushed parallel) parallel at scope held outside parallel (because parallel) type name e m fine k extends val;
          held = (new_held name type m (not-false (is_known p type.base) k.known) val (extends_on (initial_grows (env scope) at (length m.slots) type e (with_slot (Some name) type m)) extends), held);
        }
    statement_fits (Set name e) at scope held outside parallel m fine extends placed stores few shaped =
        record { fine = set_fine (hushed parallel) parallel at scope held outside parallel (because parallel) name e m fine placed.0 extends; held = held }
    statement_fits (Store into e) at scope held outside parallel m fine extends placed stores few shaped =
        record { fine = store_fine (hushed parallel) parallel at scope held outside parallel (because parallel) into e m fine placed.0 stores extends; held = held }
    statement_fits (Call name args) at scope held outside parallel m fine extends placed stores few shaped =
        record { fine = call_fine (hushed parallel) parallel at scope held outside parallel (because parallel) name args m fine placed.0 extends; held = held }
    statement_fits (If' n arms other) at scope held outside parallel m fine extends placed stores few shaped =
        let s = site scope outside parallel in
        let k = placed.0 in
        let parts = both_placed silent prints allocates (sites_arms s arms) (sites_held s other) placed.1 in
        let within = both_shaped (within_arms arms) (within_held other) shaped in
        let conditions = subst (λ (all : List Arm). AllByRecursion (Condition (hushed parallel) parallel at scope held outside parallel (because parallel)) (map condition_of all)) (sym (arms_of (If' n arms other) _ _ refl))
        (conditions_of (hushed parallel) parallel at scope held outside parallel (because parallel) _ k.values k.agrees k.counts k.whole) in
        record {
          fine = arms_fit arms at scope held outside parallel (λ k. (plain_held (env scope) other k).made) (λ k. held_grows (env scope) other k)
              (λ k good longer. (held_fits other scope held outside parallel k good longer parts.1 within.1).fine) m fine extends conditions parts.0 within.0;
          held = held;
        }
    statement_fits (While' e q body) at scope held outside parallel m fine extends placed stores few shaped =
        let k = placed.0 in
        let c = condition (env scope) at (Some e) m.slots in
        let done = (plain_row (env scope) body (fresh c.made.slots)).made in
        let o = condition_fit (hushed parallel) true at scope held outside parallel (because parallel) (Some e) m.slots (record { front = tt; slots = fine.slots })
        (record { used = record { fit = (k.values).0; gives = k.counts; whole = k.whole }; isnt = k.agrees }) (extends_on (row_grows (env scope) body (fresh c.made.slots)) extends) in
        let turn = row_fits body scope held outside parallel (fresh c.made.slots) (begun (hushed parallel) true parallel c.made o.fine) extends placed.1 shaped in
        record {
          fine = loop_fine parallel at c done m fine o.typed (o.fine).front turn.fine;
          held = held;
        }
    statement_fits (For' first e third q body) at scope held outside parallel m fine extends placed stores few shaped =
        let s = site scope outside parallel in
        let opened = plain_held (env scope) first m in
        let inner = opened.scope in
        let c = condition (env inner) at e opened.made.slots in
        let done = plain_row (env inner) body (fresh c.made.slots) in
        let last = (plain_held (env inner) third done.made).made in
        let parts = both_placed silent prints allocates (sites_held s first) _ placed in
        let is : after_first s first ≡ site inner outside parallel = held_site scope outside parallel first m in
        let own : FormFit silent prints allocates (site inner outside parallel) (out-StmtKind (For' first e third q body)) = subst (λ t. FormFit silent prints allocates t (out-StmtKind (For' first e third q body))) is (parts.1).0 in
        let rest = both_placed silent prints allocates (sites_held (after_first s first) third) (sites_row (after_first s first) body) (parts.1).1 in
        let within = both_shaped (within_held first ++ within_held third) (within_row body) shaped in
        let heads = both_shaped (within_held first) (within_held third) within.0 in
        let late = held_grows (env inner) third done.made in
        let later = extends_on (row_grows (env inner) body (fresh c.made.slots)) (extends_on late extends) in
        let opens = held_fits first scope held outside parallel m fine (extends_on (condition_grows (env inner) at e opened.made.slots) later) parts.0 heads.0 in
        let o = condition_fit (hushed parallel) true at inner opens.held outside parallel (because parallel) e opened.made.slots (record { front = tt; slots = (opens.fine).slots }) (for_condition parallel at inner opens.held outside _ e _ _ own) later in
        let turn = row_fits body inner opens.held outside parallel (fresh c.made.slots) (begun (hushed parallel) true parallel c.made o.fine) (extends_on late extends) (subst (λ t. AllPlaced (sites_row t body)) is rest.1) within.1 in
        let ends = held_fits third inner opens.held outside parallel done.made turn.fine extends (subst (λ t. AllPlaced (sites_held t third)) is rest.0) heads.1 in
        record { fine = loop_fine parallel at c last opened.made opens.fine o.typed (o.fine).front ends.fine; held = held }
    statement_fits (Print e) at scope held outside parallel m fine extends placed stores few shaped =
        record { fine = print_fine (hushed parallel) parallel at scope held outside parallel (because parallel) e m fine placed.0 extends; held = held }
    statement_fits (Return None) at scope held outside parallel m fine extends placed stores few shaped =
        record { fine = return_nothing_fine (hushed parallel) parallel at scope held outside parallel (because parallel) m fine placed.0 (λ is. is); held = held }
    statement_fits (Return (Some e)) at scope held outside parallel m fine extends placed stores few shaped =
        record { fine = return_fine (hushed parallel) parallel at scope held outside parallel (because parallel) e m fine placed.0 (λ is. is) extends; held = held }
    statement_fits (Cobegin' n blocks) at scope held outside parallel m fine extends placed stores few shaped =
        let all = plain_branches (env scope) blocks m.slots in
        let done = branches_fit blocks scope held (length (variables_of scope)) m.slots fine.slots extends placed shaped in
        record {
          fine = then_fine pp f quiet (hushed parallel) parallel at (CobeginP all.list) (record { slots = all.slots; front = m.front }) (record { front = fine.front; slots = done.slots })
              (cobegin_whole pp f quiet (hushed parallel) parallel all.list (ap few_branches done.many ∙ few) done.good);
          held = held;
        }
    statement_fits (Foreach' index low high step q body) at scope held outside parallel m fine extends placed stores few shaped =
        let k = placed.0 in
        let n = length (variables_of scope) in
        let opened = with_slot (Some index) int_type m in
        let slot = length m.slots in
        let from = operand (is_pure high) at Number (flatten (env scope) at low opened) in
        let to = flat_of (env scope) at high from.made in
        let inner : List (Local ℕ) = record { name = index; type = Number; what = slot } ∷ scope in
        let done = plain_iteration (env inner) body to.made.slots in
        let late = iteration_grows (env inner) body to.made.slots in
        let later = extends_on (flat_of_grows (env scope) at high from.made) (extends_on late extends) in
        let first = extends_on (flatten_grows (env scope) at low opened) (extends_on (operand_grows (is_pure high) at Number (flatten (env scope) at low opened)) later) in
        let agrees = or_parts (is_pointer (expression_type p (variables_of scope) low)) (is_pointer (expression_type p (variables_of scope) high)) k.agrees in
        let gives = or_parts (is_nothing (expression_type p (variables_of scope) low)) (is_nothing (expression_type p (variables_of scope) high)) k.counts in
        let whole = or_parts (is_struct (expression_type p (variables_of scope) low)) (is_struct (expression_type p (variables_of scope) high)) k.whole in
        let inside_it : hushed parallel ≡ true → (silent ≡ true) ⊎ (true ≡ true) = λ _. inr refl in
        let more = slot_fine pp f quiet (hushed parallel) parallel (Some index) int_type m fine refl in
        let a = low_fit (hushed parallel) parallel at scope held n true inside_it (is_pure high) low opened more (record { fit = (k.values).0; gives = gives.0; whole = whole.0 }) agrees.0 later in
        let b = number_fit (hushed parallel) parallel at scope held n true inside_it high from.made a.fine (record { fit = (k.values).1.0; gives = gives.1; whole = whole.1 }) agrees.1 (extends_on late extends) in
        let index_held = new_held index int_type m refl refl first in
        let is : iteration (site scope outside parallel) index ≡ site inner (length (variables_of inner)) true =
        ap {A = List Variable} {B = Site} (λ vs. record { program = p; prints = prints; allocates = allocates; returns = returns; scope = vs; outside = length vs; parallel = true })
        (sym (one_variable_more (record { name = index; type = Number; what = slot }) scope)) in
        let turn = iteration_fits body inner (index_held, held) (length (variables_of inner)) to.made.slots (b.fine).slots extends (subst (λ t. AllPlaced (sites_row t body)) is placed.1) shaped in
        record {
          fine = then_fine pp f quiet (hushed parallel) parallel at (ForeachP slot from.value to.value step done.0) (record { slots = done.1; front = to.made.front }) (record { front = (b.fine).front; slots = turn.slots })
              (foreach_whole pp f quiet (hushed parallel) parallel slot from.value to.value step done.0
              (and_from _ _ (and_from _ _ (ap is_number index_held.typed) (fits_of f.slots Number from.value a.typed refl)) (fits_of f.slots Number to.value b.typed refl)) (not-false (is_step step) k.step) turn.good);
          held = held;
        }

    row_fits : {n : _} (row : Row_of-Stmt n) (scope : List (Local ℕ)) → AreHeld p f.slots scope → (outside : ℕ) (parallel : Bool) (m : Made) → FineIn parallel m → Extends (plain_row (env scope) row m).made.slots f.slots
        → AllPlaced (sites_row (site scope outside parallel) row) → AreShaped (within_row row) → Fits parallel (plain_row (env scope) row m)
    row_fits end_of-Stmt scope held outside parallel m fine extends placed shaped = record { fine = fine; held = held }
    row_fits (more_of-Stmt at kind rest) scope held outside parallel m fine extends placed shaped =
        let s = site scope outside parallel in
        let b = plain (env scope) at kind m in
        let parts = both_placed silent prints allocates (sites s at kind) (sites_row (after s kind) rest) placed in
        let within = both_shaped (inside kind) (within_row rest) shaped.1 in
        let first = statement_fits kind at scope held outside parallel m fine (extends_on (row_grows (env b.scope) rest b.made) extends) parts.0 (shaped.0).0 (shaped.0).1 within.0 in
        row_fits rest b.scope first.held outside parallel b.made first.fine extends (subst (λ t. AllPlaced (sites_row t rest)) (site_behind at scope outside parallel kind m) parts.1) within.1

    held_fits : (part : Held-StmtKind-If-1) (scope : List (Local ℕ)) → AreHeld p f.slots scope → (outside : ℕ) (parallel : Bool) (m : Made) → FineIn parallel m → Extends (plain_held (env scope) part m).made.slots f.slots
        → AllPlaced (sites_held (site scope outside parallel) part) → AreShaped (within_held part) → Fits parallel (plain_held (env scope) part m)
    held_fits None' scope held outside parallel m fine extends placed shaped = record { fine = fine; held = held }
    held_fits (Some' q body) scope held outside parallel m fine extends placed shaped = row_fits body scope held outside parallel m fine extends placed shaped

    arms_fit : {n : _} (row : Row_of-Arm n) (at : Place) (scope : List (Local ℕ)) (held : AreHeld p f.slots scope) (outside : ℕ) (parallel : Bool) (otherwise : Made → Made) → ((k : Made) → Extends k.slots (otherwise k).slots)
        → ((k : Made) → FineIn parallel k → Extends (otherwise k).slots f.slots → FineIn parallel (otherwise k)) → (m : Made) → FineIn parallel m → Extends (plain_arms (env scope) at row otherwise m).slots f.slots
        → AllByRecursion (Condition (hushed parallel) parallel at scope held outside parallel (because parallel)) (map condition_of (items-the_row-Arm n row)) → AllPlaced (sites_arms (site scope outside parallel) row) → AreShaped (within_arms row)
        → FineIn parallel (plain_arms (env scope) at row otherwise m)
    arms_fit end_of-Arm at scope held outside parallel otherwise grows others m fine extends conditions placed shaped = others m fine extends
    arms_fit (more_of-Arm arm rest) at scope held outside parallel otherwise grows others m fine extends conditions placed shaped =
        let s = site scope outside parallel in
        let parts = both_placed silent prints allocates (sites_arm s arm) (sites_arms s rest) placed in
        let within = both_shaped (within_arm arm) (within_arms rest) shaped in
        arm_fits arm at scope held outside parallel (plain_arms (env scope) at rest otherwise) (λ k. arms_grow (env scope) at rest otherwise grows k)
        (λ k good longer. arms_fit rest at scope held outside parallel otherwise grows others k good longer conditions.1 parts.1 within.1) m fine extends conditions.0 parts.0 within.0

    arm_fits : (arm : Arm) (at : Place) (scope : List (Local ℕ)) (held : AreHeld p f.slots scope) (outside : ℕ) (parallel : Bool) (otherwise : Made → Made) → ((k : Made) → Extends k.slots (otherwise k).slots)
        → ((k : Made) → FineIn parallel k → Extends (otherwise k).slots f.slots → FineIn parallel (otherwise k)) → (m : Made) → FineIn parallel m → Extends (plain_arm (env scope) at arm otherwise m).slots f.slots
        → Condition (hushed parallel) parallel at scope held outside parallel (because parallel) (condition_of arm) → AllPlaced (sites_arm (site scope outside parallel) arm) → AreShaped (within_arm arm)
        → FineIn parallel (plain_arm (env scope) at arm otherwise m)
    arm_fits (Arm' e q body) at scope held outside parallel otherwise grows others m fine extends cond placed shaped =
        let c = flat_of (env scope) at e m in
        let done = (plain_row (env scope) body (fresh c.made.slots)).made in
        let other = otherwise (fresh done.slots) in
        let late = extends_on (grows (fresh done.slots)) extends in
        let o = number_fit (hushed parallel) parallel at scope held outside parallel (because parallel) e m fine cond.used cond.isnt (extends_on (row_grows (env scope) body (fresh c.made.slots)) late) in
        let holds = row_fits body scope held outside parallel (fresh c.made.slots) (begun (hushed parallel) parallel parallel c.made o.fine) late placed shaped in
        let fails = others (fresh done.slots) (begun (hushed parallel) parallel parallel done holds.fine) extends in
        then_fine pp f quiet (hushed parallel) parallel at (IfP c.value done.front other.front) (record { slots = other.slots; front = c.made.front }) (record { front = (o.fine).front; slots = fails.slots })
        (if_whole pp f quiet (hushed parallel) parallel c.value done.front other.front (fits_of f.slots Number c.value o.typed refl) (holds.fine).front fails.front)

    branches_fit : {n : _} (row : Row_of-Stmt n) (scope : List (Local ℕ)) → AreHeld p f.slots scope → (outside : ℕ) (slots : List Slot) → list_all (λ (t : Slot). is_slot_type p.structs t.ctype) slots ≡ true
        → Extends (plain_branches (env scope) row slots).slots f.slots → AllPlaced (sites_each (site scope outside true) row) → AreShaped (within_row row) → BranchesFit (plain_branches (env scope) row slots) (length (items-the_row-Stmt n row))
    branches_fit end_of-Stmt scope held outside slots fine extends placed shaped = record { good = tt; slots = fine; many = refl }
    branches_fit (more_of-Stmt at kind rest) scope held outside slots fine extends placed shaped =
        let s = site scope outside true in
        let done = (plain (env scope) at kind (fresh slots)).made in
        let parts = both_placed silent prints allocates (sites s at kind) (sites_each s rest) placed in
        let within = both_shaped (inside kind) (within_row rest) shaped.1 in
        let first = statement_fits kind at scope held outside true (fresh slots) (record { front = tt; slots = fine }) (extends_on (branches_grow (env scope) rest done.slots) extends) parts.0 (shaped.0).0 (shaped.0).1 within.0 in
        let others = branches_fit rest scope held outside done.slots (first.fine).slots extends parts.1 within.1 in
        record {
          good = good_both pp f quiet true true (within_branch (branch at done)) (flat_map within_branch (plain_branches (env scope) rest done.slots).list) (good_by pp f quiet true true (within_branch-list at done.front) (first.fine).front) others.good;
          slots = others.slots;
          many = ap suc others.many;
        }

    iteration_fits : {n : _} (row : Row_of-Stmt n) (scope : List (Local ℕ)) → AreHeld p f.slots scope → (outside : ℕ) (slots : List Slot) → list_all (λ (t : Slot). is_slot_type p.structs t.ctype) slots ≡ true
        → Extends (plain_iteration (env scope) row slots).1 f.slots → AllPlaced (sites_row (site scope outside true) row) → AreShaped (within_row row) → IterationFits (plain_iteration (env scope) row slots)
    iteration_fits end_of-Stmt scope held outside slots fine extends placed shaped =
        record { good = good_by pp f quiet true true (within_branch-list (record { line = 1; col = 1 }) []) tt; slots = fine }
    iteration_fits (more_of-Stmt at kind rest) scope held outside slots fine extends placed shaped =
        let s = site scope outside true in
        let done = (plain (env scope) at kind (fresh slots)).made in
        let parts = both_placed silent prints allocates (sites s at kind) (sites_row (after s kind) rest) placed in
        let within = both_shaped (inside kind) (within_row rest) shaped.1 in
        let first = statement_fits kind at scope held outside true (fresh slots) (record { front = tt; slots = fine }) extends parts.0 (shaped.0).0 (shaped.0).1 within.0 in
        record { good = good_by pp f quiet true true (within_branch-list at done.front) (first.fine).front; slots = (first.fine).slots }

  -- the body of a function
  pub all_fits : (body : List Stmt) (scope : List (Local ℕ)) → AreHeld p f.slots scope → (m : Made) → FineIn false m → Extends (plain_all (env scope) body m).slots f.slots → AllPlaced (sites_list (site scope 0 false) body)
      → AreShaped (source_statements body) → FineIn false (plain_all (env scope) body m)
  all_fits [] scope held m fine extends placed shaped = fine
  all_fits (stmt ∷ rest) scope held m fine extends placed shaped =
      let s = site scope 0 false in
      let b = plain (env scope) stmt.at stmt.kind m in
      let parts = both_placed silent prints allocates (sites s stmt.at stmt.kind) (sites_list (after s stmt.kind) rest) placed in
      let within = both_shaped (inside stmt.kind) (source_statements rest) shaped.1 in
      let first = statement_fits stmt.kind stmt.at scope held 0 false m fine (extends_on (all_grows (env b.scope) rest b.made) extends) parts.0 (shaped.0).0 (shaped.0).1 within.0 in
      all_fits rest b.scope first.held b.made first.fine extends (subst (λ t. AllPlaced (sites_list t rest)) (site_behind stmt.at scope 0 false stmt.kind m) parts.1) within.1
