-- An expression that breaks no name rule is flattened to good statements and to a value of its type.
use Rattle.std.proofs.Common.{◌≡◌, ℕ, zero, suc, Bool, true, false, cond, not, ◌&&◌, ◌||◌, ◌==◌, pos, List, [], ◌∷◌, ◌++◌, length, map, Option, None, Some, refl, ap, ap₂, sym, ◌∙◌, ◌⊎◌, inl, inr, subst, codes, arith}
use Rattle.std.specs.Prelude.{option_map}
use Rattle.std.specs.List.{slice_get, AllByRecursion, list_any}
use Rattle.std.proofs.lemmas.Bool.{cases_Bool, cond_both, and_parts, and_from, or_parts, not-false, not_from_false, eqb-true}
use Rattle.std.proofs.lemmas.Option.{slice_get-map}
use Rattle.lq_tree.specs.declared.place.Place.{Place}
use Rattle.lq_tree.specs.declared.expr.Base.{Base}
use Rattle.lq_tree.specs.declared.expr.Base.TheVariants.{Int, Struct}
use Rattle.lq_tree.specs.declared.expr.BinOp.{BinOp}
use Rattle.lq_tree.specs.declared.expr.BinOp.TheVariants.{Ne, And, Or}
use Rattle.lq_tree.specs.declared.expr.CType.{CType}
use Rattle.lq_tree.specs.declared.expr.Expr.{Expr, Num, Var, Neg', Not', Bin', Index', Deref', Arrow', Dot', Call' as CallExpr', Calloc', Row_of-Expr, end_of-Expr, more_of-Expr, items-the_row-Expr}
use Rattle.lq_tree.specs.declared.plain.PExpr.{PExpr, Num as Number', Null}
use Rattle.lq_tree.specs.declared.plain.PKind.{PKind, Set, Load, Call}
use Rattle.lq_tree.specs.declared.plain.PStmt.{PStmt}
use Rattle.lq_tree.specs.declared.plain.PFunc.{PFunc}
use Rattle.lq_tree.specs.declared.plain.Slot.{Slot}
use Rattle.lq_tree.specs.declared.program.Func.{Func}
use Rattle.lq_tree.specs.declared.program.Param.{Param}
use Rattle.lq_tree.specs.declared.program.Program.{Program}
use Rattle.lq_tree.specs.Layout.{field_number}
use Rattle.lq_tree.specs.Lookup.{same, function_of, number_of}
use Rattle.lq_tree.specs.PlainTypes.{is_value, agree, slot_type, number_if, plain_type, fits, field_type, reached, arguments_fit, result_fits, call_fits}
use Rattle.lq_tree.specs.PlainWalk.{statements}
use Rattle.lq_tree.specs.Types.{Ty, Number, Pointer, Element, Unknown, declared, declared_as, type_of_field, field_of, is_in_scope, is_number, is_pointer, is_known, element_of, dotted, combined, result_of, called, count_row, expression_type}
use Rattle.lq_tree.specs.Locals.{Local, variables_of}
use Rattle.lq_tree.specs.Walk.{nodes, nodes_row}
use Rattle.lq_names.specs.Scopes.{Site}
use Rattle.lq_names.specs.Rules.{is_zero as is_zero_node, disagrees, misfits, argument_misfits, arguments_misfit, miscounts, operator_misfits, is_nothing, is_struct, is_whole, has_no_fields, gives_nothing, gives_struct, is_main}
use Rattle.lq_meaning.specs.Meaning.{context}
use Rattle.lq_meaning.specs.PlainMeaning.{called as plain_called}
use Rattle.lq_plain.specs.Flat.{Env, Made, statement, then_stands, with_slot, slot_type as ctype_for, int_type, Valued, valued, Flat, Is, Names, Gets, is_atom, in_new_slot, load, atom, flat, operand, is_pure_row, operator, slot_in, is_true, if_needed, at_first, stopping, stops_early, dotted as field_of_element, Values, is_zero, wanted, params_of, flatten, operand_row, arguments_row}
use Rattle.lq_plain.specs.Plain.{param_slot, plain_func, plain_program}
use Rattle.lq_plain.specs.Places.{is_place}
use Rattle.lq_plain.proofs.Related.{there}
use Rattle.lq_plain.proofs.Taken.{made_of}
use Rattle.lq_plain.proofs.KeptForms.{IsNames}
use Rattle.lq_plain.proofs.KeptExpressions.{place_named}
use Rattle.lq_plain.proofs.NamedTypes.{suits, AreTyped, a_value, a_pointer}
use Rattle.lq_plain.proofs.NamedExpressions.{same_zero, node_of, count_items, sound}
use Rattle.lq_plain.proofs.Growing.{Extends, extends_on, extends_slot, slice_get_push, atom_grows, flat_grows, flatten_grows, operand_row_grows, arguments_row_grows, all_grows}
use Rattle.lq_plain.proofs.SlotTypes.{same_self, agree_self, agreed, number_where, type-neg, type-not, type-bin, operator_gives, fits_of, slot_of_atom, is_known_type, known_with, declared_for, slot_for, type_there, field_reached, first_field}
use Rattle.lq_plain.proofs.WellMade.{AllGood, Whole, Fine, then_fine, slot_fine, if_whole}
use Rattle.lq_plain.proofs.FitExpressions.{IsQuietNode, IsFit, kept_at, AreFit, fit_kept, both_fit, one_fit}
use Rattle.lq_plain.proofs.FitTypes.{function_at, names_by_number, found_some, Facts, AreHeld, held_typed, held_known, known_type, slot_named}

-- ---- elements

abbrev is_element : Ty → Bool
is_element (Element name) = true
is_element _ = false

declared_no_element : (type : CType) → is_element (declared type) ≡ false
declared_no_element type = by_base type.base type.stars where
  by_base : (base : Base) (stars : ℕ) → is_element (declared_as base stars) ≡ false
  by_base Int zero = refl
  by_base (Struct name) zero = refl
  by_base Int (suc n) = refl
  by_base (Struct name) (suc n) = refl

field_no_element : (found : Option Param) → is_element (type_of_field found) ≡ false
field_no_element None = refl
field_no_element (Some q) = declared_no_element q.ctype

dotted_no_element : (p : Program) (t : Ty) (field : List ℕ) → is_element (dotted p t field) ≡ false
dotted_no_element p (Element struct) field = field_no_element (field_of p struct field)
dotted_no_element p _ field = refl

an_element : (t : Ty) (place : Bool) → suits t place ≡ true → is_nothing t ≡ false → is_whole t ≡ false → has_no_fields t ≡ false → (is_element t ≡ true) × (place ≡ true)
an_element (Element name) place h n w f = (refl, h)
an_element _ place h n w f = absurd cc

-- ---- operators that stop early

early_number : (op : BinOp) (left right : Ty) → stops_early op ≡ true → combined op left right ≡ Number
early_number And left right h = refl
early_number Or left right h = refl
early_number _ left right h = absurd cc

early_misfits : (op : BinOp) (left right : Ty) (lz rz : Bool) → stops_early op ≡ true → operator_misfits op left lz right rz ≡ false → (is_pointer left || is_pointer right) ≡ false
early_misfits And left right lz rz h m = m
early_misfits Or left right lz rz h m = m
early_misfits _ left right lz rz h m = absurd cc

-- ---- arguments

module _ (slots : List Slot) where
  -- each value stands where its parameter wants it, and there are as many
  abbrev pub ArgumentsFit : List Param → List PExpr → Type 0
  ArgumentsFit [] [] = Unit {0}
  ArgumentsFit (q ∷ params) (v ∷ values) = (fits slots (declared q.ctype) v ≡ true) × ArgumentsFit params values
  ArgumentsFit _ _ = ⊥

  slot_here : {a b : Slot} → Some a ≡ Some b → a ≡ b
  slot_here is = cc

  -- the first slots of the callee are its parameters
  arguments_stand : (params : List Param) (values : List PExpr) (callee : List Slot) → ArgumentsFit params values → Extends (map param_slot params) callee → arguments_fit slots (length params) callee values ≡ true
  arguments_stand [] [] callee fit extends = refl
  arguments_stand [] (v ∷ values) callee fit extends = absurd fit
  arguments_stand (q ∷ params) [] callee fit extends = absurd fit
  arguments_stand (q ∷ params) (v ∷ values) [] fit extends = let is = extends.there 0 (param_slot q) refl in absurd cc
  arguments_stand (q ∷ params) (v ∷ values) (s ∷ callee) fit extends =
      let is : s ≡ param_slot q = slot_here (extends.there 0 (param_slot q) refl) in
      and_from (fits slots (declared s.ctype) v) _ (ap (λ (t : Slot). fits slots (declared t.ctype) v) is ∙ fit.0)
      (arguments_stand params values callee fit.1 (record { there = λ n t found. extends.there (suc n) t found }))

-- ---- flattening

module _ (p : Program) (facts : Facts p) (quiet : ℕ → Bool) (silent : Bool) (prints allocates : List ℕ → Bool) where
  -- a function that may neither print nor allocate is a quiet one
  abbrev pub Tells : Type 0
  Tells = (name : List ℕ) (g : Func) → function_of p.funcs name ≡ Some g → prints name ≡ false → allocates name ≡ false → quiet (number_of p.funcs name) ≡ true

  module _ (tells : Tells) (f : PFunc) (hush aside : Bool) where
    abbrev IsGood : PKind → Type 0
    IsGood kind = Whole (plain_program p) f quiet hush aside kind

    abbrev IsFine : Made → Type 0
    IsFine m = Fine (plain_program p) f quiet hush aside m

    -- a call of a function that is there
    pub call_whole : (to : Option ℕ) (name : List ℕ) (g : Func) (args : List PExpr) → function_of p.funcs name ≡ Some g → is_main name ≡ false → ArgumentsFit f.slots g.params args → result_fits f.slots to g.result ≡ true
        → (hush ≡ true → (prints name ≡ false) × (allocates name ≡ false)) → IsGood (Call to (number_of p.funcs name) args)
    call_whole to name g args is other fit result still =
        let callee : slice_get (map (plain_func p) p.funcs) (number_of p.funcs name) ≡ Some (plain_func p g) =
        slice_get-map (plain_func p) p.funcs (number_of p.funcs name) ∙ ap (option_map (plain_func p)) (function_at p.funcs name g is).0 in
        let not_main : (number_of p.funcs name == number_of p.funcs (codes "main")) ≡ false = not_same (cases_Bool (number_of p.funcs name == number_of p.funcs (codes "main"))) in
        record {
          here = record {
            typed = and_from _ _ (not_from_false _ not_main)
                (ap (λ o. call_fits f.slots to o args) callee ∙ and_from _ _ (arguments_stand f.slots g.params args (plain_func p g).slots fit (all_grows _ g.body _)) result);
            shaped = refl;
            keeps = refl;
            silent = λ h. let none = still h in ap not (tells name g is none.0 none.1);
            aside = λ _. refl;
          };
          within = tt;
        } where
          not_same : ((number_of p.funcs name == number_of p.funcs (codes "main")) ≡ true) ⊎ ((number_of p.funcs name == number_of p.funcs (codes "main")) ≡ false)
              → (number_of p.funcs name == number_of p.funcs (codes "main")) ≡ false
          not_same (inr other) = other
          not_same (inl even) =
              let named : name ≡ codes "main" = names_by_number p.funcs name (codes "main") g is (eqb-true _ _ even) in
              let both : is_main name ≡ true = ap (λ n. same n (codes "main")) named ∙ same_self (codes "main") in
              absurd cc

    -- a slot gets a value of its type
    pub set_whole : (to : ℕ) (t : Ty) (v : PExpr) → slot_type f.slots to ≡ t → fits f.slots t v ≡ true → IsGood (Set to v)
    set_whole to t v is fit = record {
      here = record { typed = ap (λ u. fits f.slots u v) is ∙ fit; shaped = refl; keeps = refl; silent = λ _. refl; aside = λ _. refl };
      within = tt;
    }

    -- a word of an element goes into a slot of its type
    pub load_whole : (to base : ℕ) (index : PExpr) (field : ℕ) (t : Ty) → slot_type f.slots to ≡ t → is_value t ≡ true → plain_type f.slots index ≡ Number → reached (plain_program p) f base field ≡ t → IsGood (Load to base index field)
    load_whole to base index field t is v at_index at_field = record {
      here = record {
        typed = and_from _ _ (fits_of f.slots Number index at_index refl) (ap₂ agree is at_field ∙ agree_self t v);
        shaped = refl;
        keeps = refl;
        silent = λ _. refl;
        aside = λ _. refl;
      };
      within = tt;
    }

    -- ---- what an expression comes to

    -- the type of what a name of an element reaches
    abbrev pub Reaches : Ty → (base field : ℕ) → Type 0
    Reaches t base field = (is_value t ≡ true → reached (plain_program p) f base field ≡ t) × (is_element t ≡ true → element_of (slot_type f.slots base) ≡ t)

    abbrev pub IsTyped : Ty → Flat → Type 0
    IsTyped t (Is v) = plain_type f.slots v.value ≡ t
    IsTyped t (Names base index field) = IsTyped Number index × Reaches t base field
    IsTyped t (Gets kind m) = (to : ℕ) → slot_type f.slots to ≡ t → is_value t ≡ true → IsGood (kind to)

    pub record Found (t : Ty) (found : Flat) : Type 0 where
      pub typed : IsTyped t found
      pub fine : IsFine (made_of found)

    -- a value of a type, and one that stands where a type is wanted
    pub record Operand (t : Ty) (v : Valued) : Type 0 where
      pub typed : plain_type f.slots v.value ≡ t
      pub fine : IsFine v.made

    pub record Standing (t : Ty) (v : Valued) : Type 0 where
      pub fit : fits f.slots t v.value ≡ true
      pub fine : IsFine v.made

    pub standing : (t : Ty) (v : Valued) → is_value t ≡ true → Operand t v → Standing t v
    standing t v is o = record { fit = fits_of f.slots t v.value o.typed is; fine = o.fine }

    -- the new slot has its type
    pub slot_made : (name : Option (List ℕ)) (type : CType) (m : Made) → Extends (with_slot name type m).slots f.slots → slot_type f.slots (length m.slots) ≡ declared type
    slot_made name type m extends = type_there (with_slot name type m).slots f.slots (length m.slots) (record { name = name; ctype = type }) extends (slice_get_push m.slots (record { name = name; ctype = type }))

    new_slot : (at : Place) (t : Ty) (kind : ℕ → PKind) (m : Made) → is_value t ≡ true → is_known_type p t ≡ true → ((to : ℕ) → slot_type f.slots to ≡ t → IsGood (kind to)) → IsFine m
        → Extends (with_slot None (ctype_for t) m).slots f.slots → Operand t (in_new_slot at t kind m)
    new_slot at t kind m v k whole fine extends =
        let is = slot_made None (ctype_for t) m extends ∙ declared_for t v in
        record {
          typed = is;
          fine = then_fine (plain_program p) f quiet hush aside at (kind (length m.slots)) (with_slot None (ctype_for t) m) (slot_fine (plain_program p) f quiet hush aside None (ctype_for t) m fine (slot_for p t v k)) (whole (length m.slots) is);
        }

    module _ (at : Place) where
      pub atom_found : (t : Ty) (found : Flat) → is_value t ≡ true → is_known_type p t ≡ true → Found t found → Extends (atom at t found).made.slots f.slots → Operand t (atom at t found)
      atom_found t (Is v) val known of_type extends =
          cond_both (is_atom v.value) v (in_new_slot at t (λ to. Set to v.value) v.made) (λ u. Extends u.made.slots f.slots → Operand t u)
          (λ _ _. record { typed = of_type.typed; fine = of_type.fine })
          (λ _ longer. new_slot at t (λ to. Set to v.value) v.made val known (λ to is. set_whole to t v.value is (fits_of f.slots t v.value of_type.typed val)) of_type.fine longer)
          extends
      atom_found t (Names base index field) val known of_type extends =
          let i = atom at Number index in
          let as_index = atom_found Number index refl refl (record { typed = (of_type.typed).0; fine = of_type.fine }) (extends_on (extends_slot None (ctype_for t) i.made) extends) in
          new_slot at t (load base i field) i.made val known (λ to is. load_whole to base i.value field t is val as_index.typed ((of_type.typed).1.0 val)) as_index.fine extends
      atom_found t (Gets kind m) val known of_type extends = new_slot at t kind m val known (λ to is. of_type.typed to is val) of_type.fine extends

      pub flat_found : (t : Ty) (found : Flat) → is_value t ≡ true → is_known_type p t ≡ true → Found t found → Extends (flat at t found).made.slots f.slots → Operand t (flat at t found)
      flat_found t (Is v) val known of_type extends = record { typed = of_type.typed; fine = of_type.fine }
      flat_found t (Names base index field) val known of_type extends = atom_found t (Names base index field) val known of_type extends
      flat_found t (Gets kind m) val known of_type extends = atom_found t (Gets kind m) val known of_type extends

      pub operand_found : (pure : Bool) (t : Ty) (found : Flat) → is_value t ≡ true → is_known_type p t ≡ true → (Extends (made_of found).slots f.slots → Found t found) → Extends (operand pure at t found).made.slots f.slots → Operand t (operand pure at t found)
      operand_found true t found val known taken extends = flat_found t found val known (taken (extends_on (flat_grows at t found) extends)) extends
      operand_found false t found val known taken extends = atom_found t found val known (taken (extends_on (atom_grows at t found) extends)) extends

      atom_is : (t : Ty) (found : Flat) → is_atom (atom at t found).value ≡ true
      atom_is t (Is v) = cond_both (is_atom v.value) v (in_new_slot at t (λ to. Set to v.value) v.made) (λ u. is_atom u.value ≡ true) (λ is. is) (λ _. refl)
      atom_is t (Names base index field) = refl
      atom_is t (Gets kind m) = refl

      -- a base that points is a slot of its type
      base_slot : (t : Ty) (found : Flat) → is_pointer t ≡ true → Operand t (atom at t found) → slot_type f.slots (slot_in (atom at t found).value) ≡ t
      base_slot t found points o = slot_of_atom f.slots (atom at t found).value (atom_is t found) (ap is_pointer o.typed ∙ points) ∙ o.typed

      -- ---- `&&` and `||`

      needed_whole : (op : BinOp) (e : PExpr) (asked : List PStmt) → fits f.slots Number e ≡ true → AllGood (plain_program p) f quiet hush aside (statements asked) → IsGood (if_needed op e asked)
      needed_whole Or e asked fit good = if_whole (plain_program p) f quiet hush aside e [] asked fit tt good
      needed_whole _ e asked fit good = if_whole (plain_program p) f quiet hush aside e asked [] fit good tt

      stopping_found : (op : BinOp) (left right : Made → Valued) (m : Made) → IsFine m
          → ((k : Made) → IsFine k → Extends (left k).made.slots f.slots → Operand Number (left k)) → ((k : Made) → IsFine k → Extends (right k).made.slots f.slots → Operand Number (right k))
          → ((k : Made) → Extends k.slots (left k).made.slots) → ((k : Made) → Extends k.slots (right k).made.slots)
          → Extends (made_of (stopping at op left right m)).slots f.slots → Found Number (stopping at op left right m)
      stopping_found op left right m fine first_is second_is first_grows second_grows extends =
          let opened = with_slot None int_type m in
          let begin = then_stands at (Set (length m.slots) (Number' (at_first op))) opened in
          let first = left begin in
          let ask : Made = record { slots = first.made.slots; front = [] } in
          let second = right ask in
          let late = extends_on (second_grows ask) extends in
          let made = slot_made None int_type m (extends_on (first_grows begin) late) in
          let begun = then_fine (plain_program p) f quiet hush aside at (Set (length m.slots) (Number' (at_first op))) opened (slot_fine (plain_program p) f quiet hush aside None int_type m fine refl) (set_whole (length m.slots) Number (Number' (at_first op)) made refl) in
          let a = first_is begin begun late in
          let b = second_is ask (record { front = tt; slots = (a.fine).slots }) extends in
          let truth : plain_type f.slots (is_true second.value) ≡ Number = type-bin f.slots Ne second.value (Number' (pos 0)) ∙ ap (λ t. number_if (is_number t && true)) b.typed in
          let done = then_fine (plain_program p) f quiet hush aside at (Set (length m.slots) (is_true second.value)) second.made b.fine (set_whole (length m.slots) Number (is_true second.value) made (fits_of f.slots Number (is_true second.value) truth refl)) in
          let asked = second.made.front ++ statement at (Set (length m.slots) (is_true second.value)) ∷ [] in
          record {
            typed = made;
            fine = then_fine (plain_program p) f quiet hush aside at (if_needed op first.value asked) (record { slots = second.made.slots; front = first.made.front }) (record { front = (a.fine).front; slots = (b.fine).slots })
                (needed_whole op first.value asked (fits_of f.slots Number first.value a.typed refl) done.front);
          }

      module _ (scope : List (Local ℕ)) (held : AreHeld p f.slots scope) (result : Ty) (returns : Option CType) (outside : ℕ) (parallel : Bool) (because : hush ≡ true → (silent ≡ true) ⊎ (parallel ≡ true)) where
        abbrev s : Site
        s = record { program = p; prints = prints; allocates = allocates; returns = returns; scope = variables_of scope; outside = outside; parallel = parallel }

        abbrev env : Env
        env = record { program = p; result = result; scope = scope }

        abbrev type : Expr → Ty
        type e = expression_type p (variables_of scope) e

        abbrev IsSoundly : Expr → Type 0
        IsSoundly e = AreFit silent prints allocates s (nodes e)

        typed_scope : AreTyped s.scope
        typed_scope = held_typed p f.slots scope held

        pub known : (e : Expr) → is_known_type p (type e) ≡ true
        known e = known_type p facts (variables_of scope) (held_known p f.slots scope held) e

        suits_place : (e : Expr) → IsSoundly e → suits (type e) (is_place e) ≡ true
        suits_place e fit = (sound s typed_scope e (fit_kept silent prints allocates s (nodes e) fit)).1

        -- what is used as a value is one
        pub worth : (e : Expr) → IsSoundly e → is_nothing (type e) ≡ false → is_struct (type e) ≡ false → is_value (type e) ≡ true
        worth e fit gives whole = a_value (type e) (is_place e) (suits_place e fit) gives whole

        -- a place is flattened to the name of an element
        pub place_found : (e : Expr) (m : Made) → IsSoundly e → is_place e ≡ true → IsNames (flatten env at e m)
        place_found e m fit placed =
            place_named (context p 0) (plain_called (plain_program p) 0 0) result scope at e m (sound s typed_scope e (fit_kept silent prints allocates s (nodes e) fit)).0 placed

        still : (e : Expr) → IsFit silent prints allocates s e → hush ≡ true → IsQuietNode prints allocates (node_of e)
        still e fit h = elim (because h) [ inl is ↦ fit.quiet is | inr is ↦ (kept_at silent prints allocates s fit).parallel is ]

        -- ---- names of elements

        reaches_first : (t : Ty) (base : ℕ) → slot_type f.slots base ≡ t → Reaches (element_of t) base 0
        reaches_first t base is = (λ v. ap (λ u. field_type p.structs (element_of u) 0) is ∙ first_field p.structs (element_of t) v, λ _. ap element_of is)

        reaches_field : (t : Ty) (base : ℕ) (field : List ℕ) → element_of (slot_type f.slots base) ≡ t → Reaches (dotted p t field) base (field_number p.structs t field)
        reaches_field t base field is = (
          λ v. ap (λ u. field_type p.structs u (field_number p.structs t field)) is ∙ field_reached p t field v,
          λ there. let no = dotted_no_element p t field in absurd cc,
        )

        dotted_found : (t : Ty) (field : List ℕ) (found : Flat) → IsNames found → is_element t ≡ true → Found t found → Found (dotted p t field) (field_of_element (field_number p.structs t field) found)
        dotted_found t field (Is v) named there of_type = absurd named
        dotted_found t field (Names base index none) named there of_type = record { typed = ((of_type.typed).0, reaches_field t base field ((of_type.typed).1.1 there)); fine = of_type.fine }
        dotted_found t field (Gets kind m) named there of_type = absurd named

        before_field : (field : ℕ) (found : Flat) → IsNames found → Extends (made_of (field_of_element field found)).slots f.slots → Extends (made_of found).slots f.slots
        before_field field (Is v) named extends = absurd named
        before_field field (Names base index none) named extends = extends
        before_field field (Gets kind m) named extends = absurd named

        -- ---- arguments

        -- an argument as its parameter wants it
        pub given : (want : Ty) (e : Expr) (m : Made) → is_value want ≡ true → is_value (type e) ≡ true → disagrees want (type e) (is_zero_node e) ≡ false → IsFine m
            → (Extends (made_of (flatten env at e m)).slots f.slots → Found (type e) (flatten env at e m))
            → Extends (atom at (type e) (wanted want e (flatten env at e m) m)).made.slots f.slots → Standing want (atom at (type e) (wanted want e (flatten env at e m) m))
        given want e m val worthy agrees fine taken extends =
            cond_both (is_pointer want && is_zero e) (Is (valued Null m)) (flatten env at e m) (λ found. Extends (atom at (type e) found).made.slots f.slots → Standing want (atom at (type e) found))
            (λ null _. record { fit = (and_parts (is_pointer want) (is_zero e) null).0; fine = fine })
            (λ other longer.
            let o = atom_found (type e) (flatten env at e m) worthy (known e) (taken (extends_on (atom_grows at (type e) (flatten env at e m)) longer)) longer in
            elim (agreed want (type e) (is_zero_node e) val worthy agrees) [
              | inl same ↦ standing want (atom at (type e) (flatten env at e m)) val (record { typed = o.typed ∙ same; fine = o.fine })
              | inr null ↦ let zero_there : (is_pointer want && is_zero e) ≡ true = ap (λ z. is_pointer want && z) (sym (same_zero e)) ∙ null in absurd cc
            ])
            extends

        pub record Arguments (params : List Param) (all : Values) : Type 0 where
          pub fit : ArgumentsFit f.slots params all.values
          pub fine : IsFine all.made

        pub called_by : (name : List ℕ) (count : ℕ) (g : Func) → function_of p.funcs name ≡ Some g → miscounts (function_of p.funcs name) count ≡ false → (length g.params ≡ count) × (called (function_of p.funcs name) count ≡ result_of g.result)
        called_by name count g is m =
            let many : (length g.params == count) ≡ true = not-false _ (sym (ap (λ o. miscounts o count) is) ∙ m) in
            (eqb-true (length g.params) count many, ap (λ o. called o count) is ∙ ap (λ b. cond b (result_of g.result) Unknown) many)

        mutual
          unfolding nodes nodes_row

          pub flattened : (e : Expr) (m : Made) → IsFine m → Extends (made_of (flatten env at e m)).slots f.slots → IsSoundly e → Found (type e) (flatten env at e m)
          flattened (Num n) m fine extends fit = record { typed = refl; fine = fine }
          flattened (Var name) m fine extends fit =
              record { typed = slot_named p f.slots scope name held (there scope name (not-false (is_in_scope (variables_of scope) name) (kept_at silent prints allocates s fit.0).known)); fine = fine }
          flattened (Neg' q (more_of-Expr a end_of-Expr)) m fine extends fit =
              let k = kept_at silent prints allocates s fit.0 in
              let part = one_fit silent prints allocates s a fit.1 in
              let val = worth a part k.gives k.whole in
              let pure = is_pure_row (more_of-Expr a end_of-Expr) in
              let o = operand_found pure (type a) (flatten env at a m) val (known a) (λ longer. flattened a m fine longer part) extends in
              record { typed = type-neg f.slots _ ∙ ap (λ t. number_if (is_number t)) (o.typed ∙ number_where (type a) val k.agrees); fine = o.fine }
          flattened (Not' q (more_of-Expr a end_of-Expr)) m fine extends fit =
              let k = kept_at silent prints allocates s fit.0 in
              let part = one_fit silent prints allocates s a fit.1 in
              let val = worth a part k.gives k.whole in
              let pure = is_pure_row (more_of-Expr a end_of-Expr) in
              let o = operand_found pure (type a) (flatten env at a m) val (known a) (λ longer. flattened a m fine longer part) extends in
              record { typed = type-not f.slots _ ∙ ap (λ t. number_if (is_number t)) (o.typed ∙ number_where (type a) val k.agrees); fine = o.fine }
          flattened (Bin' op q (more_of-Expr a end_of-Expr) r (more_of-Expr b end_of-Expr)) m fine extends fit =
              let left = more_of-Expr a end_of-Expr in
              let right = more_of-Expr b end_of-Expr in
              let k = kept_at silent prints allocates s fit.0 in
              let parts = both_fit silent prints allocates s (nodes a ++ []) (nodes b ++ []) fit.1 in
              let part_a = one_fit silent prints allocates s a parts.0 in
              let part_b = one_fit silent prints allocates s b parts.1 in
              let gives = or_parts (is_nothing (type a)) (is_nothing (type b)) k.gives in
              let whole = or_parts (is_struct (type a)) (is_struct (type b)) k.whole in
              let val_a = worth a part_a gives.0 whole.0 in
              let val_b = worth b part_b gives.1 whole.1 in
              let pure = is_pure_row left && is_pure_row right in
              let v = operand pure at (type a) (flatten env at a m) in
              let u = operand pure at (type b) (flatten env at b v.made) in
              cond_both (not pure && stops_early op) (stopping at op (operand_row true env at left) (operand_row true env at right) m) (Is (valued (operator (type a) (type b) op v.value u.value) u.made))
              (λ found. Extends (made_of found).slots f.slots → Found (combined op (type a) (type b)) found)
              (λ early longer.
              let stops = (and_parts (not pure) (stops_early op) early).1 in
              let ints = or_parts (is_pointer (type a)) (is_pointer (type b)) (early_misfits op (type a) (type b) (is_zero_node a) (is_zero_node b) stops k.agrees) in
              subst (λ t. Found t (stopping at op (operand_row true env at left) (operand_row true env at right) m)) (sym (early_number op (type a) (type b) stops))
              (stopping_found op (operand_row true env at left) (operand_row true env at right) m fine
              (λ n good more.
              let o = operand_found true (type a) (flatten env at a n) val_a (known a) (λ even. flattened a n good even part_a) more in
              record { typed = o.typed ∙ number_where (type a) val_a ints.0; fine = o.fine })
              (λ n good more.
              let o = operand_found true (type b) (flatten env at b n) val_b (known b) (λ even. flattened b n good even part_b) more in
              record { typed = o.typed ∙ number_where (type b) val_b ints.1; fine = o.fine })
              (λ n. operand_row_grows true env at left n) (λ n. operand_row_grows true env at right n) longer))
              (λ late longer.
              let first = operand_found pure (type a) (flatten env at a m) val_a (known a) (λ even. flattened a m fine even part_a) (extends_on (operand_row_grows pure env at right v.made) longer) in
              let second = operand_found pure (type b) (flatten env at b v.made) val_b (known b) (λ even. flattened b v.made first.fine even part_b) longer in
              record { typed = operator_gives f.slots v.value u.value op (type a) (type b) (is_zero_node a) (is_zero_node b) first.typed second.typed val_a val_b k.agrees; fine = second.fine })
              extends
          flattened (Index' q (more_of-Expr a end_of-Expr) r (more_of-Expr i end_of-Expr)) m fine extends fit =
              let k = kept_at silent prints allocates s fit.0 in
              let parts = both_fit silent prints allocates s (nodes a ++ []) (nodes i ++ []) fit.1 in
              let part_a = one_fit silent prints allocates s a parts.0 in
              let part_i = one_fit silent prints allocates s i parts.1 in
              let agrees = or_parts (is_number (type a)) (is_pointer (type i)) k.agrees in
              let gives = or_parts (is_nothing (type a)) (is_nothing (type i)) k.gives in
              let whole = or_parts (is_struct (type a)) (is_struct (type i)) k.whole in
              let val_a = worth a part_a gives.0 whole.0 in
              let val_i = worth i part_i gives.1 whole.1 in
              let v = atom at (type a) (flatten env at a m) in
              let base = operand_found false (type a) (flatten env at a m) val_a (known a) (λ even. flattened a m fine even part_a) (extends_on (flatten_grows env at i v.made) extends) in
              let index = flattened i v.made base.fine extends part_i in
              record {
                typed = (
                  subst (λ t. IsTyped t (flatten env at i v.made)) (number_where (type i) val_i agrees.1) index.typed,
                  reaches_first (type a) (slot_in v.value) (base_slot (type a) (flatten env at a m) (a_pointer (type a) val_a agrees.0) base),
                );
                fine = index.fine;
              }
          flattened (Deref' q (more_of-Expr a end_of-Expr)) m fine extends fit =
              let k = kept_at silent prints allocates s fit.0 in
              let part = one_fit silent prints allocates s a fit.1 in
              let val = worth a part k.gives k.whole in
              let v = atom at (type a) (flatten env at a m) in
              let base = operand_found false (type a) (flatten env at a m) val (known a) (λ even. flattened a m fine even part) extends in
              record { typed = (refl, reaches_first (type a) (slot_in v.value) (base_slot (type a) (flatten env at a m) (a_pointer (type a) val k.agrees) base)); fine = base.fine }
          flattened (Arrow' q (more_of-Expr a end_of-Expr) field) m fine extends fit =
              let k = kept_at silent prints allocates s fit.0 in
              let part = one_fit silent prints allocates s a fit.1 in
              let val = worth a part k.gives k.whole in
              let agrees = or_parts (is_number (type a)) (has_no_fields (element_of (type a))) k.agrees in
              let v = atom at (type a) (flatten env at a m) in
              let base = operand_found false (type a) (flatten env at a m) val (known a) (λ even. flattened a m fine even part) extends in
              record {
                typed = (refl, reaches_field (element_of (type a)) (slot_in v.value) field (ap element_of (base_slot (type a) (flatten env at a m) (a_pointer (type a) val agrees.0) base)));
                fine = base.fine;
              }
          flattened (Dot' q (more_of-Expr a end_of-Expr) field) m fine extends fit =
              let k = kept_at silent prints allocates s fit.0 in
              let part = one_fit silent prints allocates s a fit.1 in
              let there = an_element (type a) (is_place a) (suits_place a part) k.gives k.whole k.agrees in
              let named = place_found a m part there.1 in
              dotted_found (type a) field (flatten env at a m) named there.0 (flattened a m fine (before_field (field_number p.structs (type a) field) (flatten env at a m) named extends) part)
          flattened (CallExpr' name n args) m fine extends fit =
              let k = kept_at silent prints allocates s fit.0 in
              let items = items-the_row-Expr _ args in
              let there = found_some (function_of p.funcs name) k.known in
              let g = there.0 in
              let params = params_of (function_of p.funcs name) in
              let same_params : params ≡ g.params = ap params_of there.1 in
              let counts = or_parts (miscounts (function_of p.funcs name) (length items)) (list_any (gives_nothing s) items) k.gives in
              let by = called_by name (count_row args) g there.1 (ap (miscounts (function_of p.funcs name)) (count_items args) ∙ counts.0) in
              let all = given_row params args m fine extends (subst (λ qs. AllByRecursion (λ (q : Param). is_value (declared q.ctype) ≡ true) qs) (sym same_params) (facts.params name g there.1)) fit.1
              (ap length same_params ∙ by.0) (ap (λ o. argument_misfits s (params_of o) items) there.1 ∙ sym (ap (λ o. arguments_misfit s o items) there.1) ∙ k.agrees) counts.1 k.whole in
              record {
                typed = λ to is val.
                    call_whole (Some to) name g (arguments_row env at params args m).values there.1 k.main (subst (λ qs. ArgumentsFit f.slots qs (arguments_row env at params args m).values) same_params all.fit)
                    (ap₂ agree (is ∙ by.1) refl ∙ agree_self (result_of g.result) (ap is_value (sym by.1) ∙ val)) (still (CallExpr' name n args) fit.0);
                fine = all.fine;
              }
          flattened (Calloc' q (more_of-Expr a end_of-Expr) ctype) m fine extends fit =
              let k = kept_at silent prints allocates s fit.0 in
              let part = one_fit silent prints allocates s a fit.1 in
              let val = worth a part k.gives k.whole in
              let v = atom at (type a) (flatten env at a m) in
              let count = operand_found false (type a) (flatten env at a m) val (known a) (λ even. flattened a m fine even part) extends in
              let there : is_known p ctype.base ≡ true = not-false (is_known p ctype.base) k.known in
              record {
                typed = λ to is worthy. record {
                  here = record {
                    typed = and_from _ _ (and_from _ _ (fits_of f.slots Number v.value (count.typed ∙ number_where (type a) val k.agrees) refl) (known_with p ctype.base ∙ there))
                        (ap (λ t. agree t (Pointer ctype.base ctype.stars)) (is ∙ ap (λ b. cond b (Pointer ctype.base ctype.stars) Unknown) there) ∙ agree_self (Pointer ctype.base ctype.stars) refl);
                    shaped = refl;
                    keeps = refl;
                    silent = λ h. absurd (still (Calloc' q (more_of-Expr a end_of-Expr) ctype) fit.0 h);
                    aside = λ _. refl;
                  };
                  within = tt;
                };
                fine = count.fine;
              }

          given_row : {n : _} (params : List Param) (row : Row_of-Expr n) (m : Made) → IsFine m → Extends (arguments_row env at params row m).made.slots f.slots → AllByRecursion (λ (q : Param). is_value (declared q.ctype) ≡ true) params
              → AreFit silent prints allocates s (nodes_row row) → length params ≡ count_row row → argument_misfits s params (items-the_row-Expr n row) ≡ false
              → list_any (gives_nothing s) (items-the_row-Expr n row) ≡ false → list_any (gives_struct s) (items-the_row-Expr n row) ≡ false → Arguments params (arguments_row env at params row m)
          given_row [] end_of-Expr m fine extends values fit many agrees gives whole = record { fit = tt; fine = fine }
          given_row [] (more_of-Expr e rest) m fine extends values fit many agrees gives whole = absurd (omega (arith, many))
          given_row (q ∷ params) end_of-Expr m fine extends values fit many agrees gives whole = absurd (omega (arith, many))
          given_row (q ∷ params) (more_of-Expr e rest) m fine extends values fit many disagree give whole =
              let parts = both_fit silent prints allocates s (nodes e) (nodes_row rest) fit in
              let gives = or_parts (is_nothing (type e)) _ give in
              let wholes = or_parts (is_struct (type e)) _ whole in
              let agrees = or_parts (misfits s (declared q.ctype) e) _ disagree in
              let v = atom at (type e) (wanted (declared q.ctype) e (flatten env at e m) m) in
              let first = given (declared q.ctype) e m values.0 (worth e parts.0 gives.0 wholes.0) agrees.0 fine (λ even. flattened e m fine even parts.0) (extends_on (arguments_row_grows env at params rest v.made) extends) in
              let others = given_row params rest v.made first.fine extends values.1 parts.1 (omega (arith, many)) agrees.1 gives.1 wholes.1 in
              record { fit = (first.fit, others.fit); fine = others.fine }
