-- What the walk over an expression comes to, at each form, from what its parts come to.
use Rattle.std.proofs.Common.{◌≡◌, ℕ, ◌+◌, ◌<◌, ◌≤◌, Bool, true, false, not, ◌&&◌, if◌then◌else◌, List, [], ◌∷◌, ◌++◌, length, get_or, drop, pos, Some, None, ap, sym, ◌∙◌, append_assoc}
use Rattle.std.proofs.lemmas.List.{drop_more, drop_all, append-nil}
use Rattle.lq_tree.specs.declared.place.Place.{Place}
use Rattle.lq_tree.specs.declared.expr.BinOp.{BinOp}
use Rattle.lq_tree.specs.declared.expr.CType.{CType}
use Rattle.lq_tree.specs.declared.expr.Expr.{Expr, Neg, Not, Bin, Index, Deref, Arrow, Dot, Call, Calloc}
use Rattle.lq_tree.specs.declared.plain.PExpr.{PExpr, Num, Null, Slot as InSlot, Neg as NegP, Not as NotP}
use Rattle.lq_tree.specs.declared.plain.PKind.{PKind, Set, Call as CallP, Calloc as CallocP}
use Rattle.lq_tree.specs.declared.plain.PStmt.{PStmt}
use Rattle.lq_tree.specs.declared.program.Param.{Param}
use Rattle.lq_tree.specs.Layout.{field_number}
use Rattle.lq_tree.specs.Lookup.{function_of, number_of}
use Rattle.lq_tree.specs.Types.{Ty, Number, element_of, is_pointer}
use Rattle.lq_plain.specs.Flat.{Env, type_of, Made, statement, then_stands, with_slot, int_type, Valued, valued, Flat, Is, Names, Gets, atom, flat, is_pure, is_true, is_zero, operator, slot_in, if_needed, at_first, stopping, stops_early, dotted, Values, params_of, first_type, other_params, flatten}
use Rattle.lq_plain.specs.Plain.{arguments}
use Rattle.lq_plain.specs.SeenFlat.{settled, operand_of, given_of, values_of}
use Rattle.lq_plain.proofs.Settled.{flat_settled, dotted_settled}
use Rattle.lq_plain.proofs.Forms.{negated, flat_neg, inverted, flat_not, over, flat_bin, element, flat_index, first, flat_deref, flat_arrow, flat_dot, call, flat_call, allocated, flat_calloc}

module _ (env : Env) (at : Place) (m : Made) where
  -- an expression of this form comes to the same
  of_form : (e f : Expr) (found : Flat) → e ≡ f → flatten env at f m ≡ found → settled at found ≡ settled at (flatten env at e m)
  of_form e f found is form = sym (ap (settled at) form) ∙ ap (λ x. settled at (flatten env at x m)) (sym is)

  pub at_neg : (e a b : Expr) (m' : Made) (boxed v : PExpr) (pure : Bool) → e ≡ Neg a → b ≡ a → pure ≡ is_pure b → boxed ≡ v → valued v m' ≡ operand_of pure env at b m
      → Is (valued (NegP boxed) m') ≡ settled at (flatten env at e m)
  at_neg e a b m' boxed v pure is same p held given =
      ap (λ x. Is (valued (NegP x) m')) held ∙ ap negated given ∙ ap (λ x. negated (operand_of x env at b m)) p
      ∙ ap (λ x. negated (operand_of (is_pure x) env at x m)) same ∙ of_form e (Neg a) _ is (flat_neg env at a m)

  pub at_not : (e a b : Expr) (m' : Made) (boxed v : PExpr) (pure : Bool) → e ≡ Not a → b ≡ a → pure ≡ is_pure b → boxed ≡ v → valued v m' ≡ operand_of pure env at b m
      → Is (valued (NotP boxed) m') ≡ settled at (flatten env at e m)
  at_not e a b m' boxed v pure is same p held given =
      ap (λ x. Is (valued (NotP x) m')) held ∙ ap inverted given ∙ ap (λ x. inverted (operand_of x env at b m)) p
      ∙ ap (λ x. inverted (operand_of (is_pure x) env at x m)) same ∙ of_form e (Not a) _ is (flat_not env at a m)

  pub at_index : (e a b i j : Expr) (to : ℕ) (m1 m3 : Made) (found : Flat) (v : PExpr) → e ≡ Index a i → b ≡ a → j ≡ i
      → to ≡ slot_in (operand_of false env at b m).value → m1 ≡ (operand_of false env at b m).made
      → found ≡ settled at (flatten env at j m1) → valued v m3 ≡ flat at Number found
      → Names to (Is (valued v m3)) 0 ≡ settled at (flatten env at e m)
  at_index e a b i j to m1 m3 found v is same same_too base made index value =
      ap (λ x. Names x (Is (valued v m3)) 0) base
      ∙ ap (λ (x : Valued). Names (slot_in (operand_of false env at b m).value) (Is x) 0)
      (value ∙ ap (flat at Number) index ∙ flat_settled at Number (flatten env at j m1) ∙ ap (λ (n : Made). flat at Number (flatten env at j n)) made)
      ∙ ap (λ (x : Expr). settled at (element env at j (operand_of false env at x m))) same
      ∙ ap (λ (x : Expr). settled at (element env at x (operand_of false env at a m))) same_too
      ∙ of_form e (Index a i) _ is (flat_index env at a i m)

  at_first_element : (field to : ℕ) (m1 : Made) (v : Valued) → to ≡ slot_in v.value → m1 ≡ v.made → Names to (Is (valued (Num (pos 0)) m1)) field ≡ first field v
  at_first_element field to m1 v base made =
      ap (λ x. Names x (Is (valued (Num (pos 0)) m1)) field) base ∙ ap (λ n. Names (slot_in v.value) (Is (valued (Num (pos 0)) n)) field) made

  pub at_deref : (e a b : Expr) (to : ℕ) (m1 : Made) → e ≡ Deref a → b ≡ a → to ≡ slot_in (operand_of false env at b m).value → m1 ≡ (operand_of false env at b m).made
      → Names to (Is (valued (Num (pos 0)) m1)) 0 ≡ settled at (flatten env at e m)
  at_deref e a b to m1 is same base made =
      at_first_element 0 to m1 (operand_of false env at b m) base made ∙ ap (λ (x : Expr). first 0 (operand_of false env at x m)) same ∙ of_form e (Deref a) _ is (flat_deref env at a m)

  pub at_arrow : (e a b c : Expr) (field : List ℕ) (t u : Ty) (number to : ℕ) (m1 : Made) → e ≡ Arrow a field → b ≡ a → c ≡ a
      → t ≡ type_of env c → u ≡ element_of t → number ≡ field_number env.program.structs u field
      → to ≡ slot_in (operand_of false env at b m).value → m1 ≡ (operand_of false env at b m).made
      → Names to (Is (valued (Num (pos 0)) m1)) number ≡ settled at (flatten env at e m)
  at_arrow e a b c field t u number to m1 is same same_too at_t at_u numbered base made =
      at_first_element number to m1 (operand_of false env at b m) base made
      ∙ ap (λ x. first x (operand_of false env at b m)) (numbered ∙ ap (λ x. field_number env.program.structs x field) (at_u ∙ ap element_of (at_t ∙ ap (type_of env) same_too)))
      ∙ ap (λ (x : Expr). first (field_number env.program.structs (element_of (type_of env a)) field) (operand_of false env at x m)) same
      ∙ of_form e (Arrow a field) _ is (flat_arrow env at a field m)

  pub at_dot : (e a b c : Expr) (field : List ℕ) (t : Ty) (number : ℕ) (found result : Flat) → e ≡ Dot a field → b ≡ a → c ≡ a
      → t ≡ type_of env c → number ≡ field_number env.program.structs t field
      → found ≡ settled at (flatten env at b m) → result ≡ dotted number found
      → result ≡ settled at (flatten env at e m)
  at_dot e a b c field t number found result is same same_too at_t numbered part given =
      given ∙ ap (dotted number) part ∙ dotted_settled at number (flatten env at b m)
      ∙ ap (λ x. settled at (dotted x (flatten env at b m))) (numbered ∙ ap (λ x. field_number env.program.structs x field) (at_t ∙ ap (type_of env) same_too))
      ∙ ap (λ (x : Expr). settled at (dotted (field_number env.program.structs (type_of env a) field) (flatten env at x m))) same
      ∙ of_form e (Dot a field) _ is (flat_dot env at a field m)

  pub at_call : (e : Expr) (name : List ℕ) (args others : List Expr) (params : List Param) (number : ℕ) (values : List PExpr) (m1 : Made) → e ≡ Call name args → others ≡ args
      → params ≡ params_of (function_of env.program.funcs name) → number ≡ number_of env.program.funcs name
      → values_of values m1 ≡ arguments env at params others m
      → Gets (λ slot. CallP (Some slot) number values) m1 ≡ settled at (flatten env at e m)
  at_call e name args others params number values m1 is same of_function numbered given =
      ap (λ x. Gets (λ slot. CallP (Some slot) x values) m1) numbered
      ∙ ap (call env name) (given ∙ ap (λ ps. arguments env at ps others m) of_function ∙ ap (λ (es : List Expr). arguments env at (params_of (function_of env.program.funcs name)) es m) same)
      ∙ of_form e (Call name args) _ is (flat_call env at name args m)

  pub at_calloc : (e a b : Expr) (type copy : CType) (v : PExpr) (m1 : Made) → e ≡ Calloc a type → b ≡ a → copy ≡ type → valued v m1 ≡ operand_of false env at b m
      → Gets (λ slot. CallocP slot v copy) m1 ≡ settled at (flatten env at e m)
  at_calloc e a b type copy v m1 is same copied given =
      ap (λ x. Gets (λ slot. CallocP slot v x) m1) copied ∙ ap (allocated type) given ∙ ap (λ (x : Expr). allocated type (operand_of false env at x m)) same
      ∙ of_form e (Calloc a type) _ is (flat_calloc env at a type m)

  -- an operator whose right side is asked for only where it is needed
  pub at_stop : (op : BinOp) (a b : Expr) (pure stops : Bool) (found : Flat) → pure ≡ (is_pure a && is_pure b) → stops ≡ (not pure && stops_early op) → stops ≡ true
      → found ≡ stopping at op (operand_of true env at a) (operand_of true env at b) m → found ≡ settled at (flatten env at (Bin op a b) m)
  at_stop op a b pure stops found is_so test holds given =
      let it = over (type_of env a) (type_of env b) op (operand_of (is_pure a && is_pure b) env at a m) (operand_of (is_pure a && is_pure b) env at b (operand_of (is_pure a && is_pure b) env at a m).made) in
      let now : (not (is_pure a && is_pure b) && stops_early op) ≡ true = ap (λ x. not x && stops_early op) (sym is_so) ∙ sym test ∙ holds in
      given ∙ sym (ap (λ (x : Bool). settled at (if x then stopping at op (operand_of true env at a) (operand_of true env at b) m else it)) now) ∙ sym (ap (settled at) (flat_bin env at op a b m))

  pub at_both : (op : BinOp) (a b : Expr) (pure stops : Bool) (m1 m2 : Made) (v w value : PExpr) → pure ≡ (is_pure a && is_pure b) → stops ≡ (not pure && stops_early op) → stops ≡ false
      → valued v m1 ≡ operand_of pure env at a m → valued w m2 ≡ operand_of pure env at b m1 → value ≡ operator (type_of env a) (type_of env b) op v w
      → Is (valued value m2) ≡ settled at (flatten env at (Bin op a b) m)
  at_both op a b pure stops m1 m2 v w value is_so test holds first_is second_is value_is =
      let now : (not (is_pure a && is_pure b) && stops_early op) ≡ false = ap (λ x. not x && stops_early op) (sym is_so) ∙ sym test ∙ holds in
      let of_all : Bool → Flat = λ p. over (type_of env a) (type_of env b) op (operand_of p env at a m) (operand_of p env at b (operand_of p env at a m).made) in
      ap (λ x. Is (valued x m2)) value_is
      ∙ ap (λ (x : Valued). over (type_of env a) (type_of env b) op (valued v m1) x) second_is
      ∙ ap (λ (x : Valued). over (type_of env a) (type_of env b) op x (operand_of pure env at b x.made)) first_is
      ∙ ap of_all is_so
      ∙ sym (ap (λ (x : Bool). settled at (if x then stopping at op (operand_of true env at a) (operand_of true env at b) m else of_all (is_pure a && is_pure b))) now)
      ∙ sym (ap (settled at) (flat_bin env at op a b m))

-- the right side, in a list of its own, and the If that asks for it
abbrev asked_for : Place → BinOp → ℕ → (first second : Valued) → Flat
asked_for at op to first second =
    Is (valued (InSlot to) (then_stands at (if_needed op first.value (second.made.front ++ statement at (Set to (is_true second.value)) ∷ [])) (record { slots = second.made.slots; front = first.made.front })))

abbrev left_done : Place → BinOp → (right : Made → Valued) → ℕ → (first : Valued) → Flat
left_done at op right to first = asked_for at op to first (right (record { slots = first.made.slots; front = [] }))

pub at_stopping : (at : Place) (op : BinOp) (left right : Made → Valued) (m m1 m2 m3 m4 m5 m6 m7 m8 : Made) (to : ℕ) (type : CType) (start first second asked : PExpr) (outer inner : List PStmt) (kind : PKind)
    → to ≡ length m.slots → type ≡ int_type → m1 ≡ with_slot None type m → start ≡ Num (at_first op) → m2 ≡ then_stands at (Set to start) m1
    → valued first m3 ≡ left m2 → outer ≡ m3.front → m4 ≡ record { slots = m3.slots; front = [] }
    → valued second m5 ≡ right m4 → asked ≡ is_true second → m6 ≡ then_stands at (Set to asked) m5
    → inner ≡ m6.front → m7 ≡ record { slots = m6.slots; front = outer } → kind ≡ if_needed op first inner → m8 ≡ then_stands at kind m7
    → Is (valued (InSlot to) m8) ≡ stopping at op left right m
at_stopping at op left right m m1 m2 m3 m4 m5 m6 m7 m8 to type start first second asked outer inner kind to_is type_is m1_is start_is m2_is first_is outer_is m4_is second_is asked_is m6_is inner_is m7_is kind_is m8_is =
    let last : List PStmt → List PStmt → Made → Flat = λ held out n'. Is (valued (InSlot to) (then_stands at (if_needed op first held) (record { slots = n'.slots; front = out }))) in
    ap (λ x. Is (valued (InSlot to) x)) (m8_is ∙ ap (λ x. then_stands at x m7) kind_is ∙ ap (then_stands at (if_needed op first inner)) m7_is)
    ∙ ap (λ x. last x outer m6) inner_is
    ∙ ap (λ x. last m6.front x m6) outer_is
    ∙ ap (λ (x : Made). last x.front m3.front x) (m6_is ∙ ap (λ x. then_stands at (Set to x) m5) asked_is)
    ∙ ap (asked_for at op to (valued first m3)) (second_is ∙ ap right m4_is)
    ∙ ap (left_done at op right to) (first_is ∙ ap left (m2_is ∙ ap (λ x. then_stands at (Set to x) m1) start_is ∙ ap (then_stands at (Set to (Num (at_first op)))) (m1_is ∙ ap (λ x. with_slot None x m) type_is)))
    ∙ ap (λ x. left_done at op right x (left (then_stands at (Set x (Num (at_first op))) (with_slot None int_type m)))) to_is

-- the literal 0 where a pointer is wanted, and any other argument
pub null_given : (env : Env) (at : Place) (params : List Param) (e : Expr) (m : Made) (t : Ty) (null : Bool) → t ≡ first_type params → null ≡ (is_pointer t && is_zero e) → null ≡ true
    → valued Null m ≡ given_of env at params e m
null_given env at params e m t null type_is is holds =
    let now : (is_pointer (first_type params) && is_zero e) ≡ true = ap (λ x. is_pointer x && is_zero e) (sym type_is) ∙ sym is ∙ holds in
    sym (ap (λ (x : Bool). atom at (type_of env e) (if x then Is (valued Null m) else flatten env at e m)) now)

pub other_given : (env : Env) (at : Place) (params : List Param) (e : Expr) (m m1 : Made) (v : PExpr) (t : Ty) (null : Bool) → t ≡ first_type params → null ≡ (is_pointer t && is_zero e) → null ≡ false
    → valued v m1 ≡ operand_of false env at e m → valued v m1 ≡ given_of env at params e m
other_given env at params e m m1 v t null type_is is holds given =
    let now : (is_pointer (first_type params) && is_zero e) ≡ false = ap (λ x. is_pointer x && is_zero e) (sym type_is) ∙ sym is ∙ holds in
    given ∙ sym (ap (λ (x : Bool). atom at (type_of env e) (if x then Is (valued Null m) else flatten env at e m)) now)

-- some values, and then those of other arguments
abbrev pub joined : List PExpr → Values → Values
joined values others = values_of (values ++ others.values) others.made

module _ (env : Env) (at : Place) where
  -- one argument more; `last` is what all come to
  pub argument_more : (values : List PExpr) (params : List Param) (args : List Expr) (i : ℕ) (x : Expr) (m m1 : Made) (v : PExpr) (last : Values) → i < length args → x ≡ get_or args i x
      → joined values (arguments env at params (drop i args) m) ≡ last → valued v m1 ≡ given_of env at params x m
      → joined (values ++ v ∷ []) (arguments env at (other_params params) (drop (i + 1) args) m1) ≡ last
  argument_more values params args i x m m1 v last lt is so_far given =
      let rest = drop (i + 1) args in
      let it = given_of env at params x m in
      let others = arguments env at (other_params params) rest it.made in
      ap (λ (w : Valued). joined (values ++ w.value ∷ []) (arguments env at (other_params params) rest w.made)) given
      ∙ ap (λ ws. values_of ws others.made) (append_assoc values (it.value ∷ []) others.values)
      ∙ ap (λ (y : Expr). joined values (arguments env at params (y ∷ rest) m)) is
      ∙ ap (λ (ys : List Expr). joined values (arguments env at params ys m)) (sym (drop_more args i x lt))
      ∙ so_far

  pub arguments_end : (values : List PExpr) (params : List Param) (args : List Expr) (i : ℕ) (m : Made) (last : Values) → length args ≤ i → joined values (arguments env at params (drop i args) m) ≡ last → values_of values m ≡ last
  arguments_end values params args i m last ge so_far =
      ap (λ ws. values_of ws m) (sym (append-nil values)) ∙ ap (λ (ys : List Expr). joined values (arguments env at params ys m)) (sym (drop_all i args ge)) ∙ so_far
