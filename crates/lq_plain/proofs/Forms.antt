-- What each form of expression comes to. The definitions match on rows; a source is written with boxes and lists.
use Rattle.std.proofs.Common.{◌≡◌, ℕ, Bool, true, false, not, ◌&&◌, if◌then◌else◌, List, [], ◌∷◌, pos, Some, refl, ap, ◌∙◌}
use Rattle.std.proofs.Math.Path.{fun_ext}
use Rattle.lq_tree.specs.declared.place.Place.{Place}
use Rattle.lq_tree.specs.declared.expr.BinOp.{BinOp}
use Rattle.lq_tree.specs.declared.expr.CType.{CType}
use Rattle.lq_tree.specs.declared.expr.Expr.{Expr, Neg, Not, Bin, Index, Deref, Arrow, Dot, Call, Calloc, Row_of-Expr, end_of-Expr, more_of-Expr, items-the_row-Expr, items_hidden-the_row-Expr-0, items_hidden-the_row-Expr-1}
use Rattle.lq_tree.specs.declared.expr.Expr.TheBlock.{hidden-the_row-Expr-0, hidden-the_row-Expr-1}
use Rattle.lq_tree.specs.declared.plain.PExpr.{Num, Null, Neg as NegP, Not as NotP}
use Rattle.lq_tree.specs.declared.plain.PKind.{Call as CallP, Calloc as CallocP}
use Rattle.lq_tree.specs.declared.program.Param.{Param}
use Rattle.lq_tree.specs.Layout.{field_number}
use Rattle.lq_tree.specs.Lookup.{function_of, number_of}
use Rattle.lq_tree.specs.Types.{Ty, Unknown, element_of}
use Rattle.lq_plain.specs.Flat.{Env, type_by, type_of, Made, Valued, valued, Flat, Is, Names, Gets, atom, is_pure, is_pure_row, operator, slot_in, stopping, stops_early, dotted, Values, before, wanted, params_of, first_type, other_params, flatten, flatten_row, operand_row, arguments_row}
use Rattle.lq_plain.specs.Plain.{arguments}
use Rattle.lq_plain.specs.SeenFlat.{operand_of}

-- a row by the list of its expressions
abbrev all_pure : List Expr → Bool
all_pure [] = true
all_pure (e ∷ es) = is_pure e && all_pure es

abbrev type_in_front : Env → List Expr → Ty
type_in_front env [] = Unknown
type_in_front env (e ∷ es) = type_of env e

abbrev flat_in_front : Env → Place → Made → List Expr → Flat
flat_in_front env at m [] = Is (valued Null m)
flat_in_front env at m (e ∷ es) = flatten env at e m

abbrev operand_in_front : Bool → Env → Place → Made → List Expr → Valued
operand_in_front pure env at m [] = valued Null m
operand_in_front pure env at m (e ∷ es) = operand_of pure env at e m

pure_items : {n : _} (row : Row_of-Expr n) → is_pure_row row ≡ all_pure (items-the_row-Expr n row)
pure_items end_of-Expr = refl
pure_items (more_of-Expr e rest) = ap (λ b. is_pure e && b) (pure_items rest)

type_items : {n : _} (env : Env) (row : Row_of-Expr n) → type_by env row ≡ type_in_front env (items-the_row-Expr n row)
type_items env end_of-Expr = refl
type_items env (more_of-Expr e rest) = refl

flat_items : {n : _} (env : Env) (at : Place) (row : Row_of-Expr n) (m : Made) → flatten_row env at row m ≡ flat_in_front env at m (items-the_row-Expr n row)
flat_items env at end_of-Expr m = refl
flat_items env at (more_of-Expr e rest) m = refl

operand_items : {n : _} (pure : Bool) (env : Env) (at : Place) (row : Row_of-Expr n) (m : Made) → operand_row pure env at row m ≡ operand_in_front pure env at m (items-the_row-Expr n row)
operand_items pure env at end_of-Expr m = refl
operand_items pure env at (more_of-Expr e rest) m = refl

argument_items : {n : _} (env : Env) (at : Place) (params : List Param) (row : Row_of-Expr n) (m : Made) → arguments_row env at params row m ≡ arguments env at params (items-the_row-Expr n row) m
argument_items env at params end_of-Expr m = refl
argument_items env at params (more_of-Expr e rest) m =
    let first = atom at (type_of env e) (wanted (first_type params) e (flatten env at e m) m) in
    ap (before first) (argument_items env at (other_params params) rest first.made)

and_true : (b : Bool) → (b && true) ≡ b
and_true true = refl
and_true false = refl

-- the row of a box
pure_boxed : (e : Expr) → is_pure_row (hidden-the_row-Expr-0 e) ≡ is_pure e
pure_boxed e = pure_items (hidden-the_row-Expr-0 e) ∙ ap all_pure (items_hidden-the_row-Expr-0 e) ∙ and_true (is_pure e)

type_boxed : (env : Env) (e : Expr) → type_by env (hidden-the_row-Expr-0 e) ≡ type_of env e
type_boxed env e = type_items env (hidden-the_row-Expr-0 e) ∙ ap (type_in_front env) (items_hidden-the_row-Expr-0 e)

flat_boxed : (env : Env) (at : Place) (e : Expr) (m : Made) → flatten_row env at (hidden-the_row-Expr-0 e) m ≡ flatten env at e m
flat_boxed env at e m = flat_items env at (hidden-the_row-Expr-0 e) m ∙ ap (flat_in_front env at m) (items_hidden-the_row-Expr-0 e)

operand_boxed : (pure : Bool) (env : Env) (at : Place) (e : Expr) (m : Made) → operand_row pure env at (hidden-the_row-Expr-0 e) m ≡ operand_of pure env at e m
operand_boxed pure env at e m = operand_items pure env at (hidden-the_row-Expr-0 e) m ∙ ap (operand_in_front pure env at m) (items_hidden-the_row-Expr-0 e)

-- which forms are pure
pub pure_neg : (a : Expr) → is_pure (Neg a) ≡ is_pure a
pure_neg a = pure_boxed a

pub pure_not : (a : Expr) → is_pure (Not a) ≡ is_pure a
pure_not a = pure_boxed a

pub pure_bin : (op : BinOp) (a b : Expr) → is_pure (Bin op a b) ≡ (is_pure a && is_pure b)
pure_bin op a b = ap (λ x. x && is_pure_row (hidden-the_row-Expr-0 b)) (pure_boxed a) ∙ ap (λ x. is_pure a && x) (pure_boxed b)

-- the forms
abbrev pub negated : Valued → Flat
negated v = Is (valued (NegP v.value) v.made)

pub flat_neg : (env : Env) (at : Place) (a : Expr) (m : Made) → flatten env at (Neg a) m ≡ negated (operand_of (is_pure a) env at a m)
flat_neg env at a m = ap negated (ap (λ b. operand_row b env at (hidden-the_row-Expr-0 a) m) (pure_boxed a) ∙ operand_boxed (is_pure a) env at a m)

abbrev pub inverted : Valued → Flat
inverted v = Is (valued (NotP v.value) v.made)

pub flat_not : (env : Env) (at : Place) (a : Expr) (m : Made) → flatten env at (Not a) m ≡ inverted (operand_of (is_pure a) env at a m)
flat_not env at a m = ap inverted (ap (λ b. operand_row b env at (hidden-the_row-Expr-0 a) m) (pure_boxed a) ∙ operand_boxed (is_pure a) env at a m)

-- an operator over its operands
abbrev pub over : (left right : Ty) → BinOp → Valued → Valued → Flat
over left right op a b = Is (valued (operator left right op a.value b.value) b.made)

abbrev pub combined : Place → BinOp → (pa pb : Bool) → (left right : Ty) → (a b : Bool → Made → Valued) → Made → Flat
combined at op pa pb left right a b m =
    if not (pa && pb) && stops_early op then stopping at op (a true) (b true) m
    else over left right op (a (pa && pb) m) (b (pa && pb) (a (pa && pb) m).made)

pub flat_bin : (env : Env) (at : Place) (op : BinOp) (a b : Expr) (m : Made)
    → flatten env at (Bin op a b) m ≡ combined at op (is_pure a) (is_pure b) (type_of env a) (type_of env b) (λ pure. operand_of pure env at a) (λ pure. operand_of pure env at b) m
flat_bin env at op a b m =
    let ra = hidden-the_row-Expr-0 a in
    let rb = hidden-the_row-Expr-0 b in
    let oa : Bool → Made → Valued = λ pure. operand_row pure env at ra in
    let ob : Bool → Made → Valued = λ pure. operand_row pure env at rb in
    ap (λ x. combined at op x (is_pure_row rb) (type_by env ra) (type_by env rb) oa ob m) (pure_boxed a)
    ∙ ap (λ x. combined at op (is_pure a) x (type_by env ra) (type_by env rb) oa ob m) (pure_boxed b)
    ∙ ap (λ x. combined at op (is_pure a) (is_pure b) x (type_by env rb) oa ob m) (type_boxed env a)
    ∙ ap (λ x. combined at op (is_pure a) (is_pure b) (type_of env a) x oa ob m) (type_boxed env b)
    ∙ ap (λ (x : Bool → Made → Valued). combined at op (is_pure a) (is_pure b) (type_of env a) (type_of env b) x ob m) (fun_ext (λ pure. fun_ext (λ n. operand_boxed pure env at a n)))
    ∙ ap (λ (x : Bool → Made → Valued). combined at op (is_pure a) (is_pure b) (type_of env a) (type_of env b) (λ pure. operand_of pure env at a) x m) (fun_ext (λ pure. fun_ext (λ n. operand_boxed pure env at b n)))

-- an element of what a base points to
abbrev pub element : Env → Place → Expr → Valued → Flat
element env at i to = Names (slot_in to.value) (flatten env at i to.made) 0

pub flat_index : (env : Env) (at : Place) (a i : Expr) (m : Made) → flatten env at (Index a i) m ≡ element env at i (operand_of false env at a m)
flat_index env at a i m =
    ap (λ (to : Valued). Names (slot_in to.value) (flatten_row env at (hidden-the_row-Expr-0 i) to.made) 0) (operand_boxed false env at a m)
    ∙ ap (λ f. Names (slot_in (operand_of false env at a m).value) f 0) (flat_boxed env at i (operand_of false env at a m).made)

-- a field of the first element
abbrev pub first : (field : ℕ) → Valued → Flat
first field to = Names (slot_in to.value) (Is (valued (Num (pos 0)) to.made)) field

pub flat_deref : (env : Env) (at : Place) (a : Expr) (m : Made) → flatten env at (Deref a) m ≡ first 0 (operand_of false env at a m)
flat_deref env at a m = ap (first 0) (operand_boxed false env at a m)

pub flat_arrow : (env : Env) (at : Place) (a : Expr) (field : List ℕ) (m : Made)
    → flatten env at (Arrow a field) m ≡ first (field_number env.program.structs (element_of (type_of env a)) field) (operand_of false env at a m)
flat_arrow env at a field m =
    ap (λ t. first (field_number env.program.structs (element_of t) field) (operand_row false env at (hidden-the_row-Expr-0 a) m)) (type_boxed env a)
    ∙ ap (first (field_number env.program.structs (element_of (type_of env a)) field)) (operand_boxed false env at a m)

pub flat_dot : (env : Env) (at : Place) (a : Expr) (field : List ℕ) (m : Made) → flatten env at (Dot a field) m ≡ dotted (field_number env.program.structs (type_of env a) field) (flatten env at a m)
flat_dot env at a field m =
    ap (λ t. dotted (field_number env.program.structs t field) (flatten_row env at (hidden-the_row-Expr-0 a) m)) (type_boxed env a)
    ∙ ap (dotted (field_number env.program.structs (type_of env a) field)) (flat_boxed env at a m)

-- a call on values, and a calloc of so many elements
abbrev pub call : Env → List ℕ → Values → Flat
call env name given = Gets (λ slot. CallP (Some slot) (number_of env.program.funcs name) given.values) given.made

pub flat_call : (env : Env) (at : Place) (name : List ℕ) (args : List Expr) (m : Made)
    → flatten env at (Call name args) m ≡ call env name (arguments env at (params_of (function_of env.program.funcs name)) args m)
flat_call env at name args m =
    let params = params_of (function_of env.program.funcs name) in
    ap (call env name) (argument_items env at params (hidden-the_row-Expr-1 args) m ∙ ap (λ (es : List Expr). arguments env at params es m) (items_hidden-the_row-Expr-1 args))

abbrev pub allocated : CType → Valued → Flat
allocated type n = Gets (λ slot. CallocP slot n.value type) n.made

pub flat_calloc : (env : Env) (at : Place) (a : Expr) (type : CType) (m : Made) → flatten env at (Calloc a type) m ≡ allocated type (operand_of false env at a m)
flat_calloc env at a type m = ap (allocated type) (operand_boxed false env at a m)
