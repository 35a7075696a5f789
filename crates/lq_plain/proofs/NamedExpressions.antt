-- An expression that breaks no name rule is regular.
use Rattle.std.proofs.Common.{◌≡◌, ℕ, suc, Bool, true, false, List, [], ◌∷◌, ◌++◌, length, refl, ap, sym, ◌∙◌, subst, rules}
use denote.Hole.Carrier
use Rattle.std.specs.List.{list_any, flat_map}
use Rattle.std.proofs.lemmas.Bool.{not-false, or_parts}
use Rattle.std.proofs.lemmas.Grind.{flat_map-append}
use Rattle.lq_tree.specs.declared.expr.BinOp.{BinOp}
use Rattle.lq_tree.specs.declared.expr.BinOp.TheVariants.{Eq, Ne}
use Rattle.lq_tree.specs.declared.expr.Expr.{Expr, out-Expr, roll-Expr, the_lemmas, Num, Var, Neg', Not', Bin', Index', Deref', Arrow', Dot', Call', Calloc', Row_of-Expr, end_of-Expr, more_of-Expr, items-the_row-Expr, items_hidden-the_row-Expr-0, items_hidden-the_row-Expr-1}
use Rattle.lq_tree.specs.declared.expr.Expr.TheBlock.{hidden-the_row-Expr-0}
use Rattle.lq_tree.specs.declared.expr.Expr.TheOpen as layer
use Rattle.lq_tree.specs.declared.expr.Expr.TheVariants.{rolls-Num, rolls-Var, rolls-Neg, rolls-Not, rolls-Bin, rolls-Index, rolls-Deref, rolls-Arrow, rolls-Dot, rolls-Call, rolls-Calloc}
use Rattle.lq_tree.specs.Types.{is_in_scope, function_of, count_row, is_number, is_pointer, element_of, dotted, combined, called}
use Rattle.lq_tree.specs.Walk.{nodes, nodes_row}
use Rattle.lq_names.specs.Scopes.{Site}
use Rattle.lq_names.specs.Types.{type_of}
use Rattle.lq_names.specs.Rules.{Node, is_zero as is_zero_node, are_compared, operator_misfits, is_nothing, is_struct, has_no_fields, miscounts, gives_nothing, n1, n3, n5, n6, n7}
use Rattle.lq_names.specs.Faults.{broken, node_rules}
use Rattle.lq_plain.specs.Flat.{is_zero}
use Rattle.lq_plain.specs.Places.{is_place}
use Rattle.lq_plain.proofs.Regular.{AreCompared, Takes, IsRegular, AreRegular}
use Rattle.lq_plain.proofs.NamedTypes.{suits, AreTyped, suits_variable, a_value, a_pointer, suits_element, of_element, of_pointer, taken, suits_combined, compared_right, compared_left, suits_allocated}

-- ---- rules that aren't broken

-- the first rule of several, and the others
pub first_kept : (is_broken : Bool) (rule : ℕ) (rules : List (Bool × ℕ)) → broken ((is_broken, rule) ∷ rules) ≡ [] → (is_broken ≡ false) × (broken rules ≡ [])
unfolding broken
first_kept true rule rules h = cc
first_kept false rule rules h = (refl, h)

-- both of two lists are empty
pub both_empty : {A : Type 0} (xs ys : List A) → xs ++ ys ≡ [] → (xs ≡ []) × (ys ≡ [])
both_empty [] ys h = (refl, h)
both_empty (x ∷ xs) ys h = cc

-- what a node keeps, as far as it is asked for
record Kept (s : Site) (n : Node) : Type 0 where
  pub known : n3 s n ≡ false
  pub agrees : n5 s n ≡ false
  pub gives : n6 s n ≡ false
  pub whole : n7 s n ≡ false

kept : (s : Site) (n : Node) → node_rules s n ≡ [] → Kept s n
kept s n h =
    let a = first_kept (n1 n) 1 _ h in
    let b = first_kept (n3 s n) 3 _ a.1 in
    let c = first_kept (n5 s n) 5 _ b.1 in
    let d = first_kept (n6 s n) 6 _ c.1 in
    let e = first_kept (n7 s n) 7 _ d.1 in
    record { known = b.0; agrees = c.0; gives = d.0; whole = e.0 }

-- no node of these breaks a rule
abbrev pub AreKept : Site → List Expr → Type 0
AreKept s ns = flat_map (λ (n : Expr). node_rules s (out-Expr n)) ns ≡ []

-- ---- the literal 0

pub same_zero : (e : Expr) → is_zero_node e ≡ is_zero e
unfolding out-Expr denote.Hole.Carrier.out
same_zero (Num n) = refl
same_zero (Var name) = refl
same_zero _ = refl

zero_is_number : (s : Site) (e : Expr) → is_zero e ≡ true → is_number (type_of s e) ≡ true
zero_is_number s (Num n) h = refl
zero_is_number s _ h = cc

-- ---- the node of an expression, with the parts in its rows

-- the expression of a box
abbrev only : Row_of-Expr 1 → Expr
only (more_of-Expr e end_of-Expr) = e

only_items : (row : Row_of-Expr 1) (e : Expr) → items-the_row-Expr _ row ≡ e ∷ [] → only row ≡ e
only_items (more_of-Expr d end_of-Expr) e is = cc

only_boxed : (e : Expr) → only (hidden-the_row-Expr-0 e) ≡ e
only_boxed e = only_items (hidden-the_row-Expr-0 e) e (items_hidden-the_row-Expr-0 e)

abbrev pub node_of : Expr → Node
node_of (Num n) = layer.Num n
node_of (Var name) = layer.Var name
node_of (Neg' q a) = layer.Neg (only a)
node_of (Not' q a) = layer.Not (only a)
node_of (Bin' op q a r b) = layer.Bin op (only a) (only b)
node_of (Index' q a r i) = layer.Index (only a) (only i)
node_of (Deref' q a) = layer.Deref (only a)
node_of (Arrow' q a field) = layer.Arrow (only a) field
node_of (Dot' q a field) = layer.Dot (only a) field
node_of (Call' f q args) = layer.Call f (items-the_row-Expr _ args)
node_of (Calloc' q a type) = layer.Calloc (only a) type

node_rolled : (n : Node) → node_of (roll-Expr n) ≡ n
node_rolled (layer.Num n) = ap node_of (rolls-Num n)
node_rolled (layer.Var name) = ap node_of (rolls-Var name)
node_rolled (layer.Neg a) = ap node_of (rolls-Neg a) ∙ ap (λ x. layer.Neg x) (only_boxed a)
node_rolled (layer.Not a) = ap node_of (rolls-Not a) ∙ ap (λ x. layer.Not x) (only_boxed a)
node_rolled (layer.Bin op a b) = ap node_of (rolls-Bin op a b) ∙ ap (λ x. layer.Bin op x (only (hidden-the_row-Expr-0 b))) (only_boxed a) ∙ ap (λ x. layer.Bin op a x) (only_boxed b)
node_rolled (layer.Index a i) = ap node_of (rolls-Index a i) ∙ ap (λ x. layer.Index x (only (hidden-the_row-Expr-0 i))) (only_boxed a) ∙ ap (λ x. layer.Index a x) (only_boxed i)
node_rolled (layer.Deref a) = ap node_of (rolls-Deref a) ∙ ap (λ x. layer.Deref x) (only_boxed a)
node_rolled (layer.Arrow a field) = ap node_of (rolls-Arrow a field) ∙ ap (λ x. layer.Arrow x field) (only_boxed a)
node_rolled (layer.Dot a field) = ap node_of (rolls-Dot a field) ∙ ap (λ x. layer.Dot x field) (only_boxed a)
node_rolled (layer.Call f args) = ap node_of (rolls-Call f args) ∙ ap (λ es. layer.Call f es) (items_hidden-the_row-Expr-1 args)
node_rolled (layer.Calloc a type) = ap node_of (rolls-Calloc a type) ∙ ap (λ x. layer.Calloc x type) (only_boxed a)

roll_out : (e : Expr) → roll-Expr (out-Expr e) ≡ e
roll_out e = search (rules, the_lemmas)

pub out_is : (e : Expr) → out-Expr e ≡ node_of e
out_is e = sym (node_rolled (out-Expr e)) ∙ ap node_of (roll_out e)

pub count_items : {n : _} (row : Row_of-Expr n) → count_row row ≡ length (items-the_row-Expr n row)
count_items end_of-Expr = refl
count_items (more_of-Expr e rest) = ap (λ n. suc n) (count_items rest)

-- ---- expressions

module _ (s : Site) (typed : AreTyped s.scope) where
  -- it is regular, and has a type that it may have
  abbrev pub IsSound : Expr → Type 0
  IsSound e = IsRegular s.program s.scope e × (suits (type_of s e) (is_place e) ≡ true)

  both_kept : (ns ms : List Expr) → AreKept s (ns ++ ms) → AreKept s ns × AreKept s ms
  both_kept ns ms h = both_empty _ _ (sym (flat_map-append (λ (n : Expr). node_rules s (out-Expr n)) ns ms) ∙ h)

  -- a node, and the nodes behind it
  node_kept : (e : Expr) (rest : List Expr) → AreKept s (e ∷ rest) → Kept s (node_of e) × AreKept s rest
  node_kept e rest h = let all = both_empty _ _ h in (kept s (node_of e) (ap (node_rules s) (sym (out_is e)) ∙ all.0), all.1)

  -- of the row of a box
  one_kept : (a : Expr) → AreKept s (nodes a ++ []) → AreKept s (nodes a)
  one_kept a h = (both_kept (nodes a) [] h).0

  is_base : (a : Expr) → IsSound a → is_number (type_of s a) ≡ false → is_nothing (type_of s a) ≡ false → is_struct (type_of s a) ≡ false → is_pointer (type_of s a) ≡ true
  is_base a sound n g w = a_pointer (type_of s a) (a_value (type_of s a) (is_place a) sound.1 g w) n

  beside : (a b : Expr) → are_compared (type_of s a) (is_zero_node a) (type_of s b) (is_zero_node b) ≡ true
      → (is_pointer (type_of s a) ≡ true → is_zero b ≡ true) × (is_pointer (type_of s b) ≡ true → is_zero a ≡ true)
  beside a b h = (
    λ is. sym (same_zero b) ∙ compared_right (type_of s a) (type_of s b) (is_zero_node a) (is_zero_node b) (λ z. zero_is_number s a (sym (same_zero a) ∙ z)) h is,
    λ is. sym (same_zero a) ∙ compared_left (type_of s a) (type_of s b) (is_zero_node a) (is_zero_node b) (λ z. zero_is_number s b (sym (same_zero b) ∙ z)) h is,
  )

  are_compared_so : (op : BinOp) (a b : Expr) → operator_misfits op (type_of s a) (is_zero_node a) (type_of s b) (is_zero_node b) ≡ false
      → AreCompared op (type_of s a) (type_of s b) (more_of-Expr a end_of-Expr) (more_of-Expr b end_of-Expr)
  are_compared_so Eq a b h = beside a b (not-false _ h)
  are_compared_so Ne a b h = beside a b (not-false _ h)
  are_compared_so _ a b h = tt

  variable : (name : List ℕ) → Kept s (layer.Var name) → IsSound (Var name)
  variable name k = let is = not-false (is_in_scope s.scope name) k.known in (is, suits_variable s.scope name typed is)

  operator : (op : BinOp) (a b : Expr) → Kept s (layer.Bin op a b) → IsSound a → IsSound b
      → AreCompared op (type_of s a) (type_of s b) (more_of-Expr a end_of-Expr) (more_of-Expr b end_of-Expr) × (suits (combined op (type_of s a) (type_of s b)) false ≡ true)
  operator op a b k first second =
      let gives = or_parts (is_nothing (type_of s a)) (is_nothing (type_of s b)) k.gives in
      let whole = or_parts (is_struct (type_of s a)) (is_struct (type_of s b)) k.whole in
      let left = a_value (type_of s a) (is_place a) first.1 gives.0 whole.0 in
      (are_compared_so op a b k.agrees, suits_combined op (type_of s a) (type_of s b) (is_zero_node a) (is_zero_node b) left k.agrees)

  index : (a i : Expr) → Kept s (layer.Index a i) → IsSound a → is_pointer (type_of s a) ≡ true
  index a i k sound =
      let agrees = or_parts (is_number (type_of s a)) (is_pointer (type_of s i)) k.agrees in
      let gives = or_parts (is_nothing (type_of s a)) (is_nothing (type_of s i)) k.gives in
      let whole = or_parts (is_struct (type_of s a)) (is_struct (type_of s i)) k.whole in
      is_base a sound agrees.0 gives.0 whole.0

  arrow : (a : Expr) (field : List ℕ) → Kept s (layer.Arrow a field) → IsSound a → (is_pointer (type_of s a) ≡ true) × (suits (dotted s.program (element_of (type_of s a)) field) true ≡ true)
  arrow a field k sound =
      let agrees = or_parts (is_number (type_of s a)) (has_no_fields (element_of (type_of s a))) k.agrees in
      let is = is_base a sound agrees.0 k.gives k.whole in
      (is, of_pointer s.program (type_of s a) field is agrees.1 k.known)

  dot : (a : Expr) (field : List ℕ) → Kept s (layer.Dot a field) → IsSound a → (is_place a ≡ true) × (suits (dotted s.program (type_of s a) field) true ≡ true)
  dot a field k sound = of_element s.program (type_of s a) field (is_place a) sound.1 k.gives k.whole k.agrees k.known

  call : (f : List ℕ) (args : List Expr) → Kept s (layer.Call f args)
      → Takes (function_of s.program.funcs f) (length args) × (suits (called (function_of s.program.funcs f) (length args)) false ≡ true)
  call f args k =
      taken (function_of s.program.funcs f) (length args) k.known (or_parts (miscounts (function_of s.program.funcs f) (length args)) (list_any (gives_nothing s) args) k.gives).0

  call_row : {n : _} (f : List ℕ) (row : Row_of-Expr n) → Kept s (layer.Call f (items-the_row-Expr n row))
      → Takes (function_of s.program.funcs f) (count_row row) × (suits (called (function_of s.program.funcs f) (count_row row)) false ≡ true)
  call_row f row k =
      let found = function_of s.program.funcs f in
      subst (λ (n : ℕ). Takes found n × (suits (called found n) false ≡ true)) (sym (count_items row)) (call f (items-the_row-Expr _ row) k)

  mutual
    unfolding nodes nodes_row

    pub sound : (e : Expr) → AreKept s (nodes e) → IsSound e
    sound (Num n) h = (tt, refl)
    sound (Var name) h = variable name (node_kept (Var name) [] h).0
    sound (Neg' q (more_of-Expr a end_of-Expr)) h =
        let all = node_kept (Neg' q (more_of-Expr a end_of-Expr)) (nodes a ++ []) h in
        ((sound a (one_kept a all.1)).0, refl)
    sound (Not' q (more_of-Expr a end_of-Expr)) h =
        let all = node_kept (Not' q (more_of-Expr a end_of-Expr)) (nodes a ++ []) h in
        ((sound a (one_kept a all.1)).0, refl)
    sound (Bin' op q (more_of-Expr a end_of-Expr) r (more_of-Expr b end_of-Expr)) h =
        let all = node_kept (Bin' op q (more_of-Expr a end_of-Expr) r (more_of-Expr b end_of-Expr)) (nodes a ++ [] ++ (nodes b ++ [])) h in
        let parts = both_kept (nodes a ++ []) (nodes b ++ []) all.1 in
        let first = sound a (one_kept a parts.0) in
        let second = sound b (one_kept b parts.1) in
        let is = operator op a b all.0 first second in
        ((first.0, second.0, is.0), is.1)
    sound (Index' q (more_of-Expr a end_of-Expr) r (more_of-Expr i end_of-Expr)) h =
        let all = node_kept (Index' q (more_of-Expr a end_of-Expr) r (more_of-Expr i end_of-Expr)) (nodes a ++ [] ++ (nodes i ++ [])) h in
        let parts = both_kept (nodes a ++ []) (nodes i ++ []) all.1 in
        let first = sound a (one_kept a parts.0) in
        let second = sound i (one_kept i parts.1) in
        let is = index a i all.0 first in
        ((first.0, second.0, is), suits_element (type_of s a) is)
    sound (Deref' q (more_of-Expr a end_of-Expr)) h =
        let all = node_kept (Deref' q (more_of-Expr a end_of-Expr)) (nodes a ++ []) h in
        let first = sound a (one_kept a all.1) in
        let is = is_base a first (all.0).agrees (all.0).gives (all.0).whole in
        ((first.0, is), suits_element (type_of s a) is)
    sound (Arrow' q (more_of-Expr a end_of-Expr) field) h =
        let all = node_kept (Arrow' q (more_of-Expr a end_of-Expr) field) (nodes a ++ []) h in
        let first = sound a (one_kept a all.1) in
        let is = arrow a field all.0 first in
        ((first.0, is.0), is.1)
    sound (Dot' q (more_of-Expr a end_of-Expr) field) h =
        let all = node_kept (Dot' q (more_of-Expr a end_of-Expr) field) (nodes a ++ []) h in
        let first = sound a (one_kept a all.1) in
        let is = dot a field all.0 first in
        ((first.0, is.0), is.1)
    sound (Call' f q args) h =
        let all = node_kept (Call' f q args) (nodes_row args) h in
        let is = call_row f args all.0 in
        ((sound_row args all.1, is.0), is.1)
    sound (Calloc' q (more_of-Expr a end_of-Expr) type) h =
        let all = node_kept (Calloc' q (more_of-Expr a end_of-Expr) type) (nodes a ++ []) h in
        ((sound a (one_kept a all.1)).0, suits_allocated s.program type (all.0).known)

    pub sound_row : {n : _} (row : Row_of-Expr n) → AreKept s (nodes_row row) → AreRegular s.program s.scope row
    sound_row end_of-Expr h = tt
    sound_row (more_of-Expr e rest) h = let parts = both_kept (nodes e) (nodes_row rest) h in ((sound e parts.0).0, sound_row rest parts.1)
