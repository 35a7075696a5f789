-- The types of what is in scope and of expressions: their structs are known, and slots have the types of their locals.
use Rattle.std.proofs.Common.{◌≡◌, ℕ, zero, suc, Bool, true, false, cond, not, ◌||◌, ◌==◌, List, [], ◌∷◌, ◌++◌, length, fold, Option, None, Some, is_some, refl, ap, sym, ◌∙◌, subst, arith}
use Rattle.std.specs.List.{slice_get, AllByRecursion, list_any}
use Rattle.std.proofs.lemmas.Bool.{cond_both}
use Rattle.lq_tree.specs.declared.expr.Base.{Base}
use Rattle.lq_tree.specs.declared.expr.Base.TheVariants.{Int, Struct}
use Rattle.lq_tree.specs.declared.expr.BinOp.{BinOp}
use Rattle.lq_tree.specs.declared.expr.BinOp.TheVariants.{Add, Sub}
use Rattle.lq_tree.specs.declared.expr.Expr.{Expr, Num, Var, Neg', Not', Bin', Index', Deref', Arrow', Dot', Call' as CallExpr', Calloc', Row_of-Expr, end_of-Expr, more_of-Expr}
use Rattle.lq_tree.specs.declared.plain.Slot.{Slot}
use Rattle.lq_tree.specs.declared.program.Func.{Func}
use Rattle.lq_tree.specs.declared.program.Param.{Param}
use Rattle.lq_tree.specs.declared.program.Program.{Program}
use Rattle.lq_tree.specs.Lookup.{same, function_of, number_of}
use Rattle.lq_tree.specs.PlainTypes.{is_value, slot_type}
use Rattle.lq_tree.specs.Types.{Ty, Number, Pointer, Element, Unknown, Variable, or_later, type_in, is_pointer, value, behind, element_of, type_of_field, field_of, dotted, declared, sum_of, combined, result_of, called, is_known, count_row, expression_type, row_type}
use Rattle.lq_tree.specs.Locals.{Local, what_of, type_of_local, variables_of}
use Rattle.lq_plain.proofs.NamedTypes.{suits, AreTyped, typed_push}
use Rattle.lq_plain.proofs.Related.{IsThere, one_more}
use Rattle.lq_plain.proofs.SlotTypes.{is_known_type, same_is}

-- ---- functions by their names

function_here : {f g : Func} → Some f ≡ Some g → f ≡ g
function_here is = cc

-- the function of a name stands at its number, and has the name
pub function_at : (funcs : List Func) (name : List ℕ) (f : Func) → function_of funcs name ≡ Some f → (slice_get funcs (number_of funcs name) ≡ Some f) × (f.name ≡ name)
function_at [] name f is = absurd cc
function_at (g ∷ funcs) name f is = at (same g.name name) refl (function_at funcs name f) is where
  at : (b : Bool) → same g.name name ≡ b → (function_of funcs name ≡ Some f → (slice_get funcs (number_of funcs name) ≡ Some f) × (f.name ≡ name)) → cond b (Some g) (function_of funcs name) ≡ Some f → (slice_get (g ∷ funcs) (cond b 0 (suc (number_of funcs name))) ≡ Some f) × (f.name ≡ name)
  at true named later is = (is, ap (λ (h : Func). h.name) (sym (function_here is)) ∙ same_is g.name name named)
  at false named later is = later is

-- two names with one number, of which one has a function, are the same
pub names_by_number : (funcs : List Func) (a b : List ℕ) (f : Func) → function_of funcs a ≡ Some f → number_of funcs a ≡ number_of funcs b → a ≡ b
names_by_number [] a b f is number = absurd cc
names_by_number (g ∷ funcs) a b f is number = at (same g.name a) (same g.name b) refl refl (names_by_number funcs a b f) is number where
  at : (x y : Bool) → same g.name a ≡ x → same g.name b ≡ y → (function_of funcs a ≡ Some f → number_of funcs a ≡ number_of funcs b → a ≡ b) → cond x (Some g) (function_of funcs a) ≡ Some f → cond x 0 (suc (number_of funcs a)) ≡ cond y 0 (suc (number_of funcs b)) → a ≡ b
  at true true first second later is number = sym (same_is g.name a first) ∙ same_is g.name b second
  at true false first second later is number = absurd (omega (arith, number))
  at false true first second later is number = absurd (omega (arith, number))
  at false false first second later is number = later is (omega (arith, number))

pub found_some : (found : Option Func) → not (is_some found) ≡ false → (g : Func) × (found ≡ Some g)
found_some None h = absurd cc
found_some (Some g) h = (g, refl)

-- ---- what a program has

pub record Facts (p : Program) : Type 0 where
  pub fields : (struct field : List ℕ) → is_known_type p (type_of_field (field_of p struct field)) ≡ true
  pub results : (name : List ℕ) (f : Func) → function_of p.funcs name ≡ Some f → is_known_type p (result_of f.result) ≡ true
  pub params : (name : List ℕ) (f : Func) → function_of p.funcs name ≡ Some f → AllByRecursion (λ (q : Param). is_value (declared q.ctype) ≡ true) f.params

-- ---- known types

abbrev pub AreKnown : Program → List Variable → Type 0
AreKnown p vs = AllByRecursion (λ (v : Variable). is_known_type p v.type ≡ true) vs

pub known_push : (p : Program) (vs : List Variable) (v : Variable) → AreKnown p vs → is_known_type p v.type ≡ true → AreKnown p (vs ++ v ∷ [])
known_push p [] v known h = (h, tt)
known_push p (w ∷ vs) v known h = (known.0, known_push p vs v known.1 h)

known_in : (p : Program) (name : List ℕ) (vs : List Variable) (found : Ty) → AreKnown p vs → is_known_type p found ≡ true → is_known_type p (fold (or_later name) found vs) ≡ true
known_in p name [] found known h = h
known_in p name (v ∷ vs) found known h = known_in p name vs (or_later name found v) known.1 (cond_both (same v.name name) v.type found (λ t. is_known_type p t ≡ true) (λ _. known.0) (λ _. h))

known_value : (p : Program) (t : Ty) → is_known_type p t ≡ true → is_known_type p (value t) ≡ true
known_value p (Pointer base stars) h = h
known_value p _ h = refl

known_behind : (p : Program) (base : Base) (stars : ℕ) → is_known p base ≡ true → is_known_type p (behind base stars) ≡ true
known_behind p Int zero h = refl
known_behind p (Struct name) zero h = h
known_behind p Int (suc n) h = h
known_behind p (Struct name) (suc n) h = h

known_element : (p : Program) (t : Ty) → is_known_type p t ≡ true → is_known_type p (element_of t) ≡ true
known_element p (Pointer base stars) h = known_behind p base stars h
known_element p _ h = refl

known_sum : (p : Program) (left right : Ty) → is_known_type p left ≡ true → is_known_type p (sum_of left right) ≡ true
known_sum p left right h = cond_both (is_pointer right) Unknown (value left) (λ t. is_known_type p t ≡ true) (λ _. refl) (λ _. known_value p left h)

known_combined : (p : Program) (op : BinOp) (left right : Ty) → is_known_type p left ≡ true → is_known_type p (combined op left right) ≡ true
known_combined p Add left right h = known_sum p left right h
known_combined p Sub left right h = known_sum p left right h
known_combined p _ left right h = refl

module _ (p : Program) (facts : Facts p) where
  known_dotted : (t : Ty) (field : List ℕ) → is_known_type p (dotted p t field) ≡ true
  known_dotted (Element struct) field = facts.fields struct field
  known_dotted _ field = refl

  known_called : (name : List ℕ) (found : Option Func) (count : ℕ) → function_of p.funcs name ≡ found → is_known_type p (called found count) ≡ true
  known_called name None count is = refl
  known_called name (Some f) count is = cond_both (length f.params == count) (result_of f.result) Unknown (λ t. is_known_type p t ≡ true) (λ _. facts.results name f is) (λ _. refl)

  module _ (vs : List Variable) (known : AreKnown p vs) where
    mutual
      -- the struct that the type of an expression names is known
      pub known_type : (e : Expr) → is_known_type p (expression_type p vs e) ≡ true
      known_type (Num n) = refl
      known_type (Var name) = known_in p name vs Unknown known refl
      known_type (Neg' q a) = refl
      known_type (Not' q a) = refl
      known_type (Bin' op q a r b) = known_combined p op (row_type p vs a) (row_type p vs b) (known_row a)
      known_type (Index' q a r i) = known_element p (row_type p vs a) (known_row a)
      known_type (Deref' q a) = known_element p (row_type p vs a) (known_row a)
      known_type (Arrow' q a field) = known_dotted (element_of (row_type p vs a)) field
      known_type (Dot' q a field) = known_dotted (row_type p vs a) field
      known_type (CallExpr' name n args) = known_called name (function_of p.funcs name) (count_row args) refl
      known_type (Calloc' q a type) = cond_both (is_known p type.base) (Pointer type.base type.stars) Unknown (λ t. is_known_type p t ≡ true) (λ is. is) (λ _. refl)

      known_row : {n : _} (row : Row_of-Expr n) → is_known_type p (row_type p vs row) ≡ true
      known_row end_of-Expr = refl
      known_row (more_of-Expr e rest) = known_type e

-- ---- locals and their slots

-- the slot of a local has its type
pub record Held (p : Program) (slots : List Slot) (l : Local ℕ) : Type 0 where
  pub typed : slot_type slots l.what ≡ l.type
  pub known : is_known_type p l.type ≡ true
  pub worthy : is_value l.type ≡ true

value_suits : (t : Ty) → is_value t ≡ true → suits t false ≡ true
value_suits Number h = refl
value_suits (Pointer base stars) h = refl
value_suits _ h = absurd cc

abbrev pub AreHeld : Program → List Slot → List (Local ℕ) → Type 0
AreHeld p slots scope = AllByRecursion (Held p slots) scope

pub held_typed : (p : Program) (slots : List Slot) (scope : List (Local ℕ)) → AreHeld p slots scope → AreTyped (variables_of scope)
held_typed p slots [] held = tt
held_typed p slots (l ∷ scope) held =
    subst AreTyped (sym (one_more l scope)) (typed_push (variables_of scope) (record { name = l.name; type = l.type }) (held_typed p slots scope held.1) (value_suits l.type (held.0).worthy))

pub held_known : (p : Program) (slots : List Slot) (scope : List (Local ℕ)) → AreHeld p slots scope → AreKnown p (variables_of scope)
held_known p slots [] held = tt
held_known p slots (l ∷ scope) held =
    subst (AreKnown p) (sym (one_more l scope)) (known_push p (variables_of scope) (record { name = l.name; type = l.type }) (held_known p slots scope held.1) (held.0).known)

later_last : (name : List ℕ) (vs : List Variable) (found : Ty) (v : Variable) → fold (or_later name) found (vs ++ v ∷ []) ≡ or_later name (fold (or_later name) found vs) v
later_last name [] found v = refl
later_last name (w ∷ vs) found v = later_last name vs (or_later name found w) v

-- the type of a local by its name is that of the variable
pub type_named : (scope : List (Local ℕ)) (name : List ℕ) → type_of_local scope name ≡ type_in (variables_of scope) name
type_named [] name = refl
type_named (l ∷ scope) name =
    ap (λ t. cond (same l.name name) l.type t) (type_named scope name)
    ∙ sym (ap (λ vs. type_in vs name) (one_more l scope) ∙ later_last name (variables_of scope) Unknown (record { name = l.name; type = l.type }))

pub slot_typed : (p : Program) (slots : List Slot) (scope : List (Local ℕ)) (name : List ℕ) → AreHeld p slots scope → IsThere scope name → slot_type slots (what_of 0 scope name) ≡ type_of_local scope name
slot_typed p slots [] name held there = absurd cc
slot_typed p slots (l ∷ scope) name held there = at (same l.name name) there (slot_typed p slots scope name held.1) where
  at : (b : Bool) → (b || list_any (λ (s : Local ℕ). same s.name name) scope) ≡ true → (IsThere scope name → slot_type slots (what_of 0 scope name) ≡ type_of_local scope name)
      → slot_type slots (cond b l.what (what_of 0 scope name)) ≡ cond b l.type (type_of_local scope name)
  at true there later = (held.0).typed
  at false there later = later there

pub value_named : (p : Program) (slots : List Slot) (scope : List (Local ℕ)) (name : List ℕ) → AreHeld p slots scope → IsThere scope name → is_value (type_of_local scope name) ≡ true
value_named p slots [] name held there = absurd cc
value_named p slots (l ∷ scope) name held there = at (same l.name name) there (value_named p slots scope name held.1) where
  at : (b : Bool) → (b || list_any (λ (s : Local ℕ). same s.name name) scope) ≡ true → (IsThere scope name → is_value (type_of_local scope name) ≡ true) → is_value (cond b l.type (type_of_local scope name)) ≡ true
  at true there later = (held.0).worthy
  at false there later = later there

pub slot_named : (p : Program) (slots : List Slot) (scope : List (Local ℕ)) (name : List ℕ) → AreHeld p slots scope → IsThere scope name → slot_type slots (what_of 0 scope name) ≡ type_in (variables_of scope) name
slot_named p slots scope name held there = slot_typed p slots scope name held there ∙ type_named scope name
