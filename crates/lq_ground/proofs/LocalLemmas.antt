-- Source locals, found from the last slot to the first.
use Rattle.std.proofs.Common.{◌≡◌, ℕ, zero, suc, ◌+◌, ◌<◌, ◌≤◌, ◌==◌, Bool, true, false, cond, not, ◌&&◌, ◌||◌, List, [], ◌∷◌, ◌++◌, length, take, drop, drop-cons, get_or, reverse, replicate, min, ◌⊎◌, Option, None, Some, inl, inr, refl, ap, ap₂, sym, ◌∙◌, arith}
use Rattle.std.specs.List.{range_with_len}
use Rattle.std.proofs.lemmas.List.{reverse-append, length-replicate, length-take, take-append-drop, take_all}
use Rattle.std.proofs.lemmas.Option.{slice_get_past}
use Rattle.std.proofs.lemmas.Bool.{cases_Bool, cases_lt, eq-eqb, ne_eqb}
use Rattle.std.proofs.lemmas.Bool.Decides.{Decides-eqb}
use Rattle.std.proofs.lemmas.Slice.Eq.{slice_eq-Decides}
use Rattle.lq_tree.specs.declared.expr.CType.{CType}
use Rattle.lq_tree.specs.declared.plain.Slot.{Slot}
use Rattle.lq_tree.specs.declared.plain.PFunc.{PFunc}
use Rattle.lq_tree.specs.Lookup.{same}
use Rattle.lq_tree.specs.PlainScopes.{is_among}
use Rattle.lq_linear.specs.Form.{Linear}
use Rattle.lq_templates.specs.declared.template.NamePart.TheVariants.{Value, Off, Len}
use Rattle.lq_templates.specs.Names.{is_word, is_called, is_called_later, slot_names, mark, marked, numbers_of}
use Rattle.lq_templates.specs.Spots.{params_of}
use Rattle.lq_symbolic.specs.declared.value.SymValue.{SymValue}
use Rattle.lq_symbolic.specs.State.{parts}
use Rattle.lq_ground.specs.Ground.{if_named, values_from}
use Rattle.lq_ground.specs.Locals.{has, is_free, with_name, is_local, locals_from, values_at, values_of}

-- ---- names

same_is : (a b : List ℕ) → same a b ≡ true → a ≡ b
same_is a b is = (slice_eq-Decides Decides-eqb a b (same a b) refl).0 is

or-false : (b : Bool) → (b || false) ≡ b
or-false true = refl
or-false false = refl

or_comm : (a b : Bool) → (a || b) ≡ (b || a)
or_comm true true = refl
or_comm true false = refl
or_comm false true = refl
or_comm false false = refl

-- a name that is there already adds none
known_name : (names : List (List ℕ)) (name other : List ℕ) → has names name ≡ true → has names other ≡ (same name other || has names other)
known_name names name other known = elim (cases_Bool (same name other)) [
  | inl is ↦ ap (has names) (sym (same_is name other is)) ∙ known ∙ ap (λ b. b || has names other) (sym is)
  | inr isnt ↦ ap (λ b. b || has names other) (sym isnt)
]

is_same : (a b : List ℕ) → a ≡ b → same a b ≡ true
is_same a b is = (slice_eq-Decides Decides-eqb a b (same a b) refl).1 is

same_comm : (a b : List ℕ) → same a b ≡ same b a
same_comm a b = elim (cases_Bool (same a b)) [
  | inl is ↦ is ∙ sym (is_same b a (sym (same_is a b is)))
  | inr isnt ↦ elim (cases_Bool (same b a)) [
    | inl is ↦ is_same a b (sym (same_is b a is)) ∙ sym is
    | inr neither ↦ isnt ∙ sym neither
  ]
]

has-append : (names : List (List ℕ)) (name other : List ℕ) → has (names ++ name ∷ []) other ≡ (has names other || same name other)
has-append [] name other = or-false (same other name) ∙ same_comm other name
has-append (n ∷ names) name other =
    elim (same other n) as (λ b. (b || has (names ++ name ∷ []) other) ≡ ((b || has names other) || same name other)) [ true ↦ refl | false ↦ has-append names name other ]

new_name : (names : List (List ℕ)) (name other : List ℕ) → has (names ++ name ∷ []) other ≡ (same name other || has names other)
new_name names name other = has-append names name other ∙ or_comm (has names other) (same name other)

taken_name : (names : List (List ℕ)) (b : Bool) (name other : List ℕ) → has (with_name names b (Some name)) other ≡ ((b && same name other) || has names other)
taken_name names false name other = refl
taken_name names true name other = elim (cases_Bool (has names name)) [
  | inl known ↦ ap (λ k. has (cond (not k) (names ++ name ∷ []) names) other) known ∙ known_name names name other known
  | inr new ↦ ap (λ k. has (cond (not k) (names ++ name ∷ []) names) other) new ∙ new_name names name other
]

-- one slot before
pub with_name-has : (in_scope : ℕ → Bool) (slot : ℕ) (s : Slot) (later : List Slot) (names : List (List ℕ)) (other : List ℕ)
    → ((name : List ℕ) → has names name ≡ is_called_later in_scope (suc slot) later name)
    → has (with_name names (in_scope slot) s.name) other ≡ is_called_later in_scope slot (s ∷ later) other
with_name-has in_scope slot s later names other are = go s.name refl
  where
    go : (o : Option (List ℕ)) → s.name ≡ o → has (with_name names (in_scope slot) s.name) other ≡ is_called_later in_scope slot (s ∷ later) other
    go None is =
        ap (λ o. has (with_name names (in_scope slot) o) other) is ∙ are other
        ∙ elim (in_scope slot) as (λ b. is_called_later in_scope (suc slot) later other ≡ ((b && false) || is_called_later in_scope (suc slot) later other)) [ true ↦ refl | false ↦ refl ]
        ∙ ap (λ o. (in_scope slot && is_called o other) || is_called_later in_scope (suc slot) later other) (sym is)
    go (Some name) is =
        ap (λ o. has (with_name names (in_scope slot) o) other) is ∙ taken_name names (in_scope slot) name other
        ∙ ap (λ b. (in_scope slot && same name other) || b) (are other)
        ∙ ap (λ o. (in_scope slot && is_called o other) || is_called_later in_scope (suc slot) later other) (sym is)

neither : (a b : Bool) → (not a && not b) ≡ not (b || a)
neither true true = refl
neither true false = refl
neither false true = refl
neither false false = refl

pub is_free-local : (in_scope : ℕ → Bool) (slot : ℕ) (o : Option (List ℕ)) (later : List Slot) (names : List (List ℕ))
    → ((name : List ℕ) → has names name ≡ is_called_later in_scope (suc slot) later name) → is_free names (in_scope slot) o ≡ is_local in_scope slot o later
is_free-local in_scope slot None later names are = refl
is_free-local in_scope slot (Some name) later names are =
    ap (λ b. in_scope slot && (not b && not (is_word name))) (are name) ∙ ap (λ b. in_scope slot && b) (neither (is_called_later in_scope (suc slot) later name) (is_word name))

-- ---- values

if_local : (in_scope : ℕ → Bool) (slot : ℕ) (o : Option (List ℕ)) (type : CType) (later : List Slot) (v : SymValue)
    → values_at (is_local in_scope slot o later) v ≡ if_named (slot_names (is_among []) in_scope slot o type later) (parts v)
if_local in_scope slot None type later v = refl
if_local in_scope slot (Some name) type later v =
    elim (in_scope slot && not (is_word name || is_called_later in_scope (suc slot) later name)) as
    (λ b. cond b (parts v) [] ≡ if_named (cond b (numbers_of name type.stars false) []) (parts v)) [
      | true ↦ elim (type.stars == 0) as (λ b. parts v ≡ if_named (cond b (record { text = name; part = Value; changed = false } ∷ []) (record { text = name; part = Off; changed = false } ∷ record { text = name; part = Len; changed = false } ∷ [])) (parts v)) [ true ↦ refl | false ↦ refl ]
      | false ↦ refl
    ]

pub values_of-locals : (in_scope : ℕ → Bool) (value : ℕ → SymValue) (slot : ℕ) (slots : List Slot) → values_of value slot (locals_from in_scope slot slots) ≡ values_from in_scope value slot slots
values_of-locals in_scope value slot [] = refl
values_of-locals in_scope value slot (s ∷ later) =
    ap₂ (λ (xs ys : List Linear). xs ++ ys) (if_local in_scope slot s.name s.ctype later (value slot)) (values_of-locals in_scope value (suc slot) later)

-- ---- parameters

pub first_marked : (first count slot : ℕ) → marked (replicate count true) slot ≡ is_among (range_with_len first count) (first + slot)
first_marked first zero slot = refl
first_marked first (suc count) zero = ap (λ b. b || is_among (range_with_len (first + 1) count) (first + 0)) (sym (eq-eqb first (first + 0) (omega arith)))
first_marked first (suc count) (suc slot) =
    first_marked (first + 1) count slot ∙ ap (is_among (range_with_len (first + 1) count)) (omega arith)
    ∙ ap (λ b. b || is_among (range_with_len (first + 1) count) (first + suc slot)) (sym (ne_eqb first (first + suc slot) (omega arith)))

pub params_marked : (f : PFunc) → marked (replicate f.params true) ≡ is_among (params_of f)
params_marked f = λ i slot. (let e : 0 + slot ≡ slot = omega arith in first_marked 0 f.params slot ∙ ap (is_among (params_of f)) e) i

-- where no later slot is in scope
none_called : (in_scope : ℕ → Bool) (slot : ℕ) (slots : List Slot) (name : List ℕ) → ((n : ℕ) → slot ≤ n → in_scope n ≡ false) → is_called_later in_scope slot slots name ≡ false
none_called in_scope slot [] name none = refl
none_called in_scope slot (s ∷ later) name none =
    ap (λ b. (b && is_called s.name name) || is_called_later in_scope (suc slot) later name) (none slot (omega arith))
    ∙ none_called in_scope (suc slot) later name (λ n high. none n (omega (arith, high)))

called-append : (in_scope : ℕ → Bool) (slot : ℕ) (xs ys : List Slot) (name : List ℕ) → ((n : ℕ) → slot + length xs ≤ n → in_scope n ≡ false)
    → is_called_later in_scope slot (xs ++ ys) name ≡ is_called_later in_scope slot xs name
called-append in_scope slot [] ys name none = none_called in_scope slot ys name (λ n high. none n (omega (arith, high)))
called-append in_scope slot (s ∷ xs) ys name none = ap (λ b. (in_scope slot && is_called s.name name) || b) (called-append in_scope (suc slot) xs ys name (λ n high. none n (omega (arith, high))))

local-append : (in_scope : ℕ → Bool) (slot : ℕ) (o : Option (List ℕ)) (xs ys : List Slot) → ((n : ℕ) → suc slot + length xs ≤ n → in_scope n ≡ false)
    → is_local in_scope slot o (xs ++ ys) ≡ is_local in_scope slot o xs
local-append in_scope slot None xs ys none = refl
local-append in_scope slot (Some name) xs ys none = ap (λ b. in_scope slot && not (is_word name || b)) (called-append in_scope (suc slot) xs ys name none)

none_values : (in_scope : ℕ → Bool) (value : ℕ → SymValue) (slot : ℕ) (slots : List Slot) → ((n : ℕ) → slot ≤ n → in_scope n ≡ false) → values_of value slot (locals_from in_scope slot slots) ≡ []
none_values in_scope value slot [] none = refl
none_values in_scope value slot (s ∷ later) none =
    ap₂ (λ b (ys : List Linear). values_at b (value slot) ++ ys) (isnt s.name) (none_values in_scope value (suc slot) later (λ n high. none n (omega (arith, high))))
  where
    isnt : (o : Option (List ℕ)) → is_local in_scope slot o later ≡ false
    isnt None = refl
    isnt (Some name) = ap (λ b. b && not (is_word name || is_called_later in_scope (suc slot) later name)) (none slot (omega arith))

values-front : (in_scope : ℕ → Bool) (value : ℕ → SymValue) (slot : ℕ) (xs ys : List Slot) → ((n : ℕ) → slot + length xs ≤ n → in_scope n ≡ false)
    → values_of value slot (locals_from in_scope slot (xs ++ ys)) ≡ values_of value slot (locals_from in_scope slot xs)
values-front in_scope value slot [] ys none = none_values in_scope value slot ys (λ n high. none n (omega (arith, high)))
values-front in_scope value slot (s ∷ xs) ys none =
    ap₂ (λ b (zs : List Linear). values_at b (value slot) ++ zs) (local-append in_scope slot s.name xs ys (λ n high. none n (omega (arith, high))))
    (values-front in_scope value (suc slot) xs ys (λ n high. none n (omega (arith, high))))

-- the slots behind those in scope give nothing
pub values_front : (in_scope : ℕ → Bool) (value : ℕ → SymValue) (xs ys : List Slot) → ((n : ℕ) → length xs ≤ n → in_scope n ≡ false)
    → values_from in_scope value 0 (xs ++ ys) ≡ values_from in_scope value 0 xs
values_front in_scope value xs ys none =
    sym (values_of-locals in_scope value 0 (xs ++ ys)) ∙ values-front in_scope value 0 xs ys (λ n high. none n (omega (arith, high))) ∙ values_of-locals in_scope value 0 xs

-- ---- one slot before

pub backwards : (in_scope : ℕ → Bool) (slots : List Slot) (number slot : ℕ) (s : Slot) (locals more : List Bool) (behind after : List (List ℕ)) (local : Bool) → slot + 1 ≡ number → number ≤ length slots
    → s ≡ get_or slots slot s → reverse locals ≡ locals_from in_scope number (drop number slots) → ((name : List ℕ) → has behind name ≡ is_called_later in_scope number (drop number slots) name)
    → local ≡ is_free behind (in_scope slot) s.name → after ≡ with_name behind (in_scope slot) s.name → more ≡ locals ++ local ∷ []
    → record {
      found : reverse more ≡ locals_from in_scope slot (drop slot slots);
      names : (name : List ℕ) → has after name ≡ is_called_later in_scope slot (drop slot slots) name;
      within : slot ≤ length slots;
    }
backwards in_scope slots number slot s locals more behind after local next within is found names free taken pushed =
    let low : slot < length slots = omega (arith, next, within) in
    let e : number ≡ suc slot = omega (arith, next) in
    let cut : drop slot slots ≡ s ∷ drop (suc slot) slots = drop-cons slots slot s low ∙ ap (λ (y : Slot). y ∷ drop (suc slot) slots) (sym is) in
    let later : (name : List ℕ) → has behind name ≡ is_called_later in_scope (suc slot) (drop (suc slot) slots) name = λ name. names name ∙ ap (λ k. is_called_later in_scope k (drop k slots) name) e in
    record {
      found =
          ap reverse pushed ∙ reverse-append locals (local ∷ [])
          ∙ ap₂ (λ b (bs : List Bool). b ∷ bs) (free ∙ is_free-local in_scope slot s.name (drop (suc slot) slots) behind later) (found ∙ ap (λ k. locals_from in_scope k (drop k slots)) e)
          ∙ ap (locals_from in_scope slot) (sym cut);
      names = λ name.
          ap (λ (ns : List (List ℕ)). has ns name) taken ∙ with_name-has in_scope slot s (drop (suc slot) slots) behind name later
          ∙ ap (λ (ss : List Slot). is_called_later in_scope slot ss name) (sym cut);
      within = omega (arith, low);
    }

-- ---- the values of a function's parameters

unmarked : (count slot : ℕ) → count ≤ slot → marked (replicate count true) slot ≡ false
unmarked count slot high = ap mark (slice_get_past (replicate count true) slot (let size = length-replicate count true in omega (arith, size, high)))

-- only the slots of parameters have to be looked at
pub param_slots : (f : PFunc) (value : ℕ → SymValue) (count : ℕ) → count ≡ min (length f.slots) f.params
    → values_from (marked (replicate f.params true)) value 0 (take count f.slots) ≡ values_from (is_among (params_of f)) value 0 f.slots
param_slots f value count is =
    go (cases_lt f.params (length f.slots)) ∙ ap (λ (other : ℕ → Bool). values_from other value 0 f.slots) (params_marked f)
  where
    go : (f.params < length f.slots) ⊎ (length f.slots ≤ f.params) → values_from (marked (replicate f.params true)) value 0 (take count f.slots) ≡ values_from (marked (replicate f.params true)) value 0 f.slots
    go (inl low) =
        let set = marked (replicate f.params true) in
        let size = length-take count f.slots in
        sym (values_front set value (take count f.slots) (drop count f.slots) (λ n high. unmarked f.params n (omega (arith, high, size, is, low))))
        ∙ ap (values_from set value 0) (take-append-drop count f.slots)
    go (inr high) = ap (values_from (marked (replicate f.params true)) value 0) (take_all count f.slots (omega (arith, is, high)))

-- the same locals, as the code has them
pub values_same : (value : List SymValue → ℕ → SymValue) (marks found : List Bool) (slots declared : List Slot) (values known : List SymValue) (scope there : List ℕ) → marks ≡ found → slots ≡ declared → values ≡ known
    → ((n : ℕ) → marked found n ≡ is_among scope n) → scope ≡ there
    → values_from (marked marks) (value values) 0 slots ≡ values_from (is_among there) (value known) 0 declared
values_same value marks found slots declared values known scope there is_found are_slots are_values each is_scope =
    let set : marked found ≡ is_among scope = λ i n. each n i in
    ap₂ (λ (bs : List Bool) (ss : List Slot). values_from (marked bs) (value values) 0 ss) is_found are_slots
    ∙ ap₂ (λ (s : ℕ → Bool) (vs : List SymValue). values_from s (value vs) 0 declared) set are_values
    ∙ ap (λ (ns : List ℕ). values_from (is_among ns) (value known) 0 declared) is_scope
