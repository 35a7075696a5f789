-- How the locals of a source and the slots of its plain form stand for one another.
use Rattle.std.proofs.Common.{◌≡◌, ℕ, suc, ◌+◌, ◌-◌, ◌<◌, ◌≤◌, ℤ, pos, Bool, true, false, cond, ◌||◌, List, [], ◌∷◌, ◌++◌, length, map, reverse, drop, slice_set, refl, sym, ap, ◌∙◌, subst, arith, length-set, length-append, get_or-set_same, get_or-set_other}
use Rattle.std.specs.List.{list_any}
use Rattle.std.proofs.Math.Bool.{or_comm, or-false}
use Rattle.std.proofs.lemmas.Bool.{cond_both, both_ways}
use Rattle.std.proofs.lemmas.List.Folds.{list_any-append}
use Rattle.std.proofs.lemmas.Grind.{reverse_onto}
use Rattle.lq_tree.specs.Lookup.{same}
use Rattle.lq_tree.specs.Types.{Ty, Variable, is_in_scope}
use Rattle.lq_tree.specs.Locals.{Local, what_of, with_what, variables_of}
use Rattle.lq_meaning.specs.Meaning.{Locals, word_of}
use Rattle.lq_meaning.specs.PlainMeaning.{Slots, word_of as slot_word}

-- the slots below a number have the words that they had
pub record Keeps (n : ℕ) (old new : Slots) : Type 0 where
  pub words : (k : ℕ) → k < n → slot_word new k ≡ slot_word old k
  pub size : length new ≡ length old

pub keeps_all : (n : ℕ) (slots : Slots) → Keeps n slots slots
keeps_all n slots = record { words = λ k below. refl; size = refl }

pub keeps_on : {old new last : Slots} (n m : ℕ) → n ≤ m → Keeps n old new → Keeps m new last → Keeps n old last
keeps_on n m fits first next = record { words = λ k below. next.words k (omega arith) ∙ first.words k below; size = next.size ∙ first.size }

pub keeps_fewer : {old new : Slots} (n m : ℕ) → n ≤ m → Keeps m old new → Keeps n old new
keeps_fewer n m fits kept = record { words = λ k below. kept.words k (omega arith); size = kept.size }

pub keeps_set : (n to : ℕ) (slots : Slots) (word : ℤ) → n ≤ to → Keeps n slots (slice_set slots to word)
keeps_set n to slots word above = record { words = λ k below. get_or-set_other slots to k word (pos 0) (omega arith); size = length-set slots to word }

-- the slot has the word, name and type of the local, and is one of the first so many
pub record StandsFor (s : Local ℕ) (l : Local ℤ) (n : ℕ) (slots : Slots) : Type 0 where
  pub name : s.name ≡ l.name
  pub type : s.type ≡ l.type
  pub word : l.what ≡ slot_word slots s.what
  pub made : s.what < n

-- each slot in scope stands for a local, and they descend
abbrev pub Related : List (Local ℕ) → Locals → ℕ → Slots → Type 0
Related [] [] n slots = Unit {0}
Related [] (l ∷ locals) n slots = ⊥
Related (s ∷ scope) [] n slots = ⊥
Related (s ∷ scope) (l ∷ locals) n slots = StandsFor s l n slots × Related scope locals s.what slots

pub related_above : (scope : List (Local ℕ)) (locals : Locals) (n m : ℕ) (slots : Slots) → n ≤ m → Related scope locals n slots → Related scope locals m slots
related_above [] [] n m slots fits related = tt
related_above [] (l ∷ locals) n m slots fits related = absurd related
related_above (s ∷ scope) [] n m slots fits related = absurd related
related_above (s ∷ scope) (l ∷ locals) n m slots fits related = (record { name = related.0.name; type = related.0.type; word = related.0.word; made = omega (arith, related.0.made) }, related.1)

pub related_kept : (scope : List (Local ℕ)) (locals : Locals) (n m : ℕ) (old new : Slots) → n ≤ m → Keeps m old new → Related scope locals n old → Related scope locals n new
related_kept [] [] n m old new fits kept related = tt
related_kept [] (l ∷ locals) n m old new fits kept related = absurd related
related_kept (s ∷ scope) [] n m old new fits kept related = absurd related
related_kept (s ∷ scope) (l ∷ locals) n m old new fits kept related =
    let made : s.what < n = related.0.made in (
      record { name = related.0.name; type = related.0.type; word = related.0.word ∙ sym (kept.words s.what (omega arith)); made = made },
      related_kept scope locals s.what m old new (omega arith) kept related.1,
    )

pub as_many : (scope : List (Local ℕ)) (locals : Locals) (n : ℕ) (slots : Slots) → Related scope locals n slots → length locals ≡ length scope
as_many [] [] n slots related = refl
as_many [] (l ∷ locals) n slots related = absurd related
as_many (s ∷ scope) [] n slots related = absurd related
as_many (s ∷ scope) (l ∷ locals) n slots related = ap suc (as_many scope locals s.what slots related.1)

-- the slots in scope descend, and are below a number
abbrev pub Bounded : List (Local ℕ) → ℕ → Type 0
Bounded [] n = Unit {0}
Bounded (s ∷ scope) n = (s.what < n) × Bounded scope s.what

pub bounded_above : (scope : List (Local ℕ)) (n m : ℕ) → n ≤ m → Bounded scope n → Bounded scope m
bounded_above [] n m fits bounded = tt
bounded_above (s ∷ scope) n m fits bounded = (omega (arith, bounded.0), bounded.1)

-- where the slots in scope are below a number, related locals are so too
pub related_bounded : (scope : List (Local ℕ)) (locals : Locals) (n m : ℕ) (slots : Slots) → Bounded scope n → Related scope locals m slots → Related scope locals n slots
related_bounded [] [] n m slots bounded related = tt
related_bounded [] (l ∷ locals) n m slots bounded related = absurd related
related_bounded (s ∷ scope) [] n m slots bounded related = absurd related
related_bounded (s ∷ scope) (l ∷ locals) n m slots bounded related = (record { name = related.0.name; type = related.0.type; word = related.0.word; made = bounded.0 }, related.1)

-- a local more, whose slot gets its word
pub related_with : (scope : List (Local ℕ)) (locals : Locals) (to n : ℕ) (slots : Slots) (name : List ℕ) (type : Ty) (word : ℤ) → to < n → to < length slots → Related scope locals to slots
    → Related (record { name = name; type = type; what = to } ∷ scope) (record { name = name; type = type; what = word } ∷ locals) n (slice_set slots to word)
related_with scope locals to n slots name type word below there related = (
  record { name = refl; type = refl; word = sym (get_or-set_same slots to word (pos 0) there); made = below },
  related_kept scope locals to to slots (slice_set slots to word) (omega arith) (keeps_set to to slots word (omega arith)) related,
)

-- ---- names and types

abbrev variable : {X : Type 0} → Local X → Variable
variable l = record { name = l.name; type = l.type }

listed : (scope : List (Local ℕ)) (locals : Locals) (n : ℕ) (slots : Slots) → Related scope locals n slots → map variable scope ≡ map variable locals
listed [] [] n slots related = refl
listed [] (l ∷ locals) n slots related = absurd related
listed (s ∷ scope) [] n slots related = absurd related
listed (s ∷ scope) (l ∷ locals) n slots related = λ i. record { name = related.0.name i; type = related.0.type i } ∷ listed scope locals s.what slots related.1 i

-- the names and types in scope are the same
pub same_variables : (scope : List (Local ℕ)) (locals : Locals) (n : ℕ) (slots : Slots) → Related scope locals n slots → variables_of scope ≡ variables_of locals
same_variables scope locals n slots related = ap reverse (listed scope locals n slots related)

-- a local more is a variable more, at the end
pub one_more : {X : Type 0} (l : Local X) (scope : List (Local X)) → variables_of (l ∷ scope) ≡ variables_of scope ++ record { name = l.name; type = l.type } ∷ []
one_more l scope = reverse_onto (map variable scope) (record { name = l.name; type = l.type }) []

-- ---- words

-- the name is that of one of these
abbrev pub IsThere : List (Local ℕ) → List ℕ → Type 0
IsThere scope name = list_any (λ (s : Local ℕ). same s.name name) scope ≡ true

any_mapped : (name : List ℕ) (scope : List (Local ℕ)) → list_any (λ (v : Variable). same v.name name) (map variable scope) ≡ list_any (λ (s : Local ℕ). same s.name name) scope
any_mapped name [] = refl
any_mapped name (s ∷ scope) = ap (λ rest. same s.name name || rest) (any_mapped name scope)

any_reversed : {X : Type 0} (test : X → Bool) (xs : List X) → list_any test (reverse xs) ≡ list_any test xs
any_reversed test [] = refl
any_reversed test (x ∷ xs) =
    ap (list_any test) (reverse_onto xs x []) ∙ list_any-append test (reverse xs) (x ∷ []) ∙ ap (λ b. b || (test x || false)) (any_reversed test xs)
    ∙ or_comm (list_any test xs) (test x || false) ∙ ap (λ b. b || list_any test xs) (or-false (test x))

pub there : (scope : List (Local ℕ)) (name : List ℕ) → is_in_scope (variables_of scope) name ≡ true → IsThere scope name
there scope name among = sym (any_mapped name scope) ∙ sym (any_reversed (λ (v : Variable). same v.name name) (map variable scope)) ∙ among

-- one of two, twice by the same test
by_same : {A B : Type 0} (P : A → B → Type 0) {x y : A} {u v : B} (a b : Bool) → a ≡ b → (a ≡ true → P x u) → (a ≡ false → P y v) → P (cond a x y) (cond b u v)
by_same P true true same holds fails = holds refl
by_same P false false same holds fails = fails refl
by_same P true false same holds fails = absurd (both_ways true same refl)
by_same P false true same holds fails = absurd (both_ways true (sym same) refl)

left_false : (a b : Bool) → a ≡ false → (a || b) ≡ true → b ≡ true
left_false true b no_left either = absurd (both_ways true no_left refl)
left_false false b no_left either = either

-- the slot of a name in scope is one of the first so many
pub slot_below : (scope : List (Local ℕ)) (n : ℕ) (name : List ℕ) → Bounded scope n → IsThere scope name → what_of 0 scope name < n
slot_below [] n name bounded among = absurd (both_ways true (sym among) refl)
slot_below (s ∷ scope) n name bounded among =
    cond_both (same s.name name) s.what (what_of 0 scope name) (λ slot. slot < n) (λ _. bounded.0)
    (λ other. let rest : what_of 0 scope name < s.what = slot_below scope s.what name bounded.1 (left_false (same s.name name) _ other among) in omega (arith, bounded.0))

-- a name in scope stands for the word in its slot
pub word_related : (scope : List (Local ℕ)) (locals : Locals) (n : ℕ) (slots : Slots) (name : List ℕ) → Related scope locals n slots → IsThere scope name
    → (word_of locals name ≡ slot_word slots (what_of 0 scope name)) × (what_of 0 scope name < n)
word_related [] [] n slots name related among = absurd (both_ways true (sym among) refl)
word_related [] (l ∷ locals) n slots name related among = absurd related
word_related (s ∷ scope) [] n slots name related among = absurd related
word_related (s ∷ scope) (l ∷ locals) n slots name related among =
    by_same (λ (word : ℤ) (slot : ℕ). (word ≡ slot_word slots slot) × (slot < n)) (same l.name name) (same s.name name) (ap (λ x. same x name) (sym related.0.name))
    (λ _. (related.0.word, related.0.made))
    (λ other.
    let rest = word_related scope locals s.what slots name related.1 (left_false (same s.name name) _ (ap (λ x. same x name) related.0.name ∙ other) among) in
    (rest.0, omega (arith, rest.1, related.0.made)))

-- the local of a name gets a word where its slot gets it
pub set_related : (scope : List (Local ℕ)) (locals : Locals) (n : ℕ) (slots : Slots) (name : List ℕ) (word : ℤ) → Related scope locals n slots → IsThere scope name → n ≤ length slots
    → Related scope (with_what locals name word) n (slice_set slots (what_of 0 scope name) word)
set_related [] [] n slots name word related among fits = tt
set_related [] (l ∷ locals) n slots name word related among fits = absurd related
set_related (s ∷ scope) [] n slots name word related among fits = absurd related
set_related (s ∷ scope) (l ∷ locals) n slots name word related among fits =
    by_same (λ (next : Locals) (slot : ℕ). Related (s ∷ scope) next n (slice_set slots slot word)) (same l.name name) (same s.name name) (ap (λ x. same x name) (sym related.0.name))
    (λ _. (
      record { name = related.0.name; type = related.0.type; word = sym (get_or-set_same slots s.what word (pos 0) (omega (arith, related.0.made))); made = related.0.made },
      related_kept scope locals s.what s.what slots (slice_set slots s.what word) (omega arith) (keeps_set s.what s.what slots word (omega arith)) related.1,
    ))
    (λ other.
    let rest_among : IsThere scope name = left_false (same s.name name) _ (ap (λ x. same x name) related.0.name ∙ other) among in
    let below : what_of 0 scope name < s.what = (word_related scope locals s.what slots name related.1 rest_among).1 in (
      record { name = related.0.name; type = related.0.type; word = related.0.word ∙ sym (get_or-set_other slots (what_of 0 scope name) s.what word (pos 0) (omega arith)); made = related.0.made },
      set_related scope locals s.what slots name word related.1 rest_among (omega (arith, related.0.made)),
    ))

-- ---- what a block declares ends with it

-- the outer locals stand at the end
pub outer_related : (more scope : List (Local ℕ)) (locals : Locals) (n : ℕ) (slots : Slots) → Related (more ++ scope) locals n slots
    → Related scope (drop (length locals - length scope) locals) n slots
outer_related [] scope locals n slots related =
    let none : length locals - length scope ≡ 0 = omega (arith, as_many scope locals n slots related) in
    subst (λ k. Related scope (drop k locals) n slots) (sym none) related
outer_related (s ∷ more) scope [] n slots related = absurd related
outer_related (s ∷ more) scope (l ∷ locals) n slots related =
    let size : length locals ≡ length more + length scope = as_many (more ++ scope) locals s.what slots related.1 ∙ length-append more scope in
    let one : suc (length locals) - length scope ≡ suc (length locals - length scope) = omega arith in
    subst (λ k. Related scope (drop k (l ∷ locals)) n slots) (sym one)
    (related_above scope (drop (length locals - length scope) locals) s.what n slots (omega (arith, related.0.made)) (outer_related more scope locals s.what slots related.1))
