-- What a flattened expression comes to, and its value as an atom or as it is.
use Rattle.std.proofs.Common.{◌≡◌, ℕ, ◌+◌, ◌≤◌, ℤ, Bool, true, false, List, [], ◌∷◌, ◌++◌, length, slice_set, Option, None, refl, sym, ap, ◌∙◌, arith, append-nil, append_assoc, length-append}
use Rattle.std.proofs.lemmas.Bool.{cond_both}
use Rattle.lq_tree.specs.Locals.{Local}
use Rattle.lq_tree.specs.declared.place.Place.{Place}
use Rattle.lq_tree.specs.declared.expr.CType.{CType}
use Rattle.lq_tree.specs.declared.plain.PExpr.{PExpr, Slot as InSlot}
use Rattle.lq_tree.specs.declared.plain.PKind.{PKind, Set, Calloc, Call}
use Rattle.lq_tree.specs.declared.plain.PStmt.{PStmt}
use Rattle.lq_tree.specs.Types.{Ty, Number}
use Rattle.lq_tree.specs.Layout.{fields_of}
use Rattle.lq_meaning.specs.declared.action.Action.TheVariants.{Allocate}
use Rattle.lq_meaning.specs.Ending.{Unruled}
use Rattle.lq_meaning.specs.Control.{Came, Gives, Stops, Run, stop, go_on, ◌⨾◌, due, load as load_word, done_with}
use Rattle.lq_meaning.specs.Meaning.{Context as Source, Locals, Found, names, value as found_value, value_of, target as target_at}
use Rattle.lq_meaning.specs.PlainMeaning.{Slots, Context, word_of, eval, eval_list, exec}
use Rattle.lq_meaning.proofs.Sequence.{then-assoc}
use Rattle.lq_plain.specs.Flat.{Made, statement, then_stands, with_slot, slot_type, Valued, Flat, Is, Names, Gets, is_atom, in_new_slot, load, atom, flat, operand}
use Rattle.lq_plain.specs.Plain.{plain_program}
use Rattle.lq_plain.proofs.Runs.{Comes, comes_on, comes_then, comes_from, comes_to, comes_still, comes_set}
use Rattle.lq_plain.proofs.KeptValues.{Closed, closed-slot, word_computed}

-- ---- what is made stands behind what was there

pub record IsAfter (m last : Made) (new : List PStmt) : Type 0 where
  pub stands : last.front ≡ m.front ++ new
  pub grows : length m.slots ≤ length last.slots

pub after_none : (m : Made) → IsAfter m m []
after_none m = record { stands = sym (append-nil m.front); grows = omega arith }

pub after_on : {m k l : Made} {new next : List PStmt} → IsAfter m k new → IsAfter k l next → IsAfter m l (new ++ next)
after_on {m} {k} {l} {new} {next} first second =
    record { stands = second.stands ∙ ap (λ (front : List PStmt). front ++ next) first.stands ∙ append_assoc m.front new next; grows = omega (arith, first.grows, second.grows) }

pub after_stands : (at : Place) (kind : PKind) (m : Made) → IsAfter m (then_stands at kind m) (statement at kind ∷ [])
after_stands at kind m = record { stands = refl; grows = omega arith }

pub one_slot : (name : Option (List ℕ)) (type : CType) (m : Made) → length (with_slot name type m).slots ≡ length m.slots + 1
one_slot name type m = length-append m.slots (record { name = name; ctype = type } ∷ [])

pub after_slot : (name : Option (List ℕ)) (type : CType) (m : Made) → IsAfter m (with_slot name type m) []
after_slot name type m = record { stands = sym (append-nil m.front); grows = omega (arith, one_slot name type m) }

-- what was made up to a flattened expression
abbrev pub made_of : Flat → Made
made_of (Is v) = v.made
made_of (Names base index field) = made_of index
made_of (Gets kind m) = m

-- an operand as it is has no statements where the expression is pure; any other is an atom
abbrev pub Still : (asked pure : Bool) → List PStmt → PExpr → Type 0
Still true pure new e = pure ≡ true → new ≡ []
Still false pure new e = is_atom e ≡ true

-- a pure expression is a value without statements
abbrev pub Idle : Flat → List PStmt → Type 0
Idle (Is v) new = new ≡ []
Idle (Names base index field) new = ⊥
Idle (Gets kind m) new = ⊥

-- the plain context beside a source's, by what its calls come to
abbrev pub beside : Source → (Place → ℕ → List ℤ → Run ℤ) → Context
beside c call = record { program = plain_program c.program; fuel = c.fuel; call = call }

found_back : (c : Source) (at : Place) (a : Came ℤ) → go_on (go_on a found_value) (value_of c at) ≡ a
found_back c at (Gives x w) = refl
found_back c at (Stops ending w) = refl

-- a word that is found as a value
pub value_found : (c : Source) (at : Place) (run : Run ℤ) → (run ⨾ found_value ⨾ value_of c at) ≡ run
value_found c at run = λ i w. found_back c at (run w) i

module _ (c : Source) (call : Place → ℕ → List ℤ → Run ℤ) (at : Place) where
  -- the word that a statement gets for its slot
  abbrev pub word_by : PKind → Slots → Run ℤ
  word_by (Call to function args) slots = eval_list at slots args ⨾ call at function
  word_by (Calloc to count type) slots = eval at slots count ⨾ λ n. due c.fuel at (Allocate n (fields_of c.program.structs type))
  word_by kind slots = stop Unruled

  -- what a flattened expression comes to behind its statements
  abbrev pub read : Flat → Slots → Run Found
  read (Is v) slots = eval at slots v.value ⨾ found_value
  read (Names base index field) slots = read index slots ⨾ value_of c at ⨾ λ i. names (word_of slots base) i field
  read (Gets kind m) slots = word_by (kind 0) slots ⨾ found_value

  -- it looks at the slots made so far alone
  abbrev pub IsClosed : Flat → Type 0
  IsClosed (Is v) = Closed (length v.made.slots) v.value
  IsClosed (Names base index field) = Closed (length (made_of index).slots) (InSlot base) × IsClosed index
  IsClosed (Gets kind m) = (to : ℕ) (slots : Slots) → exec (beside c call) at (kind to) slots ≡ (word_by (kind 0) slots ⨾ λ word. done_with (slice_set slots to word))

  module _ (scope : List (Local ℕ)) where
    -- statements behind what was made lead from a part of a run to a value
    pub record Evaluated (asked pure : Bool) (m : Made) (first : Locals → Slots → Run ℤ) (v : Valued) : Type 0 where
      pub new : List PStmt
      pub after : IsAfter m v.made new
      pub comes : Comes (beside c call) scope (length m.slots) (length v.made.slots) new first (λ l s. eval at s v.value)
      pub closed : Closed (length v.made.slots) v.value
      pub still : Still asked pure new v.value

    -- statements behind what was made lead from a part of a run to what an expression comes to
    pub record Flattened (pure : Bool) (m : Made) (run : Locals → Run Found) (found : Flat) : Type 0 where
      pub new : List PStmt
      pub after : IsAfter m (made_of found) new
      pub comes : Comes (beside c call) scope (length m.slots) (length (made_of found).slots) new (λ l s. run l) (λ l s. read found s)
      pub closed : IsClosed found
      pub idle : pure ≡ true → Idle found new

    -- a new slot gets a word
    new_slot : (pure : Bool) (type : Ty) (kind : ℕ → PKind) (m : Made) (act : Slots → Run ℤ)
        → ((slots : Slots) → exec (beside c call) at (kind (length m.slots)) slots ≡ (act slots ⨾ λ word. done_with (slice_set slots (length m.slots) word)))
        → Evaluated false pure m (λ l s. act s) (in_new_slot at type kind m)
    new_slot pure type kind m act does =
        let longer = one_slot None (slot_type type) m in
        record {
          new = statement at (kind (length m.slots)) ∷ [];
          after = record { stands = refl; grows = omega (arith, longer) };
          comes = comes_set (beside c call) scope at (kind (length m.slots)) (length m.slots) (length m.slots) (length (with_slot None (slot_type type) m).slots) act (omega arith) (omega (arith, longer)) does;
          closed = closed-slot (length (with_slot None (slot_type type) m).slots) (length m.slots) (omega (arith, longer));
          still = refl;
        }

    evaluated_on : {new : List PStmt} {pure : Bool} {m k : Made} {first mid : Locals → Slots → Run ℤ} {v : Valued} → IsAfter m k new → Comes (beside c call) scope (length m.slots) (length k.slots) new first mid
        → Evaluated false pure k mid v → Evaluated false pure m first v
    evaluated_on {new} {pure} {m} {k} {first} {mid} {v} after comes next =
        record {
          new = new ++ next.new;
          after = after_on after next.after;
          comes = comes_on (beside c call) scope (length m.slots) (length k.slots) (length k.slots) (length v.made.slots) after.grows next.after.grows comes next.comes;
          closed = next.closed;
          still = next.still;
        }

    -- what an expression comes to, as an atom
    pub atom_taken : (pure : Bool) (type : Ty) (found : Flat) → IsClosed found → Evaluated false pure (made_of found) (λ l s. read found s ⨾ value_of c at) (atom at type found)
    atom_taken pure type (Is v) closed =
        cond_both (is_atom v.value) v (in_new_slot at type (λ to. Set to v.value) v.made) (λ u. Evaluated false pure v.made (λ l s. eval at s v.value ⨾ found_value ⨾ value_of c at) u)
        (λ atomic. record {
          new = [];
          after = after_none v.made;
          comes = comes_still (beside c call) scope (length v.made.slots) (length v.made.slots) (λ l s related long. value_found c at (eval at s v.value));
          closed = closed;
          still = atomic;
        })
        (λ _. evaluated_on (after_none v.made) (comes_still (beside c call) scope (length v.made.slots) (length v.made.slots) (λ l s related long. value_found c at (eval at s v.value)))
        (new_slot pure type (λ to. Set to v.value) v.made (λ s. eval at s v.value) (λ s. refl)))
    atom_taken pure type (Names base index field) closed =
        let i = atom_taken pure Number index closed.1 in
        let v = atom at Number index in
        evaluated_on i.after
        (comes_from (beside c call) scope (length (made_of index).slots) (length v.made.slots)
        (λ l s related. then-assoc (read index s ⨾ value_of c at) (λ x. names (word_of s base) x field) (value_of c at))
        (comes_then (beside c call) scope (length (made_of index).slots) (length v.made.slots) (λ l s x. load_word c.fuel at (target_at (word_of s base) x field))
        (λ l s later kept x. ap (λ pointer. load_word c.fuel at (target_at pointer x field)) (sym (ap word_computed (closed.0 s later kept)))) i.comes))
        (new_slot pure type (load base v field) v.made (λ s. eval at s v.value ⨾ λ x. load_word c.fuel at (target_at (word_of s base) x field))
        (λ s. sym (then-assoc (eval at s v.value) (λ x. load_word c.fuel at (target_at (word_of s base) x field)) (λ word. done_with (slice_set s (length v.made.slots) word)))))
    atom_taken pure type (Gets kind m) closed =
        evaluated_on (after_none m) (comes_still (beside c call) scope (length m.slots) (length m.slots) (λ l s related long. value_found c at (word_by (kind 0) s)))
        (new_slot pure type kind m (word_by (kind 0)) (closed (length m.slots)))

    -- an atom that isn't pure, as it is
    pub as_it_is : {pure : Bool} {m : Made} {first : Locals → Slots → Run ℤ} {v : Valued} → (pure ≡ true → ⊥) → Evaluated false pure m first v → Evaluated true pure m first v
    as_it_is impure taken = record { new = taken.new; after = taken.after; comes = taken.comes; closed = taken.closed; still = λ e. absurd (impure e) }

    module _ {pure : Bool} {m : Made} {run : Locals → Run Found} where
      -- the value behind the statements
      value_comes : {found : Flat} (flat : Flattened pure m run found) → Comes (beside c call) scope (length m.slots) (length (made_of found).slots) flat.new (λ l s. run l ⨾ value_of c at) (λ l s. read found s ⨾ value_of c at)
      value_comes {found} flat = comes_then (beside c call) scope (length m.slots) (length (made_of found).slots) (λ l s. value_of c at) (λ l s later kept x. refl) flat.comes

      pub atom_evaluated : {found : Flat} (type : Ty) → Flattened pure m run found → Evaluated false pure m (λ l s. run l ⨾ value_of c at) (atom at type found)
      atom_evaluated {found} type flat = evaluated_on flat.after (value_comes flat) (atom_taken pure type found flat.closed)

      pub flat_evaluated : (type : Ty) (found : Flat) → Flattened pure m run found → Evaluated true pure m (λ l s. run l ⨾ value_of c at) (flat at type found)
      flat_evaluated type (Is v) flat = record {
        new = flat.new;
        after = flat.after;
        comes = comes_to (beside c call) scope (length m.slots) (length v.made.slots) (λ l s. value_found c at (eval at s v.value)) (value_comes flat);
        closed = flat.closed;
        still = flat.idle;
      }
      flat_evaluated type (Names base index field) flat = as_it_is flat.idle (atom_evaluated type flat)
      flat_evaluated type (Gets kind m) flat = as_it_is flat.idle (atom_evaluated type flat)

      pub operand_evaluated : (asked : Bool) (type : Ty) (found : Flat) → Flattened pure m run found → Evaluated asked pure m (λ l s. run l ⨾ value_of c at) (operand asked at type found)
      operand_evaluated true type found flat = flat_evaluated type found flat
      operand_evaluated false type found flat = atom_evaluated type flat
