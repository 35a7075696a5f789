-- What each form of expression is flattened to comes to what the source comes to, by its parts.
use Rattle.std.proofs.Common.{◌≡◌, ℕ, zero, suc, ℤ, pos, negsuc, Bool, true, false, not, ◌&&◌, List, [], ◌∷◌, ◌++◌, length, slice_set, None, Some, refl, sym, ap, ap₂, ◌∙◌, subst, arith, true≢false, get_or-set_same}
use Rattle.lq_tree.specs.Locals.{Local}
use Rattle.lq_tree.specs.declared.place.Place.{Place}
use Rattle.lq_tree.specs.declared.expr.CType.{CType}
use Rattle.lq_tree.specs.declared.expr.BinOp.{BinOp}
use Rattle.lq_tree.specs.declared.expr.BinOp.TheVariants.{And, Or}
use Rattle.lq_tree.specs.declared.plain.PExpr.{PExpr, Num, Slot as InSlot, Neg, Not}
use Rattle.lq_tree.specs.declared.plain.PKind.{PKind, Set, If, Call, Calloc}
use Rattle.lq_tree.specs.declared.plain.PStmt.{PStmt}
use Rattle.lq_tree.specs.Types.{Ty, is_pointer}
use Rattle.lq_tree.specs.Layout.{fields_of}
use Rattle.lq_meaning.specs.declared.action.Action.TheVariants.{Allocate}
use Rattle.lq_meaning.specs.World.{World}
use Rattle.lq_meaning.specs.Operators.{Computed, Computes, Fails, negation, truth, truth_of, is_zero, binary}
use Rattle.lq_meaning.specs.Control.{Run, give, ◌⨾◌, computed, due, by_truth, Flow, done_with}
use Rattle.lq_meaning.specs.Meaning.{Context as Source, Locals, Found, names, value as found_value, value_of, operated, dotted as found_dotted}
use Rattle.lq_meaning.specs.PlainMeaning.{Slots, word_of, value, eval, eval_list, exec_all}
use Rattle.lq_meaning.proofs.Sequence.{then-assoc}
use Rattle.lq_plain.specs.Flat.{Made, statement, then_stands, with_slot, int_type, Valued, valued, Flat, Is, Names, Gets, is_atom, operator, slot_in, is_true, if_needed, at_first, stopping, stops_early, dotted, Values, before}
use Rattle.lq_plain.proofs.Related.{keeps_set, Related, related_above}
use Rattle.lq_plain.proofs.Runs.{Leads, Comes, comes_on, comes_then, comes_fewer, comes_from, comes_to, comes_still, comes_none, comes_set, exec_all-one}
use Rattle.lq_plain.proofs.KeptValues.{Closed, AreZeros, atom_word, atom-value, atom_word-closed, closed_more, closed-slot, closed-neg, closed-not, closed-operator, value-neg, value-not, operator-value, in_order-value, is_true-value, computed-then}
use Rattle.lq_plain.proofs.Lists.{exec-if}
use Rattle.lq_plain.proofs.Taken.{IsAfter, after_none, after_on, one_slot, made_of, Still, beside, read, Evaluated, Flattened}

pub still_none : (asked pure : Bool) (new : List PStmt) (e : PExpr) → asked ≡ true → pure ≡ true → Still asked pure new e → new ≡ []
still_none true pure new e as_is is_pure still = still is_pure
still_none false pure new e as_is is_pure still = absurd (true≢false (sym as_is))

-- a word that is known
pub eval_known : {X : Type 0} (at : Place) (a : Computed) (x : ℤ) (next : ℤ → Run X) → a ≡ Computes x → (computed at a ⨾ next) ≡ next x
eval_known at a x next is = ap (λ c. computed at c ⨾ next) is

-- where nothing stops early, the operands are taken in order
in_order : (at : Place) (pointer : Bool) (op : BinOp) (left right : Run ℤ) → stops_early op ≡ false → operated at pointer op left right ≡ (left ⨾ λ x. right ⨾ λ y. computed at (binary pointer op x y))
in_order at pointer And left right late = absurd (true≢false late)
in_order at pointer Or left right late = absurd (true≢false late)
in_order at pointer op left right late = refl

-- what stops early asks for the right side by the word of the left one
abbrev choose : BinOp → ℤ → (asked first : Run ℤ) → Run ℤ
choose Or x asked first = by_truth x first asked
choose op x asked first = by_truth x asked first

chosen : (at : Place) (pointer : Bool) (op : BinOp) (left right : Run ℤ) → stops_early op ≡ true → operated at pointer op left right ≡ (left ⨾ λ x. choose op x (right ⨾ λ y. give (truth_of y)) (give (at_first op)))
chosen at pointer And left right early = refl
chosen at pointer Or left right early = refl
chosen at pointer op left right early = absurd (true≢false (sym early))

-- what is flattened to the name of an element
abbrev pub IsNames : Flat → Type 0
IsNames (Is v) = ⊥
IsNames (Names base index field) = Unit {0}
IsNames (Gets kind m) = ⊥

pub dotted_names : (field : ℕ) (found : Flat) → IsNames found → IsNames (dotted field found)
dotted_names field (Is v) named = absurd named
dotted_names field (Names base index none) named = tt
dotted_names field (Gets kind m) named = absurd named

module _ (c : Source) (call : Place → ℕ → List ℤ → Run ℤ) (at : Place) (scope : List (Local ℕ)) where
  -- a value without statements
  pub value_flat : (pure : Bool) (m : Made) (e : PExpr) (run : Locals → Run Found) → Closed (length m.slots) e
      → ((l : Locals) (s : Slots) → Related scope l (length m.slots) s → run l ≡ (eval at s e ⨾ found_value)) → Flattened c call at scope pure m run (Is (valued e m))
  value_flat pure m e run closed same = record {
    new = [];
    after = after_none m;
    comes = comes_still (beside c call) scope (length m.slots) (length m.slots) (λ l s related long. same l s related);
    closed = closed;
    idle = λ _. refl;
  }

  -- a value made of one value
  pub unary_flat : (asked pure : Bool) (m : Made) (run : Locals → Run ℤ) (v : Valued) (e : PExpr) (next : ℤ → Run ℤ) → (pure ≡ true → asked ≡ true)
      → ((s : Slots) → (eval at s v.value ⨾ next) ≡ eval at s e) → Closed (length v.made.slots) e
      → Evaluated c call at scope asked pure m (λ l s. run l) v → Flattened c call at scope pure m (λ l. run l ⨾ λ x. next x ⨾ found_value) (Is (valued e v.made))
  unary_flat asked pure m run v e next as_is same closed taken = record {
    new = taken.new;
    after = taken.after;
    comes = comes_to (beside c call) scope (length m.slots) (length v.made.slots) (λ l s. sym (then-assoc (eval at s v.value) next found_value) ∙ ap (λ (r : Run ℤ). r ⨾ found_value) (same s))
        (comes_then (beside c call) scope (length m.slots) (length v.made.slots) (λ l s x. next x ⨾ found_value) (λ l s later kept x. refl) taken.comes);
    closed = closed;
    idle = λ is_pure. still_none asked pure taken.new v.value (as_is is_pure) is_pure taken.still;
  }

  pub neg_flat : (asked pure : Bool) (m : Made) (run : Locals → Run ℤ) (v : Valued) → (pure ≡ true → asked ≡ true) → Evaluated c call at scope asked pure m (λ l s. run l) v
      → Flattened c call at scope pure m (λ l. run l ⨾ λ x. computed at (negation x) ⨾ found_value) (Is (valued (Neg v.value) v.made))
  neg_flat asked pure m run v as_is taken =
      unary_flat asked pure m run v (Neg v.value) (λ x. computed at (negation x)) as_is (λ s. sym (ap (computed at) (value-neg s v.value) ∙ computed-then at (value s v.value) negation))
      (closed-neg (length v.made.slots) v.value taken.closed) taken

  pub not_flat : (asked pure : Bool) (m : Made) (run : Locals → Run ℤ) (v : Valued) → (pure ≡ true → asked ≡ true) → Evaluated c call at scope asked pure m (λ l s. run l) v
      → Flattened c call at scope pure m (λ l. run l ⨾ λ x. found_value (truth (is_zero x))) (Is (valued (Not v.value) v.made))
  not_flat asked pure m run v as_is taken =
      unary_flat asked pure m run v (Not v.value) (λ x. give (truth (is_zero x))) as_is (λ s. sym (ap (computed at) (value-not s v.value) ∙ computed-then at (value s v.value) (λ x. Computes (truth (is_zero x)))))
      (closed-not (length v.made.slots) v.value taken.closed) taken

  -- a part behind an atom: its statements stand behind those of the atom, whose word stays
  module _ {X Y : Type 0} {pure : Bool} {m k : Made} {new : List PStmt} {run : Locals → Run ℤ} {v : Valued} {part : Locals → Run X} {last : Slots → Run X} where
    pub part_behind : (next : ℤ → X → Run Y) (taken : Evaluated c call at scope false pure m (λ l s. run l) v) → IsAfter v.made k new
        → Comes (beside c call) scope (length v.made.slots) (length k.slots) new (λ l s. part l) (λ l s. last s)
        → Comes (beside c call) scope (length m.slots) (length k.slots) (taken.new ++ new) (λ l s. run l ⨾ λ x. part l ⨾ next x) (λ l s. eval at s v.value ⨾ λ x. last s ⨾ next x)
    part_behind next taken after comes =
        let d = beside c call in
        let known : (s : Slots) → value s v.value ≡ Computes (atom_word v.value s) = atom-value v.value taken.still in
        comes_on d scope (length m.slots) (length v.made.slots) (length v.made.slots) (length k.slots) taken.after.grows after.grows
        (comes_then d scope (length m.slots) (length v.made.slots) (λ l s x. part l ⨾ next x) (λ l s later kept x. refl) taken.comes)
        (comes_from d scope (length v.made.slots) (length k.slots) (λ l s related. eval_known at (value s v.value) (atom_word v.value s) (λ x. part l ⨾ next x) (known s))
        (comes_to d scope (length v.made.slots) (length k.slots) (λ l s. sym (eval_known at (value s v.value) (atom_word v.value s) (λ x. last s ⨾ next x) (known s)))
        (comes_then d scope (length v.made.slots) (length k.slots) (λ l s. next (atom_word v.value s))
        (λ l s later kept x. ap (λ word. next word x) (atom_word-closed (length v.made.slots) v.value taken.still taken.closed s later kept)) comes)))

  -- two operands without statements
  pub both_still : {pure : Bool} {m : Made} {run other : Locals → Run ℤ} {v u : Valued} (whole : Locals → Slots → (left right : Run ℤ) → Run ℤ) (first : Evaluated c call at scope true pure m (λ l s. run l) v)
      (second : Evaluated c call at scope true pure v.made (λ l s. other l) u) → pure ≡ true
      → Comes (beside c call) scope (length m.slots) (length u.made.slots) (first.new ++ second.new) (λ l s. whole l s (run l) (other l)) (λ l s. whole l s (eval at s v.value) (eval at s u.value))
  both_still {pure} {m} {run} {other} {v} {u} whole first second is_pure =
      let d = beside c call in
      let none : first.new ++ second.new ≡ [] = ap₂ (λ (xs ys : List PStmt). xs ++ ys) (first.still is_pure) (second.still is_pure) in
      subst (λ (new : List PStmt). Comes d scope (length m.slots) (length u.made.slots) new (λ l s. whole l s (run l) (other l)) (λ l s. whole l s (eval at s v.value) (eval at s u.value))) (sym none)
      (comes_still d scope (length m.slots) (length u.made.slots) (λ l s related long.
      ap₂ (whole l s)
      (comes_none d scope (length m.slots) (length v.made.slots) (first.still is_pure) first.comes l s related (omega (arith, second.after.grows)))
      (comes_none d scope (length v.made.slots) (length u.made.slots) (second.still is_pure) second.comes l s (related_above scope l (length m.slots) (length v.made.slots) s first.after.grows related) long)))

  module _ (left right : Ty) (op : BinOp) (m : Made) (run other : Locals → Run ℤ) (v u : Valued)
      (zeros : (s : Slots) → AreZeros (is_pointer left) (is_pointer right) op (value s v.value) (value s u.value)) where
    in_value : (s : Slots) → operated at (is_pointer left) op (eval at s v.value) (eval at s u.value) ≡ eval at s (operator left right op v.value u.value)
    in_value s = in_order-value at (is_pointer left) (is_pointer right) op (value s v.value) (value s u.value) (zeros s) ∙ ap (computed at) (sym (operator-value s left right op v.value u.value))

    operands_come : (asked : Bool) → (not asked && stops_early op) ≡ false → (first : Evaluated c call at scope asked asked m (λ l s. run l) v) (second : Evaluated c call at scope asked asked v.made (λ l s. other l) u)
        → Comes (beside c call) scope (length m.slots) (length u.made.slots) (first.new ++ second.new) (λ l s. operated at (is_pointer left) op (run l) (other l)) (λ l s. eval at s (operator left right op v.value u.value))
    operands_come true late first second =
        comes_to (beside c call) scope (length m.slots) (length u.made.slots) (λ l s. in_value s) (both_still (λ l s. operated at (is_pointer left) op) first second refl)
    operands_come false late first second =
        let d = beside c call in
        comes_from d scope (length m.slots) (length u.made.slots) (λ l s related. in_order at (is_pointer left) op (run l) (other l) late)
        (comes_to d scope (length m.slots) (length u.made.slots) (λ l s. sym (in_order at (is_pointer left) op (eval at s v.value) (eval at s u.value) late) ∙ in_value s)
        (part_behind (λ x y. computed at (binary (is_pointer left) op x y)) first second.after second.comes))

    -- an operator over its operands
    pub binary_flat : (asked : Bool) → (not asked && stops_early op) ≡ false → Evaluated c call at scope asked asked m (λ l s. run l) v → Evaluated c call at scope asked asked v.made (λ l s. other l) u
        → Flattened c call at scope asked m (λ l. operated at (is_pointer left) op (run l) (other l) ⨾ found_value) (Is (valued (operator left right op v.value u.value) u.made))
    binary_flat asked late first second = record {
      new = first.new ++ second.new;
      after = after_on first.after second.after;
      comes = comes_then (beside c call) scope (length m.slots) (length u.made.slots) (λ l s. found_value) (λ l s later kept x. refl) (operands_come asked late first second);
      closed = closed-operator (length u.made.slots) left right op v.value u.value (closed_more (length v.made.slots) (length u.made.slots) v.value second.after.grows first.closed) second.closed;
      idle = λ is_pure. ap₂ (λ (xs ys : List PStmt). xs ++ ys) (still_none asked asked first.new v.value is_pure is_pure first.still) (still_none asked asked second.new u.value is_pure is_pure second.still);
    }

  -- ---- what names an element, and calls and callocs

  -- the run, said otherwise
  pub flattened_from : {pure : Bool} {m : Made} {run other : Locals → Run Found} {found : Flat} → ((l : Locals) (s : Slots) → Related scope l (length m.slots) s → other l ≡ run l)
      → Flattened c call at scope pure m run found → Flattened c call at scope pure m other found
  flattened_from {pure} {m} {run} {other} {found} same flat =
      record { new = flat.new; after = flat.after; comes = comes_from (beside c call) scope (length m.slots) (length (made_of found).slots) same flat.comes; closed = flat.closed; idle = flat.idle }

  -- where less is asked
  pub flattened_less : {pure less : Bool} {m : Made} {run : Locals → Run Found} {found : Flat} → (less ≡ true → pure ≡ true) → Flattened c call at scope pure m run found → Flattened c call at scope less m run found
  flattened_less fewer flat = record { new = flat.new; after = flat.after; comes = flat.comes; closed = flat.closed; idle = λ is_less. flat.idle (fewer is_less) }

  -- an element and a field, by the slot of the base
  pub names_flat : (pure pb pi : Bool) (m : Made) (run : Locals → Run ℤ) (find : Locals → Run Found) (v : Valued) (found : Flat) (field : ℕ) → (pure ≡ true → ⊥) → v.value ≡ InSlot (slot_in v.value)
      → Evaluated c call at scope false pb m (λ l s. run l) v → Flattened c call at scope pi v.made find found
      → Flattened c call at scope pure m (λ l. run l ⨾ λ pointer. find l ⨾ value_of c at ⨾ λ i. names pointer i field) (Names (slot_in v.value) found field)
  names_flat pure pb pi m run find v found field impure slot base index =
      let d = beside c call in
      record {
        new = base.new ++ index.new;
        after = after_on base.after index.after;
        comes = comes_to d scope (length m.slots) (length (made_of found).slots)
            (λ l s. eval_known at (value s v.value) (word_of s (slot_in v.value)) (λ x. read c call at found s ⨾ value_of c at ⨾ λ i. names x i field) (ap (value s) slot))
            (part_behind (λ x i. names x i field) base index.after
            (comes_then d scope (length v.made.slots) (length (made_of found).slots) (λ l s. value_of c at) (λ l s later kept x. refl) index.comes));
        closed = (closed_more (length v.made.slots) (length (made_of found).slots) (InSlot (slot_in v.value)) index.after.grows (subst (Closed (length v.made.slots)) slot base.closed), index.closed);
        idle = λ is_pure. absurd (impure is_pure);
      }

  -- a field of an element
  pub dotted_flat : (pure less : Bool) (m : Made) (find : Locals → Run Found) (field : ℕ) (found : Flat) → (less ≡ true → ⊥) → IsNames found → Flattened c call at scope pure m find found
      → Flattened c call at scope less m (λ l. find l ⨾ found_dotted field) (dotted field found)
  dotted_flat pure less m find field (Is v) impure named flat = absurd named
  dotted_flat pure less m find field (Gets kind k) impure named flat = absurd named
  dotted_flat pure less m find field (Names base index none) impure named flat =
      let d = beside c call in
      record {
        new = flat.new;
        after = flat.after;
        comes = comes_to d scope (length m.slots) (length (made_of index).slots)
            (λ l s. then-assoc (read c call at index s ⨾ value_of c at) (λ i. names (word_of s base) i none) (found_dotted field))
            (comes_then d scope (length m.slots) (length (made_of index).slots) (λ l s. found_dotted field) (λ l s later kept x. refl) flat.comes);
        closed = flat.closed;
        idle = λ is_less. absurd (impure is_less);
      }

  -- a calloc
  pub calloc_flat : (pure pn : Bool) (m : Made) (run : Locals → Run ℤ) (v : Valued) (type : CType) → (pure ≡ true → ⊥) → Evaluated c call at scope false pn m (λ l s. run l) v
      → Flattened c call at scope pure m (λ l. run l ⨾ λ n. due c.fuel at (Allocate n (fields_of c.program.structs type)) ⨾ found_value) (Gets (λ slot. Calloc slot v.value type) v.made)
  calloc_flat pure pn m run v type impure count =
      let d = beside c call in
      let get : ℤ → Run ℤ = λ n. due c.fuel at (Allocate n (fields_of c.program.structs type)) in
      record {
        new = count.new;
        after = count.after;
        comes = comes_to d scope (length m.slots) (length v.made.slots) (λ l s. sym (then-assoc (eval at s v.value) get found_value))
            (comes_then d scope (length m.slots) (length v.made.slots) (λ l s n. get n ⨾ found_value) (λ l s later kept x. refl) count.comes);
        closed = λ to s. sym (then-assoc (eval at s v.value) get (λ word. done_with (slice_set s to word)));
        idle = λ is_pure. absurd (impure is_pure);
      }

  -- arguments are atoms, as many as there are
  abbrev pub AreAtoms : List PExpr → Type 0
  AreAtoms [] = Unit {0}
  AreAtoms (e ∷ es) = (is_atom e ≡ true) × AreAtoms es

  pub record Given (count : ℕ) (m : Made) (run : Locals → Run (List ℤ)) (given : Values) : Type 0 where
    pub new : List PStmt
    pub after : IsAfter m given.made new
    pub comes : Comes (beside c call) scope (length m.slots) (length given.made.slots) new (λ l s. run l) (λ l s. eval_list at s given.values)
    pub atoms : AreAtoms given.values
    pub many : length given.values ≡ count

  pub given_none : (m : Made) → Given 0 m (λ l. give []) (record { values = []; made = m })
  given_none m = record {
    new = [];
    after = after_none m;
    comes = comes_still (beside c call) scope (length m.slots) (length m.slots) (λ l s related long. refl);
    atoms = tt;
    many = refl;
  }

  pub given_more : (count : ℕ) (pure : Bool) (m : Made) (run : Locals → Run ℤ) (others : Locals → Run (List ℤ)) (v : Valued) (rest : Values) → Evaluated c call at scope false pure m (λ l s. run l) v
      → Given count v.made others rest → Given (suc count) m (λ l. run l ⨾ λ word. others l ⨾ λ words. give (word ∷ words)) (before v rest)
  given_more count pure m run others v rest first later = record {
    new = first.new ++ later.new;
    after = after_on first.after later.after;
    comes = part_behind (λ word words. give (word ∷ words)) first later.after later.comes;
    atoms = (first.still, later.atoms);
    many = ap suc later.many;
  }

  words_at : Slots → List PExpr → List ℤ
  words_at s [] = []
  words_at s (e ∷ es) = atom_word e s ∷ words_at s es

  as_many_words : (s : Slots) (es : List PExpr) → length (words_at s es) ≡ length es
  unfolding words_at
  as_many_words s [] = refl
  as_many_words s (e ∷ es) = ap suc (as_many_words s es)

  eval_list-atoms : (s : Slots) (es : List PExpr) → AreAtoms es → eval_list at s es ≡ give (words_at s es)
  unfolding words_at
  eval_list-atoms s [] atoms = refl
  eval_list-atoms s (e ∷ es) atoms =
      eval_known at (value s e) (atom_word e s) (λ word. eval_list at s es ⨾ λ words. give (word ∷ words)) (atom-value e atoms.0 s)
      ∙ ap (λ (run : Run (List ℤ)). run ⨾ λ words. give (atom_word e s ∷ words)) (eval_list-atoms s es atoms.1)

  -- on so many arguments the two calls are the same
  pub called_alike : (count : ℕ) (name : List ℕ) (number : ℕ) (values : List PExpr) → AreAtoms values → length values ≡ count
      → ((words : List ℤ) → length words ≡ count → c.call at name words ≡ call at number words) → (s : Slots) → (eval_list at s values ⨾ c.call at name) ≡ (eval_list at s values ⨾ call at number)
  called_alike count name number values atoms many alike s =
      ap (λ (run : Run (List ℤ)). run ⨾ c.call at name) (eval_list-atoms s values atoms) ∙ alike (words_at s values) (as_many_words s values ∙ many)
      ∙ sym (ap (λ (run : Run (List ℤ)). run ⨾ call at number) (eval_list-atoms s values atoms))

  -- a call
  pub call_flat : (pure : Bool) (count : ℕ) (m : Made) (run : Locals → Run (List ℤ)) (given : Values) (name : List ℕ) (number : ℕ) → (pure ≡ true → ⊥)
      → ((words : List ℤ) → length words ≡ count → c.call at name words ≡ call at number words) → Given count m run given
      → Flattened c call at scope pure m (λ l. run l ⨾ c.call at name ⨾ found_value) (Gets (λ slot. Call (Some slot) number given.values) given.made)
  call_flat pure count m run given name number impure alike args =
      let d = beside c call in
      record {
        new = args.new;
        after = args.after;
        comes = comes_then d scope (length m.slots) (length given.made.slots) (λ l s. found_value) (λ l s later kept x. refl)
            (comes_to d scope (length m.slots) (length given.made.slots) (λ l s. called_alike count name number given.values args.atoms args.many alike s)
            (comes_then d scope (length m.slots) (length given.made.slots) (λ l s. c.call at name) (λ l s later kept x. refl) args.comes));
        closed = λ to s. refl;
        idle = λ is_pure. absurd (impure is_pure);
      }

  -- ---- what stops early

  leads_by : {X : Type 0} (n : ℕ) (slots : Slots) (last : Slots → Run X) (a : Computed) (xs ys : Run (Flow Slots)) (holds fails : Run X) (w : World)
      → Leads n slots last (xs w) (holds w) → Leads n slots last (ys w) (fails w)
      → Leads n slots last ((computed at a ⨾ λ word. by_truth word xs ys) w) ((computed at a ⨾ λ x. by_truth x holds fails) w)
  leads_by n slots last (Fails kind) xs ys holds fails w lead other = refl
  leads_by n slots last (Computes (pos zero)) xs ys holds fails w lead other = other
  leads_by n slots last (Computes (pos (suc k))) xs ys holds fails w lead other = lead
  leads_by n slots last (Computes (negsuc k)) xs ys holds fails w lead other = lead

  -- one of two lists, by a value
  pub comes_if : {X : Type 0} {holds fails last : Locals → Slots → Run X} (n enough : ℕ) (e : PExpr) (xs ys : List PStmt) → Comes (beside c call) scope n enough xs holds last → Comes (beside c call) scope n enough ys fails last
      → Comes (beside c call) scope n enough (statement at (If e xs ys) ∷ []) (λ l s. eval at s e ⨾ λ x. by_truth x (holds l s) (fails l s)) last
  comes_if {X} {holds} {fails} {last} n enough e xs ys one other = record {
    leads = λ l s related long w.
        subst (λ (run : Run (Flow Slots)). Leads n s (last l) (run w) ((eval at s e ⨾ λ x. by_truth x (holds l s) (fails l s)) w)) (sym (exec_all-one (beside c call) at (If e xs ys) s ∙ exec-if (beside c call) at e xs ys s))
        (leads_by n s (last l) (value s e) (exec_all (beside c call) xs s) (exec_all (beside c call) ys s) (holds l s) (fails l s) w (one.leads l s related long w) (other.leads l s related long w));
  }

  comes_choose : {holds last : Locals → Slots → Run ℤ} (n enough : ℕ) (op : BinOp) → stops_early op ≡ true → (e : PExpr) (xs : List PStmt) → Comes (beside c call) scope n enough xs holds last
      → Comes (beside c call) scope n enough (statement at (if_needed op e xs) ∷ []) (λ l s. eval at s e ⨾ λ x. choose op x (holds l s) (last l s)) last
  comes_choose {holds} {last} n enough And early e xs asked = comes_if n enough e xs [] asked (comes_still (beside c call) scope n enough (λ l s related long. refl))
  comes_choose {holds} {last} n enough Or early e xs asked = comes_if n enough e [] xs (comes_still (beside c call) scope n enough (λ l s related long. refl)) asked
  comes_choose {holds} {last} n enough op early e xs asked = absurd (true≢false (sym early))

  module _ (op : BinOp) (early : stops_early op ≡ true) (pure pa pb : Bool) (impure : pure ≡ true → ⊥) (m : Made) (left right : Made → Valued) (run other : Locals → Run ℤ) (pointer : Locals → Bool) where
    abbrev begun : Made
    begun = then_stands at (Set (length m.slots) (Num (at_first op))) (with_slot None int_type m)

    abbrev asked_from : Made
    asked_from = record { slots = (left begun).made.slots; front = [] }

    -- what is left once the slot has its first word
    abbrev held : Run ℤ → Locals → Run ℤ
    held first l = run l ⨾ λ x. choose op x (other l ⨾ λ y. give (truth_of y)) first

    begins : Comes (beside c call) scope (length m.slots) (length begun.slots) (statement at (Set (length m.slots) (Num (at_first op))) ∷ []) (λ l s. held (give (at_first op)) l) (λ l s. held (give (word_of s (length m.slots))) l)
    begins = record {
      leads = λ l s related long w. (
        keeps_set (length m.slots) (length m.slots) s (at_first op) (omega arith),
        λ i. held (give (sym (get_or-set_same s (length m.slots) (at_first op) (pos 0) (omega (arith, one_slot None int_type m))) i)) l w,
      );
    }

    pub stopping_flat : Evaluated c call at scope true pa begun (λ l s. run l) (left begun) → Evaluated c call at scope true pb asked_from (λ l s. other l) (right asked_from)
        → Flattened c call at scope pure m (λ l. operated at (pointer l) op (run l) (other l) ⨾ found_value) (stopping at op left right m)
    stopping_flat first second =
        let d = beside c call in
        let to : ℕ = length m.slots in
        let v = left begun in
        let u = right asked_from in
        let one = one_slot None int_type m in
        let end : ℕ = length u.made.slots in
        let truth_set : List PStmt = statement at (Set to (is_true u.value)) ∷ [] in
        let needed : PKind = if_needed op v.value (u.made.front ++ truth_set) in
        let front : u.made.front ≡ second.new = second.after.stands in
        let asked : Comes d scope to end (second.new ++ truth_set) (λ l s. other l ⨾ λ y. give (truth_of y)) (λ l s. give (word_of s to)) =
        comes_on d scope to to end end (omega arith) (omega arith)
        (comes_to d scope to end (λ l s. sym (ap (computed at) (is_true-value s u.value) ∙ computed-then at (value s u.value) (λ y. Computes (truth_of y))))
        (comes_then d scope to end (λ l s y. give (truth_of y)) (λ l s later kept y. refl)
        (comes_fewer d scope to (length v.made.slots) end end (omega (arith, first.after.grows, one)) (omega arith) second.comes)))
        (comes_set d scope at (Set to (is_true u.value)) to to end (λ s. eval at s (is_true u.value)) (omega arith) (omega (arith, first.after.grows, second.after.grows, one)) (λ s. refl)) in
        let chosen_by : Comes d scope to end (statement at needed ∷ []) (λ l s. eval at s v.value ⨾ λ x. choose op x (other l ⨾ λ y. give (truth_of y)) (give (word_of s to))) (λ l s. give (word_of s to)) =
        comes_choose to end op early v.value (u.made.front ++ truth_set)
        (subst (λ (list : List PStmt). Comes d scope to end (list ++ truth_set) (λ l s. other l ⨾ λ y. give (truth_of y)) (λ l s. give (word_of s to))) (sym front) asked) in
        let evaluated : Comes d scope (length begun.slots) (length v.made.slots) first.new (λ l s. held (give (word_of s to)) l) (λ l s. eval at s v.value ⨾ λ x. choose op x (other l ⨾ λ y. give (truth_of y)) (give (word_of s to))) =
        comes_then d scope (length begun.slots) (length v.made.slots) (λ l s x. choose op x (other l ⨾ λ y. give (truth_of y)) (give (word_of s to)))
        (λ l s later kept x. ap (λ (word : ℤ). choose op x (other l ⨾ λ y. give (truth_of y)) (give word)) (sym (kept.words to (omega (arith, one))))) first.comes in
        record {
          new = (statement at (Set to (Num (at_first op))) ∷ []) ++ first.new ++ statement at needed ∷ [];
          after = after_on (after_on (record { stands = refl; grows = omega (arith, one) }) first.after) (record { stands = refl; grows = second.after.grows });
          comes = comes_then d scope to end (λ l s. found_value) (λ l s later kept x. refl)
              (comes_from d scope to end (λ l s related. chosen at (pointer l) op (run l) (other l) early)
              (comes_on d scope to to (length v.made.slots) end (omega arith) second.after.grows
              (comes_on d scope to (length begun.slots) (length begun.slots) (length v.made.slots) (omega (arith, one)) first.after.grows begins evaluated) chosen_by));
          closed = closed-slot end to (omega (arith, one, first.after.grows, second.after.grows));
          idle = λ is_pure. absurd (impure is_pure);
        }
