-- What the statements in front of a flattened expression do to slots, and those of its value as an atom or as it is.
use Rattle.std.proofs.Common.{◌≡◌, ℕ, suc, ◌≤◌, Bool, true, false, ◌&&◌, List, [], ◌∷◌, ◌++◌, length, map, Option, None, Some, inl, inr, ⊎_elim, refl, sym, ap, ◌∙◌, subst, arith, append_assoc}
use Rattle.std.specs.List.{flat_map}
use Rattle.std.proofs.lemmas.Bool.{both_ways, cond_both, or_cases}
use Rattle.lq_tree.specs.declared.place.Place.{Place}
use Rattle.lq_tree.specs.declared.expr.Expr.{Expr}
use Rattle.lq_tree.specs.declared.expr.BinOp.{BinOp}
use Rattle.lq_tree.specs.declared.expr.BinOp.TheVariants.{Or}
use Rattle.lq_tree.specs.declared.expr.CType.{CType}
use Rattle.lq_tree.specs.declared.plain.PExpr.{PExpr, Num, Null}
use Rattle.lq_tree.specs.declared.plain.PKind.{PKind, Set, Call, Calloc}
use Rattle.lq_tree.specs.declared.plain.PStmt.{PStmt}
use Rattle.lq_tree.specs.Lookup.{same}
use Rattle.lq_tree.specs.Types.{Ty, Number, is_pointer}
use Rattle.lq_tree.specs.Locals.{Local, what_of}
use Rattle.lq_tree.specs.PlainWalk.{slots_read, reads}
use Rattle.lq_plain.specs.Flat.{Made, statement, then_stands, with_slot, int_type, slot_type, Valued, valued, Flat, Is, Names, Gets, is_atom, in_new_slot, load, atom, flat, operand, slot_in, is_true, if_needed, at_first, stopping, dotted, is_zero, wanted, Values, before}
use Rattle.lq_plain.proofs.Related.{IsThere}
use Rattle.lq_plain.proofs.Taken.{IsAfter, after_none, after_on, one_slot, made_of}
use Rattle.lq_plain.proofs.KeptExpressions.{IsSlot}
use Rattle.lq_plain.proofs.SlotSets.{In, Within, in_left, in_right, in_either, last_within}
use Rattle.lq_plain.proofs.SlotsRead.{true_within}
use Rattle.lq_plain.proofs.SlotsKept.{Below, Widens, Kept, kept_none, kept_gained, kept_among, kept_on, kept_then, IsSimple, own_kept, declared_kept}
use Rattle.lq_plain.proofs.SlotsNested.{if_kept}

-- the slots of the locals in scope
abbrev pub slots_of : List (Local ℕ) → List ℕ
slots_of scope = map (λ (l : Local ℕ). l.what) scope

-- the slot of a name in scope is one of them
pub known_name : (scope : List (Local ℕ)) (name : List ℕ) → IsThere scope name → In (what_of 0 scope name) (slots_of scope)
known_name [] name among = absurd (both_ways true (sym among) refl)
known_name (s ∷ scope) name among =
    cond_both (same s.name name) s.what (what_of 0 scope name) (λ slot. In slot (slots_of (s ∷ scope))) (λ _. inl refl)
    (λ other. inr (known_name scope name (⊎_elim (λ here. absurd (both_ways (same s.name name) other here)) (λ rest. rest) (or_cases (same s.name name) _ among))))

pub below_more : (own : List ℕ) (n m : ℕ) → n ≤ m → Below own n → Below own m
below_more own n m fits below k mine = omega (arith, below k mine)

-- ---- what a flattened expression reads

abbrev pub reads_of : Flat → List ℕ
reads_of (Is v) = slots_read v.value
reads_of (Names base index field) = base ∷ reads_of index
reads_of (Gets kind m) = reads (kind 0)

-- a call or a calloc assigns the slot that it is given, and reads the same whichever that is
abbrev pub Acts : Flat → Type 0
Acts (Is v) = Unit {0}
Acts (Names base index field) = Acts index
Acts (Gets kind m) = (to : ℕ) → IsSimple (kind to) (to ∷ []) × (reads (kind to) ≡ reads (kind 0))

-- statements behind what was made, and then an expression
pub record FlatKept (own known : List ℕ) (m : Made) (found : Flat) : Type 0 where
  pub new : List PStmt
  pub after : IsAfter m (made_of found) new
  pub kept : Kept own (length m.slots) (length (made_of found).slots) known (reads_of found) new
  pub acts : Acts found

-- the same with a value
pub record ValueKept (own known : List ℕ) (m : Made) (v : Valued) : Type 0 where
  pub new : List PStmt
  pub after : IsAfter m v.made new
  pub kept : Kept own (length m.slots) (length v.made.slots) known (slots_read v.value) new

-- and with values
pub record ValuesKept (own known : List ℕ) (m : Made) (given : Values) : Type 0 where
  pub new : List PStmt
  pub after : IsAfter m given.made new
  pub kept : Kept own (length m.slots) (length given.made.slots) known (flat_map slots_read given.values) new

-- what may be assigned in front of a value is below the number of slots behind it
pub below_behind : {own known : List ℕ} {m : Made} {v : Valued} → ValueKept own known m v → Below own (length v.made.slots)
below_behind {own} {known} {m} {v} taken = below_more own (length m.slots) (length v.made.slots) taken.kept.grows taken.kept.below

pub longer : (name : Option (List ℕ)) (type : CType) (m : Made) → length (with_slot name type m).slots ≡ suc (length m.slots)
longer name type m = omega (arith, one_slot name type m)

-- a value without statements
pub value_still : (own known : List ℕ) (m : Made) (e : PExpr) → Below own (length m.slots) → Within (slots_read e) known → ValueKept own known m (valued e m)
value_still own known m e below all = record { new = []; after = after_none m; kept = kept_gained (slots_read e) all (kept_none own (length m.slots) known below) }

pub flat_still : (own known : List ℕ) (m : Made) (e : PExpr) → Below own (length m.slots) → Within (slots_read e) known → FlatKept own known m (Is (valued e m))
flat_still own known m e below all = record { new = []; after = after_none m; kept = kept_gained (slots_read e) all (kept_none own (length m.slots) known below); acts = tt }

-- a value made of a value
pub flat_of_value : {own known : List ℕ} {m : Made} {v : Valued} (e : PExpr) → Within (slots_read e) (slots_read v.value ++ known) → ValueKept own known m v → FlatKept own known m (Is (valued e v.made))
flat_of_value e all taken = record { new = taken.new; after = taken.after; kept = kept_gained (slots_read e) all taken.kept; acts = tt }

-- of two values one behind the other
pub flat_of_both : {own known : List ℕ} {m : Made} {v u : Valued} (e : PExpr) → Within (slots_read e) ((slots_read u.value ++ slots_read v.value) ++ known) → ValueKept own known m v → ValueKept own known v.made u
    → FlatKept own known m (Is (valued e u.made))
flat_of_both {own} {known} {m} {v} {u} e all first second = record {
  new = first.new ++ second.new;
  after = after_on first.after second.after;
  kept = kept_gained (slots_read e) all (kept_then (λ k h. in_right k (slots_read v.value) known h) first.kept second.kept);
  acts = tt;
}

-- a value behind statements
value_on : {own known gained : List ℕ} {m k : Made} {new : List PStmt} {v : Valued} → IsAfter m k new → Kept own (length m.slots) (length k.slots) known gained new → ValueKept own (gained ++ known) k v → ValueKept own known m v
value_on {own} {known} {gained} {m} {k} {new} {v} after kept next = record {
  new = new ++ next.new;
  after = after_on after next.after;
  kept = kept_gained (slots_read v.value) (λ j h. in_left j (slots_read v.value ++ gained) known (in_left j (slots_read v.value) gained h)) (kept_then (λ j h. h) kept next.kept);
}

module _ (at : Place) where
  -- a new slot gets a word
  new_slot : (own known : List ℕ) (type : Ty) (kind : ℕ → PKind) (m : Made) → Below own (length m.slots) → IsSimple (kind (length m.slots)) (length m.slots ∷ []) → Within (reads (kind (length m.slots))) known
      → ValueKept own known m (in_new_slot at type kind m)
  new_slot own known type kind m below simple all =
      let next = length (with_slot None (slot_type type) m).slots in
      let one : next ≡ suc (length m.slots) = longer None (slot_type type) m in
      record {
        new = statement at (kind (length m.slots)) ∷ [];
        after = record { stands = refl; grows = omega arith };
        kept = declared_kept at (length m.slots) next next one below simple all (kept_none own next known (below_more own (length m.slots) next (omega arith) below));
      }

  -- what an expression came to, as an atom
  pub atom_behind : (own known : List ℕ) (type : Ty) (found : Flat) → Below own (length (made_of found).slots) → Within (reads_of found) known → Acts found → ValueKept own known (made_of found) (atom at type found)
  atom_behind own known type (Is v) below all acts =
      cond_both (is_atom v.value) v (in_new_slot at type (λ to. Set to v.value) v.made) (λ u. ValueKept own known v.made u)
      (λ _. value_still own known v.made v.value below all)
      (λ _. new_slot own known type (λ to. Set to v.value) v.made below (record { walks = λ o r. refl; assigns = refl; no_index = refl; no_parts = refl }) (last_within (slots_read v.value) known all))
  atom_behind own known type (Names base index field) below all acts =
      let v = atom at Number index in
      let i = atom_behind own known Number index below (λ k h. all k (inr h)) acts in
      value_on i.after i.kept
      (new_slot own (slots_read v.value ++ known) type (load base v field) v.made (below_behind i) (record { walks = λ o r. refl; assigns = refl; no_index = refl; no_parts = refl })
      (λ k h. ⊎_elim (λ here. in_right k (slots_read v.value) known (all k (inl here)))
      (last_within (slots_read v.value) (slots_read v.value ++ known) (λ j there. in_left j (slots_read v.value) known there) k) h))
  atom_behind own known type (Gets kind m) below all acts =
      let to = length m.slots in
      new_slot own known type kind m below (acts to).0 (subst (λ (list : List ℕ). Within list known) (sym (acts to).1) all)

  module _ {own known : List ℕ} {m : Made} where
    pub atom_kept : {found : Flat} (type : Ty) → FlatKept own known m found → ValueKept own known m (atom at type found)
    atom_kept {found} type kept =
        value_on kept.after kept.kept
        (atom_behind own (reads_of found ++ known) type found (below_more own (length m.slots) (length (made_of found).slots) kept.kept.grows kept.kept.below)
        (λ k h. in_left k (reads_of found) known h) kept.acts)

    pub flat_kept : (type : Ty) (found : Flat) → FlatKept own known m found → ValueKept own known m (flat at type found)
    flat_kept type (Is v) kept = record { new = kept.new; after = kept.after; kept = kept.kept }
    flat_kept type (Names base index field) kept = atom_kept type kept
    flat_kept type (Gets kind k) kept = atom_kept type kept

    pub operand_kept : (pure : Bool) (type : Ty) (found : Flat) → FlatKept own known m found → ValueKept own known m (operand pure at type found)
    operand_kept true type found kept = flat_kept type found kept
    operand_kept false type found kept = atom_kept type kept

    -- a null in its place
    pub wanted_kept : (type : Ty) (e : Expr) (found : Flat) → FlatKept own known m found → FlatKept own known m (wanted type e found m)
    wanted_kept type e found kept =
        cond_both (is_pointer type && is_zero e) (Is (valued Null m)) found (λ x. FlatKept own known m x) (λ _. flat_still own known m Null kept.kept.below (λ k none. absurd none)) (λ _. kept)

    pub dotted_kept : (field : ℕ) (found : Flat) → FlatKept own known m found → FlatKept own known m (dotted field found)
    dotted_kept field (Is v) kept = kept
    dotted_kept field (Names base index none) kept = record { new = kept.new; after = kept.after; kept = kept.kept; acts = kept.acts }
    dotted_kept field (Gets kind k) kept = kept

    -- the name of an element, whose base is a slot
    pub names_kept : {v : Valued} {index : Flat} (field : ℕ) → IsSlot v.value → ValueKept own known m v → FlatKept own known v.made index → FlatKept own known m (Names (slot_in v.value) index field)
    names_kept {v} {index} field slot base kept = record {
      new = base.new ++ kept.new;
      after = after_on base.after kept.after;
      kept = kept_gained (slot_in v.value ∷ reads_of index)
          (λ k h. in_left k (reads_of index ++ slots_read v.value) known (⊎_elim
          (λ here. in_right k (reads_of index) (slots_read v.value) (subst (λ x. In k (slots_read x)) (sym slot) (inl here))) (λ there. in_left k (reads_of index) (slots_read v.value) there) h))
          (kept_then (λ k h. in_right k (slots_read v.value) known h) base.kept kept.kept);
      acts = kept.acts;
    }

    pub calloc_kept : {v : Valued} (type : CType) → ValueKept own known m v → FlatKept own known m (Gets (λ slot. Calloc slot v.value type) v.made)
    calloc_kept {v} type taken = record {
      new = taken.new;
      after = taken.after;
      kept = kept_gained (slots_read v.value ++ []) (last_within (slots_read v.value) (slots_read v.value ++ known) (λ k h. in_left k (slots_read v.value) known h)) taken.kept;
      acts = λ to. (record { walks = λ o r. refl; assigns = refl; no_index = refl; no_parts = refl }, refl);
    }

    pub call_kept : {given : Values} (number : ℕ) → ValuesKept own known m given → FlatKept own known m (Gets (λ slot. Call (Some slot) number given.values) given.made)
    call_kept {given} number taken = record {
      new = taken.new;
      after = taken.after;
      kept = taken.kept;
      acts = λ to. (record { walks = λ o r. refl; assigns = refl; no_index = refl; no_parts = refl }, refl);
    }

    pub more_kept : {v : Valued} {others : Values} → ValueKept own known m v → ValuesKept own known v.made others → ValuesKept own known m (before v others)
    more_kept {v} {others} first rest = record {
      new = first.new ++ rest.new;
      after = after_on first.after rest.after;
      kept = kept_gained (slots_read v.value ++ flat_map slots_read others.values)
          (λ k h. in_left k (flat_map slots_read others.values ++ slots_read v.value) known (⊎_elim
          (λ here. in_right k (flat_map slots_read others.values) (slots_read v.value) here) (λ there. in_left k (flat_map slots_read others.values) (slots_read v.value) there)
          (in_either k (slots_read v.value) (flat_map slots_read others.values) h)))
          (kept_then (λ k h. in_right k (slots_read v.value) known h) first.kept rest.kept);
    }

  pub none_kept : (own known : List ℕ) (m : Made) → Below own (length m.slots) → ValuesKept own known m (record { values = []; made = m })
  none_kept own known m below = record { new = []; after = after_none m; kept = kept_none own (length m.slots) known below }

  -- ---- what stops early

  -- a statement that asks for the right side
  needed_kept : {own known gained : List ℕ} {n m : ℕ} {asked : List PStmt} (op : BinOp) (e : PExpr) → Within (slots_read e) known → Kept own n m known gained asked
      → Kept own n m known [] (statement at (if_needed op e asked) ∷ [])
  needed_kept {own} {known} {gained} {n} {m} Or e all kept = if_kept at e (kept_none own n known kept.below) kept all
  needed_kept {own} {known} {gained} {n} {m} op e all kept = if_kept at e kept (kept_none own m known (below_more own n m kept.grows kept.below)) all

  -- The slot of the word, and its first word. As a local it may be assigned from here on, so that the statement that asks for
  -- the right side may do so.
  abbrev begins : BinOp → Made → Made
  begins op m = then_stands at (Set (length m.slots) (Num (at_first op))) (with_slot None int_type m)

  begins_kept : (own known : List ℕ) (op : BinOp) (m : Made) → Below own (length m.slots)
      → Kept own (length m.slots) (length (begins op m).slots) known (length m.slots ∷ []) (statement at (Set (length m.slots) (Num (at_first op))) ∷ [])
  begins_kept own known op m below =
      let next = length (begins op m).slots in
      let one : next ≡ suc (length m.slots) = longer None int_type m in
      declared_kept at (length m.slots) next next one below (record { walks = λ o r. refl; assigns = refl; no_index = refl; no_parts = refl }) (λ k none. absurd none)
      (kept_none own next known (below_more own (length m.slots) next (omega arith) below))

  pub stopping_kept : (own known : List ℕ) (op : BinOp) (m : Made) (left right : Made → Valued) → Below own (length m.slots) → ValueKept (length m.slots ∷ own) known (begins op m) (left (begins op m))
      → ValueKept (length m.slots ∷ own) known (record { slots = (left (begins op m)).made.slots; front = [] }) (right (record { slots = (left (begins op m)).made.slots; front = [] }))
      → FlatKept own known m (stopping at op left right m)
  stopping_kept own known op m left right below first second =
      let to = length m.slots in
      let next = length (begins op m).slots in
      let one : next ≡ suc to = longer None int_type m in
      let v = left (begins op m) in
      let u = right (record { slots = v.made.slots; front = [] }) in
      let asked = u.made.front ++ statement at (Set to (is_true u.value)) ∷ [] in
      let ask : Kept (to ∷ own) (length v.made.slots) (length u.made.slots) known ([] ++ slots_read u.value) asked =
      subst (λ (front : List PStmt). Kept (to ∷ own) (length v.made.slots) (length u.made.slots) known ([] ++ slots_read u.value) (front ++ statement at (Set to (is_true u.value)) ∷ [])) (sym second.after.stands)
      (kept_then (λ k h. h) second.kept
      (own_kept at (record { walks = λ o r. refl; assigns = refl; no_index = refl; no_parts = refl }) (λ k h. ⊎_elim (λ here. inl here) (λ none. absurd none) h) (below_behind second)
      (last_within (slots_read (is_true u.value)) (slots_read u.value ++ known) (true_within (slots_read u.value ++ known) u.value (λ k h. in_left k (slots_read u.value) known h))))) in
      let choice = needed_kept op v.value (λ k h. in_left k (slots_read v.value) known h) (kept_among (slots_read v.value ++ known) (λ k h. in_right k (slots_read v.value) known h) ask) in
      let begin = begins_kept own known op m below in
      let chosen = statement at (if_needed op v.value asked) in
      record {
        new = statement at (Set to (Num (at_first op))) ∷ (first.new ++ chosen ∷ []);
        after = record {
          stands = ap (λ (front : List PStmt). front ++ chosen ∷ []) first.after.stands
              ∙ append_assoc (m.front ++ statement at (Set to (Num (at_first op))) ∷ []) first.new (chosen ∷ [])
              ∙ append_assoc m.front (statement at (Set to (Num (at_first op))) ∷ []) (first.new ++ chosen ∷ []);
          grows = omega (arith, first.kept.grows, second.kept.grows);
        };
        kept = kept_gained (to ∷ []) (λ k h. in_left k ((slots_read v.value) ++ to ∷ []) known (in_right k (slots_read v.value) (to ∷ []) h))
            (kept_on (opens to next own one) (λ k mine none. absurd none) (λ k h. in_right k (to ∷ []) known h) begin (kept_then (λ k h. h) first.kept choice));
        acts = tt;
      } where
        opens : (to next : ℕ) (own : List ℕ) → next ≡ suc to → Widens own (to ∷ own) to next
        opens to next own one k (inl e) = inr (omega arith, omega arith)
        opens to next own one k (inr mine) = inl mine
