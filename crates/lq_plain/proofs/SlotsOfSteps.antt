-- What the plain statements of one statement of a source do to slots, by those of its parts.
use Rattle.std.proofs.Common.{◌≡◌, ℕ, suc, ℤ, pos, Bool, true, false, ◌||◌, List, [], ◌∷◌, ◌++◌, length, Option, Some, inl, inr, ⊎_elim, refl, sym, ap, ◌∙◌, subst, arith, append_assoc}
use Rattle.std.proofs.lemmas.Bool.{both_ways, cond_both, or_cases}
use Rattle.std.proofs.lemmas.List.Folds.{list_any-append}
use Rattle.lq_tree.specs.declared.place.Place.{Place}
use Rattle.lq_tree.specs.declared.expr.CType.{CType}
use Rattle.lq_tree.specs.declared.plain.PExpr.{Num, Null}
use Rattle.lq_tree.specs.declared.plain.PKind.{PKind, Set, Load, Store, If, While, Cobegin, Foreach}
use Rattle.lq_tree.specs.declared.plain.PStmt.{PStmt}
use Rattle.lq_tree.specs.declared.plain.Branch.{Branch, roll-Branch}
use Rattle.lq_tree.specs.declared.plain.Slot.{Slot}
use Rattle.lq_tree.specs.Lookup.{same}
use Rattle.lq_tree.specs.Types.{Ty, Number, Variable, declared, is_in_scope, is_pointer}
use Rattle.lq_tree.specs.Locals.{Local, what_of}
use Rattle.lq_tree.specs.PlainWalk.{slots_read, reads, indices}
use Rattle.lq_plain.specs.Flat.{Made, statement, then_stands, with_slot, int_type, Valued, Flat, Is, Names, Gets, atom, operand}
use Rattle.lq_plain.specs.Plain.{Behind, fresh, then_holds, put, empty_of, looped}
use Rattle.lq_plain.proofs.Taken.{IsAfter, after_none, after_on, after_stands, made_of}
use Rattle.lq_plain.proofs.SlotSets.{In, Within, in_left, in_right, in_either, last_within}
use Rattle.lq_plain.proofs.PlainLists.{gathered, gathered-append}
use Rattle.lq_plain.proofs.SlotsKept.{between_wider, between_not, Below, Widens, Clear, own_clear, Kept, kept_none, kept_gained, kept_among, kept_on, kept_then, IsSimple, simple_indices, own_kept, declared_kept}
use Rattle.lq_plain.proofs.SlotsNested.{if_kept, while_kept, Branched, cobegin_kept, foreach_kept}
use Rattle.lq_plain.proofs.SlotsOfValues.{slots_of, below_more, reads_of, FlatKept, ValueKept, below_behind, longer, atom_behind, operand_kept}

-- ---- which names may be assigned

-- each name among these variables stands for one of these slots
abbrev pub Owns : List (Local ℕ) → List Variable → List ℕ → Type 0
Owns scope inner own = (name : List ℕ) → is_in_scope inner name ≡ true → In (what_of 0 scope name) own

pub owns_none : (scope : List (Local ℕ)) (own : List ℕ) → Owns scope [] own
owns_none scope own name among = absurd (both_ways true (sym among) refl)

pub owns_more : (scope : List (Local ℕ)) (inner : List Variable) (own : List ℕ) (name : List ℕ) (type : Ty) (to : ℕ) → Owns scope inner own
    → Owns (record { name = name; type = type; what = to } ∷ scope) (inner ++ record { name = name; type = type } ∷ []) (to ∷ own)
owns_more scope inner own name type to owns other among =
    cond_both (same name other) to (what_of 0 scope other) (λ slot. In slot (to ∷ own)) (λ _. inl refl)
    (λ differ. inr (owns other (⊎_elim (λ there. there)
    (λ last. ⊎_elim (λ here. absurd (both_ways (same name other) differ here)) (λ none. absurd (both_ways true (sym none) refl)) (or_cases (same name other) false last))
    (or_cases (is_in_scope inner other) (same name other || false)
    (sym (list_any-append (λ (v : Variable). same v.name other) inner (record { name = name; type = type } ∷ [])) ∙ among)))))

-- ---- statements

-- statements behind what was made
pub record StaysKept (own known : List ℕ) (m last : Made) : Type 0 where
  pub new : List PStmt
  pub after : IsAfter m last new
  pub kept : Kept own (length m.slots) (length last.slots) known [] new

-- the same with what is in scope behind them: these names may be assigned there
pub record Walked (own : List ℕ) (scope : List (Local ℕ)) (m : Made) (last : List Variable) (b : Behind) : Type 0 where
  pub new : List PStmt
  pub after : IsAfter m b.made new
  pub kept : Kept own (length m.slots) (length b.made.slots) (slots_of scope) (slots_of b.scope) new
  pub next : List ℕ
  pub owns : Owns b.scope last next
  pub widens : Widens own next (length m.slots) (length b.made.slots)
  pub clear : Clear next (gathered indices new)

-- nothing is declared
pub stays_walked : {own : List ℕ} {scope : List (Local ℕ)} {m k : Made} {inner : List Variable} → Owns scope inner own → StaysKept own (slots_of scope) m k → Walked own scope m inner (record { scope = scope; made = k })
stays_walked {own} {scope} {m} {k} {inner} owns stays = record {
  new = stays.new;
  after = stays.after;
  kept = kept_gained (slots_of scope) (λ j h. h) stays.kept;
  next = own;
  owns = owns;
  widens = λ j mine. inl mine;
  clear = own_clear stays.kept.below stays.kept.owned;
}

-- what is declared goes out of scope
pub walked_stays : {own : List ℕ} {scope : List (Local ℕ)} {m : Made} {last : List Variable} {b : Behind} → Walked own scope m last b → StaysKept own (slots_of scope) m b.made
walked_stays walked = record { new = walked.new; after = walked.after; kept = kept_gained [] (λ j none. absurd none) walked.kept }

pub below_walked : {own : List ℕ} {scope : List (Local ℕ)} {m : Made} {last : List Variable} {b : Behind} (walked : Walked own scope m last b) → Below walked.next (length b.made.slots)
below_walked {own} {scope} {m} {last} {b} walked k h =
    ⊎_elim (λ mine. omega (arith, walked.kept.below k mine, walked.kept.grows)) (λ between. between.1) (walked.widens k h)

pub below_stays : {own known : List ℕ} {m k : Made} → StaysKept own known m k → Below own (length k.slots)
below_stays {own} {known} {m} {k} stays = below_more own (length m.slots) (length k.slots) stays.kept.grows stays.kept.below

-- behind a statement
pub stays_behind : {own : List ℕ} {scope : List (Local ℕ)} {m k : Made} {last : List Variable} {b : Behind} (first : Walked own scope m last b) → StaysKept first.next (slots_of b.scope) b.made k → StaysKept own (slots_of scope) m k
stays_behind {own} {scope} {m} {k} {last} {b} first rest = record {
  new = first.new ++ rest.new;
  after = after_on first.after rest.after;
  kept = kept_gained [] (λ j none. absurd none) (kept_on first.widens first.clear (λ j h. in_left j (slots_of b.scope) (slots_of scope) h) first.kept rest.kept);
}

pub walked_on : {own : List ℕ} {scope : List (Local ℕ)} {m : Made} {mid last : List Variable} {b c : Behind} (first : Walked own scope m mid b) → Walked first.next b.scope b.made last c → Walked own scope m last c
walked_on {own} {scope} {m} {mid} {last} {b} {c} first rest = record {
  new = first.new ++ rest.new;
  after = after_on first.after rest.after;
  kept = kept_gained (slots_of c.scope) (λ j h. in_left j (slots_of c.scope ++ slots_of b.scope) (slots_of scope) (in_left j (slots_of c.scope) (slots_of b.scope) h))
      (kept_on first.widens first.clear (λ j h. in_left j (slots_of b.scope) (slots_of scope) h) first.kept rest.kept);
  next = rest.next;
  owns = rest.owns;
  widens = λ j h. ⊎_elim
      (λ old. ⊎_elim (λ mine. inl mine) (λ between. inr (between_wider n l n k j (omega arith) rest.kept.grows between)) (first.widens j old))
      (λ between. inr (between_wider l k n k j first.kept.grows (omega arith) between)) (rest.widens j h);
  clear = λ j h there. ⊎_elim
      (λ before. ⊎_elim (λ old. first.clear j old before) (λ between. between_not n l l k j (omega arith) (first.kept.owned.made j before) between) (rest.widens j h))
      (rest.clear j h) (in_either j (gathered indices first.new) (gathered indices rest.new) (subst (In j) (gathered-append indices first.new rest.new) there));
} where
  n : ℕ
  n = length m.slots

  l : ℕ
  l = length b.made.slots

  k : ℕ
  k = length c.made.slots

pub stays_on : {own known : List ℕ} {m k l : Made} → StaysKept own known m k → StaysKept own known k l → StaysKept own known m l
stays_on {own} {known} {m} {k} {l} first second = record {
  new = first.new ++ second.new;
  after = after_on first.after second.after;
  kept = kept_gained [] (λ j none. absurd none) (kept_then (λ j h. h) first.kept second.kept);
}

pub stays_none : (own known : List ℕ) (m : Made) → Below own (length m.slots) → StaysKept own known m m
stays_none own known m below = record { new = []; after = after_none m; kept = kept_none own (length m.slots) known below }

-- the statements of a list of its own
pub fresh_kept : {own known : List ℕ} {slots : List Slot} {k : Made} → StaysKept own known (fresh slots) k → Kept own (length slots) (length k.slots) known [] k.front
fresh_kept {own} {known} {slots} {k} stays = subst (λ (front : List PStmt). Kept own (length slots) (length k.slots) known [] front) (sym stays.after.stands) stays.kept

-- a statement that gives a slot its word, behind the statements of that word
pub record PutKept (at : Place) (own known : List ℕ) (m : Made) (to : ℕ) (last : Made) : Type 0 where
  pub front : List PStmt
  pub gained : List ℕ
  pub made : Made
  pub kind : PKind
  pub after : IsAfter m made front
  pub kept : Kept own (length m.slots) (length made.slots) known gained front
  pub simple : IsSimple kind (to ∷ [])
  pub all : Within (reads kind) (gained ++ known)
  pub is : then_stands at kind made ≡ last

module _ (at : Place) {own known : List ℕ} {m : Made} where
  -- a statement without lists
  pub stands_behind : {gained to : List ℕ} {k : Made} {new : List PStmt} {kind : PKind} → IsAfter m k new → Kept own (length m.slots) (length k.slots) known gained new → IsSimple kind to → Within to own
      → Within (reads kind) (gained ++ known) → StaysKept own known m (then_stands at kind k)
  stands_behind {gained} {to} {k} {new} {kind} after kept simple mine all = record {
    new = new ++ statement at kind ∷ [];
    after = after_on after (after_stands at kind k);
    kept = kept_gained [] (λ j none. absurd none) (kept_then (λ j h. h) kept (own_kept at simple mine (below_more own (length m.slots) (length k.slots) kept.grows kept.below) all));
  }

  -- a statement that holds lists
  pub holds_behind : {gained : List ℕ} {k : Made} {new : List PStmt} (kind : PKind) (slots : List Slot) → IsAfter m k new → Kept own (length m.slots) (length k.slots) known gained new
      → Kept own (length k.slots) (length slots) (gained ++ known) [] (statement at kind ∷ []) → StaysKept own known m (then_holds at kind k slots)
  holds_behind {gained} {k} {new} kind slots after kept last = record {
    new = new ++ statement at kind ∷ [];
    after = record {
      stands = ap (λ (front : List PStmt). front ++ statement at kind ∷ []) after.stands ∙ append_assoc m.front new (statement at kind ∷ []);
      grows = omega (arith, kept.grows, last.grows);
    };
    kept = kept_gained [] (λ j none. absurd none) (kept_then (λ j h. h) kept last);
  }

  pub put_kept : (to : ℕ) (found : Flat) → FlatKept own known m found → PutKept at own known m to (put at to found)
  put_kept to (Is v) flat = record {
    front = flat.new;
    gained = slots_read v.value;
    made = v.made;
    kind = Set to v.value;
    after = flat.after;
    kept = flat.kept;
    simple = record { walks = λ o r. refl; assigns = refl; no_index = refl; no_parts = refl };
    all = last_within (slots_read v.value) (slots_read v.value ++ known) (λ j h. in_left j (slots_read v.value) known h);
    is = refl;
  }
  put_kept to (Names base index field) flat =
      let i = atom at Number index in
      let asked = reads_of (Names base index field) in
      let word = atom_behind at own (asked ++ known) Number index (below_more own (length m.slots) (length (made_of index).slots) flat.kept.grows flat.kept.below)
      (λ j h. in_left j asked known (inr h)) flat.acts in
      record {
        front = flat.new ++ word.new;
        gained = slots_read i.value ++ asked;
        made = i.made;
        kind = Load to base i.value field;
        after = after_on flat.after word.after;
        kept = kept_then (λ j h. h) flat.kept word.kept;
        simple = record { walks = λ o r. refl; assigns = refl; no_index = refl; no_parts = refl };
        all = λ j h. in_left j (slots_read i.value ++ asked) known (⊎_elim (λ here. in_right j (slots_read i.value) asked (inl here))
            (last_within (slots_read i.value) (slots_read i.value ++ asked) (λ k there. in_left k (slots_read i.value) asked there) j) h);
        is = refl;
      }
  put_kept to (Gets kind k) flat = record {
    front = flat.new;
    gained = reads (kind 0);
    made = k;
    kind = kind to;
    after = flat.after;
    kept = flat.kept;
    simple = (flat.acts to).0;
    all = λ j h. in_left j (reads (kind 0)) known (subst (In j) (flat.acts to).1 h);
    is = refl;
  }

  -- 0 or null
  pub empty_kept : (to : ℕ) (type : Ty) → Below own (length m.slots) → PutKept at own known m to (then_stands at (Set to (empty_of type)) m)
  empty_kept to type below = record {
    front = [];
    gained = [];
    made = m;
    kind = Set to (empty_of type);
    after = after_none m;
    kept = kept_none own (length m.slots) known below;
    simple = record { walks = λ o r. refl; assigns = refl; no_index = refl; no_parts = refl };
    all = last_within (slots_read (empty_of type)) known (cond_both (is_pointer type) Null (Num (pos 0)) (λ e. Within (slots_read e) known) (λ _ j none. absurd none) (λ _ j none. absurd none));
    is = refl;
  }

  pub assigned_kept : {to : ℕ} {last : Made} → In to own → PutKept at own known m to last → StaysKept own known m last
  assigned_kept {to} {last} mine given =
      subst (StaysKept own known m) given.is (stands_behind given.after given.kept given.simple (λ j h. ⊎_elim (λ e. subst (λ k. In k own) e mine) (λ none. absurd none) h) given.all)

-- A declaration, whose slot is made first: the statements of the word don't assign it, so that its own statement is the first
-- that does, and brings it into scope.
pub declared_walked : (at : Place) {own : List ℕ} {scope : List (Local ℕ)} {last : Made} (inner : List Variable) (m : Made) (name : List ℕ) (type : CType) → Owns scope inner own → Below own (length m.slots)
    → PutKept at own (slots_of scope) (with_slot (Some name) type m) (length m.slots) last
    → Walked own scope m (inner ++ record { name = name; type = declared type } ∷ []) (record { scope = record { name = name; type = declared type; what = length m.slots } ∷ scope; made = last })
declared_walked at {own} {scope} {last} inner m name type owns below given =
    subst (λ (k : Made). Walked own scope m (inner ++ record { name = name; type = declared type } ∷ []) (record { scope = record { name = name; type = declared type; what = length m.slots } ∷ scope; made = k })) given.is
    (record {
      new = given.front ++ statement at given.kind ∷ [];
      after = record {
        stands = ap (λ (front : List PStmt). front ++ statement at given.kind ∷ []) given.after.stands ∙ append_assoc m.front given.front (statement at given.kind ∷ []);
        grows = omega (arith, one, given.kept.grows);
      };
      kept = kept_gained (length m.slots ∷ slots_of scope)
          (λ j h. ⊎_elim (λ here. in_left j (length m.slots ∷ given.gained) (slots_of scope) (inl here)) (λ old. in_right j (length m.slots ∷ given.gained) (slots_of scope) old) h) whole;
      next = length m.slots ∷ own;
      owns = owns_more scope inner own name (declared type) (length m.slots) owns;
      widens = λ j h. ⊎_elim (λ (e : length m.slots ≡ j). inr (omega arith, omega (arith, one, given.kept.grows))) (λ mine. inl mine) h;
      clear = λ j h there. ⊎_elim (λ (e : length m.slots ≡ j). absurd (omega (arith, one, (given.kept.owned.made j (only j there)).0))) (λ mine. own_clear below whole.owned j mine there) h;
    }) where
      one : length (with_slot (Some name) type m).slots ≡ suc (length m.slots)
      one = longer (Some name) type m

      whole : Kept own (length m.slots) (length given.made.slots) (slots_of scope) (length m.slots ∷ given.gained) (given.front ++ statement at given.kind ∷ [])
      whole = declared_kept at (length m.slots) (length (with_slot (Some name) type m).slots) (length given.made.slots) one below given.simple given.all given.kept

      only : (j : ℕ) → In j (gathered indices (given.front ++ statement at given.kind ∷ [])) → In j (gathered indices given.front)
      only j there =
          ⊎_elim (λ before. before) (λ none. absurd (subst (In j) (simple_indices at given.simple) none))
          (in_either j (gathered indices given.front) (gathered indices (statement at given.kind ∷ [])) (subst (In j) (gathered-append indices given.front (statement at given.kind ∷ [])) there))

module _ (at : Place) {own known : List ℕ} {m : Made} where
  -- ---- stores

  -- the word that is stored stands behind the index
  pub store_kept : {base field : ℕ} {index : Flat} (pure : Bool) (word : Made → Valued) → FlatKept own known m (Names base index field)
      → ((k : Made) → Below own (length k.slots) → ValueKept own known k (word k))
      → StaysKept own known m (then_stands at (Store base (operand pure at Number index).value field (word (operand pure at Number index).made).value) (word (operand pure at Number index).made).made)
  store_kept {base} {field} {index} pure word flat words =
      let i = operand pure at Number index in
      let asked = reads_of (Names base index field) in
      let here : FlatKept own (asked ++ known) (made_of index) index = record {
        new = [];
        after = after_none (made_of index);
        kept = kept_gained (reads_of index) (λ j h. in_left j asked known (inr h)) (kept_none own (length (made_of index).slots) (asked ++ known) (below_more own (length m.slots) (length (made_of index).slots) flat.kept.grows flat.kept.below));
        acts = flat.acts;
      } in
      let first = operand_kept at pure Number index here in
      let v = word i.made in
      let second = words i.made (below_behind first) in
      let known_first = slots_read i.value ++ asked in
      let known_both = slots_read v.value ++ known_first in
      stands_behind at (after_on (after_on flat.after first.after) second.after) (kept_then (λ j h. in_right j known_first known h) (kept_then (λ j h. h) flat.kept first.kept) second.kept)
      (record { walks = λ o r. refl; assigns = refl; no_index = refl; no_parts = refl }) (λ j none. absurd none)
      (λ j h. in_left j known_both known (⊎_elim (λ b. in_right j (slots_read v.value) known_first (in_right j (slots_read i.value) asked (inl b)))
      (λ more. ⊎_elim (λ a. in_right j (slots_read v.value) known_first (in_left j (slots_read i.value) asked a))
      (last_within (slots_read v.value) known_both (λ k there. in_left k (slots_read v.value) known_first there) j) (in_either j (slots_read i.value) (slots_read v.value ++ []) more)) h))

  -- ---- what holds lists

  pub arm_kept : {c : Valued} {held other : Made} → ValueKept own known m c → StaysKept own known (fresh c.made.slots) held → StaysKept own known (fresh held.slots) other
      → StaysKept own known m (then_holds at (If c.value held.front other.front) c.made other.slots)
  arm_kept {c} {held} {other} test body rest =
      holds_behind at (If c.value held.front other.front) other.slots test.after test.kept
      (if_kept at c.value (kept_among (slots_read c.value ++ known) (λ j h. in_right j (slots_read c.value) known h) (fresh_kept body))
      (kept_among (slots_read c.value ++ known) (λ j h. in_right j (slots_read c.value) known h) (fresh_kept rest)) (λ j h. in_left j (slots_read c.value) known h))

  pub loop_kept : {c : Valued} {body : Made} → ValueKept own known (fresh m.slots) c → StaysKept own known (fresh c.made.slots) body → StaysKept own known m (looped at c body m)
  loop_kept {c} {body} test turn =
      let head : Kept own (length m.slots) (length c.made.slots) known (slots_read c.value) c.made.front =
      subst (λ (front : List PStmt). Kept own (length m.slots) (length c.made.slots) known (slots_read c.value) front) (sym test.after.stands) test.kept in
      holds_behind at (While c.made.front c.value body.front) body.slots (after_none m) (kept_none own (length m.slots) known test.kept.below)
      (while_kept at c.value head (fresh_kept turn) (λ j h. in_left j (slots_read c.value) known h))

  pub blocks_kept : (blocks : List Branch) (slots : List Slot) → Below own (length m.slots) → Branched (length m.slots) (length slots) known blocks → StaysKept own known m (then_holds at (Cobegin blocks) m slots)
  blocks_kept blocks slots below all = holds_behind at (Cobegin blocks) slots (after_none m) (kept_none own (length m.slots) known below) (cobegin_kept at below all)

-- a branch of a `foreach`, made from this slot on
pub record IterationKept (n : ℕ) (inside : List ℕ) (made : Branch × List Slot) : Type 0 where
  pub place : Place
  pub body : List PStmt
  pub gained : List ℕ
  pub kept : Kept [] n (length made.1) inside gained body
  pub is : made.0 ≡ roll-Branch (record { at = place; body = body })

pub iterations_kept : (at : Place) {own known : List ℕ} {low high : Valued} {made : Branch × List Slot} (m : Made) (name : Option (List ℕ)) (step : ℤ) → Below own (length m.slots)
    → ValueKept own known (with_slot name int_type m) low → ValueKept own known low.made high → IterationKept (length high.made.slots) (length m.slots ∷ known) made
    → StaysKept own known m (then_holds at (Foreach (length m.slots) low.value high.value step made.0) high.made made.1)
iterations_kept at {own} {known} {low} {high} {made} m name step below first second body =
    let ends = kept_then (λ j h. in_right j (slots_read low.value) known h) first.kept second.kept in
    let each = foreach_kept at body.place step low.value high.value (longer name int_type m) below
    (λ j h. in_left j (slots_read high.value ++ slots_read low.value) known (⊎_elim (λ a. in_right j (slots_read high.value) (slots_read low.value) a) (λ b. in_left j (slots_read high.value) (slots_read low.value) b)
    (in_either j (slots_read low.value) (slots_read high.value) h))) ends body.kept in
    let whole = subst (λ (b : Branch). Kept own (length m.slots) (length made.1) known (slots_read high.value ++ slots_read low.value)
    ((first.new ++ second.new) ++ statement at (Foreach (length m.slots) low.value high.value step b) ∷ [])) (sym body.is) each in
    record {
      new = (first.new ++ second.new) ++ statement at (Foreach (length m.slots) low.value high.value step made.0) ∷ [];
      after = record {
        stands = ap (λ (front : List PStmt). front ++ statement at (Foreach (length m.slots) low.value high.value step made.0) ∷ []) (after_on first.after second.after).stands
            ∙ append_assoc m.front (first.new ++ second.new) (statement at (Foreach (length m.slots) low.value high.value step made.0) ∷ []);
        grows = whole.grows;
      };
      kept = kept_gained [] (λ j none. absurd none) whole;
    }
