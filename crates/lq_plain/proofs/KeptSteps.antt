-- What each form of statement does, its plain form does, by their parts.
use Rattle.std.proofs.Common.{◌≡◌, ℕ, zero, suc, ◌+◌, ◌≤◌, ℤ, pos, nat_abs, Bool, true, false, cond, List, [], ◌∷◌, ◌++◌, length, slice_set, Option, None, Some, refl, sym, ap, ap₂, ◌∙◌, subst, arith, append_assoc, append-nil, length-set, true≢false}
use Rattle.lq_tree.specs.Locals.{Local, what_of, with_what}
use Rattle.lq_tree.specs.declared.place.Place.{Place}
use Rattle.lq_tree.specs.declared.plain.PExpr.{Num, Null}
use Rattle.lq_tree.specs.declared.plain.PKind.{PKind, Set, Store, Call, If, While, Cobegin, Foreach, Print, Return}
use Rattle.lq_tree.specs.declared.plain.PStmt.{PStmt}
use Rattle.lq_tree.specs.declared.plain.Slot.{Slot}
use Rattle.lq_tree.specs.declared.plain.Branch.{Branch}
use Rattle.lq_tree.specs.Types.{Ty, Number, is_pointer}
use Rattle.lq_meaning.specs.declared.action.Action.TheVariants.{Print as PrintNumber, Test}
use Rattle.lq_meaning.specs.World.{World}
use Rattle.lq_meaning.specs.Ending.{Trap}
use Rattle.lq_meaning.specs.Operators.{Computes}
use Rattle.lq_meaning.specs.Control.{Run, give, ◌⨾◌, computed, due, by_truth, Target, load as load_word, store, Flow, Returns, Statement, done_with, ◌then_do◌, tested, loop, caught, branch as caught_run, before, joined, each}
use Rattle.lq_meaning.specs.Meaning.{Context as Source, Locals, Found, names, value_of, target as target_at, target_of, local}
use Rattle.lq_meaning.specs.PlainMeaning.{Slots, word_of, value, eval, exec, exec_all, exec_branch}
use Rattle.lq_meaning.proofs.Sequence.{then-assoc}
use Rattle.lq_plain.specs.Flat.{Made, statement, then_stands, with_slot, int_type, Valued, Flat, Is, Names, Gets, load, atom, flat, operand, Values}
use Rattle.lq_plain.specs.Plain.{Behind, fresh, then_holds, put, empty_of, looped, Branches, branch}
use Rattle.lq_plain.proofs.Related.{Keeps, keeps_fewer, Related, related_above, related_kept, related_bounded, related_with, Bounded, IsThere, set_related}
use Rattle.lq_plain.proofs.Runs.{behind_two, Comes, comes_on, comes_then, comes_fewer, comes_from, comes_to, comes_still, comes_none, exec_all-one}
use Rattle.lq_plain.proofs.KeptValues.{word_computed, atom_word, atom-value, atom_word-closed}
use Rattle.lq_plain.proofs.Lists.{exec-if, exec-while, exec-cobegin, exec_branch-list, all_branches}
use Rattle.lq_plain.proofs.Taken.{IsAfter, after_none, after_on, after_stands, after_slot, one_slot, made_of, beside, value_found, word_by, read, IsClosed, Evaluated, Flattened, atom_taken, as_it_is}
use Rattle.lq_plain.proofs.KeptForms.{eval_known, Given, called_alike}
use Rattle.lq_plain.proofs.Alike.{Alike, FlowAlike, Fits, alike_same, alike_then, alike_map, alike_truth, alike_lead, finish, Done, Stays, stays_finish, stays_from, fresh_matches, alike_joined, caught_alike, each_alike}

empty-value : (slots : Slots) (type : Ty) → value slots (empty_of type) ≡ Computes (pos 0)
empty-value slots type = by_pointer (is_pointer type) where
  by_pointer : (b : Bool) → value slots (cond b Null (Num (pos 0))) ≡ Computes (pos 0)
  by_pointer true = refl
  by_pointer false = refl

module _ (c : Source) (call : Place → ℕ → List ℤ → Run ℤ) (at : Place) (scope : List (Local ℕ)) where
  -- ---- one statement behind an expression

  pub print_stays : (pure : Bool) (m : Made) (run : Locals → Run ℤ) (v : Valued) → Evaluated c call at scope true pure m (λ l s. run l) v
      → Stays c call scope m (λ l. run l ⨾ λ number. due c.fuel at (PrintNumber number) ⨾ λ _. done_with l) (then_stands at (Print v.value) v.made)
  print_stays pure m run v taken =
      stays_finish c call at (Print v.value) v.made.slots (λ l number. due c.fuel at (PrintNumber number) ⨾ λ _. done_with l) (λ s number. due c.fuel at (PrintNumber number) ⨾ λ _. done_with s)
      taken.after (omega arith) taken.comes (λ s. refl)
      (λ l s x w related long. alike_same (FlowAlike (Fits scope (length v.made.slots) (length s))) (due c.fuel at (PrintNumber x) w) (λ _. done_with l) (λ _. done_with s)
      (λ _ u. ((related_above scope l (length m.slots) (length v.made.slots) s taken.after.grows related, refl), refl)))

  pub return_stays : (pure : Bool) (m : Made) (run : Locals → Run ℤ) (v : Valued) → Evaluated c call at scope true pure m (λ l s. run l) v
      → Stays c call scope m (λ l. run l ⨾ λ word. give (Returns word)) (then_stands at (Return (Some v.value)) v.made)
  return_stays pure m run v taken =
      stays_finish c call at (Return (Some v.value)) v.made.slots (λ l word. give (Returns word)) (λ s word. give (Returns word)) taken.after (omega arith) taken.comes (λ s. refl) (λ l s x w related long. (refl, refl))

  pub return_nothing : (m : Made) → Stays c call scope m (λ l. give (Returns (pos 0))) (then_stands at (Return None) m)
  return_nothing m = record { new = statement at (Return None) ∷ []; after = after_stands at (Return None) m; matches = record { matches = λ l s related long w. (refl, refl) } }

  pub call_stays : (count : ℕ) (m : Made) (run : Locals → Run (List ℤ)) (given : Values) (name : List ℕ) (number : ℕ) → ((words : List ℤ) → length words ≡ count → c.call at name words ≡ call at number words)
      → Given c call at scope count m run given → Stays c call scope m (λ l. run l ⨾ c.call at name ⨾ λ _. done_with l) (then_stands at (Call None number given.values) given.made)
  call_stays count m run given name number alike args =
      let d = beside c call in
      stays_finish c call at (Call None number given.values) given.made.slots (λ l _. done_with l) (λ s _. done_with s) args.after (omega arith)
      (comes_to d scope (length m.slots) (length given.made.slots) (λ l s. called_alike c call at scope count name number given.values args.atoms args.many alike s)
      (comes_then d scope (length m.slots) (length given.made.slots) (λ l s. c.call at name) (λ l s later kept x. refl) args.comes))
      (λ s. refl)
      (λ l s x w related long. ((related_above scope l (length m.slots) (length given.made.slots) s args.after.grows related, refl), refl))

  -- ---- a local gets a word

  -- statements lead to a word, and one more puts it into a slot
  pub record Puts (m : Made) (run : Locals → Run ℤ) (to : ℕ) (last : Made) : Type 0 where
    pub new : List PStmt
    pub kind : PKind
    pub before : Made
    pub stands : last ≡ then_stands at kind before
    pub after : IsAfter m before new
    pub act : Slots → Run ℤ
    pub comes : Comes (beside c call) scope (length m.slots) (length before.slots) new (λ l s. run l) (λ l s. act s)
    pub does : (s : Slots) → exec (beside c call) at kind s ≡ (act s ⨾ λ word. done_with (slice_set s to word))

  pub put_word : (pure : Bool) (m : Made) (run : Locals → Run Found) (to : ℕ) (found : Flat) → Flattened c call at scope pure m run found → Puts m (λ l. run l ⨾ value_of c at) to (put at to found)
  put_word pure m run to (Is v) flat =
      let d = beside c call in
      record {
        new = flat.new;
        kind = Set to v.value;
        before = v.made;
        stands = refl;
        after = flat.after;
        act = λ s. eval at s v.value;
        comes = comes_to d scope (length m.slots) (length v.made.slots) (λ l s. value_found c at (eval at s v.value))
            (comes_then d scope (length m.slots) (length v.made.slots) (λ l s. value_of c at) (λ l s later kept x. refl) flat.comes);
        does = λ s. refl;
      }
  put_word pure m run to (Names base index field) flat =
      let d = beside c call in
      let v = atom at Number index in
      let n = length (made_of index).slots in
      let i = atom_taken c call at scope false Number index flat.closed.1 in
      let get : Slots → ℤ → Run ℤ = λ s x. load_word c.fuel at (target_at (word_of s base) x field) in
      record {
        new = flat.new ++ i.new;
        kind = load base v field to;
        before = v.made;
        stands = refl;
        after = after_on flat.after i.after;
        act = λ s. eval at s v.value ⨾ get s;
        comes = comes_on d scope (length m.slots) n n (length v.made.slots) flat.after.grows i.after.grows
            (comes_then d scope (length m.slots) n (λ l s. value_of c at) (λ l s later kept x. refl) flat.comes)
            (comes_from d scope n (length v.made.slots) (λ l s related. then-assoc (read c call at index s ⨾ value_of c at) (λ x. names (word_of s base) x field) (value_of c at))
            (comes_then d scope n (length v.made.slots) (λ l s x. get s x) (λ l s later kept x. ap (λ pointer. load_word c.fuel at (target_at pointer x field)) (sym (ap word_computed (flat.closed.0 s later kept)))) i.comes));
        does = λ s. sym (then-assoc (eval at s v.value) (get s) (λ word. done_with (slice_set s to word)));
      }
  put_word pure m run to (Gets kind k) flat =
      let d = beside c call in
      record {
        new = flat.new;
        kind = kind to;
        before = k;
        stands = refl;
        after = flat.after;
        act = word_by c call at (kind 0);
        comes = comes_to d scope (length m.slots) (length k.slots) (λ l s. value_found c at (word_by c call at (kind 0) s))
            (comes_then d scope (length m.slots) (length k.slots) (λ l s. value_of c at) (λ l s later kept x. refl) flat.comes);
        does = flat.closed to;
      }

  -- a local in scope gets the word
  pub set_stays : (m last : Made) (run : Locals → Run ℤ) (name : List ℕ) → IsThere scope name → Puts m run (what_of 0 scope name) last → Stays c call scope m (λ l. run l ⨾ λ word. done_with (with_what l name word)) last
  set_stays m last run name among puts =
      subst (Stays c call scope m (λ l. run l ⨾ λ word. done_with (with_what l name word))) (sym puts.stands)
      (stays_finish c call at puts.kind puts.before.slots (λ l word. done_with (with_what l name word)) (λ s word. done_with (slice_set s (what_of 0 scope name) word)) puts.after (omega arith) puts.comes puts.does
      (λ l s x w related long. (
        (
          related_above scope (with_what l name x) (length m.slots) (length puts.before.slots) (slice_set s (what_of 0 scope name) x) puts.after.grows
              (set_related scope l (length m.slots) s name x related among (omega (arith, puts.after.grows))),
          length-set s (what_of 0 scope name) x,
        ),
        refl,
      )))

  -- a local is declared, in a slot of its own
  abbrev declaring : List ℕ → Ty → ℕ → List (Local ℕ)
  declaring name type to = record { name = name; type = type; what = to } ∷ scope

  pub declare_done : (m k last : Made) (run : Locals → Run ℤ) (name : List ℕ) (type : Ty) → Bounded scope (length m.slots) → IsAfter m k [] → length k.slots ≡ length m.slots + 1 → Puts k run (length m.slots) last
      → Done c call scope m (λ l. run l ⨾ λ word. done_with (local name type word ∷ l)) (record { scope = declaring name type (length m.slots); made = last })
  declare_done m k last run name type bounded after one puts =
      subst (λ (made : Made). Done c call scope m (λ l. run l ⨾ λ word. done_with (local name type word ∷ l)) (record { scope = declaring name type (length m.slots); made = made })) (sym puts.stands)
      (record {
        more = record { name = name; type = type; what = length m.slots } ∷ [];
        scopes = refl;
        new = puts.new ++ statement at puts.kind ∷ [];
        after = record {
          stands = ap (λ (front : List PStmt). front ++ statement at puts.kind ∷ []) (puts.after.stands ∙ ap (λ (front : List PStmt). front ++ puts.new) (after.stands ∙ append-nil m.front)) ∙ append_assoc m.front puts.new (statement at puts.kind ∷ []);
          grows = omega (arith, puts.after.grows, one);
        };
        bounded = (omega (arith, puts.after.grows, one), bounded);
        matches = finish at puts.kind (λ l word. done_with (local name type word ∷ l)) (λ s word. done_with (slice_set s (length m.slots) word)) (omega arith)
            (comes_fewer (beside c call) scope (length m.slots) (length k.slots) (length puts.before.slots) (length puts.before.slots) (omega (arith, one)) (omega arith) puts.comes) puts.does
            (λ l s x w related long.
            ((related_with scope l (length m.slots) (length puts.before.slots) s name type x (omega (arith, puts.after.grows, one)) (omega (arith, puts.after.grows, one)) related, length-set s (length m.slots) x), refl));
      })

  pub put_empty : (m : Made) (to : ℕ) (type : Ty) → Puts m (λ l. give (pos 0)) to (then_stands at (Set to (empty_of type)) m)
  put_empty m to type = record {
    new = [];
    kind = Set to (empty_of type);
    before = m;
    stands = refl;
    after = after_none m;
    act = λ s. eval at s (empty_of type);
    comes = comes_still (beside c call) scope (length m.slots) (length m.slots) (λ l s related long. sym (ap (computed at) (empty-value s type)));
    does = λ s. refl;
  }

  -- ---- two values in order

  second_comes : {X Y : Type 0} (asked : Bool) {pure : Bool} {m : Made} (k : Made) {new : List PStmt} {first : Locals → Slots → Run ℤ} {v : Valued} {part : Locals → Run X} {last : Slots → Run X} (next : Slots → ℤ → X → Run Y)
      → ((old later : Slots) → Keeps (length m.slots) old later → (x : ℤ) (y : X) → next old x y ≡ next later x y) → Evaluated c call at scope asked pure m first v → length v.made.slots ≤ length k.slots → (asked ≡ true → new ≡ [])
      → Comes (beside c call) scope (length v.made.slots) (length k.slots) new (λ l s. part l) (λ l s. last s)
      → Comes (beside c call) scope (length v.made.slots) (length k.slots) new (λ l s. eval at s v.value ⨾ λ x. part l ⨾ next s x) (λ l s. eval at s v.value ⨾ λ x. last s ⨾ next s x)
  second_comes true {pure} {m} k {new} {first} {v} {part} {last} next closed taken grows none comes =
      subst (λ (list : List PStmt). Comes (beside c call) scope (length v.made.slots) (length k.slots) list (λ l s. eval at s v.value ⨾ λ x. part l ⨾ next s x) (λ l s. eval at s v.value ⨾ λ x. last s ⨾ next s x)) (sym (none refl))
      (comes_still (beside c call) scope (length v.made.slots) (length k.slots) (λ l s related long.
      ap (λ run. eval at s v.value ⨾ λ x. run ⨾ next s x) (comes_none (beside c call) scope (length v.made.slots) (length k.slots) (none refl) comes l s related long)))
  second_comes false {pure} {m} k {new} {first} {v} {part} {last} next closed taken grows none comes =
      let d = beside c call in
      let known : (s : Slots) → value s v.value ≡ Computes (atom_word v.value s) = atom-value v.value taken.still in
      comes_from d scope (length v.made.slots) (length k.slots) (λ l s related. eval_known at (value s v.value) (atom_word v.value s) (λ x. part l ⨾ next s x) (known s))
      (comes_to d scope (length v.made.slots) (length k.slots) (λ l s. sym (eval_known at (value s v.value) (atom_word v.value s) (λ x. last s ⨾ next s x) (known s)))
      (comes_then d scope (length v.made.slots) (length k.slots) (λ l s. next s (atom_word v.value s))
      (λ l s later kept y. closed s later (keeps_fewer (length m.slots) (length v.made.slots) taken.after.grows kept) (atom_word v.value s) y
      ∙ ap (λ word. next later word y) (atom_word-closed (length v.made.slots) v.value taken.still taken.closed s later kept)) comes))

  -- the first is an atom, or the second has no statements
  pub two_come : {X Y : Type 0} (asked : Bool) {pure : Bool} {m : Made} (k : Made) {new : List PStmt} {first : Locals → Slots → Run ℤ} {v : Valued} {part : Locals → Run X} {last : Slots → Run X} (next : Slots → ℤ → X → Run Y)
      → ((old later : Slots) → Keeps (length m.slots) old later → (x : ℤ) (y : X) → next old x y ≡ next later x y) → (taken : Evaluated c call at scope asked pure m first v) → length v.made.slots ≤ length k.slots → (asked ≡ true → new ≡ [])
      → Comes (beside c call) scope (length v.made.slots) (length k.slots) new (λ l s. part l) (λ l s. last s)
      → Comes (beside c call) scope (length m.slots) (length k.slots) (taken.new ++ new) (λ l s. first l s ⨾ λ x. part l ⨾ next s x) (λ l s. eval at s v.value ⨾ λ x. last s ⨾ next s x)
  two_come asked {pure} {m} k {new} {first} {v} {part} {last} next closed taken grows none comes =
      comes_on (beside c call) scope (length m.slots) (length v.made.slots) (length v.made.slots) (length k.slots) taken.after.grows grows
      (comes_then (beside c call) scope (length m.slots) (length v.made.slots) (λ l s x. part l ⨾ next s x) (λ l s later kept x. ap (λ (f : _ → Run _). part l ⨾ f) (λ i y. closed s later kept x y i)) taken.comes)
      (second_comes asked k next closed taken grows none comes)

  -- ---- a store

  -- what an index comes to, as it is where that is asked
  pub index_taken : (asked : Bool) (type : Ty) (found : Flat) → IsClosed c call at found → Evaluated c call at scope asked false (made_of found) (λ l s. read c call at found s ⨾ value_of c at) (operand asked at type found)
  index_taken false type found closed = atom_taken c call at scope false type found closed
  index_taken true type (Is v) closed = record {
    new = [];
    after = after_none v.made;
    comes = comes_still (beside c call) scope (length v.made.slots) (length v.made.slots) (λ l s related long. value_found c at (eval at s v.value));
    closed = closed;
    still = λ _. refl;
  }
  index_taken true type (Names base index field) closed = as_it_is c call at scope (λ e. true≢false (sym e)) (atom_taken c call at scope false type (Names base index field) closed)
  index_taken true type (Gets kind m) closed = as_it_is c call at scope (λ e. true≢false (sym e)) (atom_taken c call at scope false type (Gets kind m) closed)

  pub store_stays : (asked pure : Bool) (m : Made) (find : Locals → Run Found) (run : Locals → Run ℤ) (base : ℕ) (index : Flat) (field : ℕ) (u : Valued) → Flattened c call at scope pure m find (Names base index field)
      → Evaluated c call at scope true asked (operand asked at Number index).made (λ l s. run l) u
      → Stays c call scope m (λ l. find l ⨾ target_of ⨾ λ t. run l ⨾ λ word. store c.fuel at t word ⨾ λ _. done_with l) (then_stands at (Store base (operand asked at Number index).value field u.value) u.made)
  store_stays asked pure m find run base index field u flat taken =
      let d = beside c call in
      let v = operand asked at Number index in
      let n = length (made_of index).slots in
      let i = index_taken asked Number index flat.closed.1 in
      let pair : Locals → Target → Run (Target × ℤ) = λ l t. run l ⨾ λ word. give (t, word) in
      let at_base : Slots → ℤ → Target = λ s x. target_at (word_of s base) x field in
      let end : ℕ = length u.made.slots in
      stays_from c call (λ l. sym (behind_two (find l ⨾ target_of) (λ _. run l) (λ t word. give (t, word)) (λ (p : Target × ℤ). store c.fuel at p.0 p.1 ⨾ λ _. done_with l)))
      (stays_finish c call at (Store base v.value field u.value) u.made.slots (λ l p. store c.fuel at p.0 p.1 ⨾ λ _. done_with l) (λ s p. store c.fuel at p.0 p.1 ⨾ λ _. done_with s)
      (after_on flat.after (after_on i.after taken.after)) (omega arith)
      (comes_on d scope (length m.slots) n n end flat.after.grows (omega (arith, i.after.grows, taken.after.grows))
      (comes_to d scope (length m.slots) n
      (λ l s. ap (λ run. run ⨾ pair l) (then-assoc (read c call at index s ⨾ value_of c at) (λ x. names (word_of s base) x field) target_of)
      ∙ then-assoc (read c call at index s ⨾ value_of c at) (λ x. give (at_base s x)) (pair l))
      (comes_then d scope (length m.slots) n (λ l s. pair l) (λ l s later kept x. refl) (comes_then d scope (length m.slots) n (λ l s. target_of) (λ l s later kept x. refl) flat.comes)))
      (two_come asked u.made (λ s x word. give (at_base s x, word))
      (λ old later kept x word. ap (λ pointer. give (target_at pointer x field, word)) (sym (ap word_computed (flat.closed.0 old later kept)))) i taken.after.grows (λ is. taken.still is) taken.comes))
      (λ s. sym (behind_two (eval at s v.value) (λ _. eval at s u.value) (λ x word. give (at_base s x, word)) (λ (p : Target × ℤ). store c.fuel at p.0 p.1 ⨾ λ _. done_with s)))
      (λ l s p w related long. alike_same (FlowAlike (Fits scope end (length s))) (store c.fuel at p.0 p.1 w) (λ _. done_with l) (λ _. done_with s)
      (λ _ w'. ((related_above scope l (length m.slots) end s (omega (arith, flat.after.grows, i.after.grows, taken.after.grows)) related, refl), refl))))

  -- ---- conditions and loops

  pub if_stays : (pure : Bool) (m : Made) (run : Locals → Run ℤ) (v : Valued) (body other : Statement Locals) (held last : Made) → Evaluated c call at scope true pure m (λ l s. run l) v
      → Stays c call scope (fresh v.made.slots) body held → Stays c call scope (fresh held.slots) other last
      → Stays c call scope m (λ l. run l ⨾ λ word. by_truth word (body l) (other l)) (then_holds at (If v.value held.front last.front) v.made last.slots)
  if_stays pure m run v body other held last taken holds fails =
      let d = beside c call in
      stays_finish c call at (If v.value held.front last.front) last.slots (λ l word. by_truth word (body l) (other l)) (λ s word. by_truth word (exec_all d held.front s) (exec_all d last.front s))
      taken.after (omega (arith, holds.after.grows, fails.after.grows)) taken.comes (λ s. exec-if d at v.value held.front last.front s)
      (λ l s x w related long.
      alike_truth (FlowAlike (Fits scope (length last.slots) (length s))) x (body l) (other l) (exec_all d held.front s) (exec_all d last.front s) w
      (alike_map (Fits scope (length held.slots) (length s)) (Fits scope (length last.slots) (length s)) (body l w) (exec_all d held.front s w)
      (λ inner after fits. (related_above scope inner (length held.slots) (length last.slots) after fails.after.grows fits.0, fits.1))
      (fresh_matches c call holds l s (related_above scope l (length m.slots) (length v.made.slots) s taken.after.grows related) (omega (arith, fails.after.grows)) w))
      (fresh_matches c call fails l s (related_above scope l (length m.slots) (length held.slots) s (omega (arith, taken.after.grows, holds.after.grows)) related) long w))

  module _ (pure : Bool) (m : Made) (test : Locals → Run ℤ) (v : Valued) (body : Statement Locals) (last : Made) (bounded : Bounded scope (length m.slots))
      (taken : Evaluated c call at scope true pure (fresh m.slots) (λ l s. test l) v) (stays : Stays c call scope (fresh v.made.slots) body last) where
    loop_alike : (n : ℕ) (l : Locals) (s : Slots) (w : World) → Related scope l (length m.slots) s → length last.slots ≤ length s
        → Alike (FlowAlike (Fits scope (length m.slots) (length s))) (loop n done_with (λ l. tested c.fuel at (test l)) body l w)
        (loop n (exec_all (beside c call) v.made.front) (λ s. tested c.fuel at (eval at s v.value)) (exec_all (beside c call) last.front) s w)
    unfolding loop
    loop_alike zero l s w related long = (refl, refl)
    loop_alike (suc n) l s w related long =
        let d = beside c call in
        let size : ℕ = length s in
        let P : Locals → Slots → Type 0 = Fits scope (length m.slots) size in
        let mark : ℤ → Run ℤ = λ word. due c.fuel at Test ⨾ λ _. give word in
        let turn : Locals → ℤ → Run (Flow Locals) = λ l word. by_truth word (body l then_do loop n done_with (λ l. tested c.fuel at (test l)) body) (done_with l) in
        let turn' : Slots → ℤ → Run (Flow Slots) = λ s word. by_truth word
        (exec_all d last.front s then_do loop n (exec_all d v.made.front) (λ s. tested c.fuel at (eval at s v.value)) (exec_all d last.front)) (done_with s) in
        subst (λ (head : Run (Flow Slots)). Alike (FlowAlike P) ((test l ⨾ mark ⨾ turn l) w) ((head then_do λ after. eval at after v.value ⨾ mark ⨾ turn' after) w)) (λ i. exec_all d (sym taken.after.stands i) s)
        (subst (λ (source : Run (Flow Locals)). Alike (FlowAlike P) (source w) ((exec_all d taken.new s then_do λ after. eval at after v.value ⨾ mark ⨾ turn' after) w)) (sym (then-assoc (test l) mark (turn l)))
        (subst (λ (plain : Statement Slots). Alike (FlowAlike P) ((test l ⨾ λ word. mark word ⨾ turn l) w) ((exec_all d taken.new s then_do plain) w)) (λ i after. sym (then-assoc (eval at after v.value) mark (turn' after)) i)
        (alike_lead (length m.slots) s (λ after. eval at after v.value) (exec_all d taken.new s w) (test l w) (FlowAlike P) (λ word. mark word ⨾ turn l) (λ after word. mark word ⨾ turn' after)
        (taken.comes.leads l s related (omega (arith, stays.after.grows)) w)
        (λ after word u kept.
        let near : Related scope l (length m.slots) after = related_kept scope l (length m.slots) (length m.slots) s after (omega arith) kept related in
        alike_same (FlowAlike P) (mark word u) (turn l) (turn' after) (λ word' t.
        alike_truth (FlowAlike P) word' (body l then_do loop n done_with (λ l. tested c.fuel at (test l)) body) (done_with l)
        (exec_all d last.front after then_do loop n (exec_all d v.made.front) (λ s. tested c.fuel at (eval at s v.value)) (exec_all d last.front)) (done_with after) t
        (alike_then (Fits scope (length last.slots) (length after)) P (body l t) (exec_all d last.front after t) _ _
        (fresh_matches c call stays l after (related_above scope l (length m.slots) (length v.made.slots) after taken.after.grows near) (omega (arith, kept.size)) t)
        (λ inner later t' fits.
        subst (λ size. Alike (FlowAlike (Fits scope (length m.slots) size)) (loop n done_with (λ l. tested c.fuel at (test l)) body inner t')
        (loop n (exec_all d v.made.front) (λ s. tested c.fuel at (eval at s v.value)) (exec_all d last.front) later t')) (fits.1 ∙ kept.size)
        (loop_alike n inner later t' (related_bounded scope inner (length m.slots) (length last.slots) later bounded fits.0) (omega (arith, fits.1, kept.size)))))
        ((near, kept.size), refl))))))

    pub loop_stays : Stays c call scope m (λ l. loop (suc c.fuel) done_with (λ l. tested c.fuel at (test l)) body l) (looped at v last m)
    loop_stays = record {
      new = statement at (While v.made.front v.value last.front) ∷ [];
      after = record { stands = refl; grows = omega (arith, taken.after.grows, stays.after.grows) };
      matches = record {
        matches = λ l s related long w.
            subst (λ (plain : Run (Flow Slots)). Alike (FlowAlike (Fits scope (length last.slots) (length s))) (loop (suc c.fuel) done_with (λ l. tested c.fuel at (test l)) body l w) (plain w))
            (sym (exec_all-one (beside c call) at (While v.made.front v.value last.front) s ∙ exec-while (beside c call) at v.made.front v.value last.front s))
            (alike_map (Fits scope (length m.slots) (length s)) (Fits scope (length last.slots) (length s)) _ _
            (λ inner after fits. (related_above scope inner (length m.slots) (length last.slots) after (omega (arith, taken.after.grows, stays.after.grows)) fits.0, fits.1))
            (loop_alike (suc c.fuel) l s w related long));
      };
    }

  -- ---- parallel statements

  -- branches of a source come to what those made for them come to
  pub record BranchesAlike (slots : List Slot) (run : Locals → Run (Option Trap)) (all : Branches) : Type 0 where
    pub grows : length slots ≤ length all.slots
    pub same : (l : Locals) (s : Slots) → Related scope l (length slots) s → length all.slots ≤ length s → run l ≡ all_branches (beside c call) all.list s

  pub branches_none : (slots : List Slot) → BranchesAlike slots (λ l. give None) (record { list = []; slots = slots })
  branches_none slots = record { grows = omega arith; same = λ l s related long. refl }

  -- the block of a branch, caught
  pub branch_alike : (slots : List Slot) (run : Statement Locals) (b : Behind) → Done c call scope (fresh slots) run b → (l : Locals) (s : Slots) → Related scope l (length slots) s → length b.made.slots ≤ length s → (w : World)
      → caught (run l w) ≡ caught (exec_branch (beside c call) (branch at b.made) s w)
  branch_alike slots run b done l s related long w =
      let d = beside c call in
      caught_alike (Fits b.scope (length b.made.slots) (length s)) (run l w) (exec_all d done.new s w) (done.matches.matches l s related long w)
      ∙ ap (λ (list : List PStmt). caught (exec_all d list s w)) (sym done.after.stands) ∙ (λ i. caught (sym (exec_branch-list d at b.made.front s) i w))

  pub cobegin_stays : (m : Made) (run : Locals → Run (Option Trap)) (all : Branches) → BranchesAlike m.slots run all → Stays c call scope m (λ l. run l ⨾ joined l) (then_holds at (Cobegin all.list) m all.slots)
  cobegin_stays m run all alike =
      let d = beside c call in
      record {
        new = statement at (Cobegin all.list) ∷ [];
        after = record { stands = refl; grows = alike.grows };
        matches = record {
          matches = λ l s related long w.
              subst (λ (plain : Run (Flow Slots)). Alike (FlowAlike (Fits scope (length all.slots) (length s))) ((run l ⨾ joined l) w) (plain w)) (sym (exec_all-one d at (Cobegin all.list) s ∙ exec-cobegin d at all.list s))
              (subst (λ (source : Run (Option Trap)). Alike (FlowAlike (Fits scope (length all.slots) (length s))) ((source ⨾ joined l) w) ((all_branches d all.list s ⨾ joined s) w)) (sym (alike.same l s related long))
              (alike_same (FlowAlike (Fits scope (length all.slots) (length s))) (all_branches d all.list s w) (joined l) (joined s)
              (λ trap u. alike_joined (Fits scope (length all.slots) (length s)) l s trap u (related_above scope l (length m.slots) (length all.slots) s alike.grows related, refl))));
        };
      }

  -- a foreach, whose index is the last local in its body
  pub foreach_stays : (asked pure : Bool) (m : Made) (name : List ℕ) (low high : Locals → Run ℤ) (step : ℤ) (v u : Valued) (body : Statement Locals) (b : Branch) (slots : List Slot)
      → Evaluated c call at scope asked pure (with_slot (Some name) int_type m) (λ l s. low l) v → Evaluated c call at scope true asked v.made (λ l s. high l) u → length u.made.slots ≤ length slots
      → ((l : Locals) (s : Slots) (w : World) → Related (declaring name Number (length m.slots)) l (length u.made.slots) s → length slots ≤ length s → caught (body l w) ≡ caught (exec_branch (beside c call) b s w))
      → Stays c call scope m (λ l. low l ⨾ λ low. high l ⨾ λ high. each c.fuel at low high (nat_abs step) (λ i. body (local name Number i ∷ l)) ⨾ joined l)
      (then_holds at (Foreach (length m.slots) v.value u.value step b) u.made slots)
  foreach_stays asked pure m name low high step v u body b slots first second grows same =
      let d = beside c call in
      let k = with_slot (Some name) int_type m in
      let one = one_slot (Some name) int_type m in
      let all : Locals → ℤ × ℤ → Run (Option Trap) = λ l ends. each c.fuel at ends.0 ends.1 (nat_abs step) (λ i. body (local name Number i ∷ l)) in
      let all' : Slots → ℤ × ℤ → Run (Option Trap) = λ s ends. each c.fuel at ends.0 ends.1 (nat_abs step) (λ i. exec_branch d b (slice_set s (length m.slots) i)) in
      stays_from c call (λ l. sym (behind_two (low l) (λ _. high l) (λ x y. give (x, y)) (λ ends. all l ends ⨾ joined l)))
      (stays_finish c call at (Foreach (length m.slots) v.value u.value step b) slots (λ l ends. all l ends ⨾ joined l) (λ s ends. all' s ends ⨾ joined s)
      (after_on (after_slot (Some name) int_type m) (after_on first.after second.after)) grows
      (comes_fewer d scope (length m.slots) (length k.slots) (length u.made.slots) (length u.made.slots) (omega (arith, one)) (omega arith)
      (two_come asked u.made (λ s x y. give (x, y)) (λ old later kept x y. refl) first second.after.grows (λ is. second.still is) second.comes))
      (λ s. sym (behind_two (eval at s v.value) (λ _. eval at s u.value) (λ x y. give (x, y)) (λ ends. all' s ends ⨾ joined s)))
      (λ l s ends w related long.
      subst (λ (source : Run (Option Trap)). Alike (FlowAlike (Fits scope (length slots) (length s))) ((source ⨾ joined l) w) ((all' s ends ⨾ joined s) w))
      (sym (each_alike c.fuel at ends.0 ends.1 (nat_abs step) (λ i. body (local name Number i ∷ l)) (λ i. exec_branch d b (slice_set s (length m.slots) i))
      (λ i u'. same (local name Number i ∷ l) (slice_set s (length m.slots) i) u'
      (related_with scope l (length m.slots) (length u.made.slots) s name Number i (omega (arith, one, first.after.grows, second.after.grows)) (omega (arith, one, first.after.grows, second.after.grows)) related)
      (omega (arith, length-set s (length m.slots) i)))))
      (alike_same (FlowAlike (Fits scope (length slots) (length s))) (all' s ends w) (joined l) (joined s)
      (λ trap u'. alike_joined (Fits scope (length slots) (length s)) l s trap u'
      (related_above scope l (length m.slots) (length slots) s (omega (arith, one, first.after.grows, second.after.grows)) related, refl)))))

-- one branch more
pub branches_more : (c : Source) (call : Place → ℕ → List ℤ → Run ℤ) (at at' : Place) (scope : List (Local ℕ)) (slots : List Slot) (run : Statement Locals) (rest : Locals → Run (Option Trap)) (b : Behind) (others : Branches) → Done c call scope (fresh slots) run b
    → BranchesAlike c call at' scope b.made.slots rest others → BranchesAlike c call at' scope slots (λ l. before (caught_run (run l)) (rest l)) (record { list = branch at b.made ∷ others.list; slots = others.slots })
branches_more c call at at' scope slots run rest b others done alike =
    record {
      grows = omega (arith, done.after.grows, alike.grows);
      same = λ l s related long.
          ap₂ before (λ i w. branch_alike c call at scope slots run b done l s related (omega (arith, alike.grows)) w i)
          (alike.same l s (related_above scope l (length slots) (length b.made.slots) s done.after.grows related) long);
    }
