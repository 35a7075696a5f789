-- What plain statements do to slots: those that they assign, those that are indices, and how far a reading of them comes.
use Rattle.std.proofs.Common.{◌≡◌, ℕ, suc, ◌<◌, ◌≤◌, true, not, List, [], ◌∷◌, ◌++◌, filter, ◌⊎◌, inl, inr, ⊎_elim, refl, sym, ap, ap₂, ◌∙◌, subst, arith, append-nil}
use Rattle.std.specs.List.{list_any, list_all}
use Rattle.std.proofs.lemmas.Bool.{and_from, not_from_false}
use Rattle.lq_tree.specs.declared.place.Place.{Place}
use Rattle.lq_tree.specs.declared.plain.PKind.{PKind}
use Rattle.lq_tree.specs.declared.plain.PStmt.{PStmt}
use Rattle.lq_tree.specs.PlainWalk.{statement, inside, reads, targets, indices}
use Rattle.lq_tree.specs.PlainScopes.{is_among, Reading, read, assign, closed, scoped}
use Rattle.lq_plain.proofs.SlotSets.{In, Within, in_is, not_in, in_left, in_right, in_either, in_filter, in_filtered, all_pass, none_pass, Different, different_on}
use Rattle.lq_plain.proofs.PlainLists.{scoped_list, scoped_list-append, each_of, gathered, gathered-append, gathered-one}

-- ---- which slots

abbrev pub Between : (n m k : ℕ) → Type 0
Between n m k = (n ≤ k) × (k < m)

pub between_wider : (n m a b k : ℕ) → a ≤ n → m ≤ b → Between n m k → Between a b k
between_wider n m a b k low high h = (omega (arith, h.0), omega (arith, h.1))

pub between_not : (n m a b k : ℕ) → m ≤ a → Between n m k → Between a b k → ⊥
between_not n m a b k fits first second = absurd (omega (arith, first.1, second.0))

-- these are below a number
abbrev pub Below : List ℕ → ℕ → Type 0
Below own n = (k : ℕ) → In k own → k < n

-- what may be assigned next could be so before, or was made from slot n up to slot m
abbrev pub Widens : (own next : List ℕ) (n m : ℕ) → Type 0
Widens own next n m = (k : ℕ) → In k next → In k own ⊎ Between n m k

-- none of the first is one of the second
abbrev pub Clear : (own indices : List ℕ) → Type 0
Clear own indices = (k : ℕ) → In k own → In k indices → ⊥

-- Statements made from slot n up to slot m assign no slot but those and `own`, the slots of locals that the same branch
-- declares. Their indices are among those made, all differ, and are assigned by none of them.
pub record Owned (own : List ℕ) (n m : ℕ) (assigned indices : List ℕ) : Type 0 where
  pub assigns : (k : ℕ) → In k assigned → In k own ⊎ Between n m k
  pub made : (k : ℕ) → In k indices → Between n m k
  pub different : Different indices
  pub apart : (k : ℕ) → In k indices → In k assigned → ⊥

pub own_clear : {own assigned indices : List ℕ} {n m : ℕ} → Below own n → Owned own n m assigned indices → Clear own indices
own_clear {own} {assigned} {indices} {n} {m} below owned k mine index = absurd (omega (arith, below k mine, (owned.made k index).0))

pub owned_none : (own : List ℕ) (n m : ℕ) → Owned own n m [] []
owned_none own n m = record { assigns = λ k none. absurd none; made = λ k none. absurd none; different = tt; apart = λ k none. absurd none }

pub owned_as : {own assigned indices other others : List ℕ} {n m : ℕ} → assigned ≡ other → indices ≡ others → Owned own n m other others → Owned own n m assigned indices
owned_as {own} {assigned} {indices} {other} {others} {n} {m} e f owned =
    subst (λ (xs : List ℕ). Owned own n m xs indices) (sym e) (subst (λ (xs : List ℕ). Owned own n m other xs) (sym f) owned)

-- more may be assigned
pub owned_more : {own assigned indices : List ℕ} {n m : ℕ} → Owned [] n m assigned indices → Owned own n m assigned indices
owned_more {own} {assigned} {indices} {n} {m} owned = record {
  assigns = λ k there. ⊎_elim (λ none. absurd none) (λ between. inr between) (owned.assigns k there);
  made = owned.made;
  different = owned.different;
  apart = owned.apart;
}

-- statements behind others
module _ {own next assigned rest indices others : List ℕ} (n m k : ℕ) (fits : n ≤ m) (more : m ≤ k) (below : Below own n) (widens : Widens own next n m) (clear : Clear next indices)
    (first : Owned own n m assigned indices) (second : Owned next m k rest others) where
  assigns_on : (j : ℕ) → In j assigned ⊎ In j rest → In j own ⊎ Between n k j
  assigns_on j (inl a) = ⊎_elim (λ mine. inl mine) (λ b. inr (between_wider n m n k j (omega arith) more b)) (first.assigns j a)
  assigns_on j (inr a) =
      ⊎_elim (λ mine. ⊎_elim (λ o. inl o) (λ b. inr (between_wider n m n k j (omega arith) more b)) (widens j mine))
      (λ b. inr (between_wider m k n k j fits (omega arith) b)) (second.assigns j a)

  made_on : (j : ℕ) → In j indices ⊎ In j others → Between n k j
  made_on j (inl a) = between_wider n m n k j (omega arith) more (first.made j a)
  made_on j (inr a) = between_wider m k n k j fits (omega arith) (second.made j a)

  apart_on : (j : ℕ) → In j indices ⊎ In j others → In j assigned ⊎ In j rest → ⊥
  apart_on j (inl i) (inl a) = first.apart j i a
  apart_on j (inl i) (inr a) = ⊎_elim (λ mine. clear j mine i) (λ b. between_not n m m k j (omega arith) (first.made j i) b) (second.assigns j a)
  apart_on j (inr i) (inl a) =
      ⊎_elim (λ mine. absurd (omega (arith, below j mine, (second.made j i).0))) (λ b. between_not n m m k j (omega arith) b (second.made j i)) (first.assigns j a)
  apart_on j (inr i) (inr a) = second.apart j i a

  pub owned_on : Owned own n k (assigned ++ rest) (indices ++ others)
  owned_on = record {
    assigns = λ j there. assigns_on j (in_either j assigned rest there);
    made = λ j there. made_on j (in_either j indices others there);
    different = different_on indices others first.different second.different (λ j i o. between_not n m m k j (omega arith) (first.made j i) (second.made j o));
    apart = λ j i a. apart_on j (in_either j indices others i) (in_either j assigned rest a);
  }

-- a slot of its own in front of these
owned_declared : {own assigned indices : List ℕ} (n next m : ℕ) → next ≡ suc n → next ≤ m → Owned own next m assigned indices → Owned own n m (assigned ++ n ∷ []) (indices ++ [])
owned_declared {own} {assigned} {indices} n next m one fits owned = record {
  assigns = λ k there.
      ⊎_elim (λ a. ⊎_elim (λ mine. inl mine) (λ b. inr (between_wider next m n m k (omega arith) (omega arith) b)) (owned.assigns k a))
      (λ last. inr (new k last)) (in_either k assigned (n ∷ []) there);
  made = λ k there. between_wider next m n m k (omega arith) (omega arith) (owned.made k (only k there));
  different = subst Different (sym (append-nil indices)) owned.different;
  apart = λ k i a. ⊎_elim (owned.apart k (only k i)) (λ last. let low = (owned.made k (only k i)).0 in not_new k low last) (in_either k assigned (n ∷ []) a);
} where
  new : (k : ℕ) → In k (n ∷ []) → Between n m k
  new k (inl e) = (omega arith, omega arith)
  new k (inr none) = absurd none

  only : (k : ℕ) → In k (indices ++ []) → In k indices
  only k there = ⊎_elim (λ i. i) (λ none. absurd none) (in_either k indices [] there)

  not_new : (k : ℕ) → next ≤ k → In k (n ∷ []) → ⊥
  not_new k low (inl e) = absurd (omega arith)
  not_new k low (inr none) = absurd none

-- an index of its own in front of these, and a branch behind them
module _ {own assigned rest indices others : List ℕ} (n next m k : ℕ) (one : next ≡ suc n) (fits : next ≤ m) (more : m ≤ k) (below : Below own n)
    (first : Owned own next m assigned indices) (second : Owned [] m k rest others) where
  index_made : (j : ℕ) → In j (n ∷ others) → (n ≡ j) ⊎ Between m k j
  index_made j (inl e) = inl e
  index_made j (inr i) = inr (second.made j i)

  index_apart : (j : ℕ) → In j indices ⊎ In j (n ∷ others) → In j assigned ⊎ In j rest → ⊥
  index_apart j (inl i) (inl a) = first.apart j i a
  index_apart j (inl i) (inr a) = ⊎_elim (λ none. absurd none) (λ b. between_not next m m k j (omega arith) (first.made j i) b) (second.assigns j a)
  index_apart j (inr (inl e)) (inl a) = ⊎_elim (λ mine. absurd (omega (arith, below j mine))) (λ b. absurd (omega (arith, b.0))) (first.assigns j a)
  index_apart j (inr (inr i)) (inl a) =
      ⊎_elim (λ mine. absurd (omega (arith, below j mine, (second.made j i).0))) (λ b. between_not next m m k j (omega arith) b (second.made j i)) (first.assigns j a)
  index_apart j (inr (inl e)) (inr a) = ⊎_elim (λ none. absurd none) (λ b. absurd (omega (arith, b.0))) (second.assigns j a)
  index_apart j (inr (inr i)) (inr a) = second.apart j i a

  pub owned_indexed : Owned own n k (assigned ++ rest) (indices ++ (n ∷ others))
  owned_indexed = record {
    assigns = λ j there.
        ⊎_elim (λ a. ⊎_elim (λ mine. inl mine) (λ b. inr (between_wider next m n k j (omega arith) more b)) (first.assigns j a))
        (λ a. ⊎_elim (λ none. absurd none) (λ b. inr (between_wider m k n k j (omega arith) (omega arith) b)) (second.assigns j a)) (in_either j assigned rest there);
    made = λ j there.
        ⊎_elim (λ i. between_wider next m n k j (omega arith) more (first.made j i))
        (λ i. ⊎_elim (λ (e : n ≡ j). (omega arith, omega arith)) (between_wider m k n k j (omega arith) (omega arith)) (index_made j i)) (in_either j indices (n ∷ others) there);
    different = different_on indices (n ∷ others) first.different (λ there. absurd (omega (arith, (second.made n there).0)), second.different)
        (λ j i o. ⊎_elim (λ (e : n ≡ j). absurd (omega (arith, (first.made j i).0))) (between_not next m m k j (omega arith) (first.made j i)) (index_made j o));
    apart = λ j i a. index_apart j (in_either j indices (n ∷ others) i) (in_either j assigned rest a);
  }

-- ---- how far a reading comes

-- what is outside a branch is below n, and none of it may be assigned
abbrev pub Free : (own : List ℕ) (n : ℕ) (outside : List ℕ) → Type 0
Free own n outside = (k : ℕ) → In k outside → (k < n) × (In k own → ⊥)

pub free_behind : (own next outside : List ℕ) (n m : ℕ) → n ≤ m → Widens own next n m → Free own n outside → Free next m outside
free_behind own next outside n m fits widens free k there =
    let here = free k there in
    (omega (arith, here.0), λ mine. ⊎_elim here.1 (λ b. absurd (omega (arith, here.0, b.0))) (widens k mine))

-- all was well, slots below n alone have been assigned, and these are in scope
pub record Ready (n : ℕ) (known : List ℕ) (r : Reading) : Type 0 where
  pub well : r.well ≡ true
  pub below : (k : ℕ) → In k r.assigned → k < n
  pub there : Within known r.scope

-- all is well, and slots of `own` and those from n up to m alone have been assigned
pub record Advanced (own : List ℕ) (n m : ℕ) (r after : Reading) : Type 0 where
  pub well : after.well ≡ true
  pub assigned : (k : ℕ) → In k after.assigned → In k r.assigned ⊎ (In k own ⊎ Between n m k)

-- the same, with these in scope besides
pub record Passed (own : List ℕ) (n m : ℕ) (gained : List ℕ) (r after : Reading) : Type 0 where
  pub advanced : Advanced own n m r after
  pub there : Within gained after.scope
  pub more : Within r.scope after.scope

pub advanced_on : {own next : List ℕ} {r mid after : Reading} (n m k : ℕ) → n ≤ m → m ≤ k → Widens own next n m → Advanced own n m r mid → Advanced next m k mid after → Advanced own n k r after
advanced_on {own} {next} {r} {mid} {after} n m k fits more widens first second = record { well = second.well; assigned = λ j there. behind j (second.assigned j there) } where
  wider : (j : ℕ) → In j own ⊎ Between n m j → In j own ⊎ Between n k j
  wider j (inl mine) = inl mine
  wider j (inr b) = inr (between_wider n m n k j (omega arith) more b)

  before : (j : ℕ) → In j r.assigned ⊎ (In j own ⊎ Between n m j) → In j r.assigned ⊎ (In j own ⊎ Between n k j)
  before j (inl old) = inl old
  before j (inr new) = inr (wider j new)

  behind : (j : ℕ) → In j mid.assigned ⊎ (In j next ⊎ Between m k j) → In j r.assigned ⊎ (In j own ⊎ Between n k j)
  behind j (inl old) = before j (first.assigned j old)
  behind j (inr (inl mine)) = inr (wider j (widens j mine))
  behind j (inr (inr b)) = inr (inr (between_wider m k n k j fits (omega arith) b))

pub below_behind : {own : List ℕ} {r after : Reading} (n m : ℕ) → n ≤ m → Below own n → ((k : ℕ) → In k r.assigned → k < n) → Advanced own n m r after → (k : ℕ) → In k after.assigned → k < m
below_behind {own} {r} {after} n m fits below old advanced k there = at (advanced.assigned k there) where
  at : In k r.assigned ⊎ (In k own ⊎ Between n m k) → k < m
  at (inl before) = omega (arith, old k before)
  at (inr (inl mine)) = omega (arith, below k mine)
  at (inr (inr b)) = b.1

-- what has been assigned doesn't hang on the scope
pub advanced_closed : {own : List ℕ} {n m : ℕ} {r after : Reading} (outer : Reading) → Advanced own n m r after → Advanced own n m r (closed outer after)
advanced_closed outer advanced = record { well = advanced.well; assigned = advanced.assigned }

pub advanced_from : {own : List ℕ} {n m : ℕ} {r from after : Reading} → from.assigned ≡ r.assigned → Advanced own n m from after → Advanced own n m r after
advanced_from {own} {n} {m} {r} {from} {after} same advanced =
    record { well = advanced.well; assigned = λ k there. ⊎_elim (λ old. inl (subst (In k) same old)) (λ new. inr new) (advanced.assigned k there) }

-- slots in scope are read
pub read_well : (r : Reading) (slots : List ℕ) → r.well ≡ true → Within slots r.scope → (read slots r).well ≡ true
read_well r slots well there = and_from r.well (list_all (is_among r.scope) slots) well (all_pass (is_among r.scope) slots (λ k h. in_is k r.scope (there k h)))

pub ready_read : {n : ℕ} {known : List ℕ} {r : Reading} (slots : List ℕ) → Within slots known → Ready n known r → Ready n known (read slots r)
ready_read {n} {known} {r} slots all ready = record { well = read_well r slots ready.well (λ k h. ready.there k (all k h)); below = ready.below; there = ready.there }

pub within_on : (gained known mid : List ℕ) (r after : Reading) → Within known r.scope → Within gained after.scope → Within r.scope after.scope → Within mid (gained ++ known) → Within mid after.scope
within_on gained known mid r after old new more all k h = ⊎_elim (new k) (λ before. more k (old k before)) (in_either k gained known (all k h))

-- ---- statements

-- what statements made from slot n up to slot m do, where `known` are in scope; behind them `gained` are so too
pub record Kept (own : List ℕ) (n m : ℕ) (known gained : List ℕ) (new : List PStmt) : Type 0 where
  pub grows : n ≤ m
  pub below : Below own n
  pub owned : Owned own n m (gathered targets new) (gathered indices new)
  pub passes : (outside : List ℕ) (r : Reading) → Free own n outside → Ready n known r → Passed own n m gained r (scoped_list outside new r)

pub kept_none : (own : List ℕ) (n : ℕ) (known : List ℕ) → Below own n → Kept own n n known [] []
kept_none own n known below = record {
  grows = omega arith;
  below = below;
  owned = owned_none own n n;
  passes = λ outside r free ready. record { advanced = record { well = ready.well; assigned = λ k old. inl old }; there = λ k none. absurd none; more = λ k h. h };
}

-- what is in scope behind them is so by what they gain or by what was known
pub kept_gained : {own known gained : List ℕ} {n m : ℕ} {new : List PStmt} (total : List ℕ) → Within total (gained ++ known) → Kept own n m known gained new → Kept own n m known total new
kept_gained {own} {known} {gained} {n} {m} {new} total all kept = record {
  grows = kept.grows;
  below = kept.below;
  owned = kept.owned;
  passes = λ outside r free ready.
      let p = kept.passes outside r free ready in
      record { advanced = p.advanced; there = within_on gained known total r (scoped_list outside new r) ready.there p.there p.more all; more = p.more };
}

-- more is in scope in front of them
pub kept_among : {own known gained : List ℕ} {n m : ℕ} {new : List PStmt} (more : List ℕ) → Within known more → Kept own n m known gained new → Kept own n m more gained new
kept_among {own} {known} {gained} {n} {m} {new} more all kept = record {
  grows = kept.grows;
  below = kept.below;
  owned = kept.owned;
  passes = λ outside r free ready. kept.passes outside r free (record { well = ready.well; below = ready.below; there = λ k h. ready.there k (all k h) });
}

-- statements behind others
pub kept_on : {own next known gained mid last : List ℕ} {n m k : ℕ} {new rest : List PStmt} → Widens own next n m → Clear next (gathered indices new) → Within mid (gained ++ known)
    → Kept own n m known gained new → Kept next m k mid last rest → Kept own n k known (last ++ gained) (new ++ rest)
kept_on {own} {next} {known} {gained} {mid} {last} {n} {m} {k} {new} {rest} widens clear all first second = record {
  grows = omega (arith, first.grows, second.grows);
  below = first.below;
  owned = owned_as (gathered-append targets new rest) (gathered-append indices new rest) (owned_on n m k first.grows second.grows first.below widens clear first.owned second.owned);
  passes = λ outside r free ready. subst (λ (x : Reading). Passed own n k (last ++ gained) r x) (sym (scoped_list-append outside new rest r)) (behind outside r free ready);
} where
  behind : (outside : List ℕ) (r : Reading) → Free own n outside → Ready n known r → Passed own n k (last ++ gained) r (scoped_list outside rest (scoped_list outside new r))
  behind outside r free ready =
      let between = scoped_list outside new r in
      let p = first.passes outside r free ready in
      let q = second.passes outside between (free_behind own next outside n m first.grows widens free) (record {
        well = p.advanced.well;
        below = below_behind n m first.grows first.below ready.below p.advanced;
        there = within_on gained known mid r between ready.there p.there p.more all;
      }) in
      record {
        advanced = advanced_on n m k first.grows second.grows widens p.advanced q.advanced;
        there = λ j h. ⊎_elim (q.there j) (λ old. q.more j (p.there j old)) (in_either j last gained h);
        more = λ j h. q.more j (p.more j h);
      }

-- the same where no more may be assigned
pub kept_then : {own known gained mid last : List ℕ} {n m k : ℕ} {new rest : List PStmt} → Within mid (gained ++ known) → Kept own n m known gained new → Kept own m k mid last rest
    → Kept own n k known (last ++ gained) (new ++ rest)
kept_then {own} {known} {gained} {mid} {last} {n} {m} {k} {new} {rest} all first second = kept_on (λ j mine. inl mine) (own_clear first.below first.owned) all first second

-- ---- a statement without lists

pub record IsSimple (kind : PKind) (to : List ℕ) : Type 0 where
  pub walks : (outside : List ℕ) (r : Reading) → scoped outside kind r ≡ assign outside to (read (reads kind) r)
  pub assigns : targets kind ≡ to
  pub no_index : indices kind ≡ []
  pub no_parts : inside kind ≡ []

simple_targets : (at : Place) {kind : PKind} {to : List ℕ} → IsSimple kind to → gathered targets (statement at kind ∷ []) ≡ to
simple_targets at {kind} {to} simple = gathered-one targets at kind ∙ ap₂ (λ (xs : List ℕ) (list : List PStmt). xs ++ each_of targets list) simple.assigns simple.no_parts ∙ append-nil to

pub simple_indices : (at : Place) {kind : PKind} {to : List ℕ} → IsSimple kind to → gathered indices (statement at kind ∷ []) ≡ []
simple_indices at {kind} {to} simple = gathered-one indices at kind ∙ ap₂ (λ (xs : List ℕ) (list : List PStmt). xs ++ each_of indices list) simple.no_index simple.no_parts

module _ (outside to slots : List ℕ) (r : Reading) where
  abbrev behind_it : Reading
  behind_it = assign outside to (read slots r)

  assign_well : r.well ≡ true → Within slots r.scope → ((k : ℕ) → In k to → In k outside → ⊥) → behind_it.well ≡ true
  assign_well well there free =
      and_from (read slots r).well (not (list_any (is_among outside) to)) (read_well r slots well there)
      (not_from_false (list_any (is_among outside) to) (none_pass (is_among outside) to (λ k h. not_in k outside (free k h))))

  assign_assigned : (k : ℕ) → In k behind_it.assigned → In k to ⊎ In k r.assigned
  assign_assigned k h =
      ⊎_elim (λ new. inl (in_filter k (λ j. not (is_among r.assigned j)) to new)) (λ old. inr old)
      (in_either k (filter (λ j. not (is_among r.assigned j)) to) r.assigned h)

  assign_more : Within r.scope behind_it.scope
  assign_more k h = in_right k (filter (λ j. not (is_among r.assigned j)) to) r.scope h

  assign_new : (k : ℕ) → In k to → (In k r.assigned → ⊥) → In k behind_it.scope
  assign_new k h none =
      in_left k (filter (λ j. not (is_among r.assigned j)) to) r.scope
      (in_filtered k (λ j. not (is_among r.assigned j)) to h (not_from_false (is_among r.assigned k) (not_in k r.assigned none)))

-- it assigns slots of `own` alone
pub own_kept : (at : Place) {kind : PKind} {to own known : List ℕ} {n : ℕ} → IsSimple kind to → Within to own → Below own n → Within (reads kind) known → Kept own n n known [] (statement at kind ∷ [])
own_kept at {kind} {to} {own} {known} {n} simple mine below all = record {
  grows = omega arith;
  below = below;
  owned = owned_as (simple_targets at simple) (simple_indices at simple)
      (record { assigns = λ k h. inl (mine k h); made = λ k none. absurd none; different = tt; apart = λ k none. absurd none });
  passes = λ outside r free ready. subst (λ (x : Reading). Passed own n n [] r x) (sym (simple.walks outside r)) (record {
    advanced = record {
      well = assign_well outside to (reads kind) r ready.well (λ k h. ready.there k (all k h)) (λ k h there. (free k there).1 (mine k h));
      assigned = λ k h. ⊎_elim (λ new. inr (inl (mine k new))) (λ old. inl old) (assign_assigned outside to (reads kind) r k h);
    };
    there = λ k none. absurd none;
    more = assign_more outside to (reads kind) r;
  });
}

-- it assigns a slot that was made in front of the statements before it
pub declared_kept : (at : Place) {kind : PKind} {own known gained : List ℕ} {new : List PStmt} (n next m : ℕ) → next ≡ suc n → Below own n → IsSimple kind (n ∷ []) → Within (reads kind) (gained ++ known)
    → Kept own next m known gained new → Kept own n m known (n ∷ gained) (new ++ statement at kind ∷ [])
declared_kept at {kind} {own} {known} {gained} {new} n next m one below simple all kept = record {
  grows = omega (arith, kept.grows);
  below = below;
  owned = owned_as (gathered-append targets new (statement at kind ∷ []) ∙ ap (λ (xs : List ℕ). gathered targets new ++ xs) (simple_targets at simple))
      (gathered-append indices new (statement at kind ∷ []) ∙ ap (λ (xs : List ℕ). gathered indices new ++ xs) (simple_indices at simple))
      (owned_declared n next m one kept.grows kept.owned);
  passes = λ outside r free ready.
      subst (λ (x : Reading). Passed own n m (n ∷ gained) r x) (sym (scoped_list-append outside new (statement at kind ∷ []) r ∙ simple.walks outside (scoped_list outside new r)))
      (behind outside r free ready);
} where
  behind : (outside : List ℕ) (r : Reading) → Free own n outside → Ready n known r → Passed own n m (n ∷ gained) r (assign outside (n ∷ []) (read (reads kind) (scoped_list outside new r)))
  behind outside r free ready =
      let mid = scoped_list outside new r in
      let p = kept.passes outside r (λ k there. let here = free k there in (omega (arith, here.0), here.1)) (record { well = ready.well; below = λ k h. omega (arith, ready.below k h); there = ready.there }) in
      let free_here : (k : ℕ) → In k (n ∷ []) → In k outside → ⊥ =
      λ k h there. let less = (free k there).0 in ⊎_elim (λ (e : n ≡ k). absurd (omega arith)) (λ none. absurd none) h in
      record {
        advanced = record {
          well = assign_well outside (n ∷ []) (reads kind) mid p.advanced.well (within_on gained known (reads kind) r mid ready.there p.there p.more all) free_here;
          assigned = λ k h. assigned_behind r.assigned mid.assigned k (assign_assigned outside (n ∷ []) (reads kind) mid k h) (p.advanced.assigned k);
        };
        there = λ k h. ⊎_elim
            (λ (e : n ≡ k). subst (λ j. In j (assign outside (n ∷ []) (read (reads kind) mid)).scope) e
            (assign_new outside (n ∷ []) (reads kind) mid n (inl refl) (λ there. not_yet r.assigned (p.advanced.assigned n there) (ready.below n))))
            (λ old. assign_more outside (n ∷ []) (reads kind) mid k (p.there k old)) h;
        more = λ k h. assign_more outside (n ∷ []) (reads kind) mid k (p.more k h);
      } where
        assigned_behind : (old mid : List ℕ) (k : ℕ) → In k (n ∷ []) ⊎ In k mid → (In k mid → In k old ⊎ (In k own ⊎ Between next m k)) → In k old ⊎ (In k own ⊎ Between n m k)
        assigned_behind old mid k (inl (inl e)) before = inr (inr (omega arith, omega (arith, kept.grows)))
        assigned_behind old mid k (inl (inr none)) before = absurd none
        assigned_behind old mid k (inr there) before =
            ⊎_elim (λ o. inl o) (λ new. inr (⊎_elim (λ mine. inl mine) (λ b. inr (between_wider next m n m k (omega arith) (omega arith) b)) new)) (before there)

        not_yet : (old : List ℕ) → In n old ⊎ (In n own ⊎ Between next m n) → (In n old → n < n) → ⊥
        not_yet old (inl o) before = absurd (omega (arith, before o))
        not_yet old (inr (inl mine)) before = absurd (omega (arith, below n mine))
        not_yet old (inr (inr b)) before = absurd (omega (arith, b.0))
