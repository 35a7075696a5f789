-- What plain statements that hold lists do to slots.
use Rattle.std.proofs.Common.{◌≡◌, ℕ, suc, ◌<◌, ◌≤◌, ℤ, List, [], ◌∷◌, ◌++◌, inl, inr, ⊎_elim, refl, sym, ap, ◌∙◌, subst, arith}
use Rattle.lq_tree.specs.declared.place.Place.{Place}
use Rattle.lq_tree.specs.declared.plain.PExpr.{PExpr}
use Rattle.lq_tree.specs.declared.plain.PKind.{PKind, If, While, Cobegin, Foreach}
use Rattle.lq_tree.specs.declared.plain.PStmt.{PStmt}
use Rattle.lq_tree.specs.declared.plain.Branch.{Branch, roll-Branch}
use Rattle.lq_tree.specs.PlainWalk.{statement, within_branch, slots_read, targets, indices}
use Rattle.lq_tree.specs.PlainScopes.{Reading, read, closed, with_index, scoped, scoped_branch}
use Rattle.lq_plain.proofs.SlotSets.{In, Within}
use Rattle.lq_plain.proofs.PlainLists.{scoped_list, scoped_list-append, behind_first, scoped-if, behind_test, scoped-while, scoped_branch-list, scoped_each, scoped-cobegin, within_branch-list, inside-if, inside-while, within_each, inside-cobegin, each_of, each_of-append, gathered, gathered-append, gathered-one, gathered-two}
use Rattle.lq_plain.proofs.SlotsKept.{between_wider, Below, Widens, Owned, own_clear, owned_none, owned_as, owned_more, owned_on, owned_indexed, Free, free_behind, Ready, Advanced, Passed, advanced_on, below_behind, advanced_closed, advanced_from, read_well, ready_read, within_on, Kept}

-- no more may be assigned
same_own : (own : List ℕ) (n m : ℕ) → Widens own own n m
same_own own n m k mine = inl mine

-- a list in a scope of its own: behind it the scope is that in front of it
module _ {own known gained : List ℕ} {n m : ℕ} {new : List PStmt} (kept : Kept own n m known gained new) where
  within_list : (outside : List ℕ) (r from : Reading) → r.assigned ≡ from.assigned → Free own n outside → Ready n known from → Advanced own n m r (closed r (scoped_list outside new from))
  within_list outside r from same free ready = advanced_closed r (advanced_from (sym same) (kept.passes outside from free ready).advanced)

  -- what comes behind such a list
  ready_behind : {r after : Reading} → Within known after.scope → ((k : ℕ) → In k r.assigned → k < n) → Advanced own n m r after → Ready m known after
  ready_behind {r} {after} there below advanced = record { well = advanced.well; below = below_behind n m kept.grows kept.below below advanced; there = there }

module _ {own known gained last : List ℕ} {n m k : ℕ} {first second : List PStmt} (at : Place) (e : PExpr) (a : Kept own n m known gained first) (b : Kept own m k known last second) where
  both_owned : Owned own n k (gathered targets first ++ gathered targets second) (gathered indices first ++ gathered indices second)
  both_owned = owned_on n m k a.grows b.grows a.below (same_own own n m) (own_clear a.below a.owned) a.owned b.owned

  pub if_kept : Within (slots_read e) known → Kept own n k known [] (statement at (If e first second) ∷ [])
  if_kept all = record {
    grows = omega (arith, a.grows, b.grows);
    below = a.below;
    owned = owned_as (gathered-two targets at (If e first second) first second refl (inside-if e first second)) (gathered-two indices at (If e first second) first second refl (inside-if e first second)) both_owned;
    passes = λ outside r free ready. subst (λ (x : Reading). Passed own n k [] r x) (sym (scoped-if outside e first second r)) (behind outside r free ready);
  } where
    behind : (outside : List ℕ) (r : Reading) → Free own n outside → Ready n known r → Passed own n k [] r (closed r (scoped_list outside second (behind_first outside e first r)))
    behind outside r free ready =
        let one = behind_first outside e first r in
        let p : Advanced own n m r one = within_list a outside r (read (slots_read e) r) refl free (ready_read (slots_read e) all ready) in
        let q : Advanced own m k one (closed one (scoped_list outside second one)) =
        within_list b outside one one refl (free_behind own own outside n m a.grows (same_own own n m) free) (ready_behind a ready.there ready.below p) in
        record {
          advanced = advanced_closed r (advanced_on n m k a.grows b.grows (same_own own n m) p q);
          there = λ j none. absurd none;
          more = λ j h. h;
        }

  pub while_kept : Within (slots_read e) (gained ++ known) → Kept own n k known [] (statement at (While first e second) ∷ [])
  while_kept all = record {
    grows = omega (arith, a.grows, b.grows);
    below = a.below;
    owned = owned_as (gathered-two targets at (While first e second) first second refl (inside-while first e second)) (gathered-two indices at (While first e second) first second refl (inside-while first e second)) both_owned;
    passes = λ outside r free ready. subst (λ (x : Reading). Passed own n k [] r x) (sym (scoped-while outside first e second r)) (behind outside r free ready);
  } where
    behind : (outside : List ℕ) (r : Reading) → Free own n outside → Ready n known r → Passed own n k [] r (closed r (scoped_list outside second (closed r (behind_test outside first e r))))
    behind outside r free ready =
        let head = scoped_list outside first r in
        let h = a.passes outside r free ready in
        let one = closed r (behind_test outside first e r) in
        let p : Advanced own n m r one = record {
          well = read_well head (slots_read e) h.advanced.well (within_on gained known (slots_read e) r head ready.there h.there h.more all);
          assigned = h.advanced.assigned;
        } in
        let q : Advanced own m k one (closed one (scoped_list outside second one)) =
        within_list b outside one one refl (free_behind own own outside n m a.grows (same_own own n m) free) (ready_behind a ready.there ready.below p) in
        record {
          advanced = advanced_closed r (advanced_on n m k a.grows b.grows (same_own own n m) p q);
          there = λ j none. absurd none;
          more = λ j h. h;
        }

-- ---- branches

-- what has been assigned in front of a branch is from outside it
outside_free : {n : ℕ} {known : List ℕ} {r : Reading} → Ready n known r → Free [] n r.assigned
outside_free ready k h = (ready.below k h, λ none. absurd none)

branch_passes : {n m : ℕ} {known gained : List ℕ} {body : List PStmt} (at : Place) → Kept [] n m known gained body → (r : Reading) → Ready n known r
    → Passed [] n m [] r (scoped_branch (roll-Branch (record { at = at; body = body })) r)
branch_passes {n} {m} {known} {gained} {body} at kept r ready =
    subst (λ (x : Reading). Passed [] n m [] r x) (sym (scoped_branch-list at body r))
    (record { advanced = within_list kept r.assigned r r refl (outside_free ready) ready; there = λ j none. absurd none; more = λ j h. h })

gathered-branch : (f : PKind → List ℕ) (at : Place) (body : List PStmt) → each_of f (within_branch (roll-Branch (record { at = at; body = body }))) ≡ gathered f body
gathered-branch f at body = ap (each_of f) (within_branch-list at body)

-- branches beside each other, made from slot n up to slot m
pub record Branched (n m : ℕ) (known : List ℕ) (blocks : List Branch) : Type 0 where
  pub grows : n ≤ m
  pub owned : Owned [] n m (each_of targets (within_each blocks)) (each_of indices (within_each blocks))
  pub passes : (r : Reading) → Ready n known r → Passed [] n m [] r (scoped_each blocks r)

pub branched_none : (n : ℕ) (known : List ℕ) → Branched n n known []
branched_none n known = record {
  grows = omega arith;
  owned = owned_none [] n n;
  passes = λ r ready. record { advanced = record { well = ready.well; assigned = λ k old. inl old }; there = λ k none. absurd none; more = λ k h. h };
}

pub branched_more : {n m k : ℕ} {known gained : List ℕ} {body : List PStmt} {blocks : List Branch} (at : Place) → Kept [] n m known gained body → Branched m k known blocks
    → Branched n k known (roll-Branch (record { at = at; body = body }) ∷ blocks)
branched_more {n} {m} {k} {known} {gained} {body} {blocks} at kept rest = record {
  grows = omega (arith, kept.grows, rest.grows);
  owned = owned_as (one targets) (one indices) (owned_on n m k kept.grows rest.grows kept.below (same_own [] n m) (own_clear kept.below kept.owned) kept.owned rest.owned);
  passes = λ r ready.
      let p = branch_passes at kept r ready in
      let mid = scoped_branch (roll-Branch (record { at = at; body = body })) r in
      let q = rest.passes mid (record {
        well = p.advanced.well;
        below = below_behind n m kept.grows kept.below ready.below p.advanced;
        there = λ j h. p.more j (ready.there j h);
      }) in
      record { advanced = advanced_on n m k kept.grows rest.grows (same_own [] n m) p.advanced q.advanced; there = λ j none. absurd none; more = λ j h. q.more j (p.more j h) };
} where
  one : (f : PKind → List ℕ) → each_of f (within_branch (roll-Branch (record { at = at; body = body })) ++ within_each blocks) ≡ gathered f body ++ each_of f (within_each blocks)
  one f = each_of-append f (within_branch (roll-Branch (record { at = at; body = body }))) (within_each blocks) ∙ ap (λ (xs : List ℕ). xs ++ each_of f (within_each blocks)) (gathered-branch f at body)

-- what assigns nothing from outside keeps to any slots that may be assigned
passed_more : {own gained : List ℕ} {n m : ℕ} {r after : Reading} → Passed [] n m gained r after → Passed own n m gained r after
passed_more {own} {gained} {n} {m} {r} {after} p = record {
  advanced = record { well = p.advanced.well; assigned = λ k h. ⊎_elim (λ old. inl old) (λ new. ⊎_elim (λ none. absurd none) (λ b. inr (inr b)) new) (p.advanced.assigned k h) };
  there = p.there;
  more = p.more;
}

pub cobegin_kept : {n m : ℕ} {own known : List ℕ} {blocks : List Branch} (at : Place) → Below own n → Branched n m known blocks → Kept own n m known [] (statement at (Cobegin blocks) ∷ [])
cobegin_kept {n} {m} {own} {known} {blocks} at below all = record {
  grows = all.grows;
  below = below;
  owned = owned_as (gathered-one targets at (Cobegin blocks) ∙ ap (each_of targets) (inside-cobegin blocks)) (gathered-one indices at (Cobegin blocks) ∙ ap (each_of indices) (inside-cobegin blocks)) (owned_more all.owned);
  passes = λ outside r free ready. subst (λ (x : Reading). Passed own n m [] r x) (sym (scoped-cobegin outside blocks r)) (passed_more (all.passes r ready));
}

-- the statement over a branch
abbrev each_index : (at at' : Place) → (n : ℕ) (step : ℤ) (low high : PExpr) → List PStmt → PStmt
each_index at at' n step low high body = statement at (Foreach n low high step (roll-Branch (record { at = at'; body = body })))

-- an index has a slot of its own in front of the ends, and is in scope in the branch alone
pub foreach_kept : {n next m k : ℕ} {own known gained last : List ℕ} {new body : List PStmt} (at at' : Place) (step : ℤ) (low high : PExpr) → next ≡ suc n → Below own n → Within (slots_read low ++ slots_read high) (gained ++ known)
    → Kept own next m known gained new → Kept [] m k (n ∷ known) last body → Kept own n k known gained (new ++ statement at (Foreach n low high step (roll-Branch (record { at = at'; body = body }))) ∷ [])
foreach_kept {n} {next} {m} {k} {own} {known} {gained} {last} {new} {body} at at' step low high one below all ends kept = record {
  grows = omega (arith, ends.grows, kept.grows);
  below = below;
  owned = owned_as (gathered-append targets new (each_index at at' n step low high body ∷ []) ∙ ap (λ (xs : List ℕ). gathered targets new ++ xs) (gathered-one targets at (each_index at at' n step low high body).kind ∙ gathered-branch targets at' body))
      (gathered-append indices new (each_index at at' n step low high body ∷ []) ∙ ap (λ (xs : List ℕ). gathered indices new ++ xs) (gathered-one indices at (each_index at at' n step low high body).kind ∙ ap (λ (xs : List ℕ). n ∷ xs) (gathered-branch indices at' body)))
      (owned_indexed n next m k one ends.grows kept.grows below ends.owned kept.owned);
  passes = λ outside r free ready. subst (λ (x : Reading). Passed own n k gained r x) (sym (scoped_list-append outside new (each_index at at' n step low high body ∷ []) r)) (behind outside r free ready);
} where
  behind : (outside : List ℕ) (r : Reading) → Free own n outside → Ready n known r → Passed own n k gained r (scoped outside (each_index at at' n step low high body).kind (scoped_list outside new r))
  behind outside r free ready =
      let mid = scoped_list outside new r in
      let p = ends.passes outside r (λ j there. let here = free j there in (omega (arith, here.0), here.1)) (record { well = ready.well; below = λ j h. omega (arith, ready.below j h); there = ready.there }) in
      let inner = with_index n (read (slots_read low ++ slots_read high) mid) in
      let below_mid : (j : ℕ) → In j mid.assigned → j < m =
      below_behind next m ends.grows (λ j mine. omega (arith, below j mine)) (λ j h. omega (arith, ready.below j h)) p.advanced in
      let q = branch_passes at' kept inner (record {
        well = read_well mid (slots_read low ++ slots_read high) p.advanced.well (within_on gained known (slots_read low ++ slots_read high) r mid ready.there p.there p.more all);
        below = below_mid;
        there = λ j h. ⊎_elim (λ here. inl here) (λ old. inr (p.more j (ready.there j old))) h;
      }) in
      let after = scoped_branch (roll-Branch (record { at = at'; body = body })) inner in
      record {
        advanced = record {
          well = q.advanced.well;
          assigned = λ j h. ⊎_elim
              (λ old. ⊎_elim (λ before. inl before) (λ mine. inr (⊎_elim (λ o. inl o) (λ b. inr (between_wider next m n k j (omega arith) kept.grows b)) mine)) (p.advanced.assigned j old))
              (λ fresh. inr (⊎_elim (λ none. absurd none) (λ b. inr (between_wider m k n k j (omega (arith, ends.grows)) (omega arith) b)) fresh)) (q.advanced.assigned j h);
        };
        there = p.there;
        more = p.more;
      }
