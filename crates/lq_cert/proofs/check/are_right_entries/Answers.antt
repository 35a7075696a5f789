use Rattle.std.proofs.Common.{◌+◌, ◌∷◌, drop, refl, sym, subst, arith}
use Rattle.std.proofs.lemmas.Bool.{false≢true, both_ways}
use Rattle.std.proofs.lemmas.List.{drop_all}
use Rattle.lq_linear.specs.Certificate.{Exactness}
use Rattle.lq_cert.specs.Right.{IsRightEntry}
use Rattle.lq_cert.proofs.RisingLemmas.{RisesFrom, drop_at, rises, rises_all, rises_ascend}
use Rattle.lq_cert.proofs.check.are_right_entries.Goals as goal
use Rattle.lq_cert.proofs.check.are_right_entries.Goals.{then-item_of-least-via-then-item_of-least, then-item_of-least-via-else-item_of-least+then-not-is_right_entry}

pub returns-then-item_of-least : goal.returns-then-item_of-least
returns-then-item_of-least c =
    let entries = c.args.exacts.now in
    let i = c.loop-exact.exact-index in
    let entry = c.exact-item.result in (
      λ e. absurd (false≢true e),
      λ h.
          let rising : RisesFrom (λ (e : Exactness). e.item) (IsRightEntry entries c.args.items.now) c.loop-exact.least (entry ∷ drop (i + 1) entries)
          = subst (RisesFrom (λ (e : Exactness). e.item) (IsRightEntry entries c.args.items.now) c.loop-exact.least) (drop_at entries i entry c.loop-exact-test.true c.exact-item.is)
          (c.loop-exact.invariant.part (rises (λ (e : Exactness). e.item) (IsRightEntry entries c.args.items.now) entries h.0 h.1)) in
          elim c.then-item_of-least.branch [
            | then-item_of-least-via-then-item_of-least w ↦ absurd (omega (arith, rising.0, w.if-item_of-least.true, c.item_of.ensures.item))
            | then-item_of-least-via-else-item_of-least+then-not-is_right_entry w ↦ absurd (both_ways _ w.if-not-is_right_entry.true (w.is_right_entry.ensures.1 rising.1))
          ],
    )

pub returns : goal.returns
returns c =
    let entries = c.args.exacts.now in
    let rising : RisesFrom (λ (e : Exactness). e.item) (IsRightEntry entries c.args.items.now) 0 entries
    = c.loop-exact.invariant.whole (subst (RisesFrom (λ (e : Exactness). e.item) (IsRightEntry entries c.args.items.now) c.loop-exact.least) (sym (drop_all c.loop-exact.exact-index entries c.loop-exact-test.false)) tt) in
    (λ _. (rises_ascend (λ (e : Exactness). e.item) (IsRightEntry entries c.args.items.now) 0 entries rising, rises_all (λ (e : Exactness). e.item) (IsRightEntry entries c.args.items.now) 0 entries rising), λ _. refl)
