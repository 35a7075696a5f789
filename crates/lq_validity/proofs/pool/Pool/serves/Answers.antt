use Rattle.std.proofs.Common.{◌⊎◌, inl, inr, arith}
use Rattle.std.proofs.lemmas.Bool.{both_ways}
use Rattle.lq_validity.specs.declared.pool.Multiple.{Multiple}
use Rattle.lq_validity.specs.Marks.{IsMarked}
use Rattle.lq_validity.specs.Sum.{plus}
use Rattle.lq_validity.specs.Table.{CompletesSome}
use Rattle.lq_validity.specs.Pool.{no_multiple}
use Rattle.lq_validity.proofs.TableLemmas.{nowhere}
use Rattle.lq_validity.proofs.pool.Pool.serves.Goals as goal
use Rattle.lq_validity.proofs.pool.Pool.serves.Goals.{else-is_marked-via-then-is_marked+else-completes_some, else-is_marked-via-else-is_marked}

pub returns : goal.returns
returns c = λ s. absurd (elim s [
  | inl h ↦ elim c.else-is_marked.branch [
    | else-is_marked-via-then-is_marked+else-completes_some w ↦ both_ways _ w.if-completes_some.false (w.completes_some.ensures h.1)
    | else-is_marked-via-else-is_marked w ↦ both_ways _ w.if-is_marked.false (c.is_marked.ensures.1 h.0)
  ]
  | inr h ↦ nowhere (λ (b : Multiple). (IsMarked c.args.leads.now c.args.multiple.number ⊎ IsMarked c.args.leads.now b.number) × CompletesSome c.args.self.now.table c.args.wanted.now (plus c.args.multiple.sum b.sum))
      c.args.self.now.multiples.items no_multiple
      (λ k l p. c.loop-other.invariant k (omega (arith, l, c.loop-other-test.false, c.deref-other-items.ensures.len)) p.0 p.1) h.0 h.1 (h.2, h.3)
])
