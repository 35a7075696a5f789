use Rattle.std.proofs.Common.{refl, sym, ap, ◌∙◌, arith}
use Rattle.std.proofs.lemmas.Bool.{false≢true}
use Rattle.lq_linear.specs.Certificate.{Exactness}
use Rattle.lq_cert.proofs.RisingLemmas.{entry_at, no_entry}
use Rattle.lq_cert.proofs.check.has_entry.Goals as goal

pub returns-then-item_of-number : goal.returns-then-item_of-number
returns-then-item_of-number c =
    (λ _. entry_at c.args.exacts.now c.loop-exact.exact-index c.args.number c.exact-item.result c.loop-exact-test.true (ap (λ (e : Exactness). e.item) (sym c.exact-item.is) ∙ sym c.item_of.ensures.item ∙ c.if-item_of-number.true), λ _. refl)

pub returns : goal.returns
returns c = (λ e. absurd (false≢true e), λ h. absurd (no_entry c.args.exacts.now c.args.number (λ k d l q. c.loop-exact.invariant k d (omega (arith, c.loop-exact-test.false, l)) q) h))
