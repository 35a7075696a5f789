use Rattle.std.proofs.Common.{◌≡◌, true, List, take, length, sym, ap, ◌∙◌, subst}
use Rattle.std.proofs.lemmas.Bool.{false≢true}
use Rattle.std.specs.Prelude.{◌↔◌}
use Rattle.lq_linear.specs.Row.{Inequality}
use Rattle.lq_linear.specs.Item.{dividend_row}
use Rattle.lq_linear.specs.Certificate.{Exactness}
use Rattle.lq_linear.specs.declared.item.Item.{Item}
use Rattle.lq_cert.specs.Right.{IsRight, IsRightEntry}
use Rattle.lq_cert.proofs.UseLemmas.{located_entry, entry_located, located_before, located_item}
use Rattle.lq_cert.proofs.check.is_right_entry.Goals as goal

pub returns-in-None : goal.returns-in-None
returns-in-None c = (
  λ e. absurd (false≢true e),
  λ h.
      let entry : Exactness = record { item = c.exact.inside.item; combination = c.exact.inside.combo } in
      let right : IsRightEntry c.args.exacts.now c.args.items.now entry = subst (IsRightEntry c.args.exacts.now c.args.items.now) (sym c.exact.view_is) h in
      absurd (c.in-None.ensures (length right.before) (located_entry c.args.exacts.now c.args.items.now entry right)),
)

pub returns-in-Some : goal.returns-in-Some
returns-in-Some c =
    let items = c.args.items.now in
    let entries = c.args.exacts.now in
    let at = c.in-Some.ensures in
    let entry : Exactness = record { item = c.exact.inside.item; combination = c.exact.inside.combo } in
    let front : take c.in-Some.index items ≡ at.before = located_before items at.before at.after at.item c.in-Some.index at.parts at.indexed in
    let item : c.index-items-index.result ≡ at.item = located_item items at.before at.after at.item c.index-items-index.result c.in-Some.index at.parts at.indexed c.index-items-index.is in
    let Right : List Item → Inequality → Type 0 = λ l g. (c.is_right.result ≡ true) ↔ IsRight entries l g c.exact.inside.combo in
    let right = subst (λ l. Right l (dividend_row at.item)) front (subst (Right (take c.in-Some.index items)) (c.dividend_row.ensures ∙ ap dividend_row item) c.is_right.ensures) in
    subst (λ e. (c.is_right.result ≡ true) ↔ IsRightEntry entries items e) c.exact.view_is (entry_located entries items entry c.in-Some.index c.exact.invariant at c.is_right.result right)
