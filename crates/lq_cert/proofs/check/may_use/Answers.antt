use Rattle.std.proofs.Common.{◌≡◌, ◌+◌, length, get_or, take, reverse, true, ap, ◌∙◌, subst, arith, length-take}
use Rattle.std.specs.Prelude.{◌↔◌}
use Rattle.std.proofs.lemmas.Bool.{false≢true}
use Rattle.lq_linear.specs.Row.{IsBounded, nothing}
use Rattle.lq_linear.specs.Item.{rows_of}
use Rattle.lq_linear.specs.declared.item.Item.{Item}
use Rattle.lq_validity.specs.Derives.{divisions, division_count}
use Rattle.lq_cert.specs.Right.{HasEntry}
use Rattle.lq_cert.proofs.PlaceLemmas.{divisions_total, total_at_most, one_at_most}
use Rattle.lq_cert.proofs.UseLemmas.{use_located, located_use, located_before, located_item, located_few}
use Rattle.lq_cert.proofs.check.may_use.Goals as goal

pub overflow_add-count_divisions : goal.overflow_add-count_divisions
overflow_add-count_divisions c =
    let items = c.args.items.now in
    let at = c.in-Some.ensures in
    let front = take c.in-Some.index items in
    omega (arith, c.count_divisions.ensures, divisions_total front, total_at_most division_count front one_at_most, length-take c.in-Some.index items, at.indexed, located_few items at.before at.after at.item at.parts)

pub returns-in-None : goal.returns-in-None
returns-in-None c = (λ e. absurd (false≢true e), λ h. absurd (c.in-None.ensures (length h.before) h.place (located_use c.args.exacts.now c.args.items.now c.args.number h)))

pub returns-in-Some : goal.returns-in-Some
returns-in-Some c =
    let items = c.args.items.now in
    let entries = c.args.exacts.now in
    let at = c.in-Some.ensures in
    let front : take c.in-Some.index items ≡ at.before = located_before items at.before at.after at.item c.in-Some.index at.parts at.indexed in
    let item : c.index-items-index.result ≡ at.item = located_item items at.before at.after at.item c.index-items-index.result c.in-Some.index at.parts at.indexed c.index-items-index.is in
    use_located entries items c.args.number c.in-Some.index c.in-Some.place at c.has_entry-exact.result c.is_row_fact.result
    (subst (λ n. (c.has_entry-exact.result ≡ true) ↔ HasEntry entries (n + 1)) (c.count_divisions.ensures ∙ ap (λ l. divisions (reverse l)) front) c.has_entry-exact.ensures)
    (subst (λ (x : Item). (c.is_row_fact.result ≡ true) ↔ (IsBounded (get_or (rows_of x) c.in-Some.place nothing) × (c.in-Some.place ≡ 2 → c.has_entry-exact.result ≡ true))) item c.is_row_fact.ensures)
