use Rattle.std.proofs.Common.{[], ◌∷◌, ◌++◌, take, sym, ap, ◌∙◌, append-nil}
use Rattle.std.proofs.lemmas.List.{take_more, take_all}
use Rattle.lq_linear.specs.Item.{rows_of}
use Rattle.lq_linear.proofs.ItemLemmas.{rows_in, rows-reverse}
use Rattle.lq_validity.proofs.RowLemmas.{rows_in-append}
use Rattle.lq_validity.proofs.rows.fetch_rows.Goals as goal

pub loop-item-preserved : goal.loop-item-preserved
loop-item-preserved c =
    let items = c.args.items.now in
    let i = c.loop-item.item-index in
    let item = c.item-item.result in
    let next = take_more items i item c.loop-item-test.true ∙ ap (λ x. take i items ++ x ∷ []) (sym c.item-item.is) in
    c.in_ok-push_rows.ensures ∙ ap (λ l. l ++ rows_of item) c.loop-item.invariant ∙ ap (λ l. rows_in (take i items) ++ l) (sym (append-nil (rows_of item)))
    ∙ sym (rows_in-append (take i items) (item ∷ [])) ∙ ap rows_in (sym next)

pub returns : goal.returns
returns c = c.loop-item.invariant ∙ ap rows_in (take_all c.loop-item.item-index c.args.items.now c.loop-item-test.false) ∙ sym (rows-reverse c.args.items.now)
