use Rattle.std.proofs.Common.{◌+◌, ◌-◌, ◌∷◌, drop, get_or, sym, ap, ◌∙◌, arith}
use Rattle.std.proofs.lemmas.List.{drop_all}
use Rattle.lq_linear.specs.Row.{nothing}
use Rattle.lq_linear.specs.Item.{rows_of}
use Rattle.lq_linear.proofs.ItemLemmas.{rows_in, rows-reverse, get_left, get_right, drop_item}
use Rattle.lq_linear.proofs.item.row_at.Goals as goal

pub returns-then-place-count : goal.returns-then-place-count
returns-then-place-count c =
    let items = c.args.items.now in
    let i = c.loop-item.item-index in
    let parts = drop_item items i c.item-item.result c.loop-item-test.true ∙ ap (λ x. x ∷ drop (i + 1) items) (sym c.item-item.is) in
    c.row.ensures ∙ sym (ap (λ l. get_or l (c.args.number - 1) nothing) (rows-reverse items) ∙ c.loop-item.invariant
    ∙ ap (λ l. get_or (rows_in l) c.loop-item.place nothing) parts ∙ get_left (rows_of c.item-item.result) (rows_in (drop (i + 1) items)) c.loop-item.place nothing (omega (arith, c.count-count.ensures)))

pub loop-item-preserved : goal.loop-item-preserved
loop-item-preserved c =
    let items = c.args.items.now in
    let i = c.loop-item.item-index in
    let parts = drop_item items i c.item-item.result c.loop-item-test.true ∙ ap (λ x. x ∷ drop (i + 1) items) (sym c.item-item.is) in
    c.loop-item.invariant ∙ ap (λ l. get_or (rows_in l) c.loop-item.place nothing) parts
    ∙ get_right (rows_of c.item-item.result) (rows_in (drop (i + 1) items)) c.loop-item.place nothing (omega (arith, c.count-count.ensures))
    ∙ ap (λ n. get_or (rows_in (drop (i + 1) items)) (c.loop-item.place - n) nothing) (sym c.count-count.ensures)

pub returns : goal.returns
returns c =
    c.nothing.ensures ∙ sym (ap (λ l. get_or l (c.args.number - 1) nothing) (rows-reverse c.args.items.now) ∙ c.loop-item.invariant
    ∙ ap (λ l. get_or (rows_in l) c.loop-item.place nothing) (drop_all c.loop-item.item-index c.args.items.now c.loop-item-test.false))
