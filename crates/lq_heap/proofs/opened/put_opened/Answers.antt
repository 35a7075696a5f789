use Rattle.std.proofs.Common.{sym, ◌∙◌, true, false}
use Rattle.lq_heap.proofs.OpenLists.{put_found, place_within}
use Rattle.lq_heap.proofs.opened.put_opened.Goals as goal

pub insert-requires : goal.insert-requires
insert-requires c = place_within c.args.opened.class c.before-at.result c.args.records.now (rw c.as_slice.ensures at c.before-at.ensures)

pub returns-then-is_of : goal.returns-then-is_of
returns-then-is_of c =
    let place = rw c.as_slice.ensures at c.before-at.ensures in
    let test = rw c.as_slice-2.ensures at c.is_of.ensures in
    c.set.ensures ∙ put_found c.args.opened c.args.records.now c.before-at.result true place (sym c.if-is_of.true ∙ test)

pub returns-else-is_of : goal.returns-else-is_of
returns-else-is_of c =
    let place = rw c.as_slice.ensures at c.before-at.ensures in
    let test = rw c.as_slice-2.ensures at c.is_of.ensures in
    let is = put_found c.args.opened c.args.records.now c.before-at.result false place (sym c.if-is_of.false ∙ test) in
    rw (← is) c.insert.ensures
