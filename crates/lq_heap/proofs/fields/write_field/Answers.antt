use Rattle.std.proofs.Common.{List, sym, ap, ◌∙◌, slice_set}
use Rattle.lq_symbolic.specs.declared.state.Opened.{Opened}
use Rattle.lq_heap.proofs.OpenLists.{changed_where_found, changed_not_found}
use Rattle.lq_heap.proofs.fields.write_field.Goals as goal

pub returns-in-Some : goal.returns-in-Some
returns-in-Some c =
    let s = c.args.state.now in
    ap (λ (opened : List Opened). record s { opened = opened })
    (changed_where_found c.args.class c.in-Some.at (λ fields. slice_set fields c.args.field c.args.value) s.opened c.put.new.self (rw c.as_slice.ensures at c.in-Some.ensures) c.put.ensures)

pub returns-in_default : goal.returns-in_default
returns-in_default c =
    let s = c.args.state.now in
    ap (λ (opened : List Opened). record s { opened = opened })
    (changed_not_found c.args.class (λ fields. slice_set fields c.args.field c.args.value) s.opened (sym c.in_default.is ∙ (rw c.as_slice.ensures at c.place_of.ensures)))
