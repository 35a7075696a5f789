use Rattle.std.proofs.Common.{◌≡◌, ◌≤◌, List, length, sym, ap, ◌∙◌, pos, slice_get, rules}
use Rattle.std.proofs.lemmas.Option.{slice_get_past}
use Rattle.lq_linear.specs.Form.{Linear}
use Rattle.lq_linear.specs.Collect.{constant}
use Rattle.lq_symbolic.specs.declared.value.SymValue.{SymValue}
use Rattle.lq_symbolic.specs.declared.value.SymValue.TheVariants.{Int as OfInt}
use Rattle.lq_symbolic.proofs.Given.{past_end}
use Rattle.lq_heap.specs.Records.{opened_of, fields_in}
use Rattle.lq_heap.proofs.fields.read_field.Goals as goal

pub returns-in_ok-zero-in-None : goal.returns-in_ok-zero-in-None
returns-in_ok-zero-in-None c =
    let fields = fields_in (opened_of c.args.class c.args.state.now.opened) in
    let same : c.fields_in.result.now ≡ fields = search rules in
    let past : length c.fields_in.result.now ≤ c.args.field = search rules in
    ap (λ (form : Linear). OfInt form) c.in_ok-zero-in-None.ensures ∙
    past_end fields c.args.field (OfInt (constant (pos 0)))
    (sym (slice_get_past c.fields_in.result.now c.args.field past) ∙ ap (λ (l : List SymValue). slice_get l c.args.field) same)
