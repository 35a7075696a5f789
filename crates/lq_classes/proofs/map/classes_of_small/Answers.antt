use Rattle.std.proofs.Common.{◌≡◌, ℕ, Bool, List, length, arith, ap, sym, subst, ◌∙◌}
use Rattle.std.specs.Prelude.{Contains}
use Rattle.std.specs.List.{flat_map}
use Rattle.lq_classes.specs.declared.links.Link.{Link}
use Rattle.lq_classes.specs.declared.links.Link.TheVariants.{Access as Accesses}
use Rattle.lq_classes.specs.Classes.{AreClasses}
use Rattle.lq_classes.specs.Layout.{total, pointers, parts_of}
use Rattle.lq_classes.specs.Links.{links_from}
use Rattle.lq_classes.specs.declared.var.Var.{Var}
use Rattle.lq_classes.specs.Joins.{pairs_of, AreLabelsOf}
use Rattle.lq_classes.specs.Numbers.{AreNumbers}
use Rattle.lq_classes.proofs.ClassLemmas.{small_places, classes_are}
use Rattle.lq_classes.proofs.map.classes_of_small.Goals as goal

pub joined-requires-clause-count : goal.joined-requires-clause-count
joined-requires-clause-count c = let h = c.len-count.ensures in let k = c.in_ok-pointers.pointers.ok in omega (arith, h, c.in_ok-pointers.ensures.size, k)

pub invariant_of-places-clause-small : goal.invariant_of-places-clause-small
invariant_of-places-clause-small c =
    let h = c.len-count.ensures in let k = c.in_ok-pointers.pointers.ok in
    small_places c.args.program.now c.len-count.result c.fields_of-fields.result c.requires (omega (arith, h, c.in_ok-pointers.ensures.size, k)) c.fields_of-fields.ensures.few

pub joined-requires-clause-fields : goal.joined-requires-clause-fields
joined-requires-clause-fields c = λ base field value has.
    c.fields_of-fields.ensures.enough base field value (subst (λ (ls : List Link). Contains ls (Accesses base field value)) (c.as_slice-3.ensures.value ∙ sym c.as_slice.ensures.value) has)

pub numbers_of-requires-clause-few : goal.numbers_of-requires-clause-few
numbers_of-requires-clause-few c = let g = ap length c.as_slice-4.ensures.value ∙ c.in_ok-pointers.ensures.size in omega (arith, g, c.requires)

pub rows_of-requires-clause-size : goal.rows_of-requires-clause-size
rows_of-requires-clause-size c = ap length c.as_slice-6.ensures.value ∙ c.in_ok-numbers.ensures.count ∙ ap length c.as_slice-4.ensures.value ∙ c.in_ok-pointers.ensures.size

pub returns : goal.returns
returns c =
    let p = c.args.program.now in
    let fields = c.fields_of-fields.result in
    let labels = c.in_ok-labels.labels.items in
    let numbers = c.in_ok-numbers.numbers.items in
    let all : c.len-count.result ≡ total p.funcs = (let h = c.len-count.ensures in let k = c.in_ok-pointers.pointers.ok in omega (arith, h, c.in_ok-pointers.ensures.size, k)) in
    let links = c.as_slice-3.ensures.value ∙ c.in_ok-links.ensures in
    let labelled = subst (λ n. AreLabelsOf (flat_map (pairs_of p n) (links_from p 0 p.funcs)) n fields labels) all
    (subst (λ (ls : List Link). AreLabelsOf (flat_map (pairs_of p c.len-count.result) ls) c.len-count.result fields labels) links c.in_ok-labels.ensures) in
    let numbered = subst (λ (ls : List ℕ). AreNumbers (pointers p.funcs) ls numbers) c.as_slice-5.ensures.value
    (subst (λ (bs : List Bool). AreNumbers bs c.as_slice-5.result.now numbers) (c.as_slice-4.ensures.value ∙ c.in_ok-pointers.ensures.each) c.in_ok-numbers.ensures) in
    let enough = λ (base : Var) (field : ℕ) (value : Var) (has : Contains (links_from p 0 p.funcs) (Accesses base field value)).
    c.fields_of-fields.ensures.enough base field value (subst (λ (ls : List Link). Contains ls (Accesses base field value)) (sym (c.as_slice.ensures.value ∙ c.in_ok-links.ensures)) has) in
    subst (λ (rows : List (List ℕ)). AreClasses p rows) (sym (c.in_ok-rows.ensures ∙ ap (parts_of p.funcs) c.as_slice-6.ensures.value)) (classes_are p fields labels numbers labelled enough numbered)
