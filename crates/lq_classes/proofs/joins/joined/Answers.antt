use Rattle.std.proofs.Common.{List, ℕ, sym, subst, arith, ◌∙◌}
use Rattle.std.specs.List.{flat_map}
use Rattle.lq_classes.specs.declared.joins.Pair.{Pair}
use Rattle.lq_classes.specs.Forest.{AreLabels}
use Rattle.lq_classes.specs.Joins.{pairs_of, AreOnWay}
use Rattle.lq_classes.proofs.Results.{if_ok_weaker}
use Rattle.lq_classes.proofs.JoinLemmas.{start_on_way, labels_all}
use Rattle.lq_classes.proofs.PairLemmas.{start_sets}
use Rattle.lq_classes.proofs.joins.joined.Goals as goal

pub settle-requires : goal.settle-requires
settle-requires c = record {
  sets = start_sets c.args.program.now c.args.places.count c.args.places.fields c.args.links.now c.in_ok-parents.parents.items c.in_ok-waiting.waiting.items c.requires.count (c.in_ok-parents.ensures.size ∙ c.len.ensures)
      (λ i low. c.in_ok-parents.ensures.apart i (omega (arith, low, c.len.ensures))) c.in_ok-waiting.ensures c.requires.fields;
}

pub returns : goal.returns
returns c =
    let pairs = flat_map (pairs_of c.args.program.now c.args.places.count) c.args.links.now in
    let start = subst (λ (ws : List Pair). AreOnWay pairs c.args.places.count c.args.places.fields c.in_ok-parents.parents.items ws) (sym c.in_ok-waiting.ensures)
    (start_on_way pairs c.args.places.count c.args.places.fields c.in_ok-parents.parents.items (c.in_ok-parents.ensures.size ∙ c.len.ensures) (λ i low. c.in_ok-parents.ensures.apart i (omega (arith, low, c.len.ensures)))) in
    let done = c.in_ok-settle.ensures.joined pairs start in
    if_ok_weaker c.labels_of.result
    (λ labels found. labels_all pairs c.args.places.count c.args.places.fields c.settle.new.parents.items labels.items c.in_ok-settle.ensures.forest done (subst (λ (ps : List ℕ). AreLabels ps labels.items) c.as_slice.ensures.value found))
    c.labels_of.ensures
