use Rattle.std.proofs.Common.{◌∙◌, sym, subst, List, ◌++◌, reverse}
use Rattle.std.specs.Prelude.{Contains, IsTrue, ◌↔◌}
use Rattle.std.specs.List.{filter_map}
use Rattle.std.proofs.lemmas.Bool.{false≢true}
use Rattle.lq_linear.specs.Row.{Inequality}
use Rattle.lq_linear.specs.Collect.{as_row}
use Rattle.lq_templates.specs.Conditions.{filled, IsDerived}
use Rattle.lq_fixpoint.specs.Sifting.{IsSifted}
use Rattle.lq_fixpoint.proofs.GoalLemmas.{option_in, among_later}
use Rattle.lq_fixpoint.proofs.SiftLemmas.{sift_stays, sift_goes, sift_end}
use Rattle.lq_fixpoint.proofs.sifting.derived_rows.Goals as goal

pub loop-row-init : goal.loop-row-init
loop-row-init c = record {
  sifted = λ part s. subst (λ (l : List Inequality). IsSifted (λ row. IsDerived c.args.index.now.multipliers (reverse c.args.index.now.items) (filled c.args.values.now row)) c.args.rows.now (l ++ part))
      (sym c.new-derived.ensures) s;
  there = c.requires;
}

pub is_row_derived-requires : goal.is_row_derived-requires
is_row_derived-requires c row e =
    c.loop-row.invariant.there row
    (subst (λ l. Contains (filter_map (λ r. as_row (filled c.args.values.now r)) l) row) (sym c.in-Some.ensures.cases.0)
    (option_in (as_row (filled c.args.values.now c.in-Some.row.now)) (filter_map (λ r. as_row (filled c.args.values.now r)) c.in-Some.later.now) row e))

pub loop-row-preserved-in_ok-push : goal.loop-row-preserved-in_ok-push
loop-row-preserved-in_ok-push c =
    let M = c.args.index.now.multipliers in
    let facts = reverse c.args.index.now.items in
    let values = c.args.values.now in
    let row = c.in-Some.row.now in
    let told : IsTrue c.in_ok-is_row_derived.field-0 ↔ IsDerived M facts (filled values row) = c.in_ok-is_row_derived.ensures in
    record {
      sifted = sift_stays (λ r. IsDerived M facts (filled values r)) c.args.rows.now c.loop-row.rest.now c.in-Some.later.now c.loop-row.derived c.push.new.self row c.in_ok-copy_row.field-0
          c.in-Some.ensures.cases.0 c.in_ok-copy_row.ensures c.in_ok-push.ensures.ok (told.0 c.if-branch.true) c.loop-row.invariant.sifted;
      there = among_later (λ r. as_row (filled values r)) c.loop-row.rest.now c.in-Some.later.now row c.args.index.now.goals c.in-Some.ensures.cases.0 c.loop-row.invariant.there;
    }

pub loop-row-preserved : goal.loop-row-preserved
loop-row-preserved c =
    let M = c.args.index.now.multipliers in
    let facts = reverse c.args.index.now.items in
    let values = c.args.values.now in
    let row = c.in-Some.row.now in
    let told : IsTrue c.in_ok-is_row_derived.field-0 ↔ IsDerived M facts (filled values row) = c.in_ok-is_row_derived.ensures in
    record {
      sifted = sift_goes (λ r. IsDerived M facts (filled values r)) c.args.rows.now c.loop-row.rest.now c.in-Some.later.now c.loop-row.derived row
          c.in-Some.ensures.cases.0 (λ d. false≢true (sym c.if-branch.false ∙ told.1 d)) c.loop-row.invariant.sifted;
      there = among_later (λ r. as_row (filled values r)) c.loop-row.rest.now c.in-Some.later.now row c.args.index.now.goals c.in-Some.ensures.cases.0 c.loop-row.invariant.there;
    }

pub returns : goal.returns
returns c =
    sift_end (λ row. IsDerived c.args.index.now.multipliers (reverse c.args.index.now.items) (filled c.args.values.now row)) c.args.rows.now c.loop-row.rest.now c.loop-row.derived
    c.in_default.ensures.cases c.loop-row.invariant.sifted
