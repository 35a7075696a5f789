use Rattle.std.proofs.Common.{◌∙◌, sym, ap, subst, length, List}
use Rattle.lq_templates.specs.declared.condition.Assign.{Assign}
use Rattle.lq_templates.specs.declared.condition.Condition.{Condition}
use Rattle.lq_templates.specs.Conditions.{IsWithin, IsGreatest}
use Rattle.lq_fixpoint.specs.Work.{AreTested}
use Rattle.lq_fixpoint.proofs.Parts.{all_itself, all_trans}
use Rattle.lq_fixpoint.proofs.RoundLemmas.{kept_start, greatest_found}
use Rattle.lq_fixpoint.proofs.solving.solve.Goals as goal

pub rounds-init : goal.rounds-init
rounds-init c =
    let M = c.args.mults.now in
    let list = c.as_slice-list.result.now in
    let users = c.as_slice-users.result.now in
    let full = c.args.full in
    let work = c.in_ok-work.work in
    let same = c.in_ok-work.ensures.assign in
    record {
      within = subst (λ (a : Assign). IsWithin a full) (sym same) (all_itself full.rows);
      keeps = λ other w served. subst (λ (a : Assign). IsWithin other a) (sym same) w;
      kept = kept_start M list users work c.in_ok-work.ensures.due
          (ap (λ (a : Assign). length a.rows) same ∙ sym (ap length c.as_slice-users.ensures.value ∙ c.in_ok-table.ensures.count ∙ c.len.ensures));
    }

pub rounds-preserved : goal.rounds-preserved
rounds-preserved c =
    let old = c.rounds.work in
    let new = c.serve_all.new.work in
    let t = c.in_ok-serve_all.ensures in
    record {
      within = all_trans new.assign.rows old.assign.rows c.args.full.rows t.within c.rounds.invariant.within;
      keeps = λ other w served. t.keeps other (c.rounds.invariant.keeps other w served) served;
      kept = t.kept;
    }

pub returns-then-not-branch : goal.returns-then-not-branch
returns-then-not-branch c =
    let M = c.args.mults.now in
    let list = c.as_slice-list.result.now in
    let users = c.as_slice-users.result.now in
    let full = c.args.full in
    let old = c.rounds.work in
    let new = c.serve_all.new.work in
    subst (λ (l : List Condition). IsGreatest M full l new.assign) c.as_slice-list.ensures
    (greatest_found M full list users old new c.rounds.invariant.within c.rounds.invariant.keeps
    (subst (λ b. AreTested M list users (length list) b old new) c.if-not-branch.true c.in_ok-serve_all.ensures))
