use Rattle.std.proofs.Common.{List, reverse, Some, Option, subst}
use Rattle.std.specs.Prelude.{MatchOption}
use Rattle.std.specs.List.{AllByRecursion, AllZip}
use Rattle.std.proofs.lemmas.Result.{IfOk-weaker}
use Rattle.lq_linear.specs.Row.{Inequality}
use Rattle.lq_linear.specs.Certificate.{Certificate}
use Rattle.lq_linear.specs.Derivation.{Derives}
use Rattle.lq_validity.specs.Index.{GoalIndexed}
use Rattle.lq_templates.specs.Conditions.{facts_of, goals_of, IsMet}
use Rattle.lq_fixpoint.specs.Goals.{AreRowsOf}
use Rattle.lq_certify.specs.Certified.{IsFound, IsCertified}
use Rattle.lq_certify.proofs.CertifiedLemmas.{certified_by}
use Rattle.lq_certify.proofs.certified.certify.Goals as goal

pub returns : goal.returns
returns c =
    let M = c.args.mults.now in
    let assign = c.args.assign.now in
    let condition = c.args.c.now in
    let slice = c.as_slice-2.result.now in
    let made : AreRowsOf (goals_of assign condition) (Some c.in-Some.goals) = subst (AreRowsOf (goals_of assign condition)) c.in-Some.is c.in_ok-goals.ensures in
    IfOk-weaker c.certificates.result
    (λ (found : Option (List Certificate)). MatchOption found (¬ AllByRecursion (Derives c.in_ok-index.index.multipliers (reverse c.in_ok-index.index.items)) slice)
    (AllZip (IsFound c.in_ok-index.index.multipliers (reverse c.in_ok-index.index.items)) slice))
    (λ (found : Option (List Certificate)). MatchOption found (¬ IsMet M assign condition) (IsCertified M assign condition))
    (λ found h. certified_by M assign condition c.in-Some.goals found made
    (subst (λ (rows : List Inequality). MatchOption found (¬ AllByRecursion (Derives M (facts_of assign condition)) rows) (AllZip (IsFound M (facts_of assign condition)) rows)) c.as_slice-2.ensures
    (subst (λ facts. MatchOption found (¬ AllByRecursion (Derives M facts) slice) (AllZip (IsFound M facts) slice)) c.in_ok-facts.ensures.facts
    (subst (λ (index : GoalIndexed). MatchOption found (¬ AllByRecursion (Derives index.multipliers (reverse index.items)) slice) (AllZip (IsFound index.multipliers (reverse index.items)) slice)) c.in_ok-index.ensures h))))
    c.certificates.ensures
