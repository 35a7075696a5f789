use Rattle.std.proofs.Common.{◌≡◌, List, [], ◌∷◌, ◌++◌, append-nil, reverse, sym, subst, Option}
use Rattle.std.specs.Prelude.{IfSome, Contains}
use Rattle.std.specs.List.{AllByRecursion, AllZip}
use Rattle.lq_linear.specs.Row.{Inequality}
use Rattle.lq_linear.specs.Certificate.{Certificate}
use Rattle.lq_linear.specs.Derivation.{Derives}
use Rattle.lq_validity.specs.Order.{IsFirst}
use Rattle.lq_validity.specs.Derives.{Gives, AreExacts}
use Rattle.lq_fixpoint.proofs.GoalLemmas.{none_left, later_in}
use Rattle.lq_certify.specs.Certified.{IsFound}
use Rattle.lq_certify.proofs.CertifiedLemmas.{one_found}
use Rattle.lq_certify.proofs.certified.certificates.Goals as goal

pub loop-goal-preserved : goal.loop-goal-preserved
loop-goal-preserved c =
    let M = c.args.index.now.multipliers in
    let facts = reverse c.args.index.now.items in
    let goals = c.args.goals.now in
    let rest = c.loop-goal.rest.now in
    let later = c.in-Some.later.now in
    let row = c.in-Some.goal.now in
    let certificate = c.in-Some-2.cert in
    let is : rest ≡ row ∷ later = c.in-Some.ensures.cases.0 in
    let first = subst (λ (found : Option Certificate). IfSome found (λ (cert : Certificate). IsFirst (Gives M facts row) cert.goal)) c.in-Some-2.is c.in_ok-cert.ensures.goal in
    let exacts = subst (λ (found : Option Certificate). IfSome found (λ (cert : Certificate). AreExacts M facts cert.exacts)) c.in-Some-2.is c.in_ok-cert.ensures.exacts in
    let one : IsFound M facts row certificate = record { first = first; exacts = exacts } in
    record {
      found = λ more found. subst (λ (certificates : List Certificate). AllZip (IsFound M facts) goals (certificates ++ more)) (sym c.in_ok-push.ensures.ok)
          (one_found M facts goals rest later row c.loop-goal.certs certificate is c.loop-goal.invariant.found one more found);
      derived = λ all. (subst (λ (l : List Inequality). AllByRecursion (Derives M facts) l) is (c.loop-goal.invariant.derived all)).1;
      there = λ other h. c.loop-goal.invariant.there other (subst (λ (l : List Inequality). Contains l other) (sym is) (later_in row later other h));
    }

pub returns : goal.returns
returns c =
    let M = c.args.index.now.multipliers in
    let facts = reverse c.args.index.now.items in
    let none = none_left c.loop-goal.rest.now c.in_default.ensures.cases in
    subst (AllZip (IsFound M facts) c.args.goals.now) (append-nil c.loop-goal.certs)
    (c.loop-goal.invariant.found [] (subst (λ (l : List Inequality). AllZip (IsFound M facts) l []) (sym none) tt))
