use Rattle.std.proofs.Common.{List, take, ◌+◌, sym, subst, Option}
use Rattle.std.specs.Prelude.{MatchOption}
use Rattle.std.specs.List.{AllZip}
use Rattle.lq_linear.specs.Certificate.{Certificate}
use Rattle.lq_templates.specs.Conditions.{IsMet}
use Rattle.lq_certify.specs.Certified.{IsCertified}
use Rattle.lq_certify.proofs.CertifiedLemmas.{one_certified, first_unmet}
use Rattle.lq_certify.proofs.certified.certify_all.Goals as goal

pub returns-in-None-clause-failure : goal.returns-in-None-clause-failure
returns-in-None-clause-failure c =
    let M = c.args.mults.now in
    let assign = c.args.assign.now in
    let condition = c.c-item.result in
    let fails = subst (λ (found : Option (List Certificate)). MatchOption found (¬ IsMet M assign condition) (IsCertified M assign condition)) c.in-None.is c.in_ok-certs.ensures in
    first_unmet M assign c.args.list.now c.loop-c.all c.loop-c.c-index condition c.loop-c-test.true c.c-item.is c.loop-c.invariant fails

pub loop-c-preserved : goal.loop-c-preserved
loop-c-preserved c =
    let M = c.args.mults.now in
    let assign = c.args.assign.now in
    let condition = c.c-item.result in
    let one = subst (λ (found : Option (List Certificate)). MatchOption found (¬ IsMet M assign condition) (IsCertified M assign condition)) c.in-Some.is c.in_ok-certs.ensures in
    subst (AllZip (IsCertified M assign) (take (c.loop-c.c-index + 1) c.args.list.now)) (sym c.in_ok-push-in-Some.ensures.ok)
    (one_certified M assign c.args.list.now c.loop-c.all c.loop-c.c-index condition c.in-Some.certs c.loop-c-test.true c.c-item.is c.loop-c.invariant one)
