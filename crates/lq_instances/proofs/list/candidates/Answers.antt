use Rattle.std.proofs.Common.{List, ◌<◌, length, get_or, drop, ap, subst, ◌+◌, ◌∙◌}
use Rattle.lq_quals.specs.Qualifier.{rows_of}
use Rattle.lq_templates.specs.declared.template.Named.{Named}
use Rattle.lq_instances.specs.Instances.{all_terms}
use Rattle.lq_instances.proofs.FoundLemmas.{behind, candidates_step}
use Rattle.lq_instances.proofs.list.candidates.Goals as goal

pub loop-named-preserved : goal.loop-named-preserved
loop-named-preserved c =
    let i = c.loop-named.named-index in
    let names = c.args.template.now.names in
    let same = c.as_slice-named-items.ensures in
    let within : i < length names = subst (λ (ns : List Named). i < length ns) same c.loop-named-test.true in
    let is = c.named-item.is ∙ ap (λ (ns : List Named). get_or ns i c.named-item.result) same in
    candidates_step c.args.template.now c.args.atoms.now (all_terms (rows_of c.args.qualifier.now)) c.loop-named.all c.push_candidate.new.all _ (drop i names) c.named-item.result (drop (i + 1) names)
    (behind names i c.named-item.result within is) c.in_ok-push_candidate.ensures c.loop-named.invariant
