use Rattle.std.proofs.Common.{◌++◌, [], ◌∷◌, List, map, arith, ap₂, sym, ◌∙◌}
use Rattle.lq_quals.specs.Qualifier.{rows_of}
use Rattle.lq_instances.specs.declared.table.Candidate.{Candidate}
use Rattle.lq_instances.specs.Search.{fits}
use Rattle.lq_instances.specs.Cuts.{Marks}
use Rattle.lq_instances.proofs.Choosing.{Name}
use Rattle.lq_instances.proofs.FoundLemmas.{map_more}
use Rattle.lq_instances.proofs.list.table.Goals as goal

pub loop-placeholder-preserved : goal.loop-placeholder-preserved
loop-placeholder-preserved c =
    let fitting = λ (p : Name). map (λ (candidate : Candidate). fits c.args.atoms.now c.args.template.now.names (rows_of c.args.qualifier.now) p candidate.name) c.args.all.now in
    let i = c.loop-placeholder.placeholder-index in
    c.in_ok-push.ensures.ok
    ∙ (ap₂ (λ (rows : List Marks) (row : Marks). rows ++ row ∷ []) c.loop-placeholder.invariant c.in_ok-row.ensures
    ∙ sym (map_more fitting c.args.placeholders.now i c.placeholder-item.result (omega arith) c.placeholder-item.is))
