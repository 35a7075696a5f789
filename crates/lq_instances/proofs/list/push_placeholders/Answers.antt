use Rattle.std.proofs.Common.{drop, get_or, arith, ◌+◌}
use Rattle.std.specs.Prelude.{pos}
use Rattle.std.proofs.lemmas.List.{drop_more}
use Rattle.lq_instances.proofs.FoundLemmas.{told_step}
use Rattle.lq_instances.proofs.list.push_placeholders.Goals as goal

pub loop-term-preserved : goal.loop-term-preserved
loop-term-preserved c =
    let i = c.loop-term.term-index in
    let terms = c.args.terms.now in
    told_step c.args.atoms.now c.loop-term.names c.push_placeholder.new.names _ (drop i terms) (get_or terms i (0, pos 0)) (drop (i + 1) terms) (drop_more terms i (0, pos 0) (omega arith)) c.in_ok-push_placeholder.ensures c.loop-term.invariant
