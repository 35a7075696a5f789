use Rattle.std.proofs.Common.{List, ap, sym, ◌∙◌}
use Rattle.lq_tally.specs.Tally.{tallied}
use Rattle.lq_disjoint.specs.declared.beside.Beside.{Beside}
use Rattle.lq_disjoint.specs.Pairs.{asked_cobegin}
use Rattle.lq_disjoint.proofs.Clashes.{cobegin_next}
use Rattle.lq_disjoint.proofs.pairs.pairs_cobegin.Goals as goal

pub loop-first-preserved : goal.loop-first-preserved
loop-first-preserved c =
    cobegin_next c.args.table.now c.args.at c.args.facts.now c.args.element.now c.in-Some.first.now c.in-Some.later.now c.loop-first.out c.pairs_with.new.out c.in_ok-pairs_with.ensures
    ∙ ap (λ (rest : List Beside). tallied (asked_cobegin c.args.table.now c.args.at c.args.facts.now c.args.element.now rest) c.loop-first.out) (sym c.in-Some.ensures.cases.0)
    ∙ c.loop-first.invariant
