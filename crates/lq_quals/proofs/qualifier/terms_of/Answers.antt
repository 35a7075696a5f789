use Rattle.std.proofs.Common.{ap, arith, of_z}
use Rattle.std.specs.Int.{w128}
use Rattle.lq_quals.proofs.CollectLemmas.{no_terms}
use Rattle.lq_quals.proofs.qualifier.terms_of.Goals as goal

pub returns-in_default : goal.returns-in_default
returns-in_default c =
    no_terms c.args.negated c.args.addends.now c.args.atoms.now c.loop-number.number c.index-atoms-number.result c.in_ok-sum.sum c.loop-number.terms.items _ (omega arith)
    c.index-atoms-number.is c.in_ok-sum.ensures (λ zero. c.if-sum-eq0.false (ap (of_z w128) zero)) c.in_default.ensures c.loop-number.invariant
