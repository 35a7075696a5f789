-- What comes of candidates one after another comes of all, and a fault at one is a fault of all.
use Rattle.std.proofs.Common.{sym, ◌∙◌}
use Rattle.std.proofs.lemmas.Result.{err_from_is_err_and}
use Rattle.lq_instances.specs.Cuts.{below_one}
use Rattle.lq_instances.proofs.FoundLemmas.{below_limit, tried_step, tried_fault}
use Rattle.lq_instances.proofs.search.Search.+search.Goals as goal

pub put_below-returns-clause-limit : goal.put_below-returns-clause-limit
put_below-returns-clause-limit t c =
    below_limit c.try_each.result c.args.found.now c.args.self.now.atoms.now c.args.self.now.template.now c.args.self.now.qualifier.now c.args.self.now.stands c.args.self.now.all.now c.args.choice.now c.args.mentioned
    c.args.wanting.now c.args.table.now c.in-Some.first.now c.in-Some.rest.now c.in-Some-split_first.row.now c.in-Some-split_first.later.now c.as_slice.result.now
    c.in-Some.ensures.cases.0 c.in-Some-split_first.ensures.cases.0 c.as_slice.ensures (sym c.goes_on.ensures ∙ c.if-not-goes_on.false) c.try_each.ensures.limit

pub try_each-returns-in_err-try_one-clause-limit : goal.try_each-returns-in_err-try_one-clause-limit
try_each-returns-in_err-try_one-clause-limit t c =
    let p = err_from_is_err_and c.from_residual-in_err-try_one.result c.from_residual-in_err-try_one.ensures.1 in
    rw (p.1, p.2) (tried_fault
    (below_one c.args.self.now.atoms.now c.args.self.now.template.now c.args.self.now.qualifier.now c.args.self.now.stands c.args.self.now.all.now c.args.level.now.choice.now c.args.level.now.mentioned c.args.level.now.first.now c.args.level.now.rest.now c.args.level.now.table.now)
    c.args.self.now.all.now c.loop-may.found _ c.loop-may.passed c.in_ok-here.here c.in_ok-gone.gone c.in-Some.may.now c.in-Some-split_first.candidate.now c.loop-may.marks.now c.in-Some.marks_behind.now c.loop-may.candidates.now c.in-Some-split_first.behind.now
    c.in-Some.ensures.cases.0 c.in-Some-split_first.ensures.cases.0 c.in_ok-here.ensures c.in_ok-gone.ensures c.loop-may.invariant.so_far c.in_err-try_one.field-0.0 c.in_err-try_one.ensures.limit)

pub try_each-loop-may-preserved : goal.try_each-loop-may-preserved
try_each-loop-may-preserved t c = record {
  so_far = tried_step
      (below_one c.args.self.now.atoms.now c.args.self.now.template.now c.args.self.now.qualifier.now c.args.self.now.stands c.args.self.now.all.now c.args.level.now.choice.now c.args.level.now.mentioned c.args.level.now.first.now c.args.level.now.rest.now c.args.level.now.table.now)
      c.args.self.now.all.now c.loop-may.found _ c.loop-may.passed c.in_ok-here.here c.in_ok-gone.gone c.in-Some.may.now c.in-Some-split_first.candidate.now c.loop-may.marks.now c.in-Some.marks_behind.now c.loop-may.candidates.now c.in-Some-split_first.behind.now
      c.in-Some.ensures.cases.0 c.in-Some-split_first.ensures.cases.0 c.in_ok-here.ensures c.in_ok-gone.ensures c.loop-may.invariant.so_far c.try_one.new.found c.in_ok-try_one.ensures.rows;
  few = c.in_ok-try_one.ensures.few;
  before = c.loop-may.invariant.before;
}
