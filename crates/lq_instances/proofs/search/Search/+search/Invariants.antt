use Rattle.std.proofs.Common.{◌≡◌, ◌+◌, ◌*◌, ◌≤◌, length}
use Rattle.lq_templates.specs.Rows.{same_row}
use Rattle.lq_instances.specs.Search.{gathered}
use Rattle.lq_instances.specs.Cuts.{no_marks, tried_behind}
use Rattle.lq_instances.proofs.search.Search.+search.Given as goal

abbrev pub decreases-put_below : goal.decreases-put_below
decreases-put_below l = 3 * length l.wanting.now

abbrev pub decreases-try_each : goal.decreases-try_each
decreases-try_each l = 3 * length l.level.now.rest.now + 2

abbrev pub decreases-try_one : goal.decreases-try_one
decreases-try_one l = 3 * length l.level.now.rest.now + 1

abbrev pub invariant-try_each-loop-may : goal.invariant-try_each-loop-may
invariant-try_each-loop-may l = record {
  so_far : gathered same_row l.found (tried_behind l.self.atoms.now l.self.template.now l.self.qualifier.now l.self.stands l.self.all.now l.level.choice.now l.level.mentioned l.level.first.now l.level.rest.now l.level.table.now l.passed l.marks l.candidates)
      ≡ gathered same_row l.initial.found (tried_behind l.self.atoms.now l.self.template.now l.self.qualifier.now l.self.stands l.self.all.now l.level.choice.now l.level.mentioned l.level.first.now l.level.rest.now l.level.table.now (no_marks l.self.all.now) l.row l.self.all.now);
  few : length l.found ≤ 256;
  before : length l.initial.found ≤ 256;
}

abbrev pub decreases-try_each-loop-may : goal.decreases-try_each-loop-may
decreases-try_each-loop-may l = length l.marks
