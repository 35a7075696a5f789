use Rattle.std.proofs.Common.{◌≡◌, ◌≤◌, map, take, length}
use Rattle.std.specs.List.{AllByRecursion}
use Rattle.lq_instances.specs.Instances.{instances}
use Rattle.lq_full.proofs.assignment.all_instances.Given as goal

abbrev pub invariant-loop-template : goal.invariant-loop-template
invariant-loop-template l = record {
  rows : l.rows ≡ map (λ t. instances t l.quals) (take l.template-index l.templates);
  few : AllByRecursion (λ rows. length rows ≤ 256) l.rows;
}
