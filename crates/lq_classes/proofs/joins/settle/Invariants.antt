use Rattle.std.proofs.Common.{List}
use Rattle.lq_classes.specs.declared.joins.Pair.{Pair}
use Rattle.lq_classes.specs.Joins.{AreSets, AreOnWay, work}
use Rattle.lq_classes.proofs.joins.settle.Given as goal

abbrev pub invariant-joining : goal.invariant-joining
invariant-joining l =
    record {
      sets : AreSets l.places.count l.places.fields l.parents.items l.waiting.items;
      onward : (pairs : List Pair) → AreOnWay pairs l.places.count l.places.fields l.fn.parents.items l.fn.waiting.items → AreOnWay pairs l.places.count l.places.fields l.parents.items l.waiting.items;
    }

abbrev pub decreases-joining : goal.decreases-joining
decreases-joining l = work l.places.fields l.parents.items l.waiting.items
