use Rattle.lq_classes.specs.Joins.{PutsFields}
use Rattle.lq_classes.proofs.joins.put_fields.Given as goal

abbrev pub invariant-loop-field : goal.invariant-loop-field
invariant-loop-field l = PutsFields l.places.count l.field l.first l.second l.fn.waiting.items l.waiting.items
