use Rattle.std.proofs.Common.{rules}
use Rattle.lq_meaning.specs.Blocks.{span}
use Rattle.lq_meaning.proofs.Spans.{Laid_push}
use Rattle.lq_meaning.proofs.blocks.Blocks.add.Goals as goal

pub invariant_of-self-2 : goal.invariant_of-self-2
invariant_of-self-2 c =
    rw c.in_ok-push.ensures.items
    (Laid_push c.self.inside.spans.items (span c.args.first c.args.fields c.args.length) c.self.invariant c.requires.fields (search rules) c.requires.below (rw c.self.view_is c.requires.free) (rw c.self.view_is c.requires.room))
