use Rattle.std.proofs.Common.{w64, to_z, of_z}
use Rattle.std.proofs.lemmas.Int.{to_z-of_z}
use Rattle.lq_instances.proofs.RowBounds.{made_none, made_some}
use Rattle.lq_instances.proofs.row.row_of.Goals as goal

pub returns-in_default : goal.returns-in_default
returns-in_default c = made_none c.args.terms.items c.args.most c.in_default.ensures.bounds

pub returns : goal.returns
returns c =
    made_some c.args.terms.items c.args.most (to_z w64 (of_z w64 c.args.most)) c.in-Some.form c.of-2.result (to_z-of_z w64 c.args.most c.ranges.most)
    c.in-Some.ensures.form c.in-Some.ensures.bounds c.of-2.ensures.row c.of-2.ensures.bounds
