use Rattle.std.proofs.lemmas.Result.{IfOk-weaker}
use Rattle.lq_tree.specs.Seen.{seen}
use Rattle.lq_plain.specs.Flat.{valued}
use Rattle.lq_plain.specs.SeenMade.{made_of}
use Rattle.lq_plain.specs.Sites.{env_of}
use Rattle.lq_plain.proofs.Wanted.{null_flat, other_flat}
use Rattle.lq_plain.proofs.values.flat_as.Goals as goal

pub returns-then-is_null : goal.returns-then-is_null
returns-then-is_null c = null_flat (env_of c.args.site) c.args.site.at (seen c.args.kind) c.args.expr.now (made_of c.args.made.now) c.is_null.result c.is_null.ensures c.if-is_null.true

pub returns : goal.returns
returns c =
    IfOk-weaker c.flat_operand.result _ _
    (λ v given. other_flat (env_of c.args.site) c.args.site.at (seen c.args.kind) c.args.expr.now (made_of c.args.made.now) c.is_null.result (valued v (made_of c.flat_operand.new.made)) c.is_null.ensures c.if-is_null.false given)
    c.flat_operand.ensures
