use Rattle.std.proofs.lemmas.Result.{IfOk-weaker}
use Rattle.lq_tree.specs.Seen.{seen}
use Rattle.lq_plain.specs.SeenFlat.{flat_of}
use Rattle.lq_plain.specs.SeenMade.{made_of}
use Rattle.lq_plain.specs.Sites.{env_of}
use Rattle.lq_plain.proofs.Wanted.{null_put, other_put}
use Rattle.lq_plain.proofs.values.assigned.Goals as goal

pub returns-then-is_null : goal.returns-then-is_null
returns-then-is_null c =
    IfOk-weaker c.stand.result _ _
    (λ v given. null_put (env_of c.args.site) c.args.site.at (seen c.args.kind) c.args.expr.now (made_of c.args.made.now) c.args.to c.is_null.result (made_of c.stand.new.self) c.is_null.ensures c.if-is_null.true given)
    c.stand.ensures

pub returns : goal.returns
returns c =
    IfOk-weaker c.put.result _ _
    (λ v given. other_put (env_of c.args.site) c.args.site.at (seen c.args.kind) c.args.expr.now (made_of c.args.made.now) c.args.to c.is_null.result (flat_of c.in_ok-found.found (made_of c.flatten.new.made)) (made_of c.put.new.made) c.is_null.ensures c.if-is_null.false c.in_ok-found.ensures given)
    c.put.ensures
