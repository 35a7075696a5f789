use Rattle.std.proofs.Common.{refl}
use Rattle.std.proofs.lemmas.Result.{IfOk-weaker}
use Rattle.lq_tree.specs.declared.stmt.StmtKind.{Local}
use Rattle.lq_tree.specs.Seen.{seen}
use Rattle.lq_plain.specs.SeenMade.{made_of}
use Rattle.lq_plain.specs.Sites.{env_of, env_in}
use Rattle.lq_plain.proofs.StatementCases.{at_local}
use Rattle.lq_plain.proofs.statements.local.Goals as goal

pub returns : goal.returns
returns c =
    let ctype = c.args.ctype.now in
    let name = c.args.name.now in
    let value = c.args.value.now in
    IfOk-weaker c.push.result _ _
    (λ v given. at_local (env_in c.args.frame c.args.scope.now) c.args.at (made_of c.args.made.now) (env_of c.site.result) c.site.result.at (Local ctype name value) ctype name value (seen c.declared.result) c.in_ok-slot.slot c.push.new.self (made_of c.declare.new.made)
    c.site.ensures.env c.site.ensures.at refl given c.declared.ensures c.in_ok-slot.ensures.slot c.in_ok-slot.ensures.made)
    c.push.ensures
