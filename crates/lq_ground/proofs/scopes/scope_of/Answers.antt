use Rattle.std.proofs.Common.{◌-◌, length, arith}
use Rattle.lq_ground.proofs.ScopeLemmas.{scope_last}
use Rattle.lq_ground.proofs.scopes.scope_of.Goals as goal

pub returns-else-func-last : goal.returns-else-func-last
returns-else-func-last c = λ funcs are. scope_last funcs c.args.scopes.now c.args.func (length c.args.scopes.now - 1) are (omega arith) c.if-func-last.false
