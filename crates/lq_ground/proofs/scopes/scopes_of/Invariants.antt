use Rattle.lq_ground.proofs.ScopeLemmas.{ScopesTo}
use Rattle.lq_ground.proofs.scopes.scopes_of.Given as goal

abbrev pub invariant-loop-function : goal.invariant-loop-function
invariant-loop-function l = ScopesTo l.program.funcs l.function-index l.scopes l.so_far
