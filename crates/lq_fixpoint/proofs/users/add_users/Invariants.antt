use Rattle.std.proofs.Common.{◌≡◌}
use Rattle.lq_chain.specs.Walk.{walk_rest}
use Rattle.lq_fixpoint.specs.Users.{with_users}
use Rattle.lq_fixpoint.proofs.users.add_users.Given as goal

abbrev pub invariant-loop-given : goal.invariant-loop-given
invariant-loop-given l = with_users l.number l.users (walk_rest l.given-iterator) ≡ with_users l.number l.fn.users l.c.facts
