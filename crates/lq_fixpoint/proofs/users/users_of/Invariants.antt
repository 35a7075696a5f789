use Rattle.std.proofs.Common.{◌≡◌, [], drop, replicate}
use Rattle.lq_fixpoint.specs.Users.{with_all}
use Rattle.lq_fixpoint.proofs.users.users_of.Given as goal

abbrev pub invariant-loop-number : goal.invariant-loop-number
invariant-loop-number l = with_all l.number l.users.items (drop l.number l.list) ≡ with_all 0 (replicate l.templates []) l.list
