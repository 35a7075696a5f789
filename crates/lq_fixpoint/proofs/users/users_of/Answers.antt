use Rattle.std.proofs.Common.{sym, ap, ◌∙◌, subst}
use Rattle.std.proofs.lemmas.List.{drop_all}
use Rattle.lq_fixpoint.specs.Users.{AreUsers, with_all}
use Rattle.lq_fixpoint.proofs.UserLemmas.{are_users}
use Rattle.lq_fixpoint.proofs.users.users_of.Goals as goal

pub returns-clause-users : goal.returns-clause-users
returns-clause-users c =
    let list = c.args.list.now in
    let number = c.loop-number.number in
    let users = c.loop-number.users.items in
    subst (AreUsers list) (sym c.loop-number.invariant ∙ ap (λ l. with_all number users l) (drop_all number list c.loop-number-test.false)) (are_users list c.args.templates)
