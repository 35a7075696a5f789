use Rattle.std.proofs.Common.{arith}
use Rattle.std.proofs.lemmas.List.{length-map}
use Rattle.lq_alone.specs.Alone.{alone, alone_each, alone_behind, joined}
use Rattle.lq_runner.specs.Share.{group_of, groups_of}
use Rattle.lq_runner.proofs.Apart.{chain_of, fork_apart}
use Rattle.lq_runner.proofs.Grouped.{groups_apart}
use Rattle.lq_runner.proofs.Shared.{suffices}
use Rattle.lq_runner.proofs.laws.clean_forks_share_their_units.Goals as goal

pub returns : goal.returns
returns c = λ spans laid fuel children parent w is_clean dealt some follow all whole enough.
    let branches = alone_each fuel children w in
    let apart = fork_apart branches (alone_behind (joined fuel branches w) (λ _ world. alone fuel parent world)) is_clean in
    let count = length-map dealt (group_of branches) in
    suffices spans (c.addresses_have_their_own_cells.ensures spans laid) all whole (groups_of branches dealt)
    (groups_apart branches dealt 0 follow (chain_of branches apart)) (omega arith) enough
