use Rattle.std.proofs.Common.{◌≡◌, [], ◌∷◌, ◌++◌, append-nil}
use Rattle.lq_chain.specs.Pieces.{joined}
use Rattle.lq_chain.proofs.Joined.{joined-append}
use Rattle.lq_chain.proofs.chain.make_room.Goals as goal

pub returns-clause-same : goal.returns-clause-same
returns-clause-same g c =
    let pieces : c.push.new.self ≡ c.args.pieces.now ++ c.args.last.now ∷ [] = cc (c.in_ok-push.ensures.ok, c.in_ok-new.ensures, c.in_ok-piece.ensures, c.as_slice.ensures) in
    rw (pieces, c.new-2.ensures, append-nil) (joined-append c.args.pieces.now c.args.last.now)
