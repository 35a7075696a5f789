use Rattle.std.proofs.Common.{List, ℕ, sym, subst}
use Rattle.lq_cli.specs.Words.{AreRoom}
use Rattle.lq_cli.proofs.Rooms.{behind}
use Rattle.lq_cli.proofs.commands.replay.read_replay.Goals as goal

pub returns-in_err-room-clause-none : goal.returns-in_err-room-clause-none
returns-in_err-room-clause-none c =
    rw c.from_residual-in_err-room.ensures
    (λ asked spelled.
    let first = behind _ _ _ _ _ c.in_ok-words.ensures.some spelled.form in
    let second = behind _ _ _ _ _ c.in_ok-source.ensures.some first in
    let third = behind _ _ _ _ _ c.in_ok-input.ensures.some second in
    let fourth = behind _ _ _ _ _ c.in_ok-picks.ensures.some third in
    c.in_err-room.ensures.none asked.fuel asked.words (subst (λ (last : List (List ℕ)). AreRoom 4194304 last asked.fuel asked.words) (sym fourth) spelled.room))
