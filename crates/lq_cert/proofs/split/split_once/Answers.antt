use Rattle.std.proofs.Common.{◌≡◌, ◌+◌, ◌-◌, length, drop, take, arith, length-drop}
use Rattle.std.proofs.lemmas.List.{take_all}
use Rattle.lq_cert.proofs.SplitLemmas.{split_at_position, avoids_by_position}
use Rattle.lq_cert.proofs.split.split_once.Goals as goal

pub returns-in_err-at : goal.returns-in_err-at
returns-in_err-at c = rw c.from_residual.ensures (avoids_by_position _ _ c.in_err-at.ensures)

pub returns : goal.returns
returns c =
    let bytes = c.args.bytes.now in
    let behind = c.in_ok-at.at + 1 in
    let whole : take (length bytes - behind) (drop behind bytes) ≡ drop behind bytes = take_all _ _ (omega (arith, length-drop behind bytes)) in
    rw whole (split_at_position c.args.byte bytes c.in_ok-at.at c.in_ok-at.ensures)
