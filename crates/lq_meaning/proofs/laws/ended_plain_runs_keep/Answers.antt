use Rattle.std.proofs.Common.{◌≡◌, ◌≢◌}
use Rattle.lq_meaning.specs.Ending.{Spent}
use Rattle.lq_meaning.proofs.Lasting.{lasting, ended_lasts}
use Rattle.lq_meaning.proofs.PlainKept.{sequential_kept}
use Rattle.lq_meaning.proofs.laws.ended_plain_runs_keep.Goals as goal

pub returns : goal.returns
returns c fuel more words p input below =
    sequential_kept (lasting fuel more below) p below (λ o other. o.ending ≢ Spent → other ≡ o) (λ run run' w opens lasts. ended_lasts (lasts w)) words input
