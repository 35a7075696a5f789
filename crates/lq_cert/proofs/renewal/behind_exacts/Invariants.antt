use Rattle.std.proofs.Common.{◌≡◌, length}
use Rattle.lq_cert.specs.Renewal.{behind_exacts}
use Rattle.lq_cert.proofs.renewal.behind_exacts.Given as goal

abbrev pub invariant-loop-later : goal.invariant-loop-later
invariant-loop-later l = behind_exacts l.rest ≡ behind_exacts l.lines

abbrev pub decreases-loop-later : goal.decreases-loop-later
decreases-loop-later l = length l.rest
