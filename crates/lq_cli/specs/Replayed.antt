-- What is told of a replay that came to an end of its own.
use Rattle.std.specs.Prelude.{◌++◌, Option, None, Some}
use Rattle.lq_tree.specs.declared.place.Place.{Place}
use Rattle.lq_meaning.specs.declared.end.End.{End}
use Rattle.lq_meaning.specs.declared.end.End.TheVariants.{Stray}
use Rattle.lq_meaning.specs.End.{Tells, IsOfRun}
use Rattle.lq_meaning.specs.Ending.{Outcome}
use Rattle.lq_meaning.specs.Printed.{number_lines}
use Rattle.lq_log.specs.Race.{IsRaceFree}
use Rattle.lq_machine.specs.declared.replays.Replayed.{Replayed}
use Rattle.lq_cli.specs.declared.answer.Answer.{Answer}
use Rattle.lq_cli.specs.Answer.{status_of, line_of}
use Rattle.lq_cli.specs.commands.Replay.{MeetsNoStray, ReplayEnds}

-- the place of a stray
abbrev pub stray_of : End → Option Place
stray_of (Stray at) = Some at
stray_of _ = None

-- this line is told behind the numbers, in place of the end
abbrev pub ComesFirst : Replayed → Answer → Type 0
ComesFirst r answer = (o : Outcome) → Tells r.end o → IsOfRun r.end → ReplayEnds o r.log.items (status_of answer) (number_lines o.world.printed ++ line_of answer)

-- the end itself is told
abbrev pub TellsItsEnd : Replayed → Type 0
TellsItsEnd r = (o : Outcome) → Tells r.end o → IsOfRun r.end → MeetsNoStray o × IsRaceFree r.log.items
