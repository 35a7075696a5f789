-- Proofs of version 1 made proofs of version 2.
use Rattle.std.specs.Prelude.{Bool, true, false, not, if◌then◌else◌, List, [], ◌∷◌}
use Rattle.lq_cert.specs.declared.line.FileVersion.TheVariants.{One, Two}
use Rattle.lq_cert.specs.declared.line.Line.{Line}
use Rattle.lq_cert.specs.declared.line.Line.TheVariants.{Version, Condition, Exact, Goal, Void}

-- what stands behind the `exact` lines at the front
abbrev pub behind_exacts : List Line → List Line
behind_exacts [] = []
behind_exacts (Exact item divisor parts ∷ later) = behind_exacts later
behind_exacts (line ∷ later) = line ∷ later

-- whether a goal stands at the front
abbrev pub begins_with_goal : List Line → Bool
begins_with_goal [] = false
begins_with_goal (Goal goal divisor parts ∷ later) = true
begins_with_goal (Void goal parts ∷ later) = true
begins_with_goal (line ∷ later) = false

-- whether a line begins a condition that has no goal, where these stand behind it
abbrev pub lacks_goal : Line → List Line → Bool
lacks_goal (Condition number) later = not (begins_with_goal (behind_exacts later))
lacks_goal line later = false

-- the lines without the conditions that have no goal and their `exact` lines
abbrev pub with_goals : List Line → List Line
with_goals [] = []
with_goals (line ∷ later) = if lacks_goal line later then behind_exacts (with_goals later) else line ∷ with_goals later

-- the version 2 of a proof of version 1; any other lines stay as they are (docs/PROOF-FILE.md, "Versions")
abbrev pub renewed : List Line → List Line
renewed (Version One ∷ later) = Version Two ∷ with_goals later
renewed lines = lines
