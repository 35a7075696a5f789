-- How many free moves a line can make at most until an action is due.
use Rattle.std.specs.Prelude.{ℕ, suc, ◌+◌, List, [], ◌∷◌, sum_by}
use Rattle.lq_tree.specs.declared.plain.PKind.{PKind, If', While', Row_of-PStmt, end_of-PStmt, more_of-PStmt}
use Rattle.lq_tree.specs.declared.plain.PStmt.{PStmt}
use Rattle.lq_meaning.specs.declared.line.Part.{Part}
use Rattle.lq_meaning.specs.declared.line.Part.TheVariants.{Row, Test, Again}
use Rattle.lq_meaning.specs.declared.line.Frame.{Frame}
use Rattle.lq_meaning.specs.declared.line.Caller.{Caller}
use Rattle.lq_meaning.specs.declared.line.Line.{Line}

-- the moves inside a statement; those of a turn begin with an action
abbrev mutual
  pub weight : PKind → ℕ
  weight (If' e n body m other) = suc (weight_row body + weight_row other)
  weight (While' n head e m body) = suc (suc (weight_row head))
  weight _ = 0

  pub weight_row : {n : _} → Row_of-PStmt n → ℕ
  weight_row end_of-PStmt = 0
  weight_row (more_of-PStmt at kind rest) = suc (weight kind + weight_row rest)

-- the moves of statements one behind the other
abbrev pub weight_all : List PStmt → ℕ
weight_all [] = 0
weight_all (s ∷ body) = suc (weight s.kind + weight_all body)

-- the moves of a part
abbrev pub weight_part : Part → ℕ
weight_part (Row row) = suc (weight_all row.now)
weight_part (Test loop' made) = 1
weight_part (Again loop' made) = suc (suc (weight_all loop'.head.now))

-- the moves of a function
abbrev pub weight_frame : Frame → ℕ
weight_frame frame = weight_all frame.row.now + sum_by weight_part frame.parts

-- the moves of a function that waits for a call, and the return to it
abbrev pub weight_caller : Caller → ℕ
weight_caller caller = suc (weight_frame caller.frame)

-- the moves of a line
abbrev pub weight_of : Line → ℕ
weight_of line = weight_frame line.frame + sum_by weight_caller line.callers
