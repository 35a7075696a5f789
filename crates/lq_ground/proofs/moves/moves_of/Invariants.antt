use Rattle.std.proofs.Common.{◌≡◌, ◌++◌, drop}
use Rattle.lq_templates.specs.Classes.{class_in}
use Rattle.lq_ground.specs.Moves.{all_moves}
use Rattle.lq_ground.proofs.moves.moves_of.Given as goal

abbrev pub invariant-loop-func : goal.invariant-loop-func
invariant-loop-func l = l.moves ++ all_moves (class_in l.classes) l.func (drop l.func l.program.funcs) ≡ all_moves (class_in l.classes) 0 l.program.funcs
