use Rattle.std.proofs.Common.{◌≡◌, ◌++◌, drop}
use Rattle.lq_templates.specs.Classes.{class_in}
use Rattle.lq_templates.specs.Touches.{all_touches}
use Rattle.lq_templates.proofs.listing.all_touches.Given as goal

abbrev pub invariant-loop-func : goal.invariant-loop-func
invariant-loop-func l = l.all ++ all_touches (class_in l.classes) l.func (drop l.func l.program.funcs) ≡ all_touches (class_in l.classes) 0 l.program.funcs
