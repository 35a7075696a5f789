use Rattle.std.proofs.Common.{◌≡◌, [], drop}
use Rattle.lq_templates.specs.Classes.{class_in, variables}
use Rattle.lq_templates.specs.Firsts.{gathered}
use Rattle.lq_templates.proofs.firsts.firsts_of.Given as goal

abbrev pub invariant-loop-func : goal.invariant-loop-func
invariant-loop-func l =
    gathered l.program (class_in l.classes) (variables l.func (drop l.func l.program.funcs)) l.firsts ≡ gathered l.program (class_in l.classes) (variables 0 l.program.funcs) (record { next = 1; records = []; accesses = [] })
