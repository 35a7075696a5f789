use Rattle.std.proofs.Common.{◌≡◌, drop}
use Rattle.lq_templates.specs.Classes.{class_in}
use Rattle.lq_templates.specs.Listing.{with_functions}
use Rattle.lq_templates.proofs.listing.put_functions.Given as goal

abbrev pub invariant-loop-func : goal.invariant-loop-func
invariant-loop-func l =
    with_functions l.program (class_in l.classes) l.makers l.func (drop l.func l.program.funcs) l.listing ≡ with_functions l.program (class_in l.classes) l.makers 0 l.program.funcs l.fn.listing
