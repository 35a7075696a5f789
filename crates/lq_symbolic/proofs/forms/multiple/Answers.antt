use Rattle.std.proofs.Common.{◌≡◌, arith, to_z, of_z, w64}
use Rattle.std.proofs.lemmas.Int.{ints}
use Rattle.lq_linear.specs.Form.{multiple_of}
use Rattle.lq_symbolic.proofs.Sums.{result_as_form}
use Rattle.lq_symbolic.proofs.forms.multiple.Goals as goal

pub returns : goal.returns
returns c =
    let by : to_z w64 (of_z w64 c.args.by) ≡ c.args.by = omega (arith, ints) in
    result_as_form c.scale.result (multiple_of c.args.by c.args.a.now) (rw by at c.scale.ensures.form) (rw by at c.scale.ensures.none)
