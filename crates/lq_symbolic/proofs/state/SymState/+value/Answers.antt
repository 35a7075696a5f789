use Rattle.std.proofs.Common.{◌≡◌, true, sym, ap, ◌∙◌, negsuc}
use Rattle.lq_tree.specs.declared.plain.PExpr.{Neg, Bin, Shift}
use Rattle.lq_linear.specs.Form.{multiple_of}
use Rattle.lq_symbolic.specs.declared.value.SymValue.TheVariants.{Int as OfInt}
use Rattle.lq_symbolic.specs.Told.{is_arithmetic}
use Rattle.lq_symbolic.specs.Value.{known, bounded_or_new, operated, shifted, value}
use Rattle.lq_symbolic.proofs.Given.{along, neg_is, bin_is, shift_is}
use Rattle.lq_symbolic.proofs.state.SymState.+value.Goals as goal

pub returns-in_ok-a-in-Neg : goal.returns-in_ok-a-in-Neg
returns-in_ok-a-in-Neg t c =
    along c.multiple.result (bounded_or_new (multiple_of (negsuc 0) c.in_ok-a-in-Neg.a) c.value.new.self) (value c.args.e.now c.args.self.now) c.multiple.new.self
    (neg_is c.args.e.now c.get.result.now c.args.self.now c.value.new.self c.in_ok-value-in-Neg.field-0 c.in_ok-a-in-Neg.a
    (c.in-Neg.is ∙ ap Neg (sym c.get.ensures)) c.in_ok-value-in-Neg.ensures c.in_ok-a-in-Neg.ensures)
    c.multiple.ensures

pub returns-in_ok-b-in-Bin : goal.returns-in_ok-b-in-Bin
returns-in_ok-b-in-Bin t c =
    let looked : true ≡ is_arithmetic c.in-Bin.op = cc in
    along c.operated.result (operated c.in-Bin.op (known (OfInt c.in_ok-a-in-Bin.a)) (known (OfInt c.in_ok-b-in-Bin.b)) c.value-then-is_arithmetic-2.new.self) (value c.args.e.now c.args.self.now) c.operated.new.self
    (bin_is c.args.e.now c.in-Bin.op c.get-then-is_arithmetic.result.now c.get-then-is_arithmetic-2.result.now c.args.self.now c.value-then-is_arithmetic.new.self c.value-then-is_arithmetic-2.new.self
    c.in_ok-value-in-Bin.field-0 c.in_ok-value-in-Bin-2.field-0 c.in_ok-a-in-Bin.a c.in_ok-b-in-Bin.b
    (c.in-Bin.is ∙ ap (λ x. Bin c.in-Bin.op x c.in-Bin.right) (sym c.get-then-is_arithmetic.ensures) ∙ ap (λ y. Bin c.in-Bin.op c.get-then-is_arithmetic.result.now y) (sym c.get-then-is_arithmetic-2.ensures))
    looked c.in_ok-value-in-Bin.ensures c.in_ok-a-in-Bin.ensures c.in_ok-value-in-Bin-2.ensures c.in_ok-b-in-Bin.ensures)
    c.operated.ensures

pub returns-in_ok-distance-in-Shift : goal.returns-in_ok-distance-in-Shift
returns-in_ok-distance-in-Shift t c =
    along c.shifted.result (shifted c.in_ok-pointer-in-Shift.pointer c.in_ok-distance-in-Shift.distance c.value-in-Shift-2.new.self) (value c.args.e.now c.args.self.now) c.shifted.new.self
    (shift_is c.args.e.now c.get-in-Shift.result.now c.get-in-Shift-2.result.now c.args.self.now c.value-in-Shift.new.self c.value-in-Shift-2.new.self
    c.in_ok-value-in-Shift.field-0 c.in_ok-value-in-Shift-2.field-0 c.in_ok-pointer-in-Shift.pointer c.in_ok-distance-in-Shift.distance
    (c.in-Shift.is ∙ ap (λ x. Shift x c.in-Shift.right) (sym c.get-in-Shift.ensures) ∙ ap (λ y. Shift c.get-in-Shift.result.now y) (sym c.get-in-Shift-2.ensures))
    c.in_ok-value-in-Shift.ensures c.in_ok-pointer-in-Shift.ensures c.in_ok-value-in-Shift-2.ensures c.in_ok-distance-in-Shift.ensures)
    c.shifted.ensures
