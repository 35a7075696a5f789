use Rattle.std.proofs.Common.{◌≡◌, not, sym, ap, ◌∙◌}
use Rattle.lq_tree.specs.declared.plain.PExpr.{Not, IsNull, Bin}
use Rattle.lq_symbolic.specs.declared.assume.Told.TheVariants.{Both, Compared}
use Rattle.lq_symbolic.specs.Value.{value}
use Rattle.lq_symbolic.specs.Assume.{assumed, with_null, with_compared}
use Rattle.lq_symbolic.specs.Told.{told}
use Rattle.lq_symbolic.proofs.Given.{left_along, not_is, null_is, bin_told}
use Rattle.lq_symbolic.proofs.state.SymState.+assume.Goals as goal

pub returns-in-Not : goal.returns-in-Not
returns-in-Not t c =
    left_along c.assume.result c.assume.new.self (assumed (not c.args.truth) c.get.result.now c.args.self.now) (assumed c.args.truth c.args.e.now c.args.self.now)
    (sym (not_is c.args.e.now c.get.result.now c.args.truth c.args.self.now (c.in-Not.is ∙ ap Not (sym c.get.ensures)))) c.assume.ensures

pub returns-in-IsNull : goal.returns-in-IsNull
returns-in-IsNull t c =
    left_along c.assume_null.result c.assume_null.new.self (with_null c.args.truth (value c.get-in-IsNull.result.now c.args.self.now)) (assumed c.args.truth c.args.e.now c.args.self.now)
    (sym (null_is c.args.e.now c.get-in-IsNull.result.now c.args.truth c.args.self.now (c.in-IsNull.is ∙ ap IsNull (sym c.get-in-IsNull.ensures)))) c.assume_null.ensures

pub returns-in_ok-assume-in-Both : goal.returns-in_ok-assume-in-Both
returns-in_ok-assume-in-Both t c =
    let tells : Both ≡ told c.in-Bin.op c.args.truth = cc c.in-Both.ensures in
    let whole = bin_told c.args.e.now c.in-Bin.op c.get-in-Both.result.now c.get-in-Both-2.result.now c.args.truth Both c.args.self.now
    (c.in-Bin.is ∙ ap (λ x. Bin c.in-Bin.op x c.in-Bin.right) (sym c.get-in-Both.ensures) ∙ ap (λ y. Bin c.in-Bin.op c.get-in-Both.result.now y) (sym c.get-in-Both-2.ensures)) tells in
    left_along c.assume-in-Both-2.result c.assume-in-Both-2.new.self (assumed c.args.truth c.get-in-Both-2.result.now c.assume-in-Both.new.self) (assumed c.args.truth c.args.e.now c.args.self.now)
    (ap (assumed c.args.truth c.get-in-Both-2.result.now) c.in_ok-assume-in-Both.ensures ∙ sym whole) c.assume-in-Both-2.ensures

pub returns-in-Compared : goal.returns-in-Compared
returns-in-Compared t c =
    let tells : Compared ≡ told c.in-Bin.op c.args.truth = cc c.in-Compared.ensures in
    let whole = bin_told c.args.e.now c.in-Bin.op c.get-in-Compared.result.now c.get-in-Compared-2.result.now c.args.truth Compared c.args.self.now
    (c.in-Bin.is ∙ ap (λ x. Bin c.in-Bin.op x c.in-Bin.right) (sym c.get-in-Compared.ensures) ∙ ap (λ y. Bin c.in-Bin.op c.get-in-Compared.result.now y) (sym c.get-in-Compared-2.ensures)) tells in
    left_along c.assume_compared.result c.assume_compared.new.self
    (with_compared c.in-Bin.op c.args.truth (value c.get-in-Compared.result.now) (value c.get-in-Compared-2.result.now) c.args.self.now) (assumed c.args.truth c.args.e.now c.args.self.now)
    (sym whole) c.assume_compared.ensures
