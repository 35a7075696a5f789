use Rattle.std.proofs.Common.{◌≡◌, ◌≢◌, ℕ, ◌<◌, ◌^◌, pos, sym, ◌∙◌, subst, arith, to_z, of_z}
use Rattle.std.specs.Int.{w128}
use Rattle.std.proofs.lemmas.Int.{ints}
use Rattle.lq_meaning.specs.Blocks.{Laid}
use Rattle.lq_meaning.proofs.Spans.{no_cell}
use Rattle.lq_meaning.proofs.blocks.Blocks.cell.Goals as goal

pub returns-in_err-element-clause-value : goal.returns-in_err-element-clause-value
returns-in_err-element-clause-value c =
    let laid : Laid c.args.self.now = subst Laid c.self.view_is c.self.invariant in
    let element : to_z w128 (of_z w128 c.args.element) ≡ c.args.element = omega (arith, ints) in
    let none : (n : ℕ) → n < 2 ^ 32 → c.args.element ≢ pos n = λ n small e. c.in_err-element.ensures.none n small (element ∙ e) in
    c.from_residual-in_err-element.ensures ∙ sym (no_cell c.args.self.now c.args.block c.args.field c.args.element laid none)
