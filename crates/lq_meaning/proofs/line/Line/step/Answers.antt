use Rattle.std.proofs.lemmas.Result.{IfOk-weaker}
use Rattle.lq_meaning.specs.Moves.{Moved, moving}
use Rattle.lq_meaning.specs.Weight.{weight_of}
use Rattle.lq_meaning.proofs.LineMoves.{stepped}
use Rattle.lq_meaning.proofs.line.Line.step.Goals as goal

pub returns-in-Some : goal.returns-in-Some
returns-in-Some c =
    IfOk-weaker c.statement.result _ (λ stands. Moved c.args.p.now c.args.self.now (moving c.args.p.now c.args.self.now) (weight_of c.args.self.now) stands c.statement.new.self)
    (λ stands moved. stepped c.args.p.now c.args.self.now c.in-Some.statement.now c.in-Some.rest stands c.statement.new.self c.in-Some.ensures.cases.0 moved) c.statement.ensures
