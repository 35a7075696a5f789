use Rattle.std.proofs.Common.{ℕ, None, subst}
use Rattle.std.proofs.lemmas.Result.{IfOk-weaker}
use Rattle.lq_meaning.specs.World.{World}
use Rattle.lq_meaning.specs.Ending.{Outcome}
use Rattle.lq_meaning.specs.declared.line.Line.{Line}
use Rattle.lq_meaning.specs.declared.lines.Turn.{Turn}
use Rattle.lq_meaning.specs.declared.lines.Turn.TheVariants.{Run}
use Rattle.lq_meaning.specs.Lines.{IsRest}
use Rattle.lq_meaning.proofs.ForkTurns.{Continues, entered}
use Rattle.lq_meaning.proofs.lines.Lines.enter.Goals as goal

pub returns : goal.returns
returns c =
    let p = c.args.p.now in
    let new = c.next_branch.new.self in
    IfOk-weaker c.next_branch.result
    (λ (turn : Turn). Continues p c.args.self.now.forks.items (record { line = c.replace-line.result; begun = 0; trap = None }) new turn)
    (λ (turn : Turn). (fuel : ℕ) (w : World) (o : Outcome) → IsRest p fuel c.args.self.now Run w o → IsRest p fuel new turn w o)
    (λ turn goes. entered p c.args.self.now new turn c.requires (subst (λ (line : Line). Continues p c.args.self.now.forks.items (record { line = line; begun = 0; trap = None }) new turn) c.replace-line.ensures.value goes))
    c.next_branch.ensures
