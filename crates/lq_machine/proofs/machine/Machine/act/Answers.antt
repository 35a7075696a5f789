-- What comes of an action.
use Rattle.std.proofs.Common.{◌+◌, suc, ap, ◌∙◌, refl, rules, w64}
use Rattle.std.proofs.lemmas.Int.{to_z-of_z}
use Rattle.lq_meaning.specs.Line.{answered}
use Rattle.lq_meaning.specs.declared.heap.Acted.{Acted}
use Rattle.lq_meaning.specs.Heap.{heap_world, comes, printed_by}
use Rattle.lq_machine.proofs.Machining.{acts_answer, acts_trap}
use Rattle.lq_machine.proofs.machine.Machine.act.Goals as goal
use Rattle.lq_machine.proofs.machine.Machine.act.Goals.{in-Answer+in_ok-answer-in-Answer, in-Trap}

pub returns-clause-acts : goal.returns-clause-acts
returns-clause-acts c due = elim c.match-acted.branch [
  | in-Answer+in_ok-answer-in-Answer w ↦
      rw (w.line-is)
      (acts_answer c.args.p.now c.args.self.now (record { alloc = c.args.self.now.alloc; forest = c.args.self.now.forest; heap = c.act.new.self; cost = c.args.self.now.cost + 1; log = c.args.self.now.log; stray = c.args.self.now.stray; way = c.args.self.now.way }) c.args.line w.answer.new.self c.args.action c.args.at w.in-Answer.word
      (λ printed. c.in_ok-acted.ensures c.args.self.now.cost printed ∙ ap (λ (a : Acted). comes a (heap_world c.act.new.self (c.args.self.now.cost + 1) (printed_by c.args.action printed))) w.in-Answer.is)
      refl w.in_ok-answer-in-Answer.ensures.below (λ turns branch passed few. w.in_ok-answer-in-Answer.ensures.task c.args.action c.args.at turns branch passed due few
      ∙ ap (answered c.args.p.now (suc turns) branch passed c.args.line) (to_z-of_z w64 w.in-Answer.word (search rules))))
  | in-Trap w ↦
      rw (w.line-is)
      (acts_trap c.args.p.now c.args.self.now (record { alloc = c.args.self.now.alloc; forest = c.args.self.now.forest; heap = c.act.new.self; cost = c.args.self.now.cost + 1; log = c.args.self.now.log; stray = c.args.self.now.stray; way = c.args.self.now.way }) c.args.line w.trap.new.self c.args.action c.args.at w.in-Trap.kind
      (λ printed. c.in_ok-acted.ensures c.args.self.now.cost printed ∙ ap (λ (a : Acted). comes a (heap_world c.act.new.self (c.args.self.now.cost + 1) (printed_by c.args.action printed))) w.in-Trap.is)
      refl w.trap.ensures.below (λ turns branch passed. w.trap.ensures.task c.args.action c.args.at c.args.p.now turns branch passed due))
]
