-- A step of the machine, and what was written of one that failed.
use Rattle.std.proofs.Common.{ℕ, ◌+◌, [], Option, refl, sym, ap, ◌∙◌, subst, Global}
use Rattle.lq_shelf.proofs.Pieces.{Appends-nil}
use Rattle.std.specs.Prelude.{Vec}
use Rattle.lq_log.specs.declared.entry.Entry.{Entry}
use Rattle.lq_meaning.specs.declared.line.Line.{Line}
use Rattle.lq_meaning.specs.Heap.{printed_by}
use Rattle.lq_machine.specs.declared.machine.forest.Forest.{Forest}
use Rattle.lq_machine.specs.Around.{IsVacant}
use Rattle.lq_machine.specs.Machine.{Acts}
use Rattle.lq_machine.proofs.Machines.{tries_none, on_err}
use Rattle.lq_machine.proofs.Machining.{machine_tries, machine_follows, machine_strays}
use Rattle.lq_machine.proofs.machine.Machine.step.Goals as goal

pub returns-in_err-seat-clause-tries : goal.returns-in_err-seat-clause-tries
returns-in_err-seat-clause-tries g c = on_err c.from_residual.result _ (tries_none _ c.args.p.now c.args.self.now c.args.pick)

pub returns-in_default : goal.returns-in_default
returns-in_default g c = record { makes = tt; tries = tries_none _ c.args.p.now c.args.self.now c.args.pick; failed = λ is. absurd cc; other = λ is. refl }

pub returns-in_err-note-clause-tries : goal.returns-in_err-note-clause-tries
returns-in_err-note-clause-tries g c = on_err c.from_residual-in_err-note.result _ (tries_none _ c.args.p.now c.args.self.now c.args.pick)

pub returns-in_err-after-clause-tries : goal.returns-in_err-after-clause-tries
returns-in_err-after-clause-tries g c = on_err c.from_residual-in_err-after.result _ (tries_none _ c.args.p.now c.args.self.now c.args.pick)

pub returns-in_default-2-clause-makes : goal.returns-in_default-2-clause-makes
returns-in_default-2-clause-makes g c = (
  [],
  Appends-nil _,
  c.in_ok-after.ensures.cost ∙ ap (λ (k : ℕ). k + 1) c.in_ok-note.ensures.cost,
  λ turns task printed above stands.
      machine_strays c.args.p.now c.args.self.now c.note.new.self c.act.new.self c.args.pick c.in_ok-seat.seat c.in_ok-seat.line c.in-Due.action c.in-Due.at c.pluck.new.self.nodes.items c.pluck.new.way.items
      c.requires c.runnable-runnable.result c.runnable-runnable.ensures c.in_ok-seat.ensures.line (sym c.standing.ensures.value ∙ c.in-Due.is) c.in_ok-note.ensures.heap c.in_ok-note.ensures.cost c.in_ok-note.ensures.stray
      turns task printed (subst (λ (after : Option Line). Acts c.args.p.now c.note.new.self c.act.new.self c.in_ok-seat.line c.in-Due.action c.in-Due.at after) c.in_default-2.is (c.in_ok-after.ensures.acts (sym c.standing.ensures.value ∙ c.in-Due.is)))
      (λ most crumbs around way. ap (λ (l : Vec Entry Global). l.items) c.in_ok-after.ensures.log ∙ c.in_ok-note.ensures.log most crumbs printed around way) stands,
)

pub returns-in_err-put_action-clause-tries : goal.returns-in_err-put_action-clause-tries
returns-in_err-put_action-clause-tries g c =
    on_err c.from_residual-in_err-put_action.result _ (
      printed_by c.in-Due.action [],
      c.in_err-put_action.ensures.prefix,
      λ turns task printed above stands.
          machine_tries c.args.p.now c.args.self.now c.note.new.self c.act.new.self c.args.pick c.in_ok-seat.seat c.in_ok-seat.line c.in-Due.action c.in-Due.at c.pluck.new.self.nodes.items c.pluck.new.way.items
          c.requires c.runnable-runnable.result c.runnable-runnable.ensures c.in_ok-seat.ensures.line (sym c.standing.ensures.value ∙ c.in-Due.is) c.in_ok-note.ensures.heap c.in_ok-note.ensures.cost c.in_ok-note.ensures.stray
          c.in-Some.after turns task printed (subst (λ (after : Option Line). Acts c.args.p.now c.note.new.self c.act.new.self c.in_ok-seat.line c.in-Due.action c.in-Due.at after) c.in-Some.is (c.in_ok-after.ensures.acts (sym c.standing.ensures.value ∙ c.in-Due.is))) above stands,
    )

pub returns-in_err-put_back-clause-tries : goal.returns-in_err-put_back-clause-tries
returns-in_err-put_back-clause-tries g c =
    on_err c.from_residual-in_err-put_back.result _ (
      printed_by c.in-Due.action [],
      c.in_ok-put_action.ensures.prefix,
      λ turns task printed above stands.
          machine_tries c.args.p.now c.args.self.now c.note.new.self c.act.new.self c.args.pick c.in_ok-seat.seat c.in_ok-seat.line c.in-Due.action c.in-Due.at c.pluck.new.self.nodes.items c.pluck.new.way.items
          c.requires c.runnable-runnable.result c.runnable-runnable.ensures c.in_ok-seat.ensures.line (sym c.standing.ensures.value ∙ c.in-Due.is) c.in_ok-note.ensures.heap c.in_ok-note.ensures.cost c.in_ok-note.ensures.stray
          c.in-Some.after turns task printed (subst (λ (after : Option Line). Acts c.args.p.now c.note.new.self c.act.new.self c.in_ok-seat.line c.in-Due.action c.in-Due.at after) c.in-Some.is (c.in_ok-after.ensures.acts (sym c.standing.ensures.value ∙ c.in-Due.is))) above stands,
    )

pub returns-clause-makes : goal.returns-clause-makes
returns-clause-makes g c = (
  printed_by c.in-Due.action [],
  c.in_ok-put_action.ensures.ok,
  c.in_ok-after.ensures.cost ∙ ap (λ (k : ℕ). k + 1) c.in_ok-note.ensures.cost,
  λ turns task printed above stands.
      machine_follows c.args.p.now c.args.self.now c.note.new.self (record { alloc = c.act.new.self.alloc; forest = c.put_back.new.self; heap = c.act.new.self.heap; cost = c.act.new.self.cost; log = c.act.new.self.log; stray = c.act.new.self.stray; way = c.put_back.new.way }) c.args.pick c.in_ok-seat.seat c.in_ok-seat.line c.in-Due.action c.in-Due.at c.pluck.new.self.nodes.items c.pluck.new.way.items
      c.requires c.runnable-runnable.result c.runnable-runnable.ensures c.in_ok-seat.ensures.line (sym c.standing.ensures.value ∙ c.in-Due.is) c.in_ok-note.ensures.heap c.in_ok-note.ensures.cost c.in_ok-note.ensures.stray
      c.in-Some.after turns task printed (subst (λ (after : Option Line). Acts c.args.p.now c.note.new.self c.act.new.self c.in_ok-seat.line c.in-Due.action c.in-Due.at after) c.in-Some.is (c.in_ok-after.ensures.acts (sym c.standing.ensures.value ∙ c.in-Due.is)))
      (c.in_ok-after.ensures.cost ∙ ap (λ (k : ℕ). k + 1) c.in_ok-note.ensures.cost) above
      (λ most crumbs around way. ap (λ (l : Vec Entry Global). l.items) c.in_ok-after.ensures.log ∙ c.in_ok-note.ensures.log most crumbs printed around way)
      (λ most crumbs way vacant few.
      c.in_ok-put_back.ensures most crumbs (ap (λ (w : Vec ℕ Global). w.items) (c.in_ok-after.ensures.way ∙ c.in_ok-note.ensures.way) ∙ way)
      (subst (λ (f : Forest). IsVacant f.nodes.items most crumbs c.in_ok-seat.seat.node) (sym (c.in_ok-after.ensures.forest ∙ c.in_ok-note.ensures.forest)) vacant) few)
      stands,
)
