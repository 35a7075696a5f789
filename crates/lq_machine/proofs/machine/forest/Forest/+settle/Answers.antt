-- The branches of a fork come below its node, or it is passed.
use Rattle.std.proofs.Common.{◌≡◌, ℕ, ◌/◌, Option, sym, subst, ◌∙◌, arith, rules, add-one}
use Rattle.lq_meaning.specs.declared.line.Line.{Line}
use Rattle.lq_meaning.specs.declared.line.Standing.TheVariants.{Fork as IsFork}
use Rattle.lq_meaning.specs.Line.{standing_of, IsBelow}
use Rattle.lq_machine.specs.Forest.{Tree, uses}
use Rattle.lq_machine.specs.Around.{HasTree, Closes, Opens}
use Rattle.lq_meaning.proofs.OpenForks.{IsBelow-more}
use Rattle.lq_machine.proofs.Growth.{if_ok, grows_both, opens, passes_none, settles_behind, sprouts, Changes-trans}
use Rattle.lq_machine.proofs.machine.forest.Forest.+settle.Goals as goal
use Rattle.lq_machine.proofs.machine.forest.Forest.+settle.Goals.{settle-in-Fork, settle-in_default}

pub grow-returns-clause-grows : goal.grow-returns-clause-grows
grow-returns-clause-grows t c most some =
    let counts = c.in_ok-counts.ensures in
    rw (c.put.ensures, counts, c.counts.ensures, c.counts-2.ensures)
    (grows_both c.args.p.now most c.args.self.now.nodes.items c.add.new.self.nodes.items c.grow.new.self.nodes.items c.grow-2.new.self.nodes.items c.in_ok-node.ensures.added.0 c.args.line.now
    c.args.first (c.args.count / 2) c.args.count c.in_ok-node.node c.in_ok-left.left c.in_ok-right.right c.in_ok-node.ensures.added.1 c.in_ok-node.ensures.node
    c.in_ok-left.ensures.keeps c.in_ok-right.ensures.keeps (c.in_ok-left.ensures.grows most some) (c.in_ok-right.ensures.grows most some) (omega arith))

pub open-returns-then-count-eq0-clause-opens : goal.open-returns-then-count-eq0-clause-opens
open-returns-then-count-eq0-clause-opens t c most is_fork few = (
  c.in_ok-pass_fork.ensures.below most few,
  λ turns branch above.
      passes_none c.args.p.now turns branch c.args.seat.passed c.args.line c.pass_fork.new.self is_fork (sym c.if-count-eq0.true ∙ c.fork_size-count.ensures c.args.p.now turns branch c.args.seat.passed)
      (c.in_ok-pass_fork.ensures.task turns branch c.args.seat.passed is_fork (IsBelow-more most turns above c.args.line few)),
)

pub open-returns-clause-opens : goal.open-returns-clause-opens
open-returns-clause-opens t c =
    if_ok c.close.result _ _
    (λ (after : Option Line) (closes : (most : ℕ) (below : Tree) → standing_of c.args.line ≡ IsFork → IsBelow most c.args.line → HasTree c.grow.new.self.nodes.items most c.in_ok-children.children below → uses c.args.seat.node below ≡ 0
    → Closes c.args.p.now most c.grow.new.self.nodes.items c.close.new.self.nodes.items c.args.seat.node c.args.seat.number c.args.seat.passed c.args.line below after)
    most is_fork few.
    let grown = c.in_ok-children.ensures.grows most few.positive in
    opens c.args.p.now most c.args.self.now.nodes.items c.grow.new.self.nodes.items c.close.new.self.nodes.items c.args.seat.node c.args.seat.number c.args.seat.passed c.args.line
    c.fork_size-count.result c.in_ok-children.children is_fork c.fork_size-count.ensures c.in_ok-children.ensures.keeps grown c.requires after
    (closes most grown.tree is_fork few grown.has (grown.fresh c.args.seat.node c.requires)))
    c.close.ensures.closes

pub settle-stand-requires : goal.settle-stand-requires
settle-stand-requires t c = omega (arith, c.loop.invariant.0.longer, c.requires)

pub settle-returns-then-not-matches-clause-changes : goal.settle-returns-then-not-matches-clause-changes
settle-returns-then-not-matches-clause-changes t c = Changes-trans _ _ _ c.args.seat.node c.loop.invariant.0 c.stand.ensures.changes

pub settle-returns-then-not-matches-clause-settles : goal.settle-returns-then-not-matches-clause-settles
settle-returns-then-not-matches-clause-settles t c most few =
    let here = c.loop.invariant.1 most few in
    settles_behind c.args.p.now most _ _ _ c.args.seat.node c.args.seat.number c.loop.passed c.args.seat.passed c.loop.line c.args.line c.loop.invariant.0 here.1
    (c.stand.ensures.settles c.args.p.now most here.0 (λ is. elim c.match-matches.branch [ settle-in-Fork w ↦ absurd (let a = w.matches-is in let b = c.if-not-matches.true in cc) | settle-in_default w ↦ w.in_default.not-Fork (c.standing.ensures.value ∙ is) ]))

pub settle-open-requires : goal.settle-open-requires
settle-open-requires t c = (search rules, omega (arith, c.loop.invariant.0.longer, c.requires))

pub settle-returns-in_default-2-clause-changes : goal.settle-returns-in_default-2-clause-changes
settle-returns-in_default-2-clause-changes t c = Changes-trans _ _ _ c.args.seat.node c.loop.invariant.0 c.in_ok-after.ensures.changes

pub settle-returns-in_default-2-clause-settles : goal.settle-returns-in_default-2-clause-settles
settle-returns-in_default-2-clause-settles t c most few =
    let here = c.loop.invariant.1 most few in
    settles_behind c.args.p.now most _ _ _ c.args.seat.node c.args.seat.number c.loop.passed c.args.seat.passed c.loop.line c.args.line c.loop.invariant.0 here.1
    (subst (λ (after : Option Line). Opens c.args.p.now most c.loop.self.nodes.items c.open.new.self.nodes.items c.args.seat.node c.args.seat.number c.loop.passed c.loop.line after) c.in_default-2.is
    (c.in_ok-after.ensures.opens most (elim c.match-matches.branch [ settle-in-Fork w ↦ sym c.standing.ensures.value ∙ w.in-Fork.is | settle-in_default w ↦ absurd (let a = w.matches-is in let b = c.if-not-matches.false in cc) ]) here.0))

pub settle-loop-preserved : goal.settle-loop-preserved
settle-loop-preserved t c = (
  Changes-trans _ _ _ c.args.seat.node c.loop.invariant.0 c.in_ok-after.ensures.changes,
  λ most few.
      let here = c.loop.invariant.1 most few in
      let is_fork : standing_of c.loop.line ≡ IsFork = elim c.match-matches.branch [ settle-in-Fork w ↦ sym c.standing.ensures.value ∙ w.in-Fork.is | settle-in_default w ↦ absurd (let a = w.matches-is in let b = c.if-not-matches.false in cc) ] in
      let behind = subst (λ (after : Option Line). Opens c.args.p.now most c.loop.self.nodes.items c.open.new.self.nodes.items c.args.seat.node c.args.seat.number c.loop.passed c.loop.line after) c.in-Some.is
      (c.in_ok-after.ensures.opens most is_fork here.0) in
      (behind.0, λ turns branch above. rw add-one (behind.1 turns branch above ∙ here.1 turns branch above)),
)

pub sprout-returns-clause-grows : goal.sprout-returns-clause-grows
sprout-returns-clause-grows t c most some =
    sprouts c.args.p.now most c.args.self.now.nodes.items c.add.new.self.nodes.items c.settle.new.self.nodes.items c.in_ok-node.ensures.added.0 c.args.line.now c.child.new.child c.args.number c.in_ok-node.node some
    c.in_ok-node.ensures.added.1 c.in_ok-node.ensures.node (c.in_ok-child.ensures.task) (c.in_ok-settle.ensures.settles most (c.in_ok-child.ensures.below most some))
