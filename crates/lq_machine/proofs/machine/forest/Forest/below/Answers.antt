-- One node down, by the kind of the node.
use Rattle.std.proofs.Common.{subst, ◌<◌, ◌≤◌, refl}
use Rattle.lq_machine.specs.declared.machine.forest.Counts.{Counts}
use Rattle.lq_machine.proofs.Down.{has_node, down_left, down_right, down_fork, down_end}
use Rattle.lq_machine.proofs.machine.forest.Forest.below.Goals as goal

pub returns-then-rest-first : goal.returns-then-rest-first
returns-then-rest-first c most tree fits here runs =
    let lookup = c.in_ok-left.ensures.lookup in
    down_left _ most _ _ _ _ tree (has_node _ _ _ _ _ c.deref.ensures.value lookup.3.0 lookup.1 c.in-Pair.is) fits here runs
    (subst (λ (counts : Counts). c.args.rest < counts.runnable) c.counts-first.ensures c.if-rest-first.true)

pub returns-else-rest-first : goal.returns-else-rest-first
returns-else-rest-first c most tree fits here runs =
    let lookup = c.in_ok-left.ensures.lookup in
    rw (c.counts-first.ensures)
    (down_right _ most _ _ _ _ tree (has_node _ _ _ _ _ c.deref.ensures.value lookup.3.0 lookup.1 c.in-Pair.is) fits here runs
    (subst (λ (counts : Counts). counts.runnable ≤ c.args.rest) c.counts-first.ensures c.if-rest-first.false))

pub returns-in-Fork : goal.returns-in-Fork
returns-in-Fork c most tree fits here runs =
    let lookup = c.in_ok-left.ensures.lookup in
    down_fork _ most _ _ _ _ tree (has_node _ _ _ _ _ c.deref.ensures.value lookup.3.0 lookup.1 c.in-Fork.is) fits here runs

pub returns-in-Leaf : goal.returns-in-Leaf
returns-in-Leaf c most tree fits here runs =
    let lookup = c.in_ok-left.ensures.lookup in
    down_end _ most _ _ _ tree (has_node _ _ _ _ _ c.deref.ensures.value lookup.3.0 lookup.1 refl) c.in-Leaf.is fits here runs

pub returns-in-Leaf-2 : goal.returns-in-Leaf-2
returns-in-Leaf-2 c most tree fits here runs =
    let lookup = c.in_ok-left.ensures.lookup in
    down_end _ most _ _ _ tree (has_node _ _ _ _ _ c.deref.ensures.value lookup.3.0 lookup.1 refl) c.in-Leaf.is fits here runs
