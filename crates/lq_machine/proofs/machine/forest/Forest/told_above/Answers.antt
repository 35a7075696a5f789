-- What is told of the two sides of a pair, and of the children of a fork that are under way.
use Rattle.std.proofs.Common.{◌≡◌, false, sym, ap, ◌∙◌, subst}
use Rattle.lq_machine.specs.declared.machine.forest.Counts.{Counts}
use Rattle.lq_machine.specs.declared.machine.forest.Kind.{Kind}
use Rattle.lq_machine.specs.Forest.{counts_at, counts_above, counts_both, IsTold}
use Rattle.lq_machine.proofs.Down.{has_node}
use Rattle.lq_machine.proofs.machine.forest.Forest.told_above.Goals as goal

pub returns-in_ok-counts-in-Pair : goal.returns-in_ok-counts-in-Pair
returns-in_ok-counts-in-Pair c =
    let lookup = c.in-Some.ensures.lookup in
    let told : c.in_ok-counts-in-Pair.counts ≡ counts_both (counts_at c.args.self.now.nodes.items c.in-Pair.left) (counts_at c.args.self.now.nodes.items c.in-Pair.right)
    = rw (sym c.counts.ensures, sym c.counts-in-Pair.ensures) (c.in_ok-counts-in-Pair.ensures) in
    let has = has_node _ _ _ _ _ c.deref.ensures.value lookup.3.0 lookup.1 c.in-Pair.is in
    (has.found, has.there, subst (λ (kind : Kind). IsTold c.args.self.now.nodes.items kind c.in_ok-counts-in-Pair.counts) (sym has.is) told)

pub returns-else-counts : goal.returns-else-counts
returns-else-counts c =
    let lookup = c.in-Some.ensures.lookup in
    let open' : (counts_at c.args.self.now.nodes.items c.in-Fork.children).ended ≡ false = ap (λ (counts : Counts). counts.ended) (sym c.counts-counts.ensures) ∙ c.if-counts.false in
    let told : c.counts_above.result ≡ counts_above (counts_at c.args.self.now.nodes.items c.in-Fork.children) = c.counts_above.ensures ∙ ap counts_above c.counts-counts.ensures in
    let has = has_node _ _ _ _ _ c.deref.ensures.value lookup.3.0 lookup.1 c.in-Fork.is in
    (has.found, has.there, subst (λ (kind : Kind). IsTold c.args.self.now.nodes.items kind c.counts_above.result) (sym has.is) (open', told))
