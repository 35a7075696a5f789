-- One node more of the way, or none is left.
use Rattle.std.proofs.Common.{◌≡◌, ℕ, List, [], ◌++◌, ◌∷◌, ◌-◌, take, refl, ap, ◌∙◌, subst}
use Rattle.lq_machine.proofs.Rising.{Risen, rises_one, rises_all}
use Rattle.lq_machine.proofs.machine.forest.Forest.rise.Goals as goal

pub loop-node-preserved : goal.loop-node-preserved
loop-node-preserved c most crumbs below way has =
    let risen = c.loop-node.invariant most crumbs below way has in
    let before : c.loop-node.way.items ≡ c.pop.new.self.items ++ c.in-Some.node ∷ [] = c.in-Some.ensures.items in
    let here = subst (λ (w : List ℕ). Risen c.args.p.now most c.loop-node.self.nodes.items w crumbs below) before risen in
    rises_one c.args.p.now most c.loop-node.self.nodes.items c.make_anew.new.self.nodes.items c.pop.new.self.items c.in-Some.node crumbs below c.in_ok-make_anew.ensures.changes
    (c.in_ok-make_anew.ensures.anew most) here here.above refl

pub returns : goal.returns
returns c most crumbs below way has =
    let risen = c.loop-node.invariant most crumbs below way has in
    let none : c.loop-node.way.items ≡ [] =
    let left : c.pop.new.self.items ≡ [] = c.in_default.ensures.rest ∙ ap (λ (n : ℕ). take (n - 1) c.loop-node.way.items) c.in_default.ensures.cases.0 in
    c.in_default.ensures.items ∙ ap (λ (w : List ℕ). w ++ []) left in
    let here = subst (λ (w : List ℕ). Risen c.args.p.now most c.loop-node.self.nodes.items w crumbs below) none risen in
    rises_all c.args.p.now most c.loop-node.self.nodes.items crumbs below here here.above refl
