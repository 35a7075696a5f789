-- A node is told anew what is below it, or a fork is passed.
use Rattle.std.proofs.Common.{◌≡◌, ℕ, List, length, Option, None, Some, refl, sym, ap, ◌∙◌, subst, arith}
use Rattle.std.specs.Prelude.{IfSome, slice_get}
use Rattle.std.proofs.lemmas.Option.{slice_get_within}
use Rattle.std.proofs.Math.ListN.{length-set}
use Rattle.lq_meaning.specs.declared.line.Standing.TheVariants.{Fork as IsFork}
use Rattle.lq_meaning.specs.Line.{standing_of, IsBelow}
use Rattle.lq_machine.specs.declared.machine.forest.Counts.{Counts}
use Rattle.lq_machine.specs.declared.machine.forest.Kind.TheVariants.{Over}
use Rattle.lq_machine.specs.declared.machine.forest.Node.{Node}
use Rattle.lq_machine.specs.declared.machine.forest.Seat.{Seat}
use Rattle.lq_machine.specs.Forest.{Tree, uses, IsTold}
use Rattle.lq_machine.specs.Around.{under, Changes, HasTree, IsAnew}
use Rattle.lq_machine.proofs.Seats.{set-changes}
use Rattle.lq_machine.proofs.Growth.{if_ok, Changes-trans}
use Rattle.lq_machine.proofs.Rising.{anew_fork, anew_told}
use Rattle.lq_machine.proofs.machine.forest.Forest.make_anew.Goals as goal

-- the node is there, and is told what is below it
told_node : (nodes : List Node) (node : ℕ) (result : Option Counts) (counts : Counts) → result ≡ Some counts
    → IfSome result (λ counts. (found : Node) × (slice_get nodes node ≡ Some found) × IsTold nodes found.kind counts)
    → (found : Node) × (slice_get nodes node ≡ Some found) × IsTold nodes found.kind counts
told_node nodes node (Some counts') counts is told =
    let same : counts' ≡ counts = cc in subst (λ (counts : Counts). (found : Node) × (slice_get nodes node ≡ Some found) × IsTold nodes found.kind counts) same told
told_node nodes node None counts is told = absurd cc

pub tell-requires : goal.tell-requires
tell-requires c =
    let told = told_node c.args.self.now.nodes.items c.args.node c.in_ok-counts.field-0 c.in-Some.counts c.in-Some.is c.in_ok-counts.ensures in
    slice_get_within c.args.self.now.nodes.items c.args.node told.0 told.1

pub returns-in-Some-clause-changes : goal.returns-in-Some-clause-changes
returns-in-Some-clause-changes c =
    let told = told_node c.args.self.now.nodes.items c.args.node c.in_ok-counts.field-0 c.in-Some.counts c.in-Some.is c.in_ok-counts.ensures in
    rw (c.tell.ensures told.0 told.1) (set-changes c.args.self.now.nodes.items c.args.node _)

pub returns-in-Some-clause-anew : goal.returns-in-Some-clause-anew
returns-in-Some-clause-anew c most crumb below at fits_crumb fits once =
    let told = told_node c.args.self.now.nodes.items c.args.node c.in_ok-counts.field-0 c.in-Some.counts c.in-Some.is c.in_ok-counts.ensures in
    rw (c.tell.ensures told.0 told.1)
    (anew_told c.args.p.now most c.args.self.now.nodes.items c.args.node told.0 c.in-Some.counts told.1 told.0.kind refl told.2 crumb below at fits_crumb fits once)

pub leave-requires : goal.leave-requires
leave-requires c =
    let took = c.in_ok-seat.ensures in
    omega (arith, slice_get_within c.args.self.now.nodes.items c.args.node took.0 took.1, ap (λ (l : List Node). length l) took.4, length-set c.args.self.now.nodes.items c.args.node (record { kind = Over None; number = took.0.number; passed = took.0.passed; counts = took.0.counts }), ap (λ (s : Seat). s.node) took.2)

pub returns-in-Fork-clause-changes : goal.returns-in-Fork-clause-changes
returns-in-Fork-clause-changes c =
    let took = c.in_ok-seat.ensures in
    if_ok c.leave.result _ _
    (λ (x : Unit {0}) (changes : Changes c.take.new.self.nodes.items c.leave.new.self.nodes.items c.in_ok-seat.seat.node).
    Changes-trans c.args.self.now.nodes.items c.take.new.self.nodes.items c.leave.new.self.nodes.items c.args.node
    (subst (λ (l : List Node). Changes c.args.self.now.nodes.items l c.args.node) (sym took.4) (set-changes c.args.self.now.nodes.items c.args.node _))
    (subst (λ (s : Seat). Changes c.take.new.self.nodes.items c.leave.new.self.nodes.items s.node) took.2 changes))
    c.leave.ensures.changes

pub returns-in-Fork-clause-anew : goal.returns-in-Fork-clause-anew
returns-in-Fork-clause-anew c =
    let took = c.in_ok-seat.ensures in
    if_ok c.leave.result _ _
    (λ (x : Unit {0}) (anew : (most : ℕ) (below : Tree) → standing_of c.in-Fork.line ≡ IsFork → IsBelow most c.in-Fork.line → HasTree c.take.new.self.nodes.items most c.in-Fork.children below → uses c.in_ok-seat.seat.node below ≡ 0
    → IsAnew c.args.p.now most c.take.new.self.nodes.items c.leave.new.self.nodes.items (under c.in_ok-seat.seat.node c.in_ok-seat.seat.number c.in_ok-seat.seat.passed c.in-Fork.line) below)
    most crumb below at fits_crumb fits once.
    anew_fork c.args.p.now most c.args.self.now.nodes.items c.take.new.self.nodes.items c.leave.new.self.nodes.items c.args.node c.in-Fork.line c.in-Fork.children took.0 _ took.1 (sym took.3 ∙ c.in-Fork.is) took.4
    (subst (λ (s : Seat). (below : Tree) → standing_of c.in-Fork.line ≡ IsFork → IsBelow most c.in-Fork.line → HasTree c.take.new.self.nodes.items most c.in-Fork.children below → uses s.node below ≡ 0
    → IsAnew c.args.p.now most c.take.new.self.nodes.items c.leave.new.self.nodes.items (under s.node s.number s.passed c.in-Fork.line) below) took.2 (anew most))
    crumb below at fits_crumb fits once)
    c.leave.ensures.anew
