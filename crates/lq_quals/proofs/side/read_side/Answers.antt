use Rattle.std.proofs.Common.{◌∷◌, []}
use Rattle.std.proofs.lemmas.Bool.Decides.{Decides-eqb}
use Rattle.std.proofs.lemmas.Slice.Eq.{strip_prefix_is}
use Rattle.lq_quals.proofs.SideReading.{flipped_is, begin_minus, begin_plain, no_side, side_end, side_turn}
use Rattle.lq_quals.proofs.side.read_side.Goals as goal
use Rattle.lq_quals.proofs.side.read_side.Goals.{in-Some, in-None}

pub loop-addends-init : goal.loop-addends-init
loop-addends-init c =
    let front = strip_prefix_is Decides-eqb c.args.text.now (45 ∷ []) c.strip_prefix.result c.strip_prefix.ensures.cases in
    elim c.match-strip_prefix.branch [
      | in-Some w ↦ rw (w.minus-is, c.new-addends.ensures) (begin_minus c.args.negated c.args.text.now w.in-Some.rest.now (rw w.in-Some.is at front))
      | in-None w ↦ rw (w.minus-is, c.new-addends.ensures) (begin_plain c.args.negated c.args.text.now (rw w.in-None.is at front))
    ]

pub returns-in_default : goal.returns-in_default
returns-in_default c =
    no_side c.loop-addends.invariant c.before_sign.result.0.now c.before_sign.result.1.now c.before_sign.ensures (let out = rw c.in_default.is at c.in_ok-addend.ensures in rw flipped_is at out)

pub returns-in_default-split_first : goal.returns-in_default-split_first
returns-in_default-split_first c =
    let read = rw c.in-Some-2.is at c.in_ok-addend.ensures in
    let told = rw flipped_is at read in
    rw c.in_ok-push.ensures.ok (side_end c.loop-addends.invariant c.before_sign.result.0.now c.before_sign.result.1.now c.in-Some-2.addend c.before_sign.ensures c.in_default-split_first.ensures.cases told)

pub loop-addends-preserved : goal.loop-addends-preserved
loop-addends-preserved c =
    let read = rw c.in-Some-2.is at c.in_ok-addend.ensures in
    let told = rw flipped_is at read in
    rw c.in_ok-push.ensures.ok (side_turn c.loop-addends.invariant c.before_sign.result.0.now c.before_sign.result.1.now c.in-Some-split_first.sign.now c.in-Some-split_first.later.now c.in-Some-2.addend c.before_sign.ensures c.in-Some-split_first.ensures.cases.0 told)
