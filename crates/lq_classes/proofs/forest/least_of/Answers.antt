use Rattle.std.proofs.Common.{◌≡◌, ◌<◌, length, get_or, arith, ap, sym, ◌∙◌, ◌≢◌}
use Rattle.std.proofs.Math.ListN.{length-set}
use Rattle.lq_classes.specs.Forest.{stays}
use Rattle.lq_classes.proofs.ForestLemmas.{leads-on, shortened_start, shortened_more, led_on, next_le, read_at}
use Rattle.lq_classes.proofs.forest.least_of.Goals as goal

pub way-init : goal.way-init
way-init c = record { shortened = shortened_start c.args.parents.now.items c.requires.forest; leads = stays; within = omega arith; inside = c.requires.within }

pub way-preserved : goal.way-preserved
way-preserved c =
    let old = c.args.parents.now.items in
    let ps = c.way.parents.items in
    let at = c.way.at in
    let s = c.way.invariant.shortened in
    let within : at < length ps = omega (arith, c.way.invariant.within, c.way.invariant.inside) in
    let first = read_at ps at c.index.result.now within c.index.ensures in
    let again = read_at ps at c.index-in-way.result.now within c.index-in-way.ensures in
    let down = s.forest at in
    let up : c.index-in-way.result.now < length ps = omega (arith, again, down, within) in
    let next = read_at ps c.index-in-way.result.now c.index-next.result.now up c.index-next.ensures in
    let moves : get_or ps at 0 ≢ at = λ e. c.way-test.true (sym first ∙ e) in
    let is : c.index-next.result.now ≡ get_or ps (get_or ps at 0) 0 = sym next ∙ ap (λ i. get_or ps i 0) (sym again) in
    let size = length-set ps at c.index-next.result.now in
    let le = next_le old ps at c.index-next.result.now s within moves is in
    record {
      shortened = shortened_more old ps at c.index-next.result.now s within moves is;
      leads = leads-on c.way.invariant.leads (led_on old ps at c.index-next.result.now s within moves is);
      within = omega (arith, le, c.way.invariant.within);
      inside = omega (arith, size, c.way.invariant.inside);
    }
