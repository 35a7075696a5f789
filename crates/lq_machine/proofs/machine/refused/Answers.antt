-- The root has ended.
use Rattle.std.proofs.Common.{refl, Some}
use Rattle.lq_tree.specs.declared.trap.TrapKind.TheVariants.{Words}
use Rattle.lq_machine.specs.Forest.{over}
use Rattle.lq_machine.proofs.machine.refused.Goals as goal

pub returns : goal.returns
returns c p =
    let is = c.end.ensures 1 in (
      c.new-2.result,
      c.new-2.ensures,
      record {
        same_heap = refl;
        no_cost = refl;
        no_log = c.new-3.ensures.items;
        no_stray = refl;
        begun = λ turns some. (over 0 0 0 (Some (record { kind = Words; at = c.args.at })), record { fits = is.fits; once = is.once; first = is.here }, refl);
      },
    )
