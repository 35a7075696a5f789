use Rattle.std.proofs.Common.{◌≡◌, ◌++◌, drop}
use Rattle.lq_templates.specs.Listing.{effects}
use Rattle.lq_templates.specs.Names.{marked}
use Rattle.lq_templates.proofs.listing.put_effects.Given as goal

abbrev pub invariant-loop-each : goal.invariant-loop-each
invariant-loop-each l = l.templates ++ effects l.slots l.scope l.done (marked l.in_scope) (drop l.each-index l.makers) ≡ l.fn.templates ++ effects l.slots l.scope l.done (marked l.in_scope) l.makers
