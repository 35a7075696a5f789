use Rattle.std.proofs.Common.{◌≡◌, map, take, drop, []}
use Rattle.lq_plain.specs.Plain.{fresh, param_slot, scope_from}
use Rattle.lq_plain.specs.SeenMade.{made_of}
use Rattle.lq_plain.proofs.functions.parameters.Given as goal

abbrev pub invariant-loop-param : goal.invariant-loop-param
invariant-loop-param l = record {
  slots : made_of l.made ≡ fresh (map param_slot (take l.param-index l.params));
  scope : scope_from l.param-index (drop l.param-index l.params) l.scope ≡ scope_from 0 l.params [];
}
