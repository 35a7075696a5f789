use Rattle.std.proofs.Common.{◌≡◌, take}
use Rattle.std.specs.List.{list_any}
use Rattle.lq_names.specs.Scopes.{Site}
use Rattle.lq_names.specs.Calls.{placed_does}
use Rattle.lq_names.specs.Sites.{sites_list, sites_beside, sites_of_bodies}
use Rattle.lq_names.specs.Seen.{is_among}
use Rattle.lq_names.proofs.effects.+effects_of_statements.Given as goal

abbrev pub invariant-stmts_do-loop-stmt : goal.invariant-stmts_do-loop-stmt
invariant-stmts_do-loop-stmt l =
    record {
      list : (s : Site) → l.found ≡ list_any (placed_does l.effect (is_among l.names)) (sites_list s (take l.stmt-index l.stmts));
      beside : (s : Site) → l.found ≡ list_any (placed_does l.effect (is_among l.names)) (sites_beside s (take l.stmt-index l.stmts));
    }

abbrev pub invariant-arms_do-loop-arm : goal.invariant-arms_do-loop-arm
invariant-arms_do-loop-arm l = (s : Site) → l.found ≡ list_any (placed_does l.effect (is_among l.names)) (sites_of_bodies s (take l.arm-index l.arms))
