use Rattle.std.proofs.Common.{pos, ◌≡◌, take}
use Rattle.std.specs.List.{list_any}
use Rattle.lq_names.specs.Scopes.{Site}
use Rattle.lq_names.specs.Sites.{sites_list, sites_beside, sites_of_bodies}
use Rattle.lq_plain.proofs.FactorLemmas.{placed_takes}
use Rattle.lq_plain.proofs.factors.+factors_in_statements.Given as goal

abbrev pub invariant-stmts_take-loop-stmt : goal.invariant-stmts_take-loop-stmt
invariant-stmts_take-loop-stmt l =
    record {
      list : (s : Site) → l.found ≡ list_any (placed_takes (pos l.number)) (sites_list s (take l.stmt-index l.stmts));
      beside : (s : Site) → l.found ≡ list_any (placed_takes (pos l.number)) (sites_beside s (take l.stmt-index l.stmts));
    }

abbrev pub invariant-arms_take-loop-arm : goal.invariant-arms_take-loop-arm
invariant-arms_take-loop-arm l = (s : Site) → l.found ≡ list_any (placed_takes (pos l.number)) (sites_of_bodies s (take l.arm-index l.arms))
