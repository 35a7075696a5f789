use Rattle.std.proofs.Common.{◌≡◌, ◌≤◌, length, take, drop}
use Rattle.lq_names.specs.Faults.{gathered}
use Rattle.lq_names.specs.Sites.{sites_list, sites_beside, sites_of_bodies}
use Rattle.lq_names.specs.Scopes.{in_parallel}
use Rattle.lq_names.specs.Seen.{frame_site}
use Rattle.lq_names.proofs.statements.+statements.Given as goal

abbrev pub invariant-in_arms-loop-arm : goal.invariant-in_arms-loop-arm
invariant-in_arms-loop-arm l =
    let s = frame_site l.frame l.fn.scope.items in
    record {
      same : l.scope.items ≡ l.fn.scope.items;
      so_far : gathered l.found (sites_of_bodies s (drop l.arm-index l.arms)) ≡ gathered l.fn.found (sites_of_bodies s l.arms);
    }

abbrev pub invariant-in_block-loop-stmt : goal.invariant-in_block-loop-stmt
invariant-in_block-loop-stmt l =
    record {
      within : l.height ≤ length l.scope.items;
      kept : take l.height l.scope.items ≡ l.fn.scope.items;
      so_far : gathered l.found (sites_list (frame_site l.frame l.scope.items) (drop l.stmt-index l.body)) ≡ gathered l.fn.found (sites_list (frame_site l.frame l.fn.scope.items) l.body);
    }

abbrev pub invariant-in_branches-loop-stmt : goal.invariant-in_branches-loop-stmt
invariant-in_branches-loop-stmt l =
    let s = frame_site l.frame l.fn.scope.items in
    record {
      same : l.scope.items ≡ l.fn.scope.items;
      so_far : gathered l.found (sites_beside (in_parallel s) (drop l.stmt-index l.blocks)) ≡ gathered l.fn.found (sites_beside (in_parallel s) l.blocks);
    }
