use Rattle.std.proofs.Common.{◌≡◌, ◌≤◌, [], length, drop}
use Rattle.std.specs.List.{flat_map}
use Rattle.lq_templates.specs.Rows.{same_row}
use Rattle.lq_instances.specs.Search.{gathered}
use Rattle.lq_instances.specs.Cuts.{found_rows}
use Rattle.lq_instances.proofs.list.all_rows.Given as goal

abbrev pub invariant-loop-qualifier : goal.invariant-loop-qualifier
invariant-loop-qualifier l =
    record {
      so_far : gathered same_row l.found (flat_map (found_rows l.atoms l.template) (drop l.qualifier-index l.list)) ≡ gathered same_row [] (flat_map (found_rows l.atoms l.template) l.list);
      few : length l.found ≤ 256;
    }
