use Rattle.std.proofs.Common.{drop, arith, ◌+◌}
use Rattle.std.proofs.lemmas.Result.{err_from_is_err_and}
use Rattle.lq_instances.specs.Cuts.{found_rows}
use Rattle.lq_instances.proofs.FoundLemmas.{behind, rows_step, rows_fault}
use Rattle.lq_instances.proofs.list.all_rows.Goals as goal

pub returns-in_err-put_found-clause-fault : goal.returns-in_err-put_found-clause-fault
returns-in_err-put_found-clause-fault c =
    let p = err_from_is_err_and c.from_residual.result c.from_residual.ensures.1 in
    let i = c.loop-qualifier.qualifier-index in
    rw (p.1, p.2) (rows_fault (found_rows c.args.atoms.now c.args.template.now) c.loop-qualifier.found _ (drop i c.args.list.now) c.qualifier-item.result (drop (i + 1) c.args.list.now)
    (behind c.args.list.now i c.qualifier-item.result (omega arith) c.qualifier-item.is) c.loop-qualifier.invariant.so_far c.in_err-put_found.field-0.0 c.in_err-put_found.ensures.limit)

pub loop-qualifier-preserved : goal.loop-qualifier-preserved
loop-qualifier-preserved c =
    let i = c.loop-qualifier.qualifier-index in
    record {
      so_far = rows_step (found_rows c.args.atoms.now c.args.template.now) c.loop-qualifier.found _ (drop i c.args.list.now) c.qualifier-item.result (drop (i + 1) c.args.list.now)
          (behind c.args.list.now i c.qualifier-item.result (omega arith) c.qualifier-item.is) c.loop-qualifier.invariant.so_far c.put_found.new.found c.in_ok-put_found.ensures.rows;
      few = c.in_ok-put_found.ensures.few;
    }
