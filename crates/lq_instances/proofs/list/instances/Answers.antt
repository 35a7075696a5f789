use Rattle.lq_instances.proofs.FoundLemmas.{given_rows, given_fault}
use Rattle.lq_instances.proofs.list.instances.Goals as goal

pub returns-clause-rows : goal.returns-clause-rows
returns-clause-rows c = given_rows c.all_rows.result c.args.template.now c.args.quals.now _ _ c.as_slice.ensures c.as_slice-2.ensures c.all_rows.ensures.rows

pub returns-clause-fault : goal.returns-clause-fault
returns-clause-fault c = given_fault c.all_rows.result c.args.template.now c.args.quals.now _ _ c.as_slice.ensures c.as_slice-2.ensures c.all_rows.ensures.fault
