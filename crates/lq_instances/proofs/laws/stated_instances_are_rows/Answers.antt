use Rattle.lq_instances.proofs.StatedRows.{all_are_rows}
use Rattle.lq_instances.proofs.laws.stated_instances_are_rows.Goals as goal

pub returns : goal.returns
returns c = λ text quals t reads distinct.
    all_are_rows quals (λ k a at. c.atoms_differ.ensures.named text quals k a reads at) (λ i j a at other. c.atoms_differ.ensures.once text quals i j a reads at other) (c.rows_are_bounded.ensures text quals reads) t distinct
