use Rattle.std.proofs.Common.{w64, to_z, of_z, ◌∙◌, rules}
use Rattle.std.proofs.lemmas.Int.{to_z-of_z}
use Rattle.std.specs.Int.RustNames.{FitsSigned}
use Rattle.lq_instances.proofs.RowBounds.{kept_as}
use Rattle.lq_instances.proofs.row.named_row.Goals as goal

pub returns : goal.returns
returns c =
    let fits : FitsSigned w64 c.most_of-most.result = search rules in
    kept_as c.in_ok-terms.terms.items _ (to_z w64 (of_z w64 c.most_of-most.result)) _ c.row_of.result c.in_ok-terms.ensures
    (to_z-of_z w64 c.most_of-most.result fits ∙ c.most_of-most.ensures) c.row_of.ensures
