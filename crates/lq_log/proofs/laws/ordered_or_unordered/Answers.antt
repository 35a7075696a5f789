use Rattle.lq_log.proofs.PathLaws.{unordered-IsUnordered, IsUnordered_from, ordered_or_not, not_both}
use Rattle.lq_log.proofs.laws.ordered_or_unordered.Goals as goal

pub returns-clause-unordered : goal.returns-clause-unordered
returns-clause-unordered c = λ path other. (IsUnordered_from path other, unordered-IsUnordered path other)

pub returns-clause-either : goal.returns-clause-either
returns-clause-either c = ordered_or_not

pub returns-clause-never_both : goal.returns-clause-never_both
returns-clause-never_both c = not_both
