use Rattle.std.proofs.Common.{◌≡◌, subst}
use Rattle.std.specs.Prelude.{List, [], None, Some, slice_get}
use Rattle.lq_code.specs.Valid.{Spot}
use Rattle.lq_code.proofs.laws.faults_exclude_each_other.Goals as goal

-- a list that is empty has no first spot
none_first : (spots : List Spot) (spot : Spot) → spots ≡ [] → slice_get spots 0 ≡ Some spot → ⊥
none_first spots spot empty first =
    let P : List Spot → Type 0 = λ list. slice_get list 0 ≡ Some spot in
    let none : None ≡ Some spot = subst P empty first in
    cc

pub returns-clause-rules : goal.returns-clause-rules
returns-clause-rules c code func instr valid first = none_first _ (func, instr) valid first
