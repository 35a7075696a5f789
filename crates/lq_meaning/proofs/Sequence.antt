-- How parts of a run that follow one another may be grouped.
use Rattle.std.proofs.Common.{◌≡◌, refl}
use Rattle.lq_meaning.specs.Control.{Came, Gives, Stops, Run, give, go_on, ◌⨾◌}

-- of what came
pub go_on-assoc : {X Y Z : Type 0} (a : Came X) (next : X → Run Y) (last : Y → Run Z) → go_on (go_on a next) last ≡ go_on a (λ x. next x ⨾ last)
go_on-assoc (Gives x w) next last = refl
go_on-assoc (Stops ending w) next last = refl

pub go_on-give : {X : Type 0} (a : Came X) → go_on a give ≡ a
go_on-give (Gives x w) = refl
go_on-give (Stops ending w) = refl

-- of runs
pub then-assoc : {X Y Z : Type 0} (first : Run X) (next : X → Run Y) (last : Y → Run Z) → (first ⨾ next ⨾ last) ≡ (first ⨾ λ x. next x ⨾ last)
then-assoc first next last = λ i w. go_on-assoc (first w) next last i

pub then-give : {X : Type 0} (first : Run X) → (first ⨾ give) ≡ first
then-give first = λ i w. go_on-give (first w) i
