-- The code of worked programs does what they do.
use Rattle.std.proofs.Common.{◌≡◌, refl}
use Rattle.std.specs.Prelude.{[], ◌∷◌}
use Rattle.lq_meaning.specs.Control.{loop, iterations}
use Rattle.lq_meaning.specs.PlainMeaning.{sequential as plain_sequential, called as plain_called}
use Rattle.lq_meaning.proofs.worked.Outcomes.{numbers}
use Rattle.lq_meaning.proofs.worked.sources.Squares.{done_outcome, spent_outcome}
use Rattle.lq_meaning.proofs.worked.sources.Halves.{five_outcome}
use Rattle.lq_meaning.proofs.worked.plain.Squares.{squares}
use Rattle.lq_meaning.proofs.worked.plain.Halves.{halves}
use Rattle.lq_meaning.proofs.worked.plain.MiddleOverflow.{middle_overflow, nested_faults, stray_beside}
use Rattle.lq_meaning.proofs.worked.plain.Vector.{vector}
use Rattle.lq_meaning.proofs.worked.plain.EarlyStops.{pure_sides}
use Rattle.lq_code.specs.Compiled.{compiled}
use Rattle.lq_code.specs.Valid.{broken}
use Rattle.lq_code.specs.CodeMeaning.{sequential, called, run, forward}

-- at exactly its cost the code is done
squares-done : sequential 27 100 (compiled squares) [] ≡ done_outcome
unfolding called run forward iterations
squares-done = refl

-- with one less the last loop test is missing
squares-spent : sequential 26 100 (compiled squares) [] ≡ spent_outcome
unfolding called run forward iterations
squares-spent = refl

squares-valid : broken (compiled squares) ≡ []
squares-valid = refl

-- calls, a return out of an `if`, and a `cobegin`
halves-done : sequential 18 100 (compiled halves) (numbers (9 ∷ 9 ∷ 9 ∷ 9 ∷ 9 ∷ [])) ≡ five_outcome
unfolding called run forward iterations
halves-done = refl

-- whatever the fuel, the two do the same
halves-alike :
    sequential 11 100 (compiled halves) (numbers (9 ∷ 9 ∷ 9 ∷ 9 ∷ 9 ∷ [])) ≡ plain_sequential 11 100 halves (numbers (9 ∷ 9 ∷ 9 ∷ 9 ∷ 9 ∷ []))
unfolding called run forward plain_called loop iterations
halves-alike = refl

-- an input that is too long
halves-refused :
    sequential 11 2 (compiled halves) (numbers (9 ∷ 9 ∷ 9 ∷ [])) ≡ plain_sequential 11 2 halves (numbers (9 ∷ 9 ∷ 9 ∷ []))
unfolding called run forward plain_called loop iterations
halves-refused = refl

-- the middle one of three branches traps
middle-alike : sequential 1000 100 (compiled middle_overflow) [] ≡ plain_sequential 1000 100 middle_overflow []
unfolding called run forward plain_called loop iterations
middle-alike = refl

-- a trap inside a branch of a branch
nested-alike : sequential 1000 100 (compiled nested_faults) [] ≡ plain_sequential 1000 100 nested_faults []
unfolding called run forward plain_called loop iterations
nested-alike = refl

nested-valid : broken (compiled nested_faults) ≡ []
nested-valid = refl

-- a stray beside a branch that is done
stray-alike : sequential 1000 100 (compiled stray_beside) (numbers (7 ∷ 8 ∷ 9 ∷ [])) ≡ plain_sequential 1000 100 stray_beside (numbers (7 ∷ 8 ∷ 9 ∷ []))
unfolding called run forward plain_called loop iterations
stray-alike = refl

-- records, and pointers in them
vector-alike : sequential 1000 100 (compiled vector) [] ≡ plain_sequential 1000 100 vector []
unfolding called run forward plain_called loop iterations
vector-alike = refl

vector-valid : broken (compiled vector) ≡ []
vector-valid = refl

-- `&&` and `||`, some of whose right sides would trap
sides-alike : sequential 1000 100 (compiled pure_sides) [] ≡ plain_sequential 1000 100 pure_sides []
unfolding called run forward plain_called loop iterations
sides-alike = refl
