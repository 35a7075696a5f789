-- Sources through their plain form: the meaning of the form that was made is that of the source. The boxes and lists in which the
-- form is written are opened here; the meaning matches on what lies in them.
use Rattle.std.proofs.Common.{◌≡◌, refl}
use Rattle.std.specs.Prelude.{[], ◌∷◌}
use denote.Hole.Carrier.{roll, hidden}
use Rattle.lq_tree.specs.declared.plain.Branch.{roll-Branch}
use Rattle.lq_tree.specs.declared.plain.PKind.TheBlock.{hidden-the_row-PStmt-0, hidden-the_row-Branch-1}
use Rattle.lq_tree.specs.declared.plain.PExpr.TheBlock.{hidden-the_row-PExpr-0}
use Rattle.lq_meaning.specs.Control.{loop, iterations}
use Rattle.lq_meaning.specs.PlainMeaning.{sequential, called}
use Rattle.lq_meaning.proofs.worked.Outcomes.{numbers}
use Rattle.lq_meaning.proofs.worked.sources.Squares.{squares, done_outcome}
use Rattle.lq_meaning.proofs.worked.sources.Halves.{halves, five_outcome}
use Rattle.lq_meaning.proofs.worked.sources.Vector.{vector, seventy_outcome}
use Rattle.lq_plain.specs.Plain.{plain_program}

squares-through : sequential 27 100 (plain_program squares) [] ≡ done_outcome
unfolding called loop iterations roll hidden roll-Branch hidden-the_row-PStmt-0 hidden-the_row-PExpr-0
squares-through = refl

halves-through : sequential 1000 100 (plain_program halves) (numbers (9 ∷ 9 ∷ 9 ∷ 9 ∷ 9 ∷ [])) ≡ five_outcome
unfolding called loop iterations roll hidden roll-Branch hidden-the_row-PStmt-0 hidden-the_row-Branch-1 hidden-the_row-PExpr-0
halves-through = refl

vector-through : sequential 1000 100 (plain_program vector) [] ≡ seventy_outcome
unfolding called loop iterations roll hidden roll-Branch hidden-the_row-PStmt-0 hidden-the_row-PExpr-0
vector-through = refl
