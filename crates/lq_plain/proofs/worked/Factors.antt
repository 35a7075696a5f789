-- The factors of worked sources.
use Rattle.std.proofs.Common.{◌≡◌, refl}
use Rattle.std.specs.Prelude.{pos, [], ◌∷◌}
use Rattle.lq_tree.specs.declared.stmt.Arm.{out-Arm}
use Rattle.lq_tree.specs.declared.stmt.StmtKind.{out-StmtKind}
use Rattle.lq_tree.specs.declared.stmt.StmtKind.TheBlock.{shown-the_row-Arm-1}
use Rattle.lq_tree.specs.Walk.{nodes, inside}
use Rattle.lq_meaning.proofs.worked.sources.Halves.{halves}
use Rattle.lq_meaning.proofs.worked.sources.Squares.{squares}
use Rattle.lq_meaning.proofs.worked.sources.Strided.{strided}
use Rattle.lq_plain.specs.Factors.{factors}

-- the half of a number
halves_factors : factors halves ≡ pos 2 ∷ []
unfolding nodes inside out-StmtKind out-Arm shown-the_row-Arm-1 denote.Hole.Carrier.out denote.Hole.Carrier.shown
halves_factors = refl

-- no literal is multiplied
squares_factors : factors squares ≡ []
unfolding nodes inside out-StmtKind out-Arm shown-the_row-Arm-1 denote.Hole.Carrier.out denote.Hole.Carrier.shown
squares_factors = refl

-- four times a number
strided_factors : factors strided ≡ pos 4 ∷ []
unfolding nodes inside out-StmtKind out-Arm shown-the_row-Arm-1 denote.Hole.Carrier.out denote.Hole.Carrier.shown
strided_factors = refl
