-- Where a line stands since the value of an expression fails.
use Rattle.std.proofs.Common.{◌≡◌, ℕ, List, Some, refl}
use Rattle.lq_tree.specs.declared.place.Place.{Place}
use Rattle.lq_tree.specs.declared.trap.TrapKind.{TrapKind}
use Rattle.lq_tree.specs.declared.plain.PExpr.{PExpr}
use Rattle.lq_tree.specs.declared.plain.PKind.{Set, If, Return}
use Rattle.lq_tree.specs.declared.plain.PStmt.{PStmt}
use Rattle.lq_tree.specs.declared.plain.PProgram.{PProgram}
use Rattle.lq_meaning.specs.declared.line.Stop.TheVariants.{Trapped}
use Rattle.lq_meaning.specs.Operators.{Fails}
use Rattle.lq_meaning.specs.PlainMeaning.{Slots, value}
use Rattle.lq_meaning.specs.Moves.{StandsFor}

pub fails-set : (p : PProgram) (at : Place) (to : ℕ) (e : PExpr) (slots : Slots) (kind : TrapKind) → value slots e ≡ Fails kind → StandsFor p at (Set to e) slots (Trapped kind at)
fails-set p at to e slots kind fails = record { same = λ turns branch left next passed. rw fails refl; few = λ turns. tt }

pub fails-if : (p : PProgram) (at : Place) (e : PExpr) (body other : List PStmt) (slots : Slots) (kind : TrapKind) → value slots e ≡ Fails kind → StandsFor p at (If e body other) slots (Trapped kind at)
fails-if p at e body other slots kind fails = record { same = λ turns branch left next passed. rw fails refl; few = λ turns. tt }

pub fails-return : (p : PProgram) (at : Place) (e : PExpr) (slots : Slots) (kind : TrapKind) → value slots e ≡ Fails kind → StandsFor p at (Return (Some e)) slots (Trapped kind at)
fails-return p at e slots kind fails = record { same = λ turns branch left next passed. rw fails refl; few = λ turns. tt }
