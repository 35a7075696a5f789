-- The plain form of statements over lists and boxes, as the code walks them.
use Rattle.std.specs.Prelude.{ℕ, List, [], ◌∷◌, Option, None, Some}
use Rattle.lq_tree.specs.declared.place.Place.{Place}
use Rattle.lq_tree.specs.declared.expr.Expr.{Expr}
use Rattle.lq_tree.specs.declared.stmt.Stmt.{Stmt}
use Rattle.lq_tree.specs.declared.stmt.Arm.{Arm, out-Arm}
use Rattle.lq_tree.specs.declared.plain.PKind.{If}
use Rattle.lq_tree.specs.declared.plain.Slot.{Slot}
use Rattle.lq_tree.specs.Types.{Number}
use Rattle.lq_tree.specs.Locals.{Local}
use Rattle.lq_plain.specs.Flat.{Env, Made, Valued, with_slot, int_type, operand, is_pure, flatten}
use Rattle.lq_plain.specs.Plain.{Behind, behind, fresh, then_holds, flat_of, Branches, branch, plain}

-- a statement
abbrev pub one : Env → Stmt → Made → Behind
one env s m = plain env s.at s.kind m

-- a statement that may be missing
abbrev pub maybe : Env → Option Stmt → Made → Behind
maybe env None m = behind env m
maybe env (Some b) m = one env b m

-- the arms of an `if`
abbrev pub guarded : Place → (c : Valued) → (held : Made) → (Made → Made) → Made
guarded at c held otherwise = then_holds at (If c.value held.front (otherwise (fresh held.slots)).front) c.made (otherwise (fresh held.slots)).slots

abbrev pub an_arm : Env → Place → Expr → Stmt → (Made → Made) → Made → Made
an_arm env at e b otherwise m = guarded at (flat_of env at e m) (one env b (fresh (flat_of env at e m).made.slots)).made otherwise

abbrev pub all_arms : Env → Place → List Arm → (Made → Made) → Made → Made
all_arms env at [] otherwise m = otherwise m
all_arms env at (arm ∷ arms) otherwise m = an_arm env at (out-Arm arm).cond (out-Arm arm).body (all_arms env at arms otherwise) m

-- the blocks of a `cobegin`
abbrev pub all_branches : Env → List Stmt → List Slot → Branches
all_branches env [] slots = record { list = []; slots = slots }
all_branches env (s ∷ blocks) slots =
    let first = (one env s (fresh slots)).made in
    let rest = all_branches env blocks first.slots in
    record { list = branch s.at first ∷ rest.list; slots = rest.slots }

-- the low end of a `foreach`, behind the slot of its index
abbrev pub low_end : Env → Place → List ℕ → (low high : Expr) → Made → Valued
low_end env at index low high m = operand (is_pure high) at Number (flatten env at low (with_slot (Some index) int_type m))

-- a scope and what has been made
abbrev pub seen_behind : List (Local ℕ) → Made → Behind
seen_behind scope m = record { scope = scope; made = m }
