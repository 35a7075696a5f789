-- An index that is a value already comes to the same.
use Rattle.std.proofs.Common.{◌≡◌, ℕ, Bool, true, false, refl, ap}
use Rattle.lq_tree.specs.declared.place.Place.{Place}
use Rattle.lq_tree.specs.declared.expr.Expr.{Expr}
use Rattle.lq_tree.specs.declared.plain.PKind.{Store}
use Rattle.lq_tree.specs.Types.{Ty, Number}
use Rattle.lq_plain.specs.Flat.{Env, Made, Valued, Flat, Is, Names, Gets, in_new_slot, load, atom, flat, operand, dotted, is_pure, then_stands}
use Rattle.lq_plain.specs.Plain.{put, stored, flat_as}
use Rattle.lq_plain.specs.SeenFlat.{settled}

-- an atom of a value that something came to
atom_value : (at : Place) (type : Ty) (found : Flat) → atom at type (Is (flat at type found)) ≡ atom at type found
atom_value at type (Is v) = refl
atom_value at type (Names base index field) = refl
atom_value at type (Gets kind m) = refl

pub atom_settled : (at : Place) (type : Ty) (found : Flat) → atom at type (settled at found) ≡ atom at type found
atom_settled at type (Is v) = refl
atom_settled at type (Names base index field) = ap (λ (i : Valued). in_new_slot at type (load base i field) i.made) (atom_value at Number index)
atom_settled at type (Gets kind m) = refl

pub flat_settled : (at : Place) (type : Ty) (found : Flat) → flat at type (settled at found) ≡ flat at type found
flat_settled at type (Is v) = refl
flat_settled at type (Names base index field) = atom_settled at type (Names base index field)
flat_settled at type (Gets kind m) = refl

pub operand_settled : (pure : Bool) (at : Place) (type : Ty) (found : Flat) → operand pure at type (settled at found) ≡ operand pure at type found
operand_settled true at type found = flat_settled at type found
operand_settled false at type found = atom_settled at type found

pub dotted_settled : (at : Place) (field : ℕ) (found : Flat) → dotted field (settled at found) ≡ settled at (dotted field found)
dotted_settled at field (Is v) = refl
dotted_settled at field (Names base index none) = refl
dotted_settled at field (Gets kind m) = refl

pub put_settled : (at : Place) (to : ℕ) (found : Flat) → put at to (settled at found) ≡ put at to found
put_settled at to (Is v) = refl
put_settled at to (Names base index field) = ap (λ (i : Valued). then_stands at (load base i field to) i.made) (atom_value at Number index)
put_settled at to (Gets kind m) = refl

operand_value : (pure : Bool) (at : Place) (type : Ty) (found : Flat) → operand pure at type (Is (flat at type found)) ≡ operand pure at type found
operand_value true at type found = refl
operand_value false at type found = atom_value at type found

-- the index as an operand, and the word that is stored behind it
abbrev behind_index : Env → Place → Ty → Expr → ℕ → ℕ → Valued → Made
behind_index env at type e base field i = then_stands at (Store base i.value field (flat_as env at type e i.made).value) (flat_as env at type e i.made).made

pub stored_settled : (env : Env) (at : Place) (type : Ty) (e : Expr) (found : Flat) → stored env at type e (settled at found) ≡ stored env at type e found
stored_settled env at type e (Is v) = refl
stored_settled env at type e (Names base index field) = ap (behind_index env at type e base field) (operand_value (is_pure e) at Number index)
stored_settled env at type e (Gets kind m) = refl
