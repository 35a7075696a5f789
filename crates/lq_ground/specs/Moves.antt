-- What the statements of functions load from fields and store to them, as a list in the order of the text.
use Rattle.std.specs.Prelude.{ℕ, suc, ◌==◌, ◌&&◌, if◌then◌else◌, List, [], ◌∷◌, ◌++◌, Option, None, Some}
use Rattle.std.specs.List.{flat_map}
use Rattle.lq_tree.specs.declared.plain.PKind.{PKind, Load, Store}
use Rattle.lq_tree.specs.declared.plain.PStmt.{PStmt}
use Rattle.lq_tree.specs.declared.plain.PFunc.{PFunc}
use Rattle.lq_tree.specs.PlainWalk.{inside, statements}
use Rattle.lq_classes.specs.Classes.{root}
use Rattle.lq_templates.specs.Classes.{ClassOf}
use Rattle.lq_ground.specs.declared.moves.Move.{Move}

-- the slot from which a pointer comes, if it comes from one, is stored to the field of a class
abbrev pub stored_moves : (class_at : ℕ → ℕ) → (class field : ℕ) → Option ℕ → List Move
stored_moves class_at class field None = []
stored_moves class_at class field (Some slot) = record { class = class; field = field; moved = class_at slot } ∷ []

-- what a statement itself moves, in a function whose slots have these classes
abbrev pub own_moves : (class_at : ℕ → ℕ) → PKind → List Move
own_moves class_at (Load to base index field) = record { class = class_at base; field = field; moved = class_at to } ∷ []
own_moves class_at (Store base index field e) = stored_moves class_at (class_at base) field (root e)
own_moves class_at _ = []

-- what each of these statements itself moves
abbrev pub each_moves : (class_at : ℕ → ℕ) → List PStmt → List Move
each_moves class_at list = flat_map (λ (s : PStmt). own_moves class_at s.kind) list

-- what a statement and those inside it move
abbrev pub kind_moves : (class_at : ℕ → ℕ) → PKind → List Move
kind_moves class_at kind = own_moves class_at kind ++ each_moves class_at (inside kind)

-- what the statements of a body move
abbrev pub body_moves : (class_at : ℕ → ℕ) → List PStmt → List Move
body_moves class_at body = each_moves class_at (statements body)

-- what the functions from this number on move
abbrev pub all_moves : ClassOf → (number : ℕ) → List PFunc → List Move
all_moves class_of number [] = []
all_moves class_of number (f ∷ funcs) = body_moves (class_of number) f.body ++ all_moves class_of (suc number) funcs

-- the class that goes between a slot and the field of a class, if it does here
abbrev pub moved_at : (class field : ℕ) → Move → List ℕ
moved_at class field m = if m.class == class && m.field == field then m.moved ∷ [] else []
