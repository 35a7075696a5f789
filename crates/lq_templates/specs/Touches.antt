-- What the statements of a function do that templates ask for: which slots they assign, which accesses they make and which
-- functions they call, as a list in the order of the text.
use Rattle.std.specs.Prelude.{ℕ, suc, Bool, true, false, List, [], ◌∷◌, ◌++◌, Option, None, Some}
use Rattle.std.specs.List.{flat_map, list_any}
use Rattle.lq_tree.specs.declared.plain.PKind.{PKind, Set, Load, Store, Calloc, Call}
use Rattle.lq_tree.specs.declared.plain.PStmt.{PStmt}
use Rattle.lq_tree.specs.declared.plain.PFunc.{PFunc}
use Rattle.lq_tree.specs.PlainWalk.{inside, statements}
use Rattle.lq_templates.specs.Classes.{ClassOf}
use Rattle.lq_templates.specs.Accesses.{Access, same_access}
use Rattle.lq_templates.specs.declared.touches.Touch.{Touch}
use Rattle.lq_templates.specs.declared.touches.Touch.TheVariants.{Assigns, Makes, Calls}

-- a call assigns the slot for its result, if there is one
abbrev pub result_touches : Option ℕ → List Touch
result_touches None = []
result_touches (Some to) = Assigns to ∷ []

-- what a statement itself does, in a function whose slots have these classes
abbrev pub own_touches : (class_at : ℕ → ℕ) → PKind → List Touch
own_touches class_at (Set to e) = Assigns to ∷ []
own_touches class_at (Load to base index field) = Assigns to ∷ Makes (record { class = class_at base; field = field; write = false }) ∷ []
own_touches class_at (Store base index field e) = Makes (record { class = class_at base; field = field; write = true }) ∷ []
own_touches class_at (Calloc to count type) = Assigns to ∷ []
own_touches class_at (Call to function args) = result_touches to ++ Calls function ∷ []
own_touches class_at _ = []

-- what each of these statements itself does
abbrev pub each_touches : (class_at : ℕ → ℕ) → List PStmt → List Touch
each_touches class_at list = flat_map (λ (s : PStmt). own_touches class_at s.kind) list

-- what a statement and those inside it do
abbrev pub kind_touches : (class_at : ℕ → ℕ) → PKind → List Touch
kind_touches class_at kind = own_touches class_at kind ++ each_touches class_at (inside kind)

-- what the statements of a body do
abbrev pub body_touches : (class_at : ℕ → ℕ) → List PStmt → List Touch
body_touches class_at body = each_touches class_at (statements body)

-- the slot that is assigned
abbrev pub assigned : Touch → List ℕ
assigned (Assigns to) = to ∷ []
assigned _ = []

-- the access is made, itself or by a call of a function that makes it
abbrev pub touch_makes : (makers : ℕ → Bool) → Access → Touch → Bool
touch_makes makers a (Assigns to) = false
touch_makes makers a (Makes b) = same_access a b
touch_makes makers a (Calls function) = makers function

-- one of these does
abbrev pub touches_make : (makers : ℕ → Bool) → Access → List Touch → Bool
touches_make makers a touches = list_any (touch_makes makers a) touches

-- what the functions from this number on do, each a list
abbrev pub all_touches : ClassOf → (number : ℕ) → List PFunc → List (List Touch)
all_touches class_of number [] = []
all_touches class_of number (f ∷ funcs) = body_touches (class_of number) f.body ∷ all_touches class_of (suc number) funcs
