-- The walk over a plain program: the statements of a body at any depth, in the order of the text, and their expressions.
use Rattle.std.specs.Prelude.{ℕ, List, [], ◌∷◌, ◌++◌, None, Some}
use Rattle.std.specs.List.{flat_map}
use Rattle.lq_tree.specs.declared.place.Place.{Place}
use Rattle.lq_tree.specs.declared.plain.PExpr.{PExpr, Slot, Neg', Not', Bin', Shift', IsNull', Row_of-PExpr, end_of-PExpr, more_of-PExpr}
use Rattle.lq_tree.specs.declared.plain.PKind.{PKind, Set, Load, Store, Calloc, Call, If', While', Cobegin', Foreach, Print, Return, Row_of-PStmt, end_of-PStmt, more_of-PStmt, Row_of-Branch, end_of-Branch, more_of-Branch}
use Rattle.lq_tree.specs.declared.plain.PStmt.{PStmt}
use Rattle.lq_tree.specs.declared.plain.Branch.{Branch, Branch'}

-- the nodes of an expression: itself and its parts at any depth
abbrev mutual
  pub nodes : PExpr → List PExpr
  nodes (Neg' p a) = Neg' p a ∷ nodes_row a
  nodes (Not' p a) = Not' p a ∷ nodes_row a
  nodes (Bin' op p a q b) = Bin' op p a q b ∷ nodes_row a ++ nodes_row b
  nodes (Shift' p a q n) = Shift' p a q n ∷ nodes_row a ++ nodes_row n
  nodes (IsNull' p a) = IsNull' p a ∷ nodes_row a
  nodes e = e ∷ []

  -- of each expression of a row
  pub nodes_row : {n : _} → Row_of-PExpr n → List PExpr
  nodes_row end_of-PExpr = []
  nodes_row (more_of-PExpr e rest) = nodes e ++ nodes_row rest

-- a statement at its place
abbrev pub statement : Place → PKind → PStmt
statement at kind = record { at = at; kind = kind }

-- the statements inside a statement, at any depth
abbrev mutual
  pub inside : PKind → List PStmt
  inside (If' e n body m other) = within_row body ++ within_row other
  inside (While' n head e m body) = within_row head ++ within_row body
  inside (Cobegin' n blocks) = within_branches blocks
  inside (Foreach index low high step branch) = within_branch branch
  inside _ = []

  -- the statements of a row, each with those inside it
  pub within_row : {n : _} → Row_of-PStmt n → List PStmt
  within_row end_of-PStmt = []
  within_row (more_of-PStmt at kind rest) = statement at kind ∷ inside kind ++ within_row rest

  -- of a branch
  pub within_branch : Branch → List PStmt
  within_branch (Branch' at n body) = within_row body

  -- of branches beside each other
  pub within_branches : {n : _} → Row_of-Branch n → List PStmt
  within_branches end_of-Branch = []
  within_branches (more_of-Branch branch rest) = within_branch branch ++ within_branches rest

-- the statements of a body
abbrev pub statements : List PStmt → List PStmt
statements body = flat_map (λ (s : PStmt). s ∷ inside s.kind) body

-- the expressions that stand in a statement itself, from left to right
abbrev pub values : PKind → List PExpr
values (Set to e) = e ∷ []
values (Load to base index field) = index ∷ []
values (Store base index field e) = index ∷ e ∷ []
values (Calloc to count type) = count ∷ []
values (Call to function args) = args
values (If' e n body m other) = e ∷ []
values (While' n head e m body) = e ∷ []
values (Cobegin' n blocks) = []
values (Foreach index low high step branch) = low ∷ high ∷ []
values (Print e) = e ∷ []
values (Return None) = []
values (Return (Some e)) = e ∷ []

-- the expressions that stand in the statements of a body
abbrev pub expressions : List PStmt → List PExpr
expressions body = flat_map (λ (s : PStmt). values s.kind) (statements body)

-- the slot that a statement itself assigns, but for the index of a Foreach
abbrev pub targets : PKind → List ℕ
targets (Set to e) = to ∷ []
targets (Load to base index field) = to ∷ []
targets (Calloc to count type) = to ∷ []
targets (Call (Some to) function args) = to ∷ []
targets _ = []

-- the index of a Foreach
abbrev pub indices : PKind → List ℕ
indices (Foreach index low high step branch) = index ∷ []
indices _ = []

-- the slots that an expression reads
abbrev pub slot_read : PExpr → List ℕ
slot_read (Slot n) = n ∷ []
slot_read _ = []

-- at any depth
abbrev pub slots_read : PExpr → List ℕ
slots_read e = flat_map slot_read (nodes e)

-- the pointer through which a statement loads or stores
abbrev pub bases : PKind → List ℕ
bases (Load to base index field) = base ∷ []
bases (Store base index field e) = base ∷ []
bases _ = []

-- the slots that a statement itself reads
abbrev pub reads : PKind → List ℕ
reads kind = bases kind ++ flat_map slots_read (values kind)
