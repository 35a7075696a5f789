-- Where the templates of a function stand in its text, and which slots are in scope there (docs/CHECKING.md, "Scopes" and
-- "Templates"). A slot is in scope from the first statement, in the order of the text, that assigns it to the end of the list that
-- holds this statement, a parameter in the whole body, an index in its branch.
use Rattle.std.specs.Prelude.{ℕ, not, ◌&&◌, if◌then◌else◌, List, [], ◌∷◌, ◌++◌, filter}
use Rattle.std.specs.List.{flat_map, range_with_len}
use Rattle.lq_tree.specs.declared.place.Place.{Place}
use Rattle.lq_tree.specs.declared.plain.PKind.{PKind, If', While', Cobegin', Foreach, Row_of-PStmt, end_of-PStmt, more_of-PStmt, Row_of-Branch, end_of-Branch, more_of-Branch}
use Rattle.lq_tree.specs.declared.plain.PStmt.{PStmt}
use Rattle.lq_tree.specs.declared.plain.PFunc.{PFunc}
use Rattle.lq_tree.specs.declared.plain.Branch.{Branch, Branch'}
use Rattle.lq_tree.specs.PlainWalk.{inside, within_row, targets}
use Rattle.lq_tree.specs.PlainScopes.{is_among}
use Rattle.lq_templates.specs.Lives.{list_lives}

-- a point of the text with templates of its own: an If or a While with the slots that it changes, or a branch with its place and
-- the statements in it; and the slots in scope there
pub data Spot : Type 0 where
  join : (changed scope : List ℕ) → Spot
  loop : (changed scope : List ℕ) → Spot
  inner_scope : (at : Place) (body : List PStmt) (scope : List ℕ) → Spot

-- how far the text has been read: the slots that have been assigned, those in scope, and the spots that were passed
pub record Walk : Type 0 where
  pub assigned : List ℕ
  pub scope : List ℕ
  pub spots : List Spot

-- the slots in scope that a statement inside assigns, at any depth; an index isn't assigned
abbrev pub changed : (scope : List ℕ) → PKind → List ℕ
changed scope kind = filter (is_among (flat_map (λ (s : PStmt). targets s.kind) (inside kind))) scope

-- a spot where a slot changes, and none where no slot does
abbrev pub where_changed : (List ℕ → Spot) → (changed : List ℕ) → List Spot
where_changed spot [] = []
where_changed spot (n ∷ changed) = spot (n ∷ changed) ∷ []

-- the spot of an If, of which both lists have to live, or of a While
abbrev pub spot_at : (scope : List ℕ) → PKind → List Spot
spot_at scope (If' e n body m other) =
    if list_lives body && list_lives other then where_changed (λ c. join c scope) (changed scope (If' e n body m other)) else []
spot_at scope (While' n head e m body) = where_changed (λ c. loop c scope) (changed scope (While' n head e m body))
spot_at scope _ = []

-- spots are passed
abbrev pub passed : List Spot → Walk → Walk
passed spots w = record w { spots = w.spots ++ spots }

-- slots are assigned, and those that are new come into scope
abbrev pub assign : List ℕ → Walk → Walk
assign slots w =
    let new = filter (λ n. not (is_among w.assigned n)) slots in
    record w { assigned = w.assigned ++ new; scope = w.scope ++ new }

-- behind a list what came into scope in it is in scope no more
abbrev pub closed : (outer inner : Walk) → Walk
closed outer inner = record inner { scope = outer.scope }

-- an index comes into scope
abbrev pub with_index : ℕ → Walk → Walk
with_index index w = record w { scope = w.scope ++ index ∷ [] }

-- the text read to behind a statement: a spot comes before those inside its statement or branch
abbrev mutual
  pub walked : PKind → Walk → Walk
  walked (If' e n body m other) w =
      let first = closed w (walked_row body (passed (spot_at w.scope (If' e n body m other)) w)) in closed w (walked_row other first)
  walked (While' n head e m body) w =
      let tested = closed w (walked_row head (passed (spot_at w.scope (While' n head e m body)) w)) in closed w (walked_row body tested)
  walked (Cobegin' n blocks) w = walked_branches blocks w
  walked (Foreach index low high step branch) w = closed w (walked_branch branch (with_index index w))
  walked kind w = assign (targets kind) w

  -- behind a list of statements
  pub walked_row : {n : _} → Row_of-PStmt n → Walk → Walk
  walked_row end_of-PStmt w = w
  walked_row (more_of-PStmt at kind rest) w = walked_row rest (walked kind w)

  -- behind a branch
  pub walked_branch : Branch → Walk → Walk
  walked_branch (Branch' at n body) w = closed w (walked_row body (passed (inner_scope at (within_row body) w.scope ∷ []) w))

  -- behind branches beside each other
  pub walked_branches : {n : _} → Row_of-Branch n → Walk → Walk
  walked_branches end_of-Branch w = w
  walked_branches (more_of-Branch branch rest) w = walked_branches rest (walked_branch branch w)

-- behind the statements of a body
abbrev pub walked_all : List PStmt → Walk → Walk
walked_all [] w = w
walked_all (s ∷ body) w = walked_all body (walked s.kind w)

-- the parameters of a function, which are its first slots
abbrev pub params_of : PFunc → List ℕ
params_of f = range_with_len 0 f.params

-- the spots of a function in the order of its text, but for its whole body
abbrev pub spots : PFunc → List Spot
spots f = (walked_all f.body (record { assigned = params_of f; scope = params_of f; spots = [] })).spots
