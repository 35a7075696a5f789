-- Where the slots of a plain function are in scope (docs/LANGUAGE.md, "What holds of a plain program"; docs/CHECKING.md,
-- "Scopes"). A slot is in scope from the first statement, in the order of the text, that assigns it to the end of the list
-- that holds this statement, a parameter in the whole body, an index in its branch.
use Rattle.std.specs.Prelude.{ℕ, ◌==◌, Bool, true, not, ◌&&◌, ◌++◌, List, [], ◌∷◌, filter}
use Rattle.std.specs.List.{list_any, list_all}
use Rattle.lq_tree.specs.declared.plain.PKind.{PKind, If', While', Cobegin', Foreach, Row_of-PStmt, end_of-PStmt, more_of-PStmt, Row_of-Branch, end_of-Branch, more_of-Branch}
use Rattle.lq_tree.specs.declared.plain.PStmt.{PStmt}
use Rattle.lq_tree.specs.declared.plain.Branch.{Branch, Branch'}
use Rattle.lq_tree.specs.PlainWalk.{slots_read, reads, targets}

-- the slot is one of these
abbrev pub is_among : List ℕ → ℕ → Bool
is_among slots n = list_any (λ m. m == n) slots

-- how far the text has been read: the slots that have been assigned, those in scope, and whether all was well
pub record Reading : Type 0 where
  pub assigned : List ℕ
  pub scope : List ℕ
  pub well : Bool

-- slots are read, each in its scope
abbrev pub read : List ℕ → Reading → Reading
read slots r = record r { well = r.well && list_all (is_among r.scope) slots }

-- slots are assigned, and none of them is from outside the branch; what is new comes into scope
abbrev pub assign : (outside : List ℕ) → List ℕ → Reading → Reading
assign outside slots r =
    let new = filter (λ n. not (is_among r.assigned n)) slots in
    record { assigned = new ++ r.assigned; scope = new ++ r.scope; well = r.well && not (list_any (is_among outside) slots) }

-- behind a list what came into scope in it is in scope no more
abbrev pub closed : (outer inner : Reading) → Reading
closed outer inner = record inner { scope = outer.scope }

-- an index comes into scope
abbrev pub with_index : ℕ → Reading → Reading
with_index index r = record r { scope = index ∷ r.scope }

-- a statement behind what has been read, in a branch outside of which these slots have been assigned
abbrev mutual
  pub scoped : (outside : List ℕ) → PKind → Reading → Reading
  scoped o (If' e n body m other) r =
      let first = closed r (scoped_row o body (read (slots_read e) r)) in closed r (scoped_row o other first)
  scoped o (While' n head e m body) r =
      let tested = read (slots_read e) (scoped_row o head r) in closed r (scoped_row o body (closed r tested))
  scoped o (Cobegin' n blocks) r = scoped_branches blocks r
  scoped o (Foreach index low high step branch) r =
      let ended = read (slots_read low ++ slots_read high) r in closed r (scoped_branch branch (with_index index ended))
  scoped o kind r = assign o (targets kind) (read (reads kind) r)

  -- a list of statements
  pub scoped_row : {n : _} → (outside : List ℕ) → Row_of-PStmt n → Reading → Reading
  scoped_row o end_of-PStmt r = r
  scoped_row o (more_of-PStmt at kind rest) r = scoped_row o rest (scoped o kind r)

  -- a branch: all that has been assigned before it is from outside
  pub scoped_branch : Branch → Reading → Reading
  scoped_branch (Branch' at n body) r = closed r (scoped_row r.assigned body r)

  -- branches beside each other
  pub scoped_branches : {n : _} → Row_of-Branch n → Reading → Reading
  scoped_branches end_of-Branch r = r
  scoped_branches (more_of-Branch branch rest) r = scoped_branches rest (scoped_branch branch r)

-- the statements of a body
abbrev pub scoped_all : List PStmt → Reading → Reading
scoped_all [] r = r
scoped_all (s ∷ body) r = scoped_all body (scoped [] s.kind r)

-- each slot of a body with these parameters is read in its scope, and assigned where it may be
abbrev pub keeps_scopes : (params : List ℕ) → List PStmt → Bool
keeps_scopes params body = (scoped_all body (record { assigned = params; scope = params; well = true })).well
