-- The conditions of a statement (docs/CHECKING.md, "Statements"), in the order of After.
use Rattle.std.specs.Prelude.{ℕ, ◌+◌, Bool, true, false, ◌&&◌, List, [], ◌∷◌, ◌++◌, map, Option, None, Some, ℤ, slice_get}
use Rattle.std.specs.List.{flat_map}
use Rattle.lq_tree.specs.declared.place.Place.{Place}
use Rattle.lq_tree.specs.declared.plain.PExpr.{PExpr}
use Rattle.lq_tree.specs.declared.plain.PKind.{PKind, Set, Load, Store, Calloc, Call, If', While', Cobegin', Foreach, Print, Return, Row_of-PStmt, end_of-PStmt, more_of-PStmt, Row_of-Branch, end_of-Branch, more_of-Branch}
use Rattle.lq_tree.specs.declared.plain.PStmt.{PStmt}
use Rattle.lq_tree.specs.declared.plain.PFunc.{PFunc}
use Rattle.lq_tree.specs.declared.plain.Branch.{Branch, Branch'}
use Rattle.lq_linear.specs.Form.{Linear}
use Rattle.lq_linear.specs.Row.{Inequality}
use Rattle.lq_linear.specs.Collect.{as_row, symbol}
use Rattle.lq_linear.specs.Sides.{at_most, below}
use Rattle.lq_linear.specs.declared.item.Item.TheVariants.{Holds}
use Rattle.lq_templates.specs.declared.condition.Given.{Given}
use Rattle.lq_templates.specs.declared.condition.Given.TheVariants.{Fixed, Of}
use Rattle.lq_templates.specs.declared.condition.Rule.{Rule}
use Rattle.lq_templates.specs.declared.condition.Rule.TheVariants.{BoundsLow, BoundsHigh, Fold, Join, LoopEntry, LoopAgain, Pre, Post}
use Rattle.lq_templates.specs.declared.condition.Condition.{Condition}
use Rattle.lq_templates.specs.Lives.{lives, list_lives}
use Rattle.lq_templates.specs.Spots.{Walk, with_index, walked, walked_branch}
use Rattle.lq_templates.specs.Accesses.{Access}
use Rattle.lq_templates.specs.Conditions.{site, asks, absurdity}
use Rattle.lq_symbolic.specs.declared.value.SymValue.{SymValue}
use Rattle.lq_symbolic.specs.declared.value.SymValue.TheVariants.{Int as OfInt}
use Rattle.lq_symbolic.specs.declared.state.SymState.{SymState as State}
use Rattle.lq_symbolic.specs.State.{length_of, parts, not_below_zero, Valued, with_rows, taken}
use Rattle.lq_symbolic.specs.Value.{value, all_values}
use Rattle.lq_symbolic.specs.Assume.{assumed}
use Rattle.lq_heap.specs.Records.{Reached, fold_all, folded, zero_parts, asked_opening}
use Rattle.lq_effects.specs.Effects.{asked_access, asked_calls}
use Rattle.lq_disjoint.specs.declared.beside.Beside.{Beside}
use Rattle.lq_disjoint.specs.Pairs.{asked_cobegin, asked_iterations}
use Rattle.lq_ground.specs.Ground.{Ground, class_of_slot, put_slot, fields_of, in_first, in_second, in_branch, spot_rows, at_spot, start_of, in_scope, function_scope, at_entry, argument_values, pre_rows, post_rows}
use Rattle.lq_conditions.specs.After.{opened_at, loads_from, stores_to, Ends, ends, after, after_row}

-- ---- one goal or none

-- a row as a goal; in place of one that passes the bounds stands `0 <= -1`
abbrev pub fixed_goal : Option Inequality → Given
fixed_goal None = absurdity
fixed_goal (Some row) = Fixed (Holds row)

-- a condition for each of these goals, of which there is one or none
abbrev pub ask : Rule → Place → State → List Given → List Condition
ask rule at s goals = map (asks rule (site at) s.items) goals

-- ---- loads and stores

-- the element is in its block: `e >= 0`, and `e + 1 <= len`
abbrev pub asked_bounds : Place → Reached → List Condition
asked_bounds at r =
    asks BoundsLow (site at) r.state.items (fixed_goal (as_row (not_below_zero r.at.offset)))
    ∷ asks BoundsHigh (site at) r.state.items (fixed_goal (as_row (below r.at.offset (length_of r.at)))) ∷ []

-- an access through a base slot: the bounds, the class is opened, and each scope around is asked
abbrev pub accessed : Ground → Place → (base field : ℕ) → (write : Bool) → Reached → List Condition
accessed g at base field write r =
    let at_work = opened_at g base r in
    let access : Access = record { class = class_of_slot g base; field = field; write = write } in
    asked_bounds at r
    ++ asked_opening (site at) (class_of_slot g base) r.at r.state
    ++ asked_access g.templates (site at) at_work.items access r.at.offset at_work

-- ---- blocks and calls

-- a fresh block meets the record template of its class
abbrev pub asked_fresh : Ground → Place → (to : ℕ) → Valued → List Condition
asked_fresh g at to count = ask Fold at count.state (Of (class_of_slot g to) (flat_map zero_parts (fields_of g to)) ∷ [])

-- a call with these arguments: all is folded, the pre rows hold, and the callee's effects are allowed
abbrev pub asked_callee : Ground → Place → (func : ℕ) → Option PFunc → List SymValue → State → List Condition
asked_callee g at func None arguments s = []
asked_callee g at func (Some callee) arguments s =
    let values = argument_values callee arguments in
    fold_all (site at) s
    ++ ask Pre at s (pre_rows g func values)
    ++ asked_calls g.templates (site at) (function_scope g.env.program.funcs func) values s

-- ---- ends of lists

-- at a statement with a template: all is folded, and the rows of the template hold, if it has one
abbrev pub asked_spot : Ground → Rule → Place → PKind → Walk → State → List Condition
asked_spot g rule at kind w s = fold_all (site at) s ++ ask rule at s (spot_rows g kind w s)

-- what is asked at the end of a list, if it lives
abbrev pub if_lives : (lives : Bool) → List Condition → List Condition
if_lives true conditions = conditions
if_lives false conditions = []

-- the parts of what a function gives; nothing for a void one
abbrev pub result_parts : Option Valued → List Linear
result_parts None = []
result_parts (Some result) = parts result.value

-- the state behind it
abbrev pub result_state : State → Option Valued → State
result_state s None = s
result_state s (Some result) = result.state

-- a function ends with this: all is folded, and the post rows hold of the parameters at entry and the result, if there are any
abbrev pub asked_result : Ground → Place → State → Option Valued → List Condition
asked_result g at before result =
    let s = result_state before result in
    fold_all (site at) s ++ ask Post at s (post_rows g g.env.number (at_entry s.scopes ++ result_parts result))

-- a Return
abbrev pub asked_return : Ground → Place → Option PExpr → State → List Condition
asked_return g at None s = asked_result g at s None
asked_return g at (Some e) s = asked_result g at s (Some (value e s))

-- ---- parallel statements

-- the index of a `foreach` is this symbol
abbrev pub with_index_value : Ground → (index symbol_number : ℕ) → State → State
with_index_value g index n s = put_slot g index (OfInt (symbol n)) s

-- an iteration: a new index, `low <= i` and `i + 1 <= high`
abbrev pub iteration : Ground → (index : ℕ) → Ends → Walk → State → State
iteration g index e w s =
    let i = symbol s.next in
    let begun = with_index_value g index s.next (taken 1 s) in
    with_rows (at_most e.low i ∷ below i e.high ∷ []) (in_scope (start_of g w begun) begun)

-- the scope of an iteration whose index is this symbol
abbrev pub iteration_beside : Ground → (index : ℕ) → Walk → State → Branch → (symbol_number : ℕ) → Beside
iteration_beside g index w s (Branch' at n body) number = record { place = at; start = start_of g w (with_index_value g index number s) }

-- each two iterations: on two new indices and a new element
abbrev pub asked_foreach : Ground → Place → (index : ℕ) → Ends → (step : ℤ) → Branch → Walk → State → List Condition
asked_foreach g at index e step branch w s =
    asked_iterations g.templates at e.low e.high step s
    (iteration_beside g index w s branch s.next) (iteration_beside g index w s branch (s.next + 1))

-- the blocks of a `cobegin` with their scopes
abbrev pub blocks_beside : {n : _} → Ground → Row_of-Branch n → Walk → State → List Beside
blocks_beside g end_of-Branch w s = []
blocks_beside g (more_of-Branch (Branch' at n body) rest) w s =
    record { place = at; start = start_of g w s } ∷ blocks_beside g rest (walked_branch (Branch' at n body) w) s

-- ---- the statements

-- the conditions of a statement
abbrev mutual
  pub asked : Ground → Place → PKind → Walk → State → List Condition
  asked g at (Set to e) w s = []
  asked g at (Load to base index field) w s = accessed g at base field false (loads_from base index s)
  asked g at (Store base index field e) w s = accessed g at base field true (stores_to base index e s).to
  asked g at (Calloc to count type) w s = asked_fresh g at to (value count s)
  asked g at (Call to function args) w s =
      let arguments = all_values args s in
      asked_callee g at function (slice_get g.env.program.funcs function) arguments.values arguments.state
  asked g at (If' e n body m other) w s =
      let kind = If' e n body m other in
      let both = list_lives body && list_lives other in
      asked_row g body (in_first kind w) (assumed true e s)
      ++ if_lives both (asked_spot g Join at kind w (after_row g body (in_first kind w) (assumed true e s)))
      ++ asked_row g other (in_second kind body w) (assumed false e s)
      ++ if_lives both (asked_spot g Join at kind w (after_row g other (in_second kind body w) (assumed false e s)))
  asked g at (While' n head e m body) w s =
      let kind = While' n head e m body in
      let first = at_spot g kind w (folded s) in
      let tested = assumed true e (after_row g head (in_first kind w) first) in
      asked_spot g LoopEntry at kind w s
      ++ asked_row g head (in_first kind w) first
      ++ asked_row g body (in_second kind head w) tested
      ++ if_lives (list_lives body) (asked_spot g LoopAgain at kind w (after_row g body (in_second kind head w) tested))
  asked g at (Cobegin' n blocks) w s =
      let fork = folded s in
      fold_all (site at) s ++ asked_branches g blocks w fork ++ asked_cobegin g.templates at fork.items (symbol fork.next) (blocks_beside g blocks w fork)
  asked g at (Foreach index low high step branch) w s =
      let e = ends low high s in
      let fork = folded e.state in
      let inner = with_index index w in
      fold_all (site at) e.state ++ asked_branch g branch inner (iteration g index e inner fork) ++ asked_foreach g at index e step branch inner fork
  asked g at (Print e) w s = []
  asked g at (Return e) w s = asked_return g at e s

  -- of a list; behind a statement after which it doesn't live there are none
  pub asked_row : {n : _} → Ground → Row_of-PStmt n → Walk → State → List Condition
  asked_row g end_of-PStmt w s = []
  asked_row g (more_of-PStmt at kind rest) w s =
      asked g at kind w s ++ if_lives (lives kind) (asked_row g rest (walked kind w) (after g kind w s))

  -- of a branch, which folds all at its end
  pub asked_branch : Ground → Branch → Walk → State → List Condition
  asked_branch g (Branch' at n body) w s =
      let inner = in_branch (Branch' at n body) w in
      asked_row g body inner s ++ fold_all (site at) (after_row g body inner s)

  -- of the blocks of a `cobegin`, each of which starts from the fork
  pub asked_branches : {n : _} → Ground → Row_of-Branch n → Walk → State → List Condition
  asked_branches g end_of-Branch w s = []
  asked_branches g (more_of-Branch branch rest) w s =
      asked_branch g branch w (in_scope (start_of g w s) s) ++ asked_branches g rest (walked_branch branch w) s

-- of the statements of a body
abbrev pub asked_all : Ground → List PStmt → Walk → State → List Condition
asked_all g [] w s = []
asked_all g (s ∷ body) w state =
    asked g s.at s.kind w state ++ if_lives (lives s.kind) (asked_all g body (walked s.kind w) (after g s.kind w state))
