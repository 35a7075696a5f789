-- The state behind a statement (docs/CHECKING.md, "Statements"). It doesn't look at conditions; those that the same statements give
-- stand in Asked, in the same order.
use Rattle.std.specs.Prelude.{ℕ, true, false, ◌&&◌, if◌then◌else◌, List, [], ◌∷◌, ◌++◌, length, Option, None, Some, pos, slice_get}
use Rattle.lq_tree.specs.declared.expr.CType.{CType}
use Rattle.lq_tree.specs.declared.plain.PExpr.{PExpr}
use Rattle.lq_tree.specs.declared.plain.PKind.{PKind, Set, Load, Store, Calloc, Call, If', While', Cobegin', Foreach, Print, Return, Row_of-PStmt, end_of-PStmt, more_of-PStmt}
use Rattle.lq_tree.specs.declared.plain.PStmt.{PStmt}
use Rattle.lq_tree.specs.declared.plain.PFunc.{PFunc}
use Rattle.lq_linear.specs.Form.{Linear}
use Rattle.lq_linear.specs.Collect.{constant}
use Rattle.lq_linear.specs.Sides.{at_most, equal}
use Rattle.lq_templates.specs.Lives.{list_lives}
use Rattle.lq_templates.specs.Spots.{Walk, walked}
use Rattle.lq_symbolic.specs.declared.value.SymValue.{SymValue}
use Rattle.lq_symbolic.specs.declared.value.SymValue.TheVariants.{Ptr as OfPointer}
use Rattle.lq_symbolic.specs.declared.state.SymState.{SymState as State}
use Rattle.lq_symbolic.specs.State.{form_of, pointer_of, length_of, parts, Valued, value_at, with_items, with_rows, taken, next_block, new_of}
use Rattle.lq_symbolic.specs.Value.{value, all_values}
use Rattle.lq_symbolic.specs.Assume.{assumed}
use Rattle.lq_heap.specs.Records.{Reached, reached, folded, open_record, read_field, write_field}
use Rattle.lq_ground.specs.Ground.{Ground, class_of_slot, put_slot, fields_of, in_first, in_second, at_spot, argument_values, post_rows}

-- ---- loads and stores

-- the element that a base slot and an index name, once the index is valued
abbrev pub element_of : (base : ℕ) → Valued → Reached
element_of base index = reached (pointer_of (value_at index.state base)) (form_of index.value) index.state

-- the class of a base slot is open at an element
abbrev pub opened_at : Ground → (base : ℕ) → Reached → State
opened_at g base r = open_record (class_of_slot g base) (fields_of g base) r.at r.state

-- the element of a load
abbrev pub loads_from : (base : ℕ) → (index : PExpr) → State → Reached
loads_from base index s = element_of base (value index s)

-- a store: the element, and the new value
pub record Storing : Type 0 where
  pub to : Reached
  pub value : SymValue

-- the index and then the new value are valued
abbrev pub stores_to : (base : ℕ) → (index e : PExpr) → State → Storing
stores_to base index e s =
    let i = value index s in
    let new = value e i.state in
    record { to = element_of base (record { value = i.value; state = new.state }); value = new.value }

-- ---- blocks and calls

-- a slot gets a new block of so many elements: `len >= 1`, `len <= count`, `count <= len`
abbrev pub with_block : Ground → (to : ℕ) → Valued → State
with_block g to count =
    let p = next_block (constant (pos 0)) count.state in
    let n = form_of count.value in
    with_rows (at_most (constant (pos 1)) (length_of p) ∷ equal (length_of p) n) (put_slot g to (OfPointer p) (taken 1 count.state))

-- the slot for a value, if there is one, gets it
abbrev pub put_into : Ground → Option ℕ → SymValue → State → State
put_into g None value s = s
put_into g (Some to) value s = put_slot g to value s

-- a new result, with the post rows on the arguments and it
abbrev pub with_result : Ground → Option ℕ → (func : ℕ) → PFunc → Option CType → List SymValue → State → State
with_result g to func callee None arguments s = s
with_result g to func callee (Some type) arguments s =
    let result = new_of (g.env.class_of func (length callee.slots)) type s in
    put_into g to result.value (with_items (post_rows g func (argument_values callee arguments ++ parts result.value)) result.state)

-- the result of a call
abbrev pub called : Ground → Option ℕ → (func : ℕ) → Option PFunc → List SymValue → State → State
called g to func None arguments s = s
called g to func (Some callee) arguments s = with_result g to func callee callee.result arguments s

-- ---- parallel statements

-- both ends of a `foreach`, and the state behind them
pub record Ends : Type 0 where
  pub low : Linear
  pub high : Linear
  pub state : State

-- the low and then the high end are valued
abbrev pub ends : (low high : PExpr) → State → Ends
ends low high s =
    let l = value low s in
    let h = value high l.state in
    record { low = form_of l.value; high = form_of h.value; state = h.state }

-- ---- the statements

-- the state behind a statement
abbrev mutual
  pub after : Ground → PKind → Walk → State → State
  after g (Set to e) w s = let new = value e s in put_slot g to new.value new.state
  after g (Load to base index field) w s =
      let at_work = opened_at g base (loads_from base index s) in put_slot g to (read_field (class_of_slot g base) field at_work) at_work
  after g (Store base index field e) w s =
      let storing = stores_to base index e s in write_field (class_of_slot g base) field storing.value (opened_at g base storing.to)
  after g (Calloc to count type) w s = with_block g to (value count s)
  after g (Call to function args) w s =
      let arguments = all_values args s in
      called g to function (slice_get g.env.program.funcs function) arguments.values (folded arguments.state)
  after g (If' e n body m other) w s =
      if list_lives body && list_lives other then at_spot g (If' e n body m other) w (folded s)
      else (if list_lives body then after_row g body (in_first (If' e n body m other) w) (assumed true e s)
      else after_row g other (in_second (If' e n body m other) body w) (assumed false e s))
  after g (While' n head e m body) w s =
      assumed false e (after_row g head (in_first (While' n head e m body) w) (at_spot g (While' n head e m body) w (folded s)))
  after g (Cobegin' n blocks) w s = folded s
  after g (Foreach index low high step branch) w s = folded (ends low high s).state
  after g (Print e) w s = (value e s).state
  after g (Return e) w s = s

  -- behind a list
  pub after_row : {n : _} → Ground → Row_of-PStmt n → Walk → State → State
  after_row g end_of-PStmt w s = s
  after_row g (more_of-PStmt at kind rest) w s = after_row g rest (walked kind w) (after g kind w s)

-- behind the statements of a body
abbrev pub after_all : Ground → List PStmt → Walk → State → State
after_all g [] w s = s
after_all g (s ∷ body) w state = after_all g body (walked s.kind w) (after g s.kind w state)
