-- The sequential execution of a source (docs/LANGUAGE.md, "Evaluation" and "Sequential execution").
-- A form that only an ill-named source has has no meaning here, and ends the run as Unruled.
use Rattle.std.specs.Prelude.{ℕ, zero, suc, ◌-◌, ℤ, pos, nat_abs, Bool, List, [], ◌∷◌, length, drop, Option, None, Some, codes}
use Rattle.lq_tree.specs.declared.place.Place.{Place}
use Rattle.lq_tree.specs.declared.trap.TrapKind.TheVariants.{Words}
use Rattle.lq_tree.specs.declared.expr.BinOp.{BinOp}
use Rattle.lq_tree.specs.declared.expr.BinOp.TheVariants.{And, Or}
use Rattle.lq_tree.specs.declared.expr.Expr.{Expr, Num, Var, Neg', Not', Bin', Index', Deref', Arrow', Dot', Call' as CallExpr', Calloc', Row_of-Expr, end_of-Expr, more_of-Expr}
use Rattle.lq_tree.specs.declared.stmt.StmtKind.{StmtKind, Empty, Block', Local as Declare, Set, Store, Call, If', While', For', Print, Return, Cobegin', Foreach', Row_of-Stmt, end_of-Stmt, more_of-Stmt, Row_of-Arm, end_of-Arm, more_of-Arm, None', Some', Held-StmtKind-If-1}
use Rattle.lq_tree.specs.declared.stmt.Stmt.{Stmt}
use Rattle.lq_tree.specs.declared.stmt.Arm.{Arm, Arm'}
use Rattle.lq_tree.specs.declared.program.Param.{Param}
use Rattle.lq_tree.specs.declared.program.Func.{Func}
use Rattle.lq_tree.specs.declared.program.Program.{Program}
use Rattle.lq_tree.specs.Lookup.{function_of}
use Rattle.lq_tree.specs.Types.{Ty, Number, declared, element_of, is_pointer, row_type}
use Rattle.lq_tree.specs.Locals.{Local, what_of, with_what, variables_of}
use Rattle.lq_tree.specs.Layout.{fields_of, field_number}
use Rattle.lq_meaning.specs.declared.action.Action.TheVariants.{Allocate, Print as PrintNumber, Enter}
use Rattle.lq_meaning.specs.Ending.{Trap, Unruled, Outcome}
use Rattle.lq_meaning.specs.Operators.{negation, truth, truth_of, is_zero, binary}
use Rattle.lq_meaning.specs.Control.{trapped, Run, give, stop, ◌⨾◌, computed, due, by_truth, Target, load, store, Flow, GoesOn, Returns, Statement, done_with, ◌then_do◌, tested, loop, branch, before, joined, each, returned, ended}
use Rattle.lq_meaning.specs.Entry.{start, enter}

-- what stays the same while a function is active: the source, the fuel, and what a call comes to
pub record Context : Type 0 where
  pub program : Program
  pub fuel : ℕ
  -- of the function with this name on these arguments, at a place
  pub call : Place → List ℕ → List ℤ → Run ℤ

-- the locals in scope and their words
abbrev pub Locals : Type 0
Locals = List (Local ℤ)

-- a local of this name and type, with its word
abbrev pub local : List ℕ → Ty → ℤ → Local ℤ
local name type word = record { name = name; type = type; what = word }

-- the word of the local with this name
abbrev pub word_of : Locals → List ℕ → ℤ
word_of locals name = what_of (pos 0) locals name

-- the type of the one expression of a box, by those of the locals
abbrev pub type_by : {n : _} → Context → Locals → Row_of-Expr n → Ty
type_by c locals row = row_type c.program (variables_of locals) row

-- what an expression comes to: a value, or an element and a field, which are read for their value (C11 6.3.2.1)
pub data Found : Type 0 where
  Value : ℤ → Found
  Names : Target → Found

-- the element at an index from a pointer, and a field of it
abbrev pub target : (pointer index : ℤ) → (field : ℕ) → Target
target pointer index field = record { pointer = pointer; index = index; field = field }

-- comes to this value
abbrev pub value : ℤ → Run Found
value x = give (Value x)

-- names this element and field
abbrev pub names : (pointer index : ℤ) → (field : ℕ) → Run Found
names pointer index field = give (Names (target pointer index field))

-- the value of what was found
abbrev pub value_of : Context → Place → Found → Run ℤ
value_of c at (Value x) = give x
value_of c at (Names t) = load c.fuel at t

-- the element and the field that were found
abbrev pub target_of : Found → Run Target
target_of (Value x) = stop Unruled
target_of (Names t) = give t

-- the field of an element that was found
abbrev pub dotted : ℕ → Found → Run Found
dotted field found = target_of found ⨾ λ t. names t.pointer t.index field

-- an operator; `&&` and `||` stop early (C11 6.5.13, 6.5.14)
abbrev pub operated : Place → (pointer : Bool) → BinOp → (left right : Run ℤ) → Run ℤ
operated at pointer And left right = left ⨾ λ x. by_truth x (right ⨾ λ y. give (truth_of y)) (give (pos 0))
operated at pointer Or left right = left ⨾ λ x. by_truth x (give (pos 1)) (right ⨾ λ y. give (truth_of y))
operated at pointer op left right = left ⨾ λ x. right ⨾ λ y. computed at (binary pointer op x y)

-- evaluation, operands from left to right; an index, an arrow and a dot only name what may be read or stored there
abbrev mutual
  pub find : Context → Place → Locals → Expr → Run Found
  find c at locals (Num n) = value n
  find c at locals (Var name) = value (word_of locals name)
  find c at locals (Neg' p e) = eval_row c at locals e ⨾ λ x. computed at (negation x) ⨾ value
  find c at locals (Not' p e) = eval_row c at locals e ⨾ λ x. value (truth (is_zero x))
  find c at locals (Bin' op p a q b) =
      operated at (is_pointer (type_by c locals a)) op (eval_row c at locals a) (eval_row c at locals b) ⨾ value
  find c at locals (Index' p base i index) = eval_row c at locals base ⨾ λ pointer. eval_row c at locals index ⨾ λ i. names pointer i 0
  find c at locals (Deref' p base) = eval_row c at locals base ⨾ λ pointer. names pointer (pos 0) 0
  find c at locals (Arrow' p base field) =
      eval_row c at locals base ⨾ λ pointer. names pointer (pos 0) (field_number c.program.structs (element_of (type_by c locals base)) field)
  find c at locals (Dot' p element field) =
      find_row c at locals element ⨾ dotted (field_number c.program.structs (type_by c locals element) field)
  find c at locals (CallExpr' name n args) = eval_args c at locals args ⨾ c.call at name ⨾ value
  find c at locals (Calloc' n count type) =
      eval_row c at locals count ⨾ λ n. due c.fuel at (Allocate n (fields_of c.program.structs type)) ⨾ value

  -- the one expression of a box
  pub find_row : {n : _} → Context → Place → Locals → Row_of-Expr n → Run Found
  find_row c at locals end_of-Expr = stop Unruled
  find_row c at locals (more_of-Expr e rest) = find c at locals e

  -- its value
  pub eval_row : {n : _} → Context → Place → Locals → Row_of-Expr n → Run ℤ
  eval_row c at locals end_of-Expr = stop Unruled
  eval_row c at locals (more_of-Expr e rest) = find c at locals e ⨾ value_of c at

  -- arguments, from left to right
  pub eval_args : {n : _} → Context → Place → Locals → Row_of-Expr n → Run (List ℤ)
  eval_args c at locals end_of-Expr = give []
  eval_args c at locals (more_of-Expr e rest) =
      find c at locals e ⨾ value_of c at ⨾ λ word. eval_args c at locals rest ⨾ λ words. give (word ∷ words)

-- the value of an expression
abbrev pub eval : Context → Place → Locals → Expr → Run ℤ
eval c at locals e = find c at locals e ⨾ value_of c at

-- the arguments of a call that is a statement
abbrev pub eval_list : Context → Place → Locals → List Expr → Run (List ℤ)
eval_list c at locals [] = give []
eval_list c at locals (e ∷ args) = eval c at locals e ⨾ λ word. eval_list c at locals args ⨾ λ words. give (word ∷ words)

-- the condition of a loop; a missing one is 1
abbrev pub condition : Context → Place → Option Expr → Locals → Run ℤ
condition c at None locals = give (pos 1)
condition c at (Some e) locals = eval c at locals e

-- behind a block, the locals that were there before it
abbrev pub without : Locals → Flow Locals → Run (Flow Locals)
without locals (GoesOn inner) = done_with (drop (length inner - length locals) inner)
without locals (Returns word) = give (Returns word)

-- a body whose locals end with it
abbrev pub scoped : Locals → Run (Flow Locals) → Run (Flow Locals)
scoped locals body = body ⨾ without locals

-- while the condition is true, the body
abbrev pub looped : Context → Place → Option Expr → (body : Statement Locals) → Statement Locals
looped c at e body = loop (suc c.fuel) done_with (λ locals. tested c.fuel at (condition c at e locals)) body

-- execution, statement by statement; what a block, a body or an iteration declares ends with it, and the branches of a
-- parallel statement are read in order, each from what the one before left
abbrev mutual
  pub exec : Context → Place → StmtKind → Statement Locals
  exec c at Empty locals = done_with locals
  exec c at (Block' n body) locals = scoped locals (exec_row c body locals)
  exec c at (Declare type name None) locals = done_with (local name (declared type) (pos 0) ∷ locals)
  exec c at (Declare type name (Some e)) locals = eval c at locals e ⨾ λ word. done_with (local name (declared type) word ∷ locals)
  exec c at (Set name e) locals = eval c at locals e ⨾ λ word. done_with (with_what locals name word)
  exec c at (Store into e) locals =
      find c at locals into ⨾ target_of ⨾ λ t. eval c at locals e ⨾ λ word. store c.fuel at t word ⨾ λ _. done_with locals
  exec c at (Call name args) locals = eval_list c at locals args ⨾ c.call at name ⨾ λ _. done_with locals
  exec c at (If' n arms other) locals = exec_arms c at arms (λ locals. scoped locals (exec_held c other locals)) locals
  exec c at (While' e p body) locals = looped c at (Some e) (λ locals. scoped locals (exec_row c body locals)) locals
  exec c at (For' first e third p body) locals =
      scoped locals (exec_held c first locals then_do looped c at e (λ locals.
      scoped locals (exec_row c body locals) then_do λ locals. scoped locals (exec_held c third locals)))
  exec c at (Print e) locals = eval c at locals e ⨾ λ number. due c.fuel at (PrintNumber number) ⨾ λ _. done_with locals
  exec c at (Return None) locals = give (Returns (pos 0))
  exec c at (Return (Some e)) locals = eval c at locals e ⨾ λ word. give (Returns word)
  exec c at (Cobegin' n blocks) locals = branches c blocks locals ⨾ joined locals
  exec c at (Foreach' index low high step p body) locals =
      eval c at locals low ⨾ λ low. eval c at locals high ⨾ λ high.
      each c.fuel at low high (nat_abs step) (λ i. exec_row c body (local index Number i ∷ locals)) ⨾ joined locals

  -- one statement after another
  pub exec_row : {n : _} → Context → Row_of-Stmt n → Statement Locals
  exec_row c end_of-Stmt locals = done_with locals
  exec_row c (more_of-Stmt at kind rest) locals = exec c at kind locals then_do exec_row c rest

  -- a statement that may be missing
  pub exec_held : Context → Held-StmtKind-If-1 → Statement Locals
  exec_held c None' locals = done_with locals
  exec_held c (Some' p body) locals = exec_row c body locals

  -- the arms of an `if`, and then the rest of it
  pub exec_arms : {n : _} → Context → Place → Row_of-Arm n → (otherwise : Statement Locals) → Statement Locals
  exec_arms c at end_of-Arm otherwise locals = otherwise locals
  exec_arms c at (more_of-Arm arm rest) otherwise locals = exec_arm c at arm (exec_arms c at rest otherwise) locals

  pub exec_arm : Context → Place → Arm → (otherwise : Statement Locals) → Statement Locals
  exec_arm c at (Arm' e p body) otherwise locals =
      eval c at locals e ⨾ λ word. by_truth word (scoped locals (exec_row c body locals)) (otherwise locals)

  -- the blocks of a `cobegin`, in order
  pub branches : {n : _} → Context → Row_of-Stmt n → Locals → Run (Option Trap)
  branches c end_of-Stmt locals = give None
  branches c (more_of-Stmt at kind rest) locals = before (branch (exec c at kind locals)) (branches c rest locals)

-- the statements of a function's body
abbrev pub exec_all : Context → List Stmt → Statement Locals
exec_all c [] locals = done_with locals
exec_all c (s ∷ body) locals = exec c s.at s.kind locals then_do exec_all c body

-- the locals, and inside them the parameters with their arguments, the last one innermost
abbrev pub bound : List Param → List ℤ → Locals → Locals
bound [] words locals = locals
bound (p ∷ params) [] locals = locals
bound (p ∷ params) (word ∷ words) locals = bound params words (local p.name (declared p.ctype) word ∷ locals)

-- the body of a function on its arguments
abbrev pub in_function : Context → Option Func → List ℤ → Run ℤ
in_function c None words = stop Unruled
in_function c (Some f) words = exec_all c f.body (bound f.params words []) ⨾ returned

-- a call where so many more functions may become active: it is counted, and then the function's body is done
unfoldable pub called : Program → (fuel more : ℕ) → Place → List ℕ → List ℤ → Run ℤ
called p fuel zero at name words = due fuel at (Enter 0)
called p fuel (suc more) at name words =
    due fuel at (Enter (suc more)) ⨾ λ _. in_function (record { program = p; fuel = fuel; call = called p fuel more }) (function_of p.funcs name) words

-- `main` is the first of the 1,024 functions that may be active
abbrev pub context : Program → (fuel : ℕ) → Context
context p fuel = record { program = p; fuel = fuel; call = called p fuel 1023 }

-- the function `main` on an input; where it traps at its entry, nothing is counted
abbrev pub enter_main : Context → Option Func → (words : ℕ) → List ℤ → Outcome
enter_main c None words input = record { ending = Unruled; world = start words }
enter_main c (Some f) words input =
    enter (λ w. record { ending = trapped Words f.at; world = w }) (λ arguments w. ended (in_function c (Some f) arguments w)) (length f.params) words input

-- the sequential execution of a program on an input
abbrev pub sequential : (fuel words : ℕ) → Program → (input : List ℤ) → Outcome
sequential fuel words p input = enter_main (context p fuel) (function_of p.funcs (codes "main")) words input
