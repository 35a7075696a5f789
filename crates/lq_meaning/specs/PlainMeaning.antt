-- The sequential execution of a plain program (docs/LANGUAGE.md, "Plain form" and "Sequential execution"), with one case
-- a plain statement. The same names stand for the same statements as in Meaning.
use Rattle.std.specs.Prelude.{ℕ, zero, suc, ◌-◌, ℤ, pos, nat_abs, if◌then◌else◌, List, [], ◌∷◌, ◌++◌, length, replicate, slice_index_or, slice_get, slice_set, Option, None, Some}
use Rattle.lq_tree.specs.declared.place.Place.{Place}
use Rattle.lq_tree.specs.declared.trap.TrapKind.TheVariants.{Words}
use Rattle.lq_tree.specs.declared.expr.BinOp.{BinOp}
use Rattle.lq_tree.specs.declared.expr.BinOp.TheVariants.{And, Or}
use Rattle.lq_tree.specs.declared.plain.PExpr.{PExpr, Num, Null, Slot, Neg', Not', Bin', Shift', IsNull', Row_of-PExpr, end_of-PExpr, more_of-PExpr}
use Rattle.lq_tree.specs.declared.plain.PKind.{PKind, Set, Load, Store, Calloc, Call, If', While', Cobegin', Foreach, Print, Return, Row_of-PStmt, end_of-PStmt, more_of-PStmt, Row_of-Branch, end_of-Branch, more_of-Branch}
use Rattle.lq_tree.specs.declared.plain.PStmt.{PStmt}
use Rattle.lq_tree.specs.declared.plain.Branch.{Branch, Branch'}
use Rattle.lq_tree.specs.declared.plain.PFunc.{PFunc}
use Rattle.lq_tree.specs.declared.plain.PProgram.{PProgram}
use Rattle.lq_meaning.specs.Word.{null}
use Rattle.lq_tree.specs.Layout.{fields_of}
use Rattle.lq_meaning.specs.declared.action.Action.TheVariants.{Allocate, Print as PrintNumber, Enter}
use Rattle.lq_meaning.specs.Ending.{Trap, Unruled, Outcome}
use Rattle.lq_meaning.specs.Operators.{Computed, Computes, then_compute, negation, truth, truth_of, is_zero, shifted, arithmetic}
use Rattle.lq_meaning.specs.Control.{trapped, Run, give, stop, ◌⨾◌, computed, due, by_truth, Target, load, store, Returns, Statement, done_with, ◌then_do◌, tested, loop, branch, before, joined, each, returned, ended}
use Rattle.lq_meaning.specs.Entry.{start, enter}

-- the word of each slot
abbrev pub Slots : Type 0
Slots = List ℤ

-- the word of the slot with this number
abbrev pub word_of : Slots → ℕ → ℤ
word_of slots n = slice_index_or slots n (pos 0)

-- an operator; `&&` and `||` stop early (C11 6.5.13, 6.5.14)
abbrev pub operated : BinOp → (left right : Computed) → Computed
operated And left right = then_compute left (λ x. if is_zero x then Computes (pos 0) else then_compute right (λ y. Computes (truth_of y)))
operated Or left right = then_compute left (λ x. if is_zero x then then_compute right (λ y. Computes (truth_of y)) else Computes (pos 1))
operated op left right = then_compute left (λ x. then_compute right (arithmetic op x))

-- the value of an expression, operands from left to right
abbrev mutual
  pub value : Slots → PExpr → Computed
  value slots (Num n) = Computes n
  value slots Null = Computes null
  value slots (Slot n) = Computes (word_of slots n)
  value slots (Neg' p e) = then_compute (value_row slots e) negation
  value slots (Not' p e) = then_compute (value_row slots e) (λ x. Computes (truth (is_zero x)))
  value slots (Bin' op p a q b) = operated op (value_row slots a) (value_row slots b)
  value slots (Shift' p a q n) = then_compute (value_row slots a) (λ pointer. then_compute (value_row slots n) (shifted pointer))
  value slots (IsNull' p e) = then_compute (value_row slots e) (λ x. Computes (truth (is_zero x)))

  -- the one expression of a box
  pub value_row : {n : _} → Slots → Row_of-PExpr n → Computed
  value_row slots end_of-PExpr = Computes (pos 0)
  value_row slots (more_of-PExpr e rest) = value slots e

-- the value of an expression, or its trap at the place
abbrev pub eval : Place → Slots → PExpr → Run ℤ
eval at slots e = computed at (value slots e)

-- arguments, from left to right
abbrev pub eval_list : Place → Slots → List PExpr → Run (List ℤ)
eval_list at slots [] = give []
eval_list at slots (e ∷ args) = eval at slots e ⨾ λ word. eval_list at slots args ⨾ λ words. give (word ∷ words)

-- what stays the same while a function is active: the program, the fuel, and what a call of the function with this number comes to
pub record Context : Type 0 where
  pub program : PProgram
  pub fuel : ℕ
  pub call : Place → ℕ → List ℤ → Run ℤ

-- the slots with a word in the one for it, if there is one
abbrev pub into : Option ℕ → Slots → ℤ → Slots
into None slots word = slots
into (Some to) slots word = slice_set slots to word

-- the element and the field that a base slot and an index name
abbrev pub target : Slots → (base field : ℕ) → (index : ℤ) → Target
target slots base field index = record { pointer = word_of slots base; index = index; field = field }

-- execution, statement by statement; the branches of a parallel statement are read in order, each from what the one before left
abbrev mutual
  pub exec : Context → Place → PKind → Statement Slots
  exec c at (Set to e) slots = eval at slots e ⨾ λ word. done_with (into (Some to) slots word)
  exec c at (Load to base index field) slots =
      eval at slots index ⨾ λ i. load c.fuel at (target slots base field i) ⨾ λ word. done_with (into (Some to) slots word)
  exec c at (Store base index field e) slots =
      eval at slots index ⨾ λ i. eval at slots e ⨾ λ word. store c.fuel at (target slots base field i) word ⨾ λ _. done_with slots
  exec c at (Calloc to count type) slots =
      eval at slots count ⨾ λ n. due c.fuel at (Allocate n (fields_of c.program.structs type)) ⨾ λ word. done_with (into (Some to) slots word)
  exec c at (Call to function args) slots = eval_list at slots args ⨾ c.call at function ⨾ λ word. done_with (into to slots word)
  exec c at (If' e n body m other) slots = eval at slots e ⨾ λ word. by_truth word (exec_row c body slots) (exec_row c other slots)
  exec c at (While' n head e m body) slots = loop (suc c.fuel) (exec_row c head) (λ slots. tested c.fuel at (eval at slots e)) (exec_row c body) slots
  exec c at (Print e) slots = eval at slots e ⨾ λ number. due c.fuel at (PrintNumber number) ⨾ λ _. done_with slots
  exec c at (Return None) slots = give (Returns (pos 0))
  exec c at (Return (Some e)) slots = eval at slots e ⨾ λ word. give (Returns word)
  exec c at (Cobegin' n blocks) slots = branches c blocks slots ⨾ joined slots
  exec c at (Foreach index low high step body) slots =
      eval at slots low ⨾ λ low. eval at slots high ⨾ λ high.
      each c.fuel at low high (nat_abs step) (λ i. exec_branch c body (slice_set slots index i)) ⨾ joined slots

  -- one statement after another
  pub exec_row : {n : _} → Context → Row_of-PStmt n → Statement Slots
  exec_row c end_of-PStmt slots = done_with slots
  exec_row c (more_of-PStmt at kind rest) slots = exec c at kind slots then_do exec_row c rest

  -- the statements of a branch
  pub exec_branch : Context → Branch → Statement Slots
  exec_branch c (Branch' at n body) slots = exec_row c body slots

  -- the blocks of a `cobegin`, in order
  pub branches : {n : _} → Context → Row_of-Branch n → Slots → Run (Option Trap)
  branches c end_of-Branch slots = give None
  branches c (more_of-Branch body rest) slots = before (branch (exec_branch c body slots)) (branches c rest slots)

-- the statements of a function's body
abbrev pub exec_all : Context → List PStmt → Statement Slots
exec_all c [] slots = done_with slots
exec_all c (s ∷ body) slots = exec c s.at s.kind slots then_do exec_all c body

-- the parameters are the first slots, and all others are 0, or null
abbrev pub bound : PFunc → List ℤ → Slots
bound f words = words ++ replicate (length f.slots - length words) (pos 0)

-- the body of a function on its arguments
abbrev pub in_function : Context → Option PFunc → List ℤ → Run ℤ
in_function c None words = stop Unruled
in_function c (Some f) words = exec_all c f.body (bound f words) ⨾ returned

-- a call where so many more functions may become active: it is counted, and then the function's body is done
unfoldable pub called : PProgram → (fuel more : ℕ) → Place → ℕ → List ℤ → Run ℤ
called p fuel zero at function words = due fuel at (Enter 0)
called p fuel (suc more) at function words =
    due fuel at (Enter (suc more)) ⨾ λ _. in_function (record { program = p; fuel = fuel; call = called p fuel more }) (slice_get p.funcs function) words

-- `main` is the first of the 1,024 functions that may be active
abbrev pub context : PProgram → (fuel : ℕ) → Context
context p fuel = record { program = p; fuel = fuel; call = called p fuel 1023 }

-- the function `main` on an input; where it traps at its entry, nothing is counted
abbrev pub enter_main : Context → Option PFunc → (words : ℕ) → List ℤ → Outcome
enter_main c None words input = record { ending = Unruled; world = start words }
enter_main c (Some f) words input =
    enter (λ w. record { ending = trapped Words f.at; world = w }) (λ arguments w. ended (in_function c (Some f) arguments w)) f.params words input

-- the sequential execution of a plain program on an input
abbrev pub sequential : (fuel words : ℕ) → PProgram → (input : List ℤ) → Outcome
sequential fuel words p input = enter_main (context p fuel) (slice_get p.funcs p.main) words input
