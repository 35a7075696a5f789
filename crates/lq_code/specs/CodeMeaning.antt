-- The sequential execution of stack code (docs/CODE.md, "Execution"). Words, actions, ends and the ways in which parts of a run
-- follow one another are those of the plain meaning.
use Rattle.std.specs.Prelude.{ℕ, zero, suc, ◌+◌, ◌-◌, ℤ, pos, nat_lt, if◌then◌else◌, List, [], ◌∷◌, ◌++◌, length, reverse, take, drop, replicate, slice_get, slice_set, Option, None, Some}
use Rattle.std.specs.Option.{option_map_or}
use Rattle.lq_tree.specs.declared.place.Place.{Place}
use Rattle.lq_tree.specs.declared.trap.TrapKind.TheVariants.{Words}
use Rattle.lq_tree.specs.declared.expr.BinOp.{BinOp}
use Rattle.lq_tree.specs.declared.expr.BinOp.TheVariants as source
use Rattle.lq_meaning.specs.declared.action.Action.TheVariants as action
use Rattle.lq_meaning.specs.Ending.{Trap, Spent, Unruled, Outcome}
use Rattle.lq_meaning.specs.Operators.{truth, is_zero, negation, arithmetic, shifted, Computed}
use Rattle.lq_meaning.specs.Control.{trapped, Run, give, stop, ◌⨾◌, computed, due, by_truth, load, store, Flow, GoesOn, Returns, branch, before, joined, each, returned, ended}
use Rattle.lq_meaning.specs.PlainMeaning.{Slots, word_of, into, target}
use Rattle.lq_meaning.specs.Entry.{start, enter}
use Rattle.lq_code.specs.declared.op.Operator.{Operator}
use Rattle.lq_code.specs.declared.op.Operator.TheVariants.{Mul, Div, Rem, Add, Sub, Lt, Le, Gt, Ge, Eq, Ne}
use Rattle.lq_code.specs.declared.op.Op.{Op}
use Rattle.lq_code.specs.declared.op.Op.TheVariants.{Num, Get, Put, Neg, Not, IsNull, Bin, Shift, Jump, JumpZero, Load, Store, Calloc, Call, Test, Fork, Each, Print, Return, End}
use Rattle.lq_code.specs.declared.code.Instr.{Instr}
use Rattle.lq_code.specs.declared.code.CFunc.{CFunc}
use Rattle.lq_code.specs.declared.code.Code.{Code}

-- an active function: its next instruction, the words of its slots, and its stack, the top first
pub record Frame : Type 0 where
  pub next : ℕ
  pub slots : Slots
  pub stack : List ℤ

-- what comes of an instruction: the function goes on, or it returns or its branch ends
pub data Went : Type 0 where
  Goes : Frame → Went
  Leaves : Flow Slots → Went

-- what stays the same while a function is active: the code, the fuel, and what a call of the function with this number comes to
pub record Context : Type 0 where
  pub code : Code
  pub fuel : ℕ
  pub call : Place → ℕ → List ℤ → Run ℤ

-- a frame that begins at an instruction, with nothing on its stack
abbrev pub frame : (next : ℕ) → Slots → Frame
frame next slots = record { next = next; slots = slots; stack = [] }

-- goes on at an instruction, with these slots and this stack
abbrev pub goes : (next : ℕ) → Slots → (stack : List ℤ) → Run Went
goes next slots stack = give (Goes (record { next = next; slots = slots; stack = stack }))

-- with the top of the stack, and the rest of it
abbrev pub popped : (stack : List ℤ) → (ℤ → List ℤ → Run Went) → Run Went
popped [] then_do = stop Unruled
popped (x ∷ stack) then_do = then_do x stack

-- with so many from the top of the stack, the last one first, and the rest of it
abbrev pub all_popped : ℕ → (stack : List ℤ) → (List ℤ → List ℤ → Run Went) → Run Went
all_popped n stack then_do = if nat_lt (length stack) n then stop Unruled else then_do (reverse (take n stack)) (drop n stack)

-- goes on behind the instruction, with a word that is computed on the stack
abbrev pub pushes : Place → Frame → Computed → (stack : List ℤ) → Run Went
pushes at f word stack = computed at word ⨾ λ x. goes (f.next + 1) f.slots (x ∷ stack)

-- the operator of the plain tree
abbrev pub source_operator : Operator → BinOp
source_operator Mul = source.Mul
source_operator Div = source.Div
source_operator Rem = source.Rem
source_operator Add = source.Add
source_operator Sub = source.Sub
source_operator Lt = source.Lt
source_operator Le = source.Le
source_operator Gt = source.Gt
source_operator Ge = source.Ge
source_operator Eq = source.Eq
source_operator Ne = source.Ne

-- how many parameters the function with this number has; one that isn't there has none
abbrev pub params_of : List CFunc → ℕ → ℕ
params_of funcs function = option_map_or (λ (f : CFunc). f.params) (slice_get funcs function) 0

-- the branches of a Fork, in order
abbrev pub branches : (region : ℕ → Slots → Run (Flow Slots)) → (starts : List ℕ) → Slots → Run (Option Trap)
branches region [] slots = give None
branches region (start ∷ rest) slots = before (branch (region start slots)) (branches region rest slots)

-- what an instruction does, where a region that starts at an instruction comes to this on these slots
abbrev pub act : Context → (region : ℕ → Slots → Run (Flow Slots)) → Place → Op → Frame → Run Went
act c region at (Num z) f = goes (f.next + 1) f.slots (z ∷ f.stack)
act c region at (Get slot) f = goes (f.next + 1) f.slots (word_of f.slots slot ∷ f.stack)
act c region at (Put slot) f = popped f.stack λ x stack. goes (f.next + 1) (slice_set f.slots slot x) stack
act c region at Neg f = popped f.stack λ x stack. pushes at f (negation x) stack
act c region at Not f = popped f.stack λ x stack. goes (f.next + 1) f.slots (truth (is_zero x) ∷ stack)
act c region at IsNull f = popped f.stack λ x stack. goes (f.next + 1) f.slots (truth (is_zero x) ∷ stack)
act c region at (Bin o) f = popped f.stack λ y stack. popped stack λ x stack. pushes at f (arithmetic (source_operator o) x y) stack
act c region at Shift f = popped f.stack λ n stack. popped stack λ p stack. pushes at f (shifted p n) stack
act c region at (Jump to) f = goes to f.slots f.stack
act c region at (JumpZero to) f = popped f.stack λ x stack. goes (by_truth x (f.next + 1) to) f.slots stack
act c region at (Load to base field) f =
    popped f.stack λ i stack.
    load c.fuel at (target f.slots base field i) ⨾ λ word. goes (f.next + 1) (slice_set f.slots to word) stack
act c region at (Store base field) f =
    popped f.stack λ word stack. popped stack λ i stack.
    store c.fuel at (target f.slots base field i) word ⨾ λ _. goes (f.next + 1) f.slots stack
act c region at (Calloc to fields) f =
    popped f.stack λ count stack.
    due c.fuel at (action.Allocate count fields) ⨾ λ word. goes (f.next + 1) (slice_set f.slots to word) stack
act c region at (Call to function) f =
    all_popped (params_of c.code.funcs function) f.stack λ words stack.
    c.call at function words ⨾ λ word. goes (f.next + 1) (into to f.slots word) stack
act c region at (Test to) f =
    popped f.stack λ x stack. due c.fuel at action.Test ⨾ λ _. goes (by_truth x (f.next + 1) to) f.slots stack
act c region at (Fork end starts) f = branches region starts f.slots ⨾ joined f.slots ⨾ λ _. goes end f.slots f.stack
act c region at (Each slot step end) f =
    popped f.stack λ high stack. popped stack λ low stack.
    each c.fuel at low high step (λ i. region (f.next + 1) (slice_set f.slots slot i)) ⨾ joined f.slots ⨾ λ _. goes end f.slots stack
act c region at Print f =
    popped f.stack λ number stack. due c.fuel at (action.Print number) ⨾ λ _. goes (f.next + 1) f.slots stack
act c region at Return f = popped f.stack λ word stack. give (Leaves (Returns word))
act c region at End f = give (Leaves (GoesOn f.slots))

-- the next instruction, if it is there
abbrev pub next_act : Context → (region : ℕ → Slots → Run (Flow Slots)) → Option Instr → Frame → Run Went
next_act c region None f = stop Unruled
next_act c region (Some i) f = act c region i.at i.op f

-- behind an instruction: forward, or back with the next turn
abbrev pub went : (forward back : Frame → Run (Flow Slots)) → (from : ℕ) → Went → Run (Flow Slots)
went forward back from (Leaves flow) = give flow
went forward back from (Goes f) = if nat_lt from f.next then forward f else back f

-- At most so many instructions forward, and from a jump back on as `back` says. There are never more forward than a body has.
unfoldable pub forward : (back : Frame → Run (Flow Slots)) → (most : ℕ) → Context → List Instr → Frame → Run (Flow Slots)
forward back zero c body f = stop Unruled
forward back (suc most) c body f =
    next_act c (λ start slots. forward back most c body (frame start slots)) (slice_get body f.next) f
    ⨾ went (forward back most c body) back f.next

-- A body from a frame on, with at most so many jumps back. In valid code each of these is a turn of a loop, whose test costs 1, so
-- more of them than there is fuel are never made.
unfoldable pub run : (turns : ℕ) → Context → List Instr → Frame → Run (Flow Slots)
run zero c body f = stop Spent
run (suc turns) c body f = forward (run turns c body) (length body) c body f

-- the parameters are the first slots, and all others are 0, or null
abbrev pub bound : CFunc → List ℤ → Slots
bound f words = words ++ replicate (f.slots - length words) (pos 0)

-- the body of a function on its arguments
abbrev pub in_function : Context → Option CFunc → List ℤ → Run ℤ
in_function c None words = stop Unruled
in_function c (Some f) words = run (suc c.fuel) c f.instrs (frame 0 (bound f words)) ⨾ returned

-- a call where so many more functions may become active: it is counted, and then the function's body is done
unfoldable pub called : Code → (fuel more : ℕ) → Place → ℕ → List ℤ → Run ℤ
called code fuel zero at function words = due fuel at (action.Enter 0)
called code fuel (suc more) at function words =
    due fuel at (action.Enter (suc more)) ⨾ λ _. in_function (record { code = code; fuel = fuel; call = called code fuel more }) (slice_get code.funcs function) words

-- `main` is the first of the 1,024 functions that may be active
abbrev pub context : Code → (fuel : ℕ) → Context
context code fuel = record { code = code; fuel = fuel; call = called code fuel 1023 }

-- the function `main` on an input; where it traps at its entry, nothing is counted
abbrev pub enter_main : Context → Option CFunc → (words : ℕ) → List ℤ → Outcome
enter_main c None words input = record { ending = Unruled; world = start words }
enter_main c (Some f) words input =
    enter (λ w. record { ending = trapped Words f.at; world = w }) (λ arguments w. ended (in_function c (Some f) arguments w)) f.params words input

-- the sequential execution of code on an input
abbrev pub sequential : (fuel words : ℕ) → Code → (input : List ℤ) → Outcome
sequential fuel words code input = enter_main (context code fuel) (slice_get code.funcs code.main) words input
