-- What the parts of a stack do, one on top of the other.
use Rattle.std.proofs.Common.{◌≡◌, ℕ, suc, ◌-◌, ◌<◌, ℤ, List, [], ◌∷◌, ◌++◌, length, refl, ap, ◌∙◌, arith}
use Rattle.std.proofs.Math.Path.{fun_ext}
use Rattle.lq_tree.specs.declared.plain.PProgram.{PProgram}
use Rattle.lq_meaning.specs.declared.line.Caller.{Caller}
use Rattle.lq_meaning.specs.declared.line.Repeat.{Repeat}
use Rattle.lq_meaning.specs.declared.line.Part.{Part}
use Rattle.lq_meaning.specs.declared.line.Part.TheVariants.{Test}
use Rattle.lq_meaning.specs.Control.{Flow, GoesOn, Returns}
use Rattle.lq_meaning.specs.PlainMeaning.{Slots}
use Rattle.lq_meaning.specs.TaskControl.{Next, loop}
use Rattle.lq_meaning.specs.Behaviour.{Context, exec_all}
use Rattle.lq_meaning.specs.Line.{context_from, repeated, part, then_next, through, back_to, back_through}

none_at : (c : Context) (next : Next (Flow Slots)) (flow : Flow Slots) → then_next (exec_all c []) next flow ≡ next flow
none_at c next (GoesOn slots) = refl
none_at c next (Returns word) = refl

-- with no statements in hand, nothing is done before what comes next
pub then_next-none : (c : Context) (next : Next (Flow Slots)) → then_next (exec_all c []) next ≡ next
then_next-none c next = fun_ext (none_at c next)

-- the part on top comes first
pub through-push : (c : Context) (parts : List Part) (x : Part) (next : Next (Flow Slots)) → through c (parts ++ x ∷ []) next ≡ then_next (part c x) (through c parts next)
through-push c [] x next = refl
through-push c (y ∷ parts) x next = through-push c parts x (then_next (part c y) next)

-- a return passes by the parts
pub through-returns : (c : Context) (parts : List Part) (next : Next (Flow Slots)) (word : ℤ) (passed : ℕ) → through c parts next (Returns word) passed ≡ next (Returns word) passed
through-returns c [] next word passed = refl
through-returns c (x ∷ parts) next word passed = through-returns c parts (then_next (part c x) next) word passed

-- the caller on top comes first
pub back_through-push : (p : PProgram) (turns : ℕ) (branch : List ℕ) (left : ℕ) (callers : List Caller) (x : Caller) (next : Next (Flow Slots))
    → back_through p turns branch left (callers ++ x ∷ []) next ≡ back_to (context_from p turns branch (left - length callers)) x (back_through p turns branch left callers next)
back_through-push p turns branch left [] x next =
    let e : left ≡ left - 0 = omega arith in ap (λ n. back_to (context_from p turns branch n) x next) e
back_through-push p turns branch left (y ∷ callers) x next =
    let e : left - 1 - length callers ≡ left - length (y ∷ callers) = omega arith in
    back_through-push p turns branch (left - 1) callers x (back_to (context_from p turns branch left) y next)
    ∙ ap (λ n. back_to (context_from p turns branch n) x (back_through p turns branch left (y ∷ callers) next)) e

-- a turn of a loop: the head, then the test
pub repeated-turn : (c : Context) (repeat : Repeat) (made : ℕ) (slots : Slots) (next : Next (Flow Slots)) (passed : ℕ) → made < c.turns
    → repeated c repeat (c.turns - made) slots next passed ≡ exec_all c repeat.head.now slots (then_next (part c (Test repeat made)) next) passed
unfolding loop
repeated-turn c repeat made slots next passed few =
    let e : c.turns - made ≡ suc (c.turns - suc made) = omega arith in ap (λ n. repeated c repeat n slots next passed) e
