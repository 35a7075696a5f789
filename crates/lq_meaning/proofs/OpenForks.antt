-- How the branches of the forks on a stack follow one another.
use Rattle.std.proofs.Common.{◌≡◌, ℕ, zero, suc, ◌+◌, ◌<◌, ◌≤◌, List, [], ◌∷◌, ◌++◌, Option, None, Some, refl, sym, ap, ◌∙◌, add-one, arith, All}
use Rattle.std.specs.Prelude.{option_map}
use Rattle.std.specs.Option.{option_or}
use Rattle.std.proofs.lemmas.List.Elements.{All-weaker}
use Rattle.lq_tree.specs.declared.plain.PProgram.{PProgram}
use Rattle.lq_meaning.specs.declared.line.Line.{Line}
use Rattle.lq_meaning.specs.declared.line.Caller.{Caller}
use Rattle.lq_meaning.specs.declared.line.Part.{Part}
use Rattle.lq_meaning.specs.declared.line.Part.TheVariants.{Row, Test, Again}
use Rattle.lq_meaning.specs.declared.line.Stop.{Stop}
use Rattle.lq_meaning.specs.declared.line.Stop.TheVariants.{Done as DoneStop, Trapped as TrappedStop, Unruled as UnruledStop, Word, Call, Test as TestStop, Branches, Iterations}
use Rattle.lq_meaning.specs.declared.lines.Caught.{Caught}
use Rattle.lq_meaning.specs.declared.lines.OpenFork.{OpenFork}
use Rattle.lq_meaning.specs.World.{World}
use Rattle.lq_meaning.specs.Ending.{Trap}
use Rattle.lq_meaning.specs.Control.{Came, Gives, Stops, Run, give, go_on, ◌⨾◌}
use Rattle.lq_meaning.specs.Task.{Task, Tasks, none, more}
use Rattle.lq_meaning.specs.InOrder.{in_order, all_in_order, unless_trapped}
use Rattle.lq_meaning.specs.Line.{IsBelow, FewTurns, FewAtStop, size_of, task_at}
use Rattle.lq_meaning.specs.Lines.{trap_of, tasks_from, Level, rejoined, with_trap, IsLevel, Waits}

-- what comes behind what comes behind
pub go_on-go_on : {X Y Z : Type 0} (a : Came X) (first : X → Run Y) (next : Y → Run Z) → go_on (go_on a first) next ≡ go_on a (λ x. first x ⨾ next)
go_on-go_on (Gives x w) first next = refl
go_on-go_on (Stops ending w) first next = refl

-- the first of three traps
or_assoc : (a b c : Option Trap) → option_or a (option_or b c) ≡ option_or (option_or a b) c
or_assoc None b c = refl
or_assoc (Some trap) b c = refl

or_none : (a : Option Trap) → option_or a None ≡ a
or_none None = refl
or_none (Some trap) = refl

pub trap_of-or : (a b : Option Caught) → option_map trap_of (option_or a b) ≡ option_or (option_map trap_of a) (option_map trap_of b)
trap_of-or None b = refl
trap_of-or (Some caught) b = refl

-- the traps of the others behind that of a branch
others_behind : (others : Came (Option Trap)) (so_far trap : Option Trap) (behind : Option Trap → Run (Option Trap))
    → go_on (go_on others (λ later. give (option_or trap later))) (λ later. behind (option_or so_far later)) ≡ go_on others (λ later. behind (option_or (option_or so_far trap) later))
others_behind (Gives later w) so_far trap behind = ap (λ (t : Option Trap). behind t w) (or_assoc so_far trap later)
others_behind (Stops ending w) so_far trap behind = refl

first_of_branches : (came : Came (Option Trap)) (others : Run (Option Trap)) (so_far : Option Trap) (behind : Option Trap → Run (Option Trap))
    → go_on (go_on came (λ trap. others ⨾ λ later. give (option_or trap later))) (λ later. behind (option_or so_far later))
    ≡ go_on came (λ trap. others ⨾ λ later. behind (option_or (option_or so_far trap) later))
first_of_branches (Gives trap w) others so_far behind = others_behind (others w) so_far trap behind
first_of_branches (Stops ending w) others so_far behind = refl

-- the first branch that is left runs, and then the others
pub rejoined_more : (fuel : ℕ) (level : Level) (task : Task) (tasks : Tasks) (w : World) → level.left ≡ more task tasks
    → rejoined fuel level w ≡ go_on (in_order fuel task w) (λ trap. rejoined fuel (with_trap (record { trap = level.trap; left = tasks; behind = level.behind }) trap))
rejoined_more fuel level task tasks w left =
    ap (λ (left : Tasks). go_on (all_in_order fuel left w) (λ later. unless_trapped (λ w. in_order fuel level.behind w) (option_or level.trap later))) left
    ∙ first_of_branches (in_order fuel task w) (λ w. all_in_order fuel tasks w) level.trap (unless_trapped (λ w. in_order fuel level.behind w))

-- no branch is left
pub rejoined_none : (fuel : ℕ) (level : Level) (w : World) → level.left ≡ none → rejoined fuel level w ≡ unless_trapped (λ w. in_order fuel level.behind w) level.trap w
rejoined_none fuel level w left =
    ap (λ (left : Tasks). go_on (all_in_order fuel left w) (λ later. unless_trapped (λ w. in_order fuel level.behind w) (option_or level.trap later))) left
    ∙ ap (λ (t : Option Trap). unless_trapped (λ w. in_order fuel level.behind w) t w) (or_none level.trap)

-- the tasks from a number on, where there is one
from_number : (n : ℕ) (tasks : Tasks) → n < size_of tasks → tasks_from n tasks ≡ more (task_at tasks n) (tasks_from (suc n) tasks)
from_number n none within = absurd (omega arith)
from_number zero (more task tasks) within = refl
from_number (suc n) (more task tasks) within = from_number n tasks (omega arith)

pub tasks_next : (n : ℕ) (tasks : Tasks) → n < size_of tasks → tasks_from n tasks ≡ more (task_at tasks n) (tasks_from (n + 1) tasks)
tasks_next n tasks within = from_number n tasks within ∙ ap (λ (k : ℕ). more (task_at tasks n) (tasks_from k tasks)) (sym (add-one n))

pub tasks_past : (n : ℕ) (tasks : Tasks) → size_of tasks ≤ n → tasks_from n tasks ≡ none
tasks_past zero none past = refl
tasks_past (suc n) none past = refl
tasks_past zero (more task tasks) past = absurd (omega arith)
tasks_past (suc n) (more task tasks) past = tasks_past n tasks (omega arith)

-- fewer turns than a bound are fewer than a greater one
few_more : (low high : ℕ) → low ≤ high → (part : Part) → FewTurns low part → FewTurns high part
few_more low high below (Row row) few = tt
few_more low high below (Test loop' made) few = omega arith
few_more low high below (Again loop' made) few = omega arith

stop_more : (low high : ℕ) → low ≤ high → (stop : Stop) → FewAtStop low stop → FewAtStop high stop
stop_more low high below (TestStop loop' made holds) few = omega arith
stop_more low high below DoneStop few = tt
stop_more low high below (TrappedStop kind at) few = tt
stop_more low high below UnruledStop few = tt
stop_more low high below (Word action at to) few = tt
stop_more low high below (Call at function words to) few = tt
stop_more low high below (Branches blocks) few = tt
stop_more low high below (Iterations at slot first step count body) few = tt

pub IsBelow-more : (low high : ℕ) → low ≤ high → (line : Line) → IsBelow low line → IsBelow high line
IsBelow-more low high below line is = record {
  positive = omega (arith, is.positive);
  here = All-weaker (FewTurns low) (FewTurns high) (few_more low high below) line.frame.parts is.here;
  callers = All-weaker (λ (caller : Caller). All (FewTurns low) caller.frame.parts) (λ (caller : Caller). All (FewTurns high) caller.frame.parts)
      (λ caller few. All-weaker (FewTurns low) (FewTurns high) (few_more low high below) caller.frame.parts few) line.callers is.callers;
  stop = stop_more low high below line.stop is.stop;
}

module _ (p : PProgram) (fuel : ℕ) where
  pub IsLevel-more : (low high : ℕ) → low ≤ high → (fork : OpenFork) (level : Level) → IsLevel p fuel low fork level → IsLevel p fuel high fork level
  IsLevel-more low high below fork level is = record {
    branch = is.branch;
    passed = is.passed;
    stands = is.stands;
    below = IsBelow-more low high below fork.line is.below;
    trap = is.trap;
    left = is.left;
    behind = is.behind;
  }

  pub Waits-more : (low high : ℕ) → low ≤ high → (forks : List OpenFork) (after all : Option Trap → Run (Option Trap)) → Waits p fuel low forks after all → Waits p fuel high forks after all
  Waits-more low high below [] after all waits = waits
  Waits-more low high below (fork ∷ forks) after all (level, is, waits) =
      (level, IsLevel-more low high below fork level is, Waits-more low high below forks (λ trap. rejoined fuel (with_trap level trap) ⨾ after) all waits)

  -- a fork within all these
  pub Waits-push : (most : ℕ) (forks : List OpenFork) (fork : OpenFork) (level : Level) (after all : Option Trap → Run (Option Trap)) → Waits p fuel most forks after all → IsLevel p fuel most fork level
      → Waits p fuel most (forks ++ fork ∷ []) after (λ trap. rejoined fuel (with_trap level trap) ⨾ all)
  Waits-push most [] fork level after all waits is =
      let behind : (Option Trap → Run (Option Trap)) → Option Trap → Run (Option Trap) = λ next trap. rejoined fuel (with_trap level trap) ⨾ next in
      (level, is, ap behind waits)
  Waits-push most (outer ∷ forks) fork level after all (first, of_first, waits) is =
      (first, of_first, Waits-push most forks fork level (λ trap. rejoined fuel (with_trap first trap) ⨾ after) all waits is)

  -- the innermost fork, and those around it
  pub record Innermost (most : ℕ) (forks : List OpenFork) (fork : OpenFork) (after all : Option Trap → Run (Option Trap)) : Type 0 where
    pub level : Level
    pub is : IsLevel p fuel most fork level
    pub around : Option Trap → Run (Option Trap)
    pub waits : Waits p fuel most forks after around
    pub all_is : all ≡ (λ trap. rejoined fuel (with_trap level trap) ⨾ around)

  pub Waits-pop : (most : ℕ) (forks : List OpenFork) (fork : OpenFork) (after all : Option Trap → Run (Option Trap)) → Waits p fuel most (forks ++ fork ∷ []) after all → Innermost most forks fork after all
  Waits-pop most [] fork after all (level, is, waits) = record { level = level; is = is; around = after; waits = refl; all_is = waits }
  Waits-pop most (outer ∷ forks) fork after all (first, of_first, waits) =
      let inner = Waits-pop most forks fork (λ trap. rejoined fuel (with_trap first trap) ⨾ after) all waits in
      record { level = inner.level; is = inner.is; around = inner.around; waits = (first, of_first, inner.waits); all_is = inner.all_is }
