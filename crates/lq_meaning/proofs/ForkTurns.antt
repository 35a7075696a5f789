-- How a run in order enters, goes through and leaves a fork on its stack.
use Rattle.std.proofs.Common.{◌≡◌, ℕ, suc, ◌+◌, ◌<◌, ◌≤◌, List, [], ◌∷◌, ◌++◌, Option, None, Some, refl, sym, ap, ◌∙◌, subst, arith}
use Rattle.std.specs.Prelude.{option_map, IsSome, IsNone}
use Rattle.std.specs.Option.{option_or}
use Rattle.lq_tree.specs.declared.plain.PProgram.{PProgram}
use Rattle.lq_meaning.specs.declared.line.Line.{Line}
use Rattle.lq_meaning.specs.declared.line.Standing.{Standing}
use Rattle.lq_meaning.specs.declared.line.Standing.TheVariants.{Fork as IsFork}
use Rattle.lq_meaning.specs.declared.lines.Caught.{Caught}
use Rattle.lq_meaning.specs.declared.lines.OpenFork.{OpenFork}
use Rattle.lq_meaning.specs.declared.lines.Lines.{Lines}
use Rattle.lq_meaning.specs.declared.lines.Turn.{Turn}
use Rattle.lq_meaning.specs.declared.lines.Turn.TheVariants.{Run as RunTurn, Leave}
use Rattle.lq_meaning.specs.World.{World}
use Rattle.lq_meaning.specs.Ending.{Trap, Outcome}
use Rattle.lq_meaning.specs.Control.{Came, Gives, Run, give, go_on, ◌⨾◌}
use Rattle.lq_meaning.specs.Task.{Task, Tasks, forked}
use Rattle.lq_meaning.specs.InOrder.{in_order, unless_trapped, come_to}
use Rattle.lq_meaning.specs.Line.{IsBelow, task_of, children_of, behind_of, standing_of, StandsAt, size_of, task_at}
use Rattle.lq_meaning.specs.Lines.{trap_of, tasks_from, Level, rejoined, with_trap, IsLevel, Waits, IsRest}
use Rattle.lq_meaning.proofs.Stands.{stands}
use Rattle.lq_meaning.proofs.TaskOrder.{forked-in_order}
use Rattle.lq_meaning.proofs.OpenForks.{go_on-go_on, trap_of-or, rejoined_more, rejoined_none, tasks_next, tasks_past, IsBelow-more, Waits-push, Waits-pop, Innermost}

-- behind branches of which one trapped
trapped_gives : (behind : Run (Option Trap)) (trap : Option Caught) (w : World) → IsSome trap → unless_trapped behind (option_map trap_of trap) w ≡ Gives (option_map trap_of trap) w
trapped_gives behind None w some = absurd cc
trapped_gives behind (Some caught) w some = refl

-- behind branches that are done
untrapped_goes : (behind : Run (Option Trap)) (trap : Option Caught) (w : World) → IsNone trap → unless_trapped behind (option_map trap_of trap) w ≡ behind w
untrapped_goes behind None w none = refl
untrapped_goes behind (Some caught) w none = absurd cc

module _ (p : PProgram) (fuel : ℕ) where
  -- the task of a line that stands in front of a fork
  pub at_fork : (branch : List ℕ) (passed : ℕ) (line : Line) → standing_of line ≡ IsFork
      → task_of p (suc fuel) branch passed line ≡ forked (children_of p (suc fuel) branch passed line) (behind_of p (suc fuel) branch passed line)
  at_fork branch passed line at =
      subst (λ (standing : Standing). StandsAt standing p (suc fuel) branch passed line) at (stands p (suc fuel) branch passed line)

  -- what the fork is whose first branch is next
  pub opened : (most : ℕ) (branch : List ℕ) (passed : ℕ) (line : Line) → standing_of line ≡ IsFork → IsBelow most line
      → IsLevel p fuel most (record { line = line; begun = 0; trap = None }) (record { trap = None; left = children_of p (suc fuel) branch passed line; behind = behind_of p (suc fuel) branch passed line })
  opened most branch passed line at below = record { branch = branch; passed = passed; stands = at; below = below; trap = refl; left = refl; behind = refl }

  module _ (new : Lines) (fork : OpenFork) (w : World) (level : Level) (next : Option Trap → Run (Option Trap)) (forks : List OpenFork) (within : w.cost ≤ fuel) (is : IsLevel p fuel (suc w.cost) fork level) (waits : Waits p fuel (suc w.cost) forks give next) where
    abbrev children : Tasks
    children = children_of p (suc fuel) is.branch is.passed fork.line

    -- the next branch begins
    pub branch_begins : (size : ℕ) → new.forks.items ≡ forks ++ record fork { begun = fork.begun + 1 } ∷ [] → fork.begun < size
        → ((p : PProgram) (turns : ℕ) (branch : List ℕ) (passed : ℕ) → size ≡ size_of (children_of p turns branch passed fork.line))
        → ((turns : ℕ) (branch : List ℕ) (passed : ℕ) → 0 < turns → task_of p turns (branch ++ passed ∷ fork.begun ∷ []) 0 new.top ≡ task_at (children_of p turns branch passed fork.line) fork.begun)
        → ((turns : ℕ) → 0 < turns → IsBelow turns new.top)
        → IsRest p fuel new RunTurn w (come_to (go_on (rejoined fuel level w) next))
    branch_begins size pushed begun sizes task below =
        let here : fork.begun < size_of children = omega (arith, sizes p (suc fuel) is.branch is.passed) in
        let after : Level = record { trap = level.trap; left = tasks_from (fork.begun + 1) children; behind = level.behind } in
        let is_after : IsLevel p fuel (suc w.cost) (record fork { begun = fork.begun + 1 }) after = record { branch = is.branch; passed = is.passed; stands = is.stands; below = is.below; trap = is.trap; left = refl; behind = is.behind } in
        let path : List ℕ = is.branch ++ is.passed ∷ fork.begun ∷ [] in
        let child : task_of p (suc fuel) path 0 new.top ≡ task_at children fork.begun = task (suc fuel) is.branch is.passed (omega arith) in
        record {
          within = within;
          next = λ trap. rejoined fuel (with_trap after trap) ⨾ next;
          waits = subst (λ (fs : List OpenFork). Waits p fuel (suc w.cost) fs give (λ trap. rejoined fuel (with_trap after trap) ⨾ next)) (sym pushed) (Waits-push p fuel (suc w.cost) forks (record fork { begun = fork.begun + 1 }) after give next waits is_after);
          came = in_order fuel (task_of p (suc fuel) path 0 new.top) w;
          top = (path, 0, below (suc w.cost) (omega arith), refl);
          outcome =
              ap (λ (came : Came (Option Trap)). come_to (go_on came next)) (rejoined_more fuel level (task_at children fork.begun) (tasks_from (fork.begun + 1) children) w (is.left ∙ tasks_next fork.begun children here))
              ∙ ap come_to (go_on-go_on (in_order fuel (task_at children fork.begun) w) (λ trap. rejoined fuel (with_trap after trap)) next)
              ∙ ap (λ (task : Task). come_to (go_on (in_order fuel task w) (λ trap. rejoined fuel (with_trap after trap) ⨾ next))) (sym child);
        }

    past : (size : ℕ) → size ≤ fork.begun → ((p : PProgram) (turns : ℕ) (branch : List ℕ) (passed : ℕ) → size ≡ size_of (children_of p turns branch passed fork.line))
        → rejoined fuel level w ≡ unless_trapped (λ w. in_order fuel level.behind w) (option_map trap_of fork.trap) w
    past size all sizes =
        rejoined_none fuel level w (is.left ∙ tasks_past fork.begun children (omega (arith, sizes p (suc fuel) is.branch is.passed)))
        ∙ ap (λ (t : Option Trap). unless_trapped (λ w. in_order fuel level.behind w) t w) is.trap

    -- all branches have ended, and one trapped
    pub line_traps : (size : ℕ) → new.forks.items ≡ forks → size ≤ fork.begun → ((p : PProgram) (turns : ℕ) (branch : List ℕ) (passed : ℕ) → size ≡ size_of (children_of p turns branch passed fork.line)) → IsSome fork.trap
        → IsRest p fuel new (Leave fork.trap) w (come_to (go_on (rejoined fuel level w) next))
    line_traps size same all sizes some = record {
      within = within;
      next = next;
      waits = subst (λ (fs : List OpenFork). Waits p fuel (suc w.cost) fs give next) (sym same) waits;
      came = Gives (option_map trap_of fork.trap) w;
      top = refl;
      outcome = ap (λ (came : Came (Option Trap)). come_to (go_on came next)) (past size all sizes ∙ trapped_gives (λ w. in_order fuel level.behind w) fork.trap w some);
    }

    -- all branches are done, and the line goes on behind them
    pub line_goes_on : (size : ℕ) → new.forks.items ≡ forks → size ≤ fork.begun → ((p : PProgram) (turns : ℕ) (branch : List ℕ) (passed : ℕ) → size ≡ size_of (children_of p turns branch passed fork.line)) → IsNone fork.trap
        → ((turns : ℕ) (branch : List ℕ) (passed : ℕ) → standing_of fork.line ≡ IsFork → IsBelow turns fork.line → task_of p turns branch (suc passed) new.top ≡ behind_of p turns branch passed fork.line)
        → ((turns : ℕ) → IsBelow turns fork.line → IsBelow turns new.top)
        → IsRest p fuel new RunTurn w (come_to (go_on (rejoined fuel level w) next))
    line_goes_on size same all sizes none task below =
        let behind : task_of p (suc fuel) is.branch (suc is.passed) new.top ≡ level.behind = task (suc fuel) is.branch is.passed is.stands (IsBelow-more (suc w.cost) (suc fuel) (omega arith) fork.line is.below) ∙ sym is.behind in
        record {
          within = within;
          next = next;
          waits = subst (λ (fs : List OpenFork). Waits p fuel (suc w.cost) fs give next) (sym same) waits;
          came = in_order fuel (task_of p (suc fuel) is.branch (suc is.passed) new.top) w;
          top = (is.branch, suc is.passed, below (suc w.cost) is.below, refl);
          outcome =
              ap (λ (came : Came (Option Trap)). come_to (go_on came next)) (past size all sizes ∙ untrapped_goes (λ w. in_order fuel level.behind w) fork.trap w none)
              ∙ ap (λ (task : Task). come_to (go_on (in_order fuel task w) next)) (sym behind);
        }

-- how the lines go on with the next branch of a fork, or behind it
abbrev pub Continues : (p : PProgram) → (forks : List OpenFork) → OpenFork → Lines → Turn → Type 0
Continues p forks fork new turn =
    (fuel : ℕ) (w : World) (level : Level) (next : Option Trap → Run (Option Trap)) → w.cost ≤ fuel → IsLevel p fuel (suc w.cost) fork level → Waits p fuel (suc w.cost) forks give next
    → IsRest p fuel new turn w (come_to (go_on (rejoined fuel level w) next))

-- into the fork in front of which the line on top stands
pub entered : (p : PProgram) (old new : Lines) (turn : Turn) → standing_of old.top ≡ IsFork → Continues p old.forks.items (record { line = old.top; begun = 0; trap = None }) new turn
    → (fuel : ℕ) (w : World) (o : Outcome) → IsRest p fuel old RunTurn w o → IsRest p fuel new turn w o
entered p old new turn at goes fuel w o rest =
    let branch = rest.top.0 in
    let passed = rest.top.1 in
    let level : Level = record { trap = None; left = children_of p (suc fuel) branch passed old.top; behind = behind_of p (suc fuel) branch passed old.top } in
    let same : o ≡ come_to (go_on (rejoined fuel level w) rest.next) =
    rest.outcome
    ∙ ap (λ (came : Came (Option Trap)). come_to (go_on came rest.next))
    (rest.top.3 ∙ ap (λ (task : Task). in_order fuel task w) (at_fork p fuel branch passed old.top at) ∙ forked-in_order fuel level.left level.behind w) in
    subst (λ (o : Outcome). IsRest p fuel new turn w o) (sym same) (goes fuel w level rest.next rest.within (opened p fuel (suc w.cost) branch passed old.top at rest.top.2) rest.waits)

-- behind a line that has ended in the innermost fork
pub left : (p : PProgram) (old new : Lines) (turn : Turn) (forks : List OpenFork) (fork : OpenFork) (trap : Option Caught) → old.forks.items ≡ forks ++ fork ∷ []
    → Continues p forks (record fork { trap = option_or fork.trap trap }) new turn
    → (fuel : ℕ) (w : World) (o : Outcome) → IsRest p fuel old (Leave trap) w o → IsRest p fuel new turn w o
left p old new turn forks fork trap items goes fuel w o rest =
    let inner : Innermost p fuel (suc w.cost) forks fork give rest.next = Waits-pop p fuel (suc w.cost) forks fork give rest.next (subst (λ (fs : List OpenFork). Waits p fuel (suc w.cost) fs give rest.next) items rest.waits) in
    let trap' = option_map trap_of trap in
    let level : Level = with_trap inner.level trap' in
    let is : IsLevel p fuel (suc w.cost) (record fork { trap = option_or fork.trap trap }) level = record {
      branch = inner.is.branch;
      passed = inner.is.passed;
      stands = inner.is.stands;
      below = inner.is.below;
      trap = ap (λ (t : Option Trap). option_or t trap') inner.is.trap ∙ sym (trap_of-or fork.trap trap);
      left = inner.is.left;
      behind = inner.is.behind;
    } in
    let same : o ≡ come_to (go_on (rejoined fuel level w) inner.around) =
    rest.outcome ∙ ap (λ (came : Came (Option Trap)). come_to (go_on came rest.next)) rest.top ∙ ap (λ (next : Option Trap → Run (Option Trap)). come_to (next trap' w)) inner.all_is in
    subst (λ (o : Outcome). IsRest p fuel new turn w o) (sym same) (goes fuel w level inner.around rest.within is inner.waits)
