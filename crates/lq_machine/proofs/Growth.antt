-- How the branches of a fork come below a node.
use Rattle.std.proofs.Common.{◌≡◌, ℕ, zero, suc, ◌+◌, ◌-◌, ◌<◌, ◌≤◌, List, [], ◌∷◌, ◌++◌, length, Option, None, Some, refl, sym, ap, ◌∙◌, subst, ⊎_elim, arith, length-append, add-zero, zero-add}
use Rattle.std.specs.Prelude.{slice_get, slice_set, Result, Ok, Err, IfOk}
use Rattle.std.proofs.lemmas.Bool.{cases_lt}
use Rattle.std.proofs.Math.ListN.{length-set}
use Rattle.lq_tree.specs.declared.plain.PProgram.{PProgram}
use Rattle.lq_meaning.specs.declared.line.Line.{Line}
use Rattle.lq_meaning.specs.declared.line.Standing.{Standing}
use Rattle.lq_meaning.specs.declared.line.Standing.TheVariants.{Fork as IsFork}
use Rattle.lq_meaning.specs.Task.{Task, Tasks, none, more, forked}
use Rattle.lq_meaning.specs.Line.{task_of, behind_of, children_of, task_at, size_of, standing_of, StandsAt}
use Rattle.lq_meaning.proofs.Stands.{stands}
use Rattle.lq_machine.specs.declared.machine.forest.Kind.TheVariants.{Pair}
use Rattle.lq_machine.specs.declared.machine.forest.Node.{Node}
use Rattle.lq_machine.specs.Forest.{Tree, pair, root, uses, join, tasks_of, branch_below, counts_at, counts_of, counts_both, Has, Fits}
use Rattle.lq_machine.specs.Around.{Changes, Keeps, Settles, Opens, Closes, Grows, part_of}
use Rattle.lq_machine.proofs.Trees.{counts_root}
use Rattle.lq_machine.proofs.Frames.{get-set, get-set_other, get-push_other, once-other, once-most, fits-same, uses-past}
use Rattle.lq_machine.proofs.Seats.{node_with}

-- what holds of an answer, by what holds of it already
pub if_ok : {T E : Type 0} (r : Result T E) (P Q : T → Type 0) → ((x : T) → P x → Q x) → IfOk r P → IfOk r Q
if_ok (Ok x) P Q f holds = f x holds
if_ok (Err e) P Q f holds = tt

pub Keeps-push : (old new : List Node) (added : Node) → new ≡ old ++ added ∷ [] → Keeps old new
Keeps-push old new added is = record {
  same = λ k within. ap (λ (l : List Node). slice_get l k) is ∙ get-push_other old k added within;
  longer = omega (arith, length-append old (added ∷ []), ap (λ (l : List Node). length l) is);
}

pub Keeps-trans : (a b c : List Node) → Keeps a b → Keeps b c → Keeps a c
Keeps-trans a b c first then' = record {
  same = λ k within. then'.same k (omega (arith, within, first.longer)) ∙ first.same k within;
  longer = omega (arith, first.longer, then'.longer);
}

pub Changes-trans : (a b c : List Node) (node : ℕ) → Changes a b node → Changes b c node → Changes a c node
Changes-trans a b c node first then' = record {
  same = λ k within other. then'.same k (omega (arith, within, first.longer)) other ∙ first.same k within other;
  longer = omega (arith, first.longer, then'.longer);
}

pub Changes-none : (a : List Node) (node : ℕ) → Changes a a node
Changes-none a node = record { same = λ k within other. refl; longer = omega arith }

-- what keeps the list changes it at most at a node
pub Keeps-changes : (a b : List Node) (node : ℕ) → Keeps a b → Changes a b node
Keeps-changes a b node keeps = record { same = λ k within other. keeps.same k within; longer = keeps.longer }

-- a node behind the end has changed
pub Changes-behind : (a b c : List Node) (node : ℕ) → Keeps a b → Changes b c node → length a ≤ node → Keeps a c
Changes-behind a b c node keeps changes behind = record {
  same = λ k within. changes.same k (omega (arith, within, keeps.longer)) (λ same. absurd (omega (arith, same, behind, within))) ∙ keeps.same k within;
  longer = omega (arith, keeps.longer, changes.longer);
}

-- one branch
pub sprouts : (p : PProgram) (most : ℕ) (a b c : List Node) (added : Node) (line child : Line) (number node : ℕ) → 0 < most → b ≡ a ++ added ∷ [] → node ≡ length a
    → ((turns : ℕ) (branch : List ℕ) (passed : ℕ) → 0 < turns → task_of p turns (branch ++ passed ∷ number ∷ []) 0 child ≡ task_at (children_of p turns branch passed line) number)
    → Settles p most b c node number 0 child → Grows p most a c line number 1 node
sprouts p most a b c added line child number node some push at task settles = record {
  tree = settles.tree;
  has = settles.has;
  fresh = λ k within. settles.fresh k (omega (arith, within, (Keeps-push a b added push).longer)) (λ same. absurd (omega (arith, same, at, within)));
  tasks = λ turns branch passed above.
      settles.tasks turns (branch_below branch passed) above ∙ ap (λ (task : Task). more task none) (task turns branch passed (omega (arith, some, above)));
}

-- so many branches, and those behind them
part-join : (tasks : Tasks) (first a b : ℕ) → join (part_of tasks first a) (part_of tasks (first + a) b) ≡ part_of tasks first (a + b)
part-join tasks first zero b = rw (add-zero, zero-add) refl
part-join tasks first (suc a) b =
    let from : first + suc a ≡ suc first + a = omega arith in
    let all : suc a + b ≡ suc (a + b) = omega arith in
    rw (from, all) (ap (more (task_at tasks first)) (part-join tasks (suc first) a b))

module _ (p : PProgram) (most : ℕ) (a b c d : List Node) (added : Node) (line : Line) (first half count node left right : ℕ)
    (push : b ≡ a ++ added ∷ []) (at : node ≡ length a) (to_c : Keeps b c) (to_d : Keeps c d) (of_left : Grows p most b c line first half left) (of_right : Grows p most c d line (first + half) (count - half) right) (fewer : half ≤ count) where
  abbrev both : Node
  both = node_with 0 0 (Pair left right) (counts_both (counts_at d left) (counts_at d right))

  longer : suc node ≤ length b
  longer = omega (arith, at, ap (λ (l : List Node). length l) push, length-append a (added ∷ []))

  left_there : Fits d most of_left.tree
  left_there = fits-same c d most of_left.tree
      (λ k used. to_d.same k (⊎_elim (λ within. within) (λ far. absurd (omega (arith, uses-past c most of_left.tree k of_left.has.fits far, used))) (cases_lt k (length c)))) of_left.has.fits

  fits_put : (tree : Tree) → Fits d most tree → uses node tree ≡ 0 → Fits (slice_set d node both) most tree
  fits_put tree fits free = fits-same d (slice_set d node both) most tree
      (λ k used. get-set_other d node k both (λ same. absurd (omega (arith, free, used, ap (λ (k : ℕ). uses k tree) same)))) fits

  counts_left : counts_at d left ≡ counts_of of_left.tree
  counts_left = ap (counts_at d) (sym of_left.has.here) ∙ counts_root d most of_left.tree left_there

  counts_right : counts_at d right ≡ counts_of of_right.tree
  counts_right = ap (counts_at d) (sym of_right.has.here) ∙ counts_root d most of_right.tree of_right.has.fits

  has_both : Has (slice_set d node both) node 0 0 (Pair (root of_left.tree) (root of_right.tree)) (counts_both (counts_of of_left.tree) (counts_of of_right.tree))
  has_both = get-set d node both (omega (arith, longer, to_c.longer, to_d.longer)) ∙ (rw (counts_left, counts_right, of_left.has.here, of_right.has.here) refl)

  once_all : (k : ℕ) → uses k (pair node 0 0 of_left.tree of_right.tree) ≤ 1
  once_all k =
      ⊎_elim
      (λ before. omega (arith, of_left.fresh k before, of_right.fresh k (omega (arith, before, to_c.longer)), once-most k node))
      (λ behind.
      let other = once-other k node (λ same. absurd (omega (arith, same, behind, longer))) in
      ⊎_elim
      (λ of_c. omega (arith, other, of_right.fresh k of_c, of_left.has.once k))
      (λ of_d. omega (arith, other, uses-past c most of_left.tree k of_left.has.fits of_d, of_right.has.once k))
      (cases_lt k (length c)))
      (cases_lt k (length b))

  pub grows_both : Grows p most a (slice_set d node both) line first count node
  grows_both = record {
    tree = pair node 0 0 of_left.tree of_right.tree;
    has = record {
      fits = (
        has_both,
        fits_put of_left.tree left_there (of_left.fresh node (omega (arith, longer))),
        fits_put of_right.tree of_right.has.fits (of_right.fresh node (omega (arith, longer, to_c.longer))),
      );
      here = refl;
      once = once_all;
    };
    fresh = λ k within.
        omega (arith, once-other k node (λ same. absurd (omega (arith, same, at, within))), of_left.fresh k (omega (arith, within, at, longer)), of_right.fresh k (omega (arith, within, at, longer, to_c.longer)));
    tasks = λ turns branch passed above.
        let all : half + (count - half) ≡ count = omega (arith, fewer) in
        rw (of_left.tasks turns branch passed above, of_right.tasks turns branch passed above)
        (part-join (children_of p turns branch passed line) first half (count - half) ∙ ap (part_of (children_of p turns branch passed line) first) all);
  }

  pub keeps_both : Keeps a (slice_set d node both)
  keeps_both = Changes-behind a d (slice_set d node both) node (Keeps-trans a b d (Keeps-push a b added push) (Keeps-trans b c d to_c to_d))
      (record { same = λ k within other. get-set_other d node k both other; longer = omega (arith, length-set d node both) }) (omega (arith, at))

-- all branches
part-all : (tasks all : Tasks) (first : ℕ) → ((k : ℕ) → k < size_of tasks → task_at all (first + k) ≡ task_at tasks k) → part_of all first (size_of tasks) ≡ tasks
part-all none all first is = refl
part-all (more task tasks) all first is =
    let here : task_at all first ≡ task = ap (task_at all) (sym (add-zero first)) ∙ is 0 (omega arith) in
    let later : part_of all (suc first) (size_of tasks) ≡ tasks = part-all tasks all (suc first) (λ k within. ap (task_at all) (let e : suc first + k ≡ first + suc k = omega arith in e) ∙ is (suc k) (omega arith)) in
    rw (here, later) refl

pub part-whole : (tasks : Tasks) → part_of tasks 0 (size_of tasks) ≡ tasks
part-whole tasks = part-all tasks tasks 0 (λ k within. ap (task_at tasks) (zero-add k))

-- a line in front of a fork
pub at_fork : (p : PProgram) (turns : ℕ) (branch : List ℕ) (passed : ℕ) (line : Line) → standing_of line ≡ IsFork
    → task_of p turns branch passed line ≡ forked (children_of p turns branch passed line) (behind_of p turns branch passed line)
at_fork p turns branch passed line at = subst (λ (standing : Standing). StandsAt standing p turns branch passed line) at (stands p turns branch passed line)

no_tasks : (tasks : Tasks) (behind : Task) → 0 ≡ size_of tasks → forked tasks behind ≡ behind
no_tasks none behind is = refl
no_tasks (more task tasks) behind is = absurd (omega arith)

-- a fork without branches
pub passes_none : (p : PProgram) (turns : ℕ) (branch : List ℕ) (passed : ℕ) (line after : Line) → standing_of line ≡ IsFork → 0 ≡ size_of (children_of p turns branch passed line)
    → task_of p turns branch (suc passed) after ≡ behind_of p turns branch passed line → task_of p turns branch (suc passed) after ≡ task_of p turns branch passed line
passes_none p turns branch passed line after at none' behind = behind ∙ sym (at_fork p turns branch passed line at ∙ no_tasks (children_of p turns branch passed line) (behind_of p turns branch passed line) none')

module _ (p : PProgram) (most : ℕ) (a b c : List Node) (node number passed : ℕ) (line : Line) (count children : ℕ) (at : standing_of line ≡ IsFork)
    (size : (p : PProgram) (turns : ℕ) (branch : List ℕ) (passed : ℕ) → count ≡ size_of (children_of p turns branch passed line))
    (keeps : Keeps a b) (grown : Grows p most a b line 0 count children) (within : node < length a) where
  task_there : (turns : ℕ) (branch : List ℕ) → most ≤ turns
      → more (forked (tasks_of p turns (branch_below branch passed) grown.tree) (behind_of p turns branch passed line)) none ≡ more (task_of p turns branch passed line) none
  task_there turns branch above =
      let all : tasks_of p turns (branch_below branch passed) grown.tree ≡ children_of p turns branch passed line
      = grown.tasks turns branch passed above ∙ ap (part_of (children_of p turns branch passed line) 0) (size p turns branch passed) ∙ part-whole (children_of p turns branch passed line) in
      ap (λ (tasks : Tasks). more (forked tasks (behind_of p turns branch passed line)) none) all ∙ ap (λ (task : Task). more task none) (sym (at_fork p turns branch passed line at))

  pub opens : (after : Option Line) → Closes p most b c node number passed line grown.tree after → Opens p most a c node number passed line after
  opens None (tree, has, fewer, tasks) = record {
    tree = tree;
    has = has;
    fresh = λ k inside other. omega (arith, fewer k other, grown.fresh k inside);
    tasks = λ turns branches above. tasks turns branches above ∙ task_there turns (branches number) above;
  }
  opens (Some after) (same, few, tasks) =
      (few, λ turns branch above. let is = tasks turns (λ _. branch) above ∙ task_there turns branch above in cc)

-- a line has come behind forks, and stands there
pub settles_behind : (p : PProgram) (most : ℕ) (a b c : List Node) (node number passed before : ℕ) (line first : Line) → Changes a b node
    → ((turns : ℕ) (branch : List ℕ) → most ≤ turns → task_of p turns branch passed line ≡ task_of p turns branch before first)
    → Settles p most b c node number passed line → Settles p most a c node number before first
settles_behind p most a b c node number passed before line first changes same settles = record {
  tree = settles.tree;
  has = settles.has;
  fresh = λ k within other. settles.fresh k (omega (arith, within, changes.longer)) other;
  tasks = λ turns branches above. settles.tasks turns branches above ∙ ap (λ (task : Task). more task none) (same turns (branches number) above);
}
