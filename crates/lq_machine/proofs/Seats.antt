-- What comes of a node that is put in place of another.
use Rattle.std.proofs.Common.{◌≡◌, ℕ, suc, ◌<◌, ◌≤◌, true, false, List, length, Option, None, Some, refl, sym, ap, ◌∙◌, subst, ⊎_elim, arith}
use Rattle.std.specs.Prelude.{slice_set, option_map, IsSome}
use Rattle.std.specs.Option.{is_some}
use Rattle.std.proofs.lemmas.Bool.{cases_eq}
use Rattle.std.proofs.Math.ListN.{length-set}
use Rattle.lq_tree.specs.declared.place.Place.{Place}
use Rattle.lq_tree.specs.declared.trap.TrapKind.{TrapKind}
use Rattle.lq_tree.specs.declared.plain.PProgram.{PProgram}
use Rattle.lq_meaning.specs.declared.line.Line.{Line}
use Rattle.lq_meaning.specs.declared.line.Standing.{Standing}
use Rattle.lq_meaning.specs.declared.line.Standing.TheVariants.{Done as IsDone, Trapped as IsTrapped, Unruled as IsUnruled, Due as IsDue, Fork as IsFork}
use Rattle.lq_meaning.specs.Task.{Task, Tasks, none, more, all_ended, first_trap, forked}
use Rattle.lq_meaning.specs.Line.{task_of, behind_of, standing_of, StandsAt, IsBelow}
use Rattle.lq_meaning.proofs.Stands.{stands}
use Rattle.lq_machine.specs.declared.machine.forest.Caught.{Caught}
use Rattle.lq_machine.specs.declared.machine.forest.Counts.{Counts}
use Rattle.lq_machine.specs.declared.machine.forest.Kind.{Kind}
use Rattle.lq_machine.specs.declared.machine.forest.Kind.TheVariants.{Over, Leaf, Fork}
use Rattle.lq_machine.specs.declared.machine.forest.Node.{Node}
use Rattle.lq_machine.specs.Forest.{Tree, over, leaf, fork, root, once, uses, trap_of, over_by, tasks_of, branch_below, counts_at, counts_of, counts_over, counts_above, counts_standing, IsSettled, Fits}
use Rattle.lq_machine.specs.Around.{Changes, HasTree, Settles, Closes}
use Rattle.lq_machine.proofs.Trees.{Told, told, counts_root}
use Rattle.lq_machine.proofs.Frames.{get-set, get-set_other, once-other, once-most, fits-same}

-- the node with these parts
abbrev pub node_with : (number passed : ℕ) → Kind → Counts → Node
node_with number passed kind counts = record { kind = kind; number = number; passed = passed; counts = counts }

pub none_by : {A : Type 0} (o : Option A) → is_some o ≡ false → o ≡ None
none_by None is = refl
none_by (Some x) is = absurd cc

-- one node has changed
pub set-changes : (old : List Node) (node : ℕ) (put : Node) → Changes old (slice_set old node put) node
set-changes old node put = record { same = λ k within other. get-set_other old node k put other; longer = omega (arith, length-set old node put) }

-- a tree of one node
pub has_over : (old : List Node) (most node number passed : ℕ) (trap : Option Caught) → node < length old
    → HasTree (slice_set old node (node_with number passed (Over trap) (counts_over trap))) most node (over node number passed trap)
has_over old most node number passed trap within =
    record { fits = get-set old node _ within; here = refl; once = λ k. once-most k node }

pub has_leaf : (old : List Node) (most node number passed : ℕ) (line : Line) → node < length old → IsSettled (standing_of line) → IsBelow most line
    → HasTree (slice_set old node (node_with number passed (Leaf line) (counts_standing (standing_of line)))) most node (leaf node number passed line)
has_leaf old most node number passed line within settled below =
    record { fits = (get-set old node _ within, settled, below); here = refl; once = λ k. once-most k node }

-- a fork above a tree
module _ (old : List Node) (most node number passed : ℕ) (line : Line) (below : Tree) (within : node < length old) (fits : Fits old most below) (free : uses node below ≡ 0) where
  keeps_below : (put : Node) → Fits (slice_set old node put) most below
  keeps_below put = fits-same old (slice_set old node put) most below (λ k used. get-set_other old node k put (λ same. absurd (omega (arith, free, used, ap (λ (k : ℕ). uses k below) same)))) fits

  pub has_fork : (once : (k : ℕ) → uses k below ≤ 1) → standing_of line ≡ IsFork → IsBelow most line → (counts_of below).ended ≡ false
      → HasTree (slice_set old node (node_with number passed (Fork line (root below)) (counts_above (counts_of below)))) most node (fork node number passed line below)
  has_fork once is_fork few open' = record {
    fits = (get-set old node _ within, is_fork, few, open', keeps_below _);
    here = refl;
    once = λ k. ⊎_elim (λ same. omega (arith, once-most k node, free, ap (λ (k : ℕ). uses k below) same)) (λ other. omega (arith, once-other k node other, once k)) (cases_eq k node);
  }

module _ (p : PProgram) (most : ℕ) (old : List Node) (node number passed : ℕ) (line : Line) (below : Tree) (within : node < length old) (free : uses node below ≡ 0) (is_fork : standing_of line ≡ IsFork) (few : IsBelow most line) where
  -- children that haven't all ended
  closes_open_root : HasTree old most (root below) below → (counts_at old (root below)).ended ≡ false
      → Closes p most old (slice_set old node (node_with number passed (Fork line (root below)) (counts_above (counts_at old (root below))))) node number passed line below None
  closes_open_root has open' =
      let counts : counts_at old (root below) ≡ counts_of below = counts_root old most below has.fits in
      subst (λ (c : Counts). Closes p most old (slice_set old node (node_with number passed (Fork line (root below)) (counts_above c))) node number passed line below None) (sym counts) (
        fork node number passed line below,
        has_fork old most node number passed line below within has.fits free has.once is_fork few (ap (λ (c : Counts). c.ended) (sym counts) ∙ open'),
        λ k other. omega (arith, once-other k node other),
        λ turns branches above. refl,
      )

  pub closes_open : (children : ℕ) → HasTree old most children below → (counts_at old children).ended ≡ false
      → Closes p most old (slice_set old node (node_with number passed (Fork line children) (counts_above (counts_at old children)))) node number passed line below None
  closes_open children has =
      subst (λ (c : ℕ). HasTree old most c below → (counts_at old c).ended ≡ false → Closes p most old (slice_set old node (node_with number passed (Fork line c) (counts_above (counts_at old c)))) node number passed line below None) has.here closes_open_root has

  -- what is told of the children
  told_below : (children : ℕ) → HasTree old most children below → (turns : ℕ) (branches : ℕ → List ℕ) → Told (counts_at old children) (tasks_of p turns branches below)
  told_below children has turns branches =
      subst (λ (c : Counts). Told c (tasks_of p turns branches below)) (sym (counts_root old most below has.fits) ∙ ap (counts_at old) has.here) (told old most p turns branches below has.fits)

  ended_by : (tasks : Tasks) (behind : Task) (trap : Option Caught) → all_ended tasks ≡ true → first_trap tasks ≡ option_map trap_of trap → IsSome trap → more (over_by trap) none ≡ more (forked tasks behind) none
  ended_by tasks behind None ended first some = absurd cc
  ended_by tasks behind (Some caught) ended first some = rw (ended, first) refl

  ended_without : (tasks : Tasks) (behind : Task) → all_ended tasks ≡ true → first_trap tasks ≡ None → forked tasks behind ≡ behind
  ended_without tasks behind ended first = rw (ended, first) refl

  -- children that have all ended, one by a trap
  pub closes_trapped : (children : ℕ) → HasTree old most children below → (counts_at old children).ended ≡ true → IsSome (counts_at old children).trap
      → Closes p most old (slice_set old node (node_with number passed (Over (counts_at old children).trap) (counts_over (counts_at old children).trap))) node number passed line below None
  closes_trapped children has ended some = (
    over node number passed (counts_at old children).trap,
    has_over old most node number passed (counts_at old children).trap within,
    λ k other. omega (arith, once-other k node other),
    λ turns branches above.
        let is = told_below children has turns (branch_below (branches number) passed) in
        ended_by (tasks_of p turns (branch_below (branches number) passed) below) (behind_of p turns (branches number) passed line) (counts_at old children).trap (is.ended ∙ ended) is.trap some,
  )

  -- children that have all ended without a trap
  pub closes_passed : (children : ℕ) (after : Line) → HasTree old most children below → (counts_at old children).ended ≡ true → (counts_at old children).trap ≡ None → IsBelow most after
      → ((turns : ℕ) (branch : List ℕ) → most ≤ turns → task_of p turns branch (suc passed) after ≡ behind_of p turns branch passed line)
      → Closes p most old old node number passed line below (Some after)
  closes_passed children after has ended untrapped few_after behind = (
    refl,
    few_after,
    λ turns branches above.
        let is = told_below children has turns (branch_below (branches number) passed) in
        ap (λ (task : Task). more task none)
        (behind turns (branches number) above
        ∙ sym (ended_without (tasks_of p turns (branch_below (branches number) passed) below) (behind_of p turns (branches number) passed line) (is.ended ∙ ended) (is.trap ∙ ap (option_map trap_of) untrapped))),
  )

-- a line that has ended
module _ (p : PProgram) (most : ℕ) (old : List Node) (node number passed : ℕ) (line : Line) (within : node < length old) where
  settles_over : (trap : Option Caught) → ((turns : ℕ) (branch : List ℕ) → task_of p turns branch passed line ≡ over_by trap)
      → Settles p most old (slice_set old node (node_with number passed (Over trap) (counts_over trap))) node number passed line
  settles_over trap task = record {
    tree = over node number passed trap;
    has = has_over old most node number passed trap within;
    fresh = λ k inside other. once-other k node other;
    tasks = λ turns branches above. ap (λ (task : Task). more task none) (sym (task turns (branches number)));
  }

  pub settles_done : standing_of line ≡ IsDone → Settles p most old (slice_set old node (node_with number passed (Over None) (counts_over None))) node number passed line
  settles_done is = settles_over None (λ turns branch. subst (λ (s : Standing). StandsAt s p turns branch passed line) is (stands p turns branch passed line))

  pub settles_trapped : (kind : TrapKind) (at : Place) → standing_of line ≡ IsTrapped kind at
      → Settles p most old (slice_set old node (node_with number passed (Over (Some (record { kind = kind; at = at }))) (counts_over (Some (record { kind = kind; at = at }))))) node number passed line
  settles_trapped kind at is = settles_over (Some (record { kind = kind; at = at })) (λ turns branch. subst (λ (s : Standing). StandsAt s p turns branch passed line) is (stands p turns branch passed line))

  settled_by : (standing : Standing) → (standing ≡ IsFork → ⊥) → (standing ≡ IsDone → ⊥) → ((kind : TrapKind) (at : Place) → standing ≡ IsTrapped kind at → ⊥) → IsSettled standing
  settled_by IsDone open' done trapped = absurd (done refl)
  settled_by (IsTrapped kind at) open' done trapped = absurd (trapped kind at refl)
  settled_by (IsDue action at) open' done trapped = tt
  settled_by IsFork open' done trapped = absurd (open' refl)
  settled_by IsUnruled open' done trapped = tt

  pub settles_line : IsBelow most line → (standing_of line ≡ IsFork → ⊥) → (standing_of line ≡ IsDone → ⊥) → ((kind : TrapKind) (at : Place) → standing_of line ≡ IsTrapped kind at → ⊥)
      → Settles p most old (slice_set old node (node_with number passed (Leaf line) (counts_standing (standing_of line)))) node number passed line
  settles_line few open' done trapped = record {
    tree = leaf node number passed line;
    has = has_leaf old most node number passed line within (settled_by (standing_of line) open' done trapped) few;
    fresh = λ k inside other. once-other k node other;
    tasks = λ turns branches above. refl;
  }
