-- A line that is taken out of a tree of nodes, and put back.
use Rattle.std.proofs.Common.{◌≡◌, ℕ, ◌+◌, ◌<◌, ◌≤◌, List, length, Some, sym, ap, ◌∙◌, subst, ⊎_elim, arith}
use Rattle.std.specs.Prelude.{slice_get, slice_set}
use Rattle.std.proofs.lemmas.Bool.{cases_eq, cases_lt}
use Rattle.lq_tree.specs.declared.plain.PProgram.{PProgram}
use Rattle.lq_meaning.specs.declared.line.Line.{Line}
use Rattle.lq_meaning.specs.declared.line.Standing.{Standing}
use Rattle.lq_meaning.specs.declared.line.Standing.TheVariants.{Done as IsDone, Trapped as IsTrapped, Unruled as IsUnruled, Due as IsDue, Fork as IsFork}
use Rattle.lq_meaning.specs.Line.{standing_of, IsBelow}
use Rattle.lq_machine.specs.declared.machine.forest.Kind.TheVariants.{Leaf}
use Rattle.lq_machine.specs.declared.machine.forest.Node.{Node}
use Rattle.lq_machine.specs.declared.machine.forest.Seat.{Seat}
use Rattle.lq_machine.specs.Forest.{Tree, over, leaf, fork, pair, root, uses, counts_of, counts_standing, Fits, IsTree}
use Rattle.lq_machine.specs.Around.{Crumb, plug, uses_around, branches_in, around, FitsAround, IsLine, IsOnWay, Changes, Settles, HasAround, Rises, IsVacant, IsPlucked, Returns}
use Rattle.lq_machine.proofs.Frames.{get-set_other, once-same, uses-plug, around-same, around-past}
use Rattle.lq_machine.proofs.Rising.{found_is}

at_most_one : (standing : Standing) (rest : ℕ) → rest < (counts_standing standing).runnable → rest ≡ 0
at_most_one (IsDue action at) rest fewer = omega (arith, fewer)
at_most_one IsUnruled rest fewer = absurd (omega (arith, fewer))
at_most_one IsDone rest fewer = absurd (omega (arith, fewer))
at_most_one (IsTrapped kind at) rest fewer = absurd (omega (arith, fewer))
at_most_one IsFork rest fewer = absurd (omega (arith, fewer))

module _ (old : List Node) (most pick node : ℕ) (tree : Tree) (found put : Node) (line : Line) (seat : Seat) (nodes_above : List ℕ) (is_tree : IsTree old most tree) (there : slice_get old node ≡ Some found) (is : Leaf line ≡ found.kind)
    (seated : seat ≡ record { node = node; number = found.number; passed = found.passed }) where
  pub plucks : (rest : ℕ) (on : IsOnWay old most tree pick node rest nodes_above) (below : Tree) → below ≡ on.below → IsLine below → IsPlucked (slice_set old node put) most tree pick seat line nodes_above
  plucks rest on (over n k f trap) same line' = absurd line'
  plucks rest on (fork n k f l t) same line' = absurd line'
  plucks rest on (pair n k f l r) same line' = absurd line'
  plucks rest on (leaf n k f l) same line' =
      let fits : Fits old most (leaf n k f l) = subst (Fits old most) (sym same) on.fits in
      let at : n ≡ node = ap root same ∙ on.here in
      let both = found_is old n node k f (Leaf l) (counts_standing (standing_of l)) found fits.0 at there in
      let kinds : Leaf l ≡ Leaf line = ap (λ (x : Node). x.kind) both ∙ sym is in
      let lines : l ≡ line = cc in
      let numbers : k ≡ found.number = ap (λ (x : Node). x.number) both in
      let passes : f ≡ found.passed = ap (λ (x : Node). x.passed) both in
      let node_at : seat.node ≡ node = ap (λ (s : Seat). s.node) seated in
      let number_at : seat.number ≡ found.number = ap (λ (s : Seat). s.number) seated in
      let passed_at : seat.passed ≡ found.passed = ap (λ (s : Seat). s.passed) seated in
      let here : leaf seat.node seat.number seat.passed line ≡ leaf n k f l = cc in
      let plugged : plug on.crumbs (leaf n k f l) ≡ tree = ap (plug on.crumbs) same ∙ on.plugged in
      let once : (i : ℕ) → uses_around i on.crumbs + uses i (leaf n k f l) ≤ 1 = λ i. omega (arith, is_tree.once i, ap (uses i) plugged, uses-plug i on.crumbs (leaf n k f l)) in
      let free : uses_around n on.crumbs ≡ 0 = omega (arith, once n, once-same n) in
      let alone : rest ≡ 0 = at_most_one (standing_of l) rest (subst (λ (t : Tree). rest < (counts_of t).runnable) (sym same) on.runs) in
      let seat_free : uses_around seat.node on.crumbs ≡ 0 = subst (λ (i : ℕ). uses_around i on.crumbs ≡ 0) (at ∙ sym node_at) free in
      record {
        crumbs = on.crumbs;
        plugged = ap (plug on.crumbs) here ∙ plugged;
        vacant = record {
          around = subst (FitsAround (slice_set old node put) most on.crumbs) (sym node_at)
              (around-same old (slice_set old node put) most on.crumbs node (λ i used. get-set_other old node i put (λ is. absurd (omega (arith, used, free, ap (λ (j : ℕ). uses_around j on.crumbs) (is ∙ sym at))))) on.around);
          free = seat_free;
          once = λ i. omega (arith, once i);
        };
        runs = subst (λ (l : Line). 0 < (counts_standing (standing_of l)).runnable) lines (let runs = subst (λ (t : Tree). rest < (counts_of t).runnable) (sym same) on.runs in omega (arith, runs));
        few = subst (IsBelow most) lines fits.2;
        number = omega (arith, on.number, alone);
        way = on.way;
      }

-- a line that was put back, before what is around it was made anew
pub vacant_filled : (p : PProgram) (most : ℕ) (old new : List Node) (crumbs : List Crumb) (seat : Seat) (line : Line) → IsVacant old most crumbs seat.node → Changes old new seat.node
    → (settled : Settles p most old new seat.node seat.number seat.passed line) → HasAround new most crumbs settled.tree
vacant_filled p most old new crumbs seat line vacant changes settled = record {
  around = subst (FitsAround new most crumbs) (sym settled.has.here)
      (around-same old new most crumbs seat.node
      (λ k used. ⊎_elim
      (λ within. changes.same k within (λ is. absurd (omega (arith, used, vacant.free, ap (λ (i : ℕ). uses_around i crumbs) is))))
      (λ far. absurd (omega (arith, used, around-past old most crumbs seat.node k vacant.around far)))
      (cases_lt k (length old)))
      vacant.around);
  fits = settled.has.fits;
  once = λ k. ⊎_elim
      (λ is. omega (arith, settled.has.once k, vacant.free, ap (λ (i : ℕ). uses_around i crumbs) is))
      (λ other. ⊎_elim
      (λ within. omega (arith, vacant.once k, settled.fresh k within other))
      (λ far. omega (arith, settled.has.once k, around-past old most crumbs seat.node k vacant.around far))
      (cases_lt k (length old)))
      (cases_eq k seat.node);
}

pub returns_risen : (p : PProgram) (most : ℕ) (old middle new : List Node) (crumbs : List Crumb) (seat : Seat) (line : Line) (settled : Settles p most old middle seat.node seat.number seat.passed line)
    → Rises p most new crumbs settled.tree → Returns p most new crumbs seat line
returns_risen p most old middle new crumbs seat line settled rises = record {
  tree = rises.tree;
  is = rises.is;
  tasks = λ turns above. rises.tasks turns above ∙ ap (around p turns crumbs) (settled.tasks turns (branches_in crumbs) above);
}
