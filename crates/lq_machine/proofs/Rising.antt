-- How the nodes of a way are made anew, up to the root.
use Rattle.std.proofs.Common.{◌≡◌, ℕ, ◌+◌, ◌<◌, ◌≤◌, List, [], ◌∷◌, ◌++◌, length, false, None, Some, refl, sym, ap, ◌∙◌, subst, ⊎_elim, arith, add-one}
use Rattle.std.specs.Prelude.{slice_get, slice_set}
use Rattle.std.proofs.lemmas.Bool.{cases_eq, cases_lt}
use Rattle.std.proofs.lemmas.Option.{slice_get_within}
use Rattle.std.proofs.Math.ListN.{length-set}
use Rattle.lq_tree.specs.declared.plain.PProgram.{PProgram}
use Rattle.lq_meaning.specs.declared.line.Line.{Line}
use Rattle.lq_meaning.specs.declared.line.Standing.TheVariants.{Fork as IsFork}
use Rattle.lq_meaning.specs.Line.{standing_of, IsBelow}
use Rattle.lq_machine.specs.declared.machine.forest.Counts.{Counts}
use Rattle.lq_machine.specs.declared.machine.forest.Kind.{Kind}
use Rattle.lq_machine.specs.declared.machine.forest.Kind.TheVariants.{Over, Leaf, Fork, Pair}
use Rattle.lq_machine.specs.declared.machine.forest.Node.{Node}
use Rattle.lq_machine.specs.Forest.{Tree, pair, root, once, uses, tasks_of, counts_at, counts_above, counts_both, IsTold, Has, Fits}
use Rattle.lq_machine.specs.Around.{Crumb, under, left_of, right_of, crumb_node, way_of, uses_beside, branches_in, around, FitsCrumb, FitsAround, Changes, HasTree, HasAround, Settles, Closes, IsAnew, Rises}
use Rattle.lq_machine.proofs.Trees.{counts_root}
use Rattle.lq_machine.proofs.Frames.{set-found, get-set, get-set_other, once-same, fits-same, around-same, around-past}
use Rattle.lq_machine.proofs.Seats.{node_with, closes_open}

-- the node around a hole is one of those beside it
pub beside-node : (crumb : Crumb) → 1 ≤ uses_beside (crumb_node crumb) crumb
beside-node (under node number passed line) = omega (arith, once-same node)
beside-node (left_of node number passed right) = omega (arith, once-same node)
beside-node (right_of node number passed left) = omega (arith, once-same node)

-- the fork at a node stands there, or is passed
module _ (p : PProgram) (most : ℕ) (old new : List Node) (node number passed : ℕ) (line : Line) (below : Tree) where
  pub anew_closed : Closes p most old new node number passed line below None → IsAnew p most old new (under node number passed line) below
  anew_closed (tree, has, fewer, tasks) = record {
    tree = tree;
    has = has;
    fresh = λ k within. ⊎_elim (λ same. omega (arith, has.once k, once-same node, ap (λ (k : ℕ). once k node) same)) (λ other. omega (arith, fewer k other)) (cases_eq k node);
    tasks = tasks;
  }

  pub anew_passed : (middle : List Node) (after : Line) → Closes p most old middle node number passed line below (Some after) → (IsBelow most after → Settles p most middle new node number (passed + 1) after)
      → IsAnew p most old new (under node number passed line) below
  anew_passed middle after (same, few, tasks) settles =
      let settled = settles few in
      record {
        tree = settled.tree;
        has = settled.has;
        fresh = λ k within.
            ⊎_elim (λ is. omega (arith, settled.has.once k, once-same node, ap (λ (k : ℕ). once k node) is)) (λ other. omega (arith, settled.fresh k (omega (arith, within, ap (λ (l : List Node). length l) same)) other)) (cases_eq k node);
        tasks = λ turns branches above. settled.tasks turns branches above ∙ (rw add-one (tasks turns branches above));
      }

-- what is taken out leaves the trees that don't have the node
module _ (old : List Node) (most node : ℕ) (put : Node) where
  pub fits-put : (tree : Tree) → uses node tree ≡ 0 → Fits old most tree → Fits (slice_set old node put) most tree
  fits-put tree free fits = fits-same old (slice_set old node put) most tree
      (λ k used. get-set_other old node k put (λ same. absurd (omega (arith, free, used, ap (λ (k : ℕ). uses k tree) same)))) fits

-- a pair put into a node, above its two sides
pub has_pair : (old : List Node) (most node number passed : ℕ) (left right : Tree) → node < length old → Fits old most left → Fits old most right
    → ((k : ℕ) → once k node + (uses k left + uses k right) ≤ 1)
    → HasTree (slice_set old node (node_with number passed (Pair (root left) (root right)) (counts_both (counts_at old (root left)) (counts_at old (root right))))) most node (pair node number passed left right)
has_pair old most node number passed left right within fits_left fits_right once =
    let free = once node in
    let here = once-same node in
    rw (counts_root old most left fits_left, counts_root old most right fits_right)
    (record {
      fits = (get-set old node _ within, fits-put old most node _ left (omega (arith, free, here)) fits_left, fits-put old most node _ right (omega (arith, free, here)) fits_right);
      here = refl;
      once = once;
    })

-- the list has this node there, before what is below was taken for it
pub found_is : (nodes : List Node) (node other number passed : ℕ) (kind : Kind) (counts : Counts) (found : Node) → Has nodes node number passed kind counts → node ≡ other → slice_get nodes other ≡ Some found
    → record { kind = kind; number = number; passed = passed; counts = counts } ≡ found
found_is nodes node other number passed kind counts found has same there =
    let both : Some (record { kind = kind; number = number; passed = passed; counts = counts }) ≡ Some found = sym has ∙ ap (slice_get nodes) same ∙ there in cc

-- a fork made anew
module _ (p : PProgram) (most : ℕ) (a b c : List Node) (node : ℕ) (line : Line) (children : ℕ) (found put : Node) (there : slice_get a node ≡ Some found) (is : found.kind ≡ Fork line children) (taken : b ≡ slice_set a node put) where
  pub anew_under : (crumb : Crumb) (below : Tree) → crumb_node crumb ≡ node → FitsCrumb a most crumb (root below)
      → (crumb ≡ under node found.number found.passed line) × (root below ≡ children) × (standing_of line ≡ IsFork) × IsBelow most line
  anew_under (left_of n k f right) below at fits = absurd (let e = ap (λ (x : Node). x.kind) (found_is a n node k f _ _ found fits.0.1 at there) ∙ is in cc)
  anew_under (right_of n k f left) below at fits = absurd (let e = ap (λ (x : Node). x.kind) (found_is a n node k f _ _ found fits.0.1 at there) ∙ is in cc)
  anew_under (under n k f line') below at fits =
      let same = found_is a n node k f (Fork line' (root below)) fits.0.0 found fits.0.1 at there in
      let kinds : Fork line' (root below) ≡ Fork line children = ap (λ (x : Node). x.kind) same ∙ is in
      let number : k ≡ found.number = ap (λ (x : Node). x.number) same in
      let passed : f ≡ found.passed = ap (λ (x : Node). x.passed) same in
      let lines : line' ≡ line = cc in
      (cc, cc, subst (λ (l : Line). standing_of l ≡ IsFork) lines fits.1, subst (IsBelow most) lines fits.2)

  pub anew_fork : ((below : Tree) → standing_of line ≡ IsFork → IsBelow most line → HasTree b most children below → uses node below ≡ 0 → IsAnew p most b c (under node found.number found.passed line) below)
      → (crumb : Crumb) (below : Tree) → crumb_node crumb ≡ node → FitsCrumb a most crumb (root below) → Fits a most below → ((k : ℕ) → uses_beside k crumb + uses k below ≤ 1) → IsAnew p most a c crumb below
  anew_fork anew crumb below at fits_crumb fits once' =
      let here = anew_under crumb below at fits_crumb in
      let free : uses node below ≡ 0 = omega (arith, once' node, beside-node crumb, ap (λ (k : ℕ). uses_beside k crumb) at) in
      let fits_b : Fits b most below = subst (λ (l : List Node). Fits l most below) (sym taken) (fits-put a most node put below free fits) in
      let made : IsAnew p most b c (under node found.number found.passed line) below
      = anew below here.2 here.3 (record { fits = fits_b; here = here.1; once = λ k. omega (arith, once' k) }) free in
      let made_crumb : IsAnew p most b c crumb below = subst (λ (x : Crumb). IsAnew p most b c x below) (sym here.0) made in
      record {
        tree = made_crumb.tree;
        has = made_crumb.has;
        fresh = λ k within. made_crumb.fresh k (omega (arith, within, ap (λ (l : List Node). length l) taken, length-set a node put));
        tasks = made_crumb.tasks;
      }

-- a fork whose children haven't all ended
pub anew_open : (p : PProgram) (most : ℕ) (nodes : List Node) (node : ℕ) (line : Line) (children : ℕ) (found : Node) → slice_get nodes node ≡ Some found → found.kind ≡ Fork line children
    → (counts_at nodes children).ended ≡ false → (crumb : Crumb) (below : Tree) → crumb_node crumb ≡ node → FitsCrumb nodes most crumb (root below) → Fits nodes most below
    → ((k : ℕ) → uses_beside k crumb + uses k below ≤ 1)
    → IsAnew p most nodes (slice_set nodes node (node_with found.number found.passed (Fork line children) (counts_above (counts_at nodes children)))) crumb below
anew_open p most nodes node line children found there is open' =
    anew_fork p most nodes nodes (slice_set nodes node (node_with found.number found.passed (Fork line children) (counts_above (counts_at nodes children)))) node line children found found there is (sym (set-found nodes node found there))
    (λ below is_fork few has free.
    anew_closed p most nodes _ node found.number found.passed line below
    (closes_open p most nodes node found.number found.passed line below (slice_get_within nodes node found there) free is_fork few children has open'))

-- a pair
module _ (p : PProgram) (most : ℕ) (nodes : List Node) (node left right : ℕ) (found : Node) (there : slice_get nodes node ≡ Some found) (is : found.kind ≡ Pair left right) where
  abbrev pub paired : List Node
  paired = slice_set nodes node (node_with found.number found.passed (Pair left right) (counts_both (counts_at nodes left) (counts_at nodes right)))

  within : node < length nodes
  within = slice_get_within nodes node found there

  pub anew_pair : (crumb : Crumb) (below : Tree) → crumb_node crumb ≡ node → FitsCrumb nodes most crumb (root below) → Fits nodes most below → ((k : ℕ) → uses_beside k crumb + uses k below ≤ 1)
      → IsAnew p most nodes paired crumb below
  anew_pair (under n k f line) below at fits_crumb fits once' = absurd (let e = ap (λ (x : Node). x.kind) (found_is nodes n node k f _ _ found fits_crumb.0.1 at there) ∙ is in cc)
  anew_pair (left_of n k f other) below at fits_crumb fits once' =
      let same = found_is nodes n node k f (Pair (root below) (root other)) fits_crumb.0.0 found fits_crumb.0.1 at there in
      let kinds : Pair (root below) (root other) ≡ Pair left right = ap (λ (x : Node). x.kind) same ∙ is in
      let number : k ≡ found.number = ap (λ (x : Node). x.number) same in
      let passed : f ≡ found.passed = ap (λ (x : Node). x.passed) same in
      let lists : slice_set nodes n (node_with k f (Pair (root below) (root other)) (counts_both (counts_at nodes (root below)) (counts_at nodes (root other)))) ≡ paired = cc in
      subst (λ (new : List Node). IsAnew p most nodes new (left_of n k f other) below) lists
      (record {
        tree = pair n k f below other;
        has = has_pair nodes most n k f below other (omega (arith, within, at)) fits fits_crumb.1 (λ i. omega (arith, once' i));
        fresh = λ i within. omega arith;
        tasks = λ turns branches above. refl;
      })
  anew_pair (right_of n k f other) below at fits_crumb fits once' =
      let same = found_is nodes n node k f (Pair (root other) (root below)) fits_crumb.0.0 found fits_crumb.0.1 at there in
      let kinds : Pair (root other) (root below) ≡ Pair left right = ap (λ (x : Node). x.kind) same ∙ is in
      let number : k ≡ found.number = ap (λ (x : Node). x.number) same in
      let passed : f ≡ found.passed = ap (λ (x : Node). x.passed) same in
      let lists : slice_set nodes n (node_with k f (Pair (root other) (root below)) (counts_both (counts_at nodes (root other)) (counts_at nodes (root below)))) ≡ paired = cc in
      subst (λ (new : List Node). IsAnew p most nodes new (right_of n k f other) below) lists
      (record {
        tree = pair n k f other below;
        has = has_pair nodes most n k f other below (omega (arith, within, at)) fits_crumb.1 fits (λ i. omega (arith, once' i));
        fresh = λ i within. omega arith;
        tasks = λ turns branches above. refl;
      })

-- a node of which is told anew what is below it
pub anew_told : (p : PProgram) (most : ℕ) (nodes : List Node) (node : ℕ) (found : Node) (counts : Counts) → slice_get nodes node ≡ Some found → (kind : Kind) → found.kind ≡ kind → IsTold nodes kind counts
    → (crumb : Crumb) (below : Tree) → crumb_node crumb ≡ node → FitsCrumb nodes most crumb (root below) → Fits nodes most below → ((k : ℕ) → uses_beside k crumb + uses k below ≤ 1)
    → IsAnew p most nodes (slice_set nodes node (record found { counts = counts })) crumb below
anew_told p most nodes node found counts there (Pair left right) is told crumb below at fits_crumb fits once' =
    let put : record found { counts = counts } ≡ node_with found.number found.passed (Pair left right) (counts_both (counts_at nodes left) (counts_at nodes right)) = cc in
    subst (λ (put : Node). IsAnew p most nodes (slice_set nodes node put) crumb below) (sym put) (anew_pair p most nodes node left right found there is crumb below at fits_crumb fits once')
anew_told p most nodes node found counts there (Fork line children) is (open', told) crumb below at fits_crumb fits once' =
    let put : record found { counts = counts } ≡ node_with found.number found.passed (Fork line children) (counts_above (counts_at nodes children)) = cc in
    subst (λ (put : Node). IsAnew p most nodes (slice_set nodes node put) crumb below) (sym put) (anew_open p most nodes node line children found there is open' crumb below at fits_crumb fits once')
anew_told p most nodes node found counts there (Leaf line) is told crumb below at fits_crumb fits once' = absurd told
anew_told p most nodes node found counts there (Over trap) is told crumb below at fits_crumb fits once' = absurd told

-- the way of what is around a hole, from its end
last-same : (xs ys : List ℕ) (x y : ℕ) → xs ++ x ∷ [] ≡ ys ++ y ∷ [] → (xs ≡ ys) × (x ≡ y)
last-same [] [] x y same = (refl, cc)
last-same [] (b ∷ []) x y same = absurd cc
last-same [] (b ∷ d ∷ ys) x y same = absurd cc
last-same (a ∷ []) [] x y same = absurd cc
last-same (a ∷ d ∷ xs) [] x y same = absurd cc
last-same (a ∷ xs) (b ∷ ys) x y same = let inner = last-same xs ys x y (let e : xs ++ x ∷ [] ≡ ys ++ y ∷ [] = cc in e) in let heads : a ≡ b = cc in (cc, inner.1)

none_last : (xs : List ℕ) (x : ℕ) → xs ++ x ∷ [] ≡ [] → ⊥
none_last [] x same = cc
none_last (y ∷ xs) x same = cc

-- up to here the tasks are the same
pub record Risen (p : PProgram) (most : ℕ) (nodes : List Node) (way : List ℕ) (crumbs : List Crumb) (below : Tree) : Type 0 where
  pub above : List Crumb
  pub tree : Tree
  pub is : way_of above ≡ way
  pub has : HasAround nodes most above tree
  pub tasks : (turns : ℕ) → most ≤ turns → around p turns above (tasks_of p turns (branches_in above) tree) ≡ around p turns crumbs (tasks_of p turns (branches_in crumbs) below)

pub rises_one : (p : PProgram) (most : ℕ) (old new : List Node) (way : List ℕ) (node : ℕ) (crumbs : List Crumb) (below : Tree) → Changes old new node
    → ((crumb : Crumb) (below : Tree) → crumb_node crumb ≡ node → FitsCrumb old most crumb (root below) → Fits old most below → ((k : ℕ) → uses_beside k crumb + uses k below ≤ 1) → IsAnew p most old new crumb below)
    → (risen : Risen p most old (way ++ node ∷ []) crumbs below) → (above : List Crumb) → above ≡ risen.above → Risen p most new way crumbs below
rises_one p most old new way node crumbs below changes anew risen [] same = absurd (none_last way node (sym (ap way_of same ∙ risen.is)))
rises_one p most old new way node crumbs below changes anew risen (crumb ∷ above) same =
    let ways = last-same (way_of above) way (crumb_node crumb) node (ap way_of same ∙ risen.is) in
    let has : HasAround old most (crumb ∷ above) risen.tree = subst (λ (x : List Crumb). HasAround old most x risen.tree) (sym same) risen.has in
    let made = anew crumb risen.tree ways.1 has.around.0 has.fits (λ k. omega (arith, has.once k)) in
    let tree_at : root made.tree ≡ crumb_node crumb = made.has.here in
    record {
      above = above;
      tree = made.tree;
      is = ways.0;
      has = record {
        around = subst (FitsAround new most above) (sym tree_at)
            (around-same old new most above (crumb_node crumb)
            (λ k used. ⊎_elim
            (λ within. changes.same k within (λ is. absurd (omega (arith, has.once k, beside-node crumb, used, ap (λ (i : ℕ). uses_beside i crumb) (is ∙ sym ways.1)))))
            (λ far. absurd (omega (arith, used, around-past old most above (crumb_node crumb) k has.around.1 far)))
            (cases_lt k (length old)))
            has.around.1);
        fits = made.has.fits;
        once = λ k. ⊎_elim
            (λ within. omega (arith, has.once k, made.fresh k within))
            (λ far. omega (arith, made.has.once k, around-past old most above (crumb_node crumb) k has.around.1 far))
            (cases_lt k (length old));
      };
      tasks = λ turns far. ap (around p turns above) (made.tasks turns (branches_in above) far)
          ∙ (subst (λ (x : List Crumb). around p turns x (tasks_of p turns (branches_in x) risen.tree) ≡ around p turns crumbs (tasks_of p turns (branches_in crumbs) below)) (sym same) (risen.tasks turns far));
    }

pub rises_all : (p : PProgram) (most : ℕ) (nodes : List Node) (crumbs : List Crumb) (below : Tree) → (risen : Risen p most nodes [] crumbs below) → (above : List Crumb) → above ≡ risen.above → Rises p most nodes crumbs below
rises_all p most nodes crumbs below risen (crumb ∷ above) same = absurd (none_last (way_of above) (crumb_node crumb) (ap way_of same ∙ risen.is))
rises_all p most nodes crumbs below risen [] same =
    let has : HasAround nodes most [] risen.tree = subst (λ (x : List Crumb). HasAround nodes most x risen.tree) (sym same) risen.has in
    record {
      tree = risen.tree;
      is = record { fits = has.fits; once = λ k. omega (arith, has.once k); first = has.around };
      tasks = λ turns far. subst (λ (x : List Crumb). around p turns x (tasks_of p turns (branches_in x) risen.tree) ≡ around p turns crumbs (tasks_of p turns (branches_in crumbs) below)) (sym same) (risen.tasks turns far);
    }
