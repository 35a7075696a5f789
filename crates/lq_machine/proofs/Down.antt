-- The way down a tree of nodes to a runnable leaf.
use Rattle.std.proofs.Common.{◌≡◌, ℕ, ◌-◌, ◌<◌, ◌≤◌, List, [], ◌∷◌, ◌++◌, Option, None, Some, refl, sym, ap, ◌∙◌, subst, arith, zero-add, length, get_or, ⊎_elim, ◌⊎◌}
use Rattle.std.specs.Prelude.{slice_get}
use Rattle.std.proofs.lemmas.Option.{slice_get_read}
use Rattle.lq_meaning.specs.declared.line.Line.{Line}
use Rattle.lq_machine.specs.declared.machine.forest.Caught.{Caught}
use Rattle.lq_machine.specs.declared.machine.forest.Counts.{Counts}
use Rattle.lq_machine.specs.declared.machine.forest.Kind.{Kind}
use Rattle.lq_machine.specs.declared.machine.forest.Kind.TheVariants.{Over, Leaf, Fork, Pair}
use Rattle.lq_machine.specs.declared.machine.forest.Node.{Node}
use Rattle.lq_machine.specs.Forest.{Tree, over, leaf, fork, pair, root, counts_at, counts_of, counts_above, counts_both, Has, Fits, IsTree}
use Rattle.lq_machine.specs.Around.{under, left_of, right_of, crumb_node, plug, FitsAround, IsLine, GoesDown, IsOnWay}
use Rattle.lq_machine.proofs.Trees.{counts_root}

-- the list has a node of this kind there
pub record HasNode (nodes : List Node) (node : ℕ) (kind : Kind) : Type 0 where
  pub found : Node
  pub there : slice_get nodes node ≡ Some found
  pub is : found.kind ≡ kind

-- an element that was read
pub has_node : (nodes items : List Node) (node : ℕ) (found : Node) (kind : Kind) → items ≡ nodes → node < length items → found ≡ get_or items node found → found.kind ≡ kind → HasNode nodes node kind
has_node nodes items node found kind same within read is = record { found = found; there = subst (λ (l : List Node). slice_get l node ≡ Some found) same (slice_get_read items (length items) node found refl within read); is = is }

-- so it is the kind of the tree there
kind_of : (nodes : List Node) (node other number passed : ℕ) (kind here : Kind) (counts : Counts) → Has nodes node number passed kind counts → node ≡ other → HasNode nodes other here → kind ≡ here
kind_of nodes node other number passed kind here counts has same node' =
    let both : Some (record { kind = kind; number = number; passed = passed; counts = counts }) ≡ Some node'.found = sym has ∙ ap (slice_get nodes) same ∙ node'.there in
    let found : record { kind = kind; number = number; passed = passed; counts = counts } ≡ node'.found = cc in
    ap (λ (n : Node). n.kind) found ∙ node'.is

module _ (nodes : List Node) (most node rest : ℕ) where
  -- down to the left
  pub down_left : (left right : ℕ) (tree : Tree) → HasNode nodes node (Pair left right) → Fits nodes most tree → root tree ≡ node → rest < (counts_of tree).runnable
      → rest < (counts_at nodes left).runnable → GoesDown nodes most tree rest (Some (left, rest))
  down_left left right (over n k f trap) has fits here runs first = absurd (let e = kind_of nodes n node k f _ _ _ fits here has in cc)
  down_left left right (leaf n k f line) has fits here runs first = absurd (let e = kind_of nodes n node k f _ _ _ fits.0 here has in cc)
  down_left left right (fork n k f line children) has fits here runs first = absurd (let e = kind_of nodes n node k f _ _ _ fits.0 here has in cc)
  down_left left right (pair n k f l r) has fits here runs first =
      let e = kind_of nodes n node k f (Pair (root l) (root r)) (Pair left right) _ fits.0 here has in
      let of_left : root l ≡ left = cc in
      let counts : counts_at nodes left ≡ counts_of l = subst (λ (k : ℕ). counts_at nodes k ≡ counts_of l) of_left (counts_root nodes most l fits.1) in
      let fewer : rest < (counts_of l).runnable = subst (λ (c : Counts). rest < c.runnable) counts first in
      (left_of n k f r, l, refl, ((_, subst (λ (k' : ℕ). Has nodes n k f (Pair k' (root r)) (counts_both (counts_of l) (counts_of r))) of_left fits.0), fits.2), fits.1, of_left, fewer, zero-add rest, refl)

  -- down to the right
  pub down_right : (left right : ℕ) (tree : Tree) → HasNode nodes node (Pair left right) → Fits nodes most tree → root tree ≡ node → rest < (counts_of tree).runnable
      → (counts_at nodes left).runnable ≤ rest → GoesDown nodes most tree rest (Some (right, rest - (counts_at nodes left).runnable))
  down_right left right (over n k f trap) has fits here runs later = absurd (let e = kind_of nodes n node k f _ _ _ fits here has in cc)
  down_right left right (leaf n k f line) has fits here runs later = absurd (let e = kind_of nodes n node k f _ _ _ fits.0 here has in cc)
  down_right left right (fork n k f line children) has fits here runs later = absurd (let e = kind_of nodes n node k f _ _ _ fits.0 here has in cc)
  down_right left right (pair n k f l r) has fits here runs later =
      let e = kind_of nodes n node k f (Pair (root l) (root r)) (Pair left right) _ fits.0 here has in
      let of_left : root l ≡ left = cc in
      let of_right : root r ≡ right = cc in
      let counts : counts_at nodes left ≡ counts_of l = subst (λ (k : ℕ). counts_at nodes k ≡ counts_of l) of_left (counts_root nodes most l fits.1) in
      let fewer : (counts_at nodes left).runnable ≡ (counts_of l).runnable = ap (λ (c : Counts). c.runnable) counts in
      (right_of n k f l, r, refl, ((_, subst (λ (k' : ℕ). Has nodes n k f (Pair (root l) k') (counts_both (counts_of l) (counts_of r))) of_right fits.0), fits.1), fits.2, of_right, omega (arith, runs, fewer, later), omega (arith, fewer, later), refl)

  -- down below a fork
  pub down_fork : (line : Line) (children : ℕ) (tree : Tree) → HasNode nodes node (Fork line children) → Fits nodes most tree → root tree ≡ node → rest < (counts_of tree).runnable
      → GoesDown nodes most tree rest (Some (children, rest))
  down_fork line children (over n k f trap) has fits here runs = absurd (let e = kind_of nodes n node k f _ _ _ fits here has in cc)
  down_fork line children (leaf n k f line') has fits here runs = absurd (let e = kind_of nodes n node k f _ _ _ fits.0 here has in cc)
  down_fork line children (pair n k f l r) has fits here runs = absurd (let e = kind_of nodes n node k f _ _ _ fits.0 here has in cc)
  down_fork line children (fork n k f line' t) has fits here runs =
      let e = kind_of nodes n node k f (Fork line' (root t)) (Fork line children) _ fits.0 here has in
      let of_children : root t ≡ children = cc in
      (under n k f line', t, refl, ((_, subst (λ (k' : ℕ). Has nodes n k f (Fork line' k') (counts_above (counts_of t))) of_children fits.0), fits.1, fits.2), fits.4, of_children, runs, zero-add rest, refl)

  -- a line has nothing below
  pub down_leaf : (line : Line) (tree : Tree) → HasNode nodes node (Leaf line) → Fits nodes most tree → root tree ≡ node → IsLine tree
  down_leaf line (over n k f trap) has fits here = absurd (let e = kind_of nodes n node k f _ _ _ fits here has in cc)
  down_leaf line (leaf n k f line') has fits here = tt
  down_leaf line (pair n k f l r) has fits here = absurd (let e = kind_of nodes n node k f _ _ _ fits.0 here has in cc)
  down_leaf line (fork n k f line' t) has fits here = absurd (let e = kind_of nodes n node k f _ _ _ fits.0 here has in cc)

  pub down_over : (trap : Option Caught) (tree : Tree) → HasNode nodes node (Over trap) → Fits nodes most tree → root tree ≡ node → rest < (counts_of tree).runnable → ⊥
  down_over trap (over n k f trap') has fits here runs = absurd (omega (arith, runs))
  down_over trap (leaf n k f line') has fits here runs = absurd (let e = kind_of nodes n node k f _ _ _ fits.0 here has in cc)
  down_over trap (pair n k f l r) has fits here runs = absurd (let e = kind_of nodes n node k f _ _ _ fits.0 here has in cc)
  down_over trap (fork n k f line' t) has fits here runs = absurd (let e = kind_of nodes n node k f _ _ _ fits.0 here has in cc)

  pub down_end : (found : Kind) (tree : Tree) → HasNode nodes node found → ((line : Line) × (found ≡ Leaf line)) ⊎ ((trap : Option Caught) × (found ≡ Over trap)) → Fits nodes most tree → root tree ≡ node
      → rest < (counts_of tree).runnable → IsLine tree
  down_end found tree has ends fits here runs =
      ⊎_elim
      (λ (line, is). down_leaf line tree (record { found = has.found; there = has.there; is = has.is ∙ is }) fits here)
      (λ (trap, is). absurd (down_over trap tree (record { found = has.found; there = has.there; is = has.is ∙ is }) fits here runs))
      ends

  -- the list has the root of each tree
  not_none : (other : ℕ) (found : Node) → slice_get nodes other ≡ Some found → other ≡ node → slice_get nodes node ≡ None → ⊥
  not_none other found there same none = let e : slice_get nodes node ≡ Some found = ap (slice_get nodes) (sym same) ∙ there in let both : Some found ≡ None = sym e ∙ none in cc

  pub down_none : (tree : Tree) → slice_get nodes node ≡ None → Fits nodes most tree → root tree ≡ node → ⊥
  down_none (over n k f trap) none fits here = not_none n _ fits here none
  down_none (leaf n k f line) none fits here = not_none n _ fits.0 here none
  down_none (pair n k f l r) none fits here = not_none n _ fits.0 here none
  down_none (fork n k f line t) none fits here = not_none n _ fits.0 here none

-- the way begins at the root
pub way_begins : (nodes : List Node) (most pick : ℕ) (tree : Tree) → IsTree nodes most tree → pick < (counts_of tree).runnable → IsOnWay nodes most tree pick 0 pick []
way_begins nodes most pick tree is runs =
    record { crumbs = []; below = tree; plugged = refl; around = refl; fits = is.fits; here = is.first; runs = runs; number = zero-add pick; way = refl }

-- one node further down
pub way_goes : (nodes : List Node) (most pick node rest child less : ℕ) (tree : Tree) (above : List ℕ) → (on : IsOnWay nodes most tree pick node rest above)
    → GoesDown nodes most on.below rest (Some (child, less)) → IsOnWay nodes most tree pick child less (above ++ node ∷ [])
way_goes nodes most pick node rest child less tree above on (crumb, below, filled, fits_crumb, fits, here, runs, number, at) =
    record {
      crumbs = crumb ∷ on.crumbs;
      below = below;
      plugged = ap (plug on.crumbs) filled ∙ on.plugged;
      around = (fits_crumb, subst (FitsAround nodes most on.crumbs) (sym (at ∙ on.here)) on.around);
      fits = fits;
      here = here;
      runs = runs;
      number = omega (arith, number, on.number);
      way = ap (λ (n : ℕ). above ++ n ∷ []) (sym (at ∙ on.here)) ∙ ap (λ (w : List ℕ). w ++ crumb_node crumb ∷ []) on.way;
    }
