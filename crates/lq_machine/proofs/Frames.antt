-- Which nodes of a list a tree has, and that it stays where these stay.
use Rattle.std.proofs.Common.{◌≡◌, ℕ, zero, suc, ◌+◌, ◌<◌, ◌≤◌, List, [], ◌∷◌, ◌++◌, length, Some, refl, ap, ◌∙◌, arith, eq-eqb}
use Rattle.std.specs.Prelude.{slice_get, slice_set}
use Rattle.std.proofs.lemmas.Bool.Decides.{nat_tests}
use Rattle.std.proofs.lemmas.Option.{slice_get_within}
use Rattle.lq_machine.specs.declared.machine.forest.Node.{Node}
use Rattle.lq_machine.specs.Forest.{Tree, over, leaf, fork, pair, root, once, uses, Fits}
use Rattle.lq_machine.specs.Around.{Crumb, under, left_of, right_of, crumb_node, fill, plug, FitsCrumb, FitsAround, uses_beside, uses_around}
use Rattle.lq_meaning.proofs.OpenForks.{IsBelow-more}

-- an element that is written, and the others
pub get-set : {A : Type 0} (xs : List A) (i : ℕ) (x : A) → i < length xs → slice_get (slice_set xs i x) i ≡ Some x
get-set [] i x within = absurd (omega arith)
get-set (y ∷ xs) zero x within = refl
get-set (y ∷ xs) (suc i) x within = get-set xs i x (omega arith)

pub get-set_other : {A : Type 0} (xs : List A) (i k : ℕ) (x : A) → (k ≡ i → ⊥) → slice_get (slice_set xs i x) k ≡ slice_get xs k
get-set_other [] i k x other = refl
get-set_other (y ∷ xs) zero zero x other = absurd (other refl)
get-set_other (y ∷ xs) zero (suc k) x other = refl
get-set_other (y ∷ xs) (suc i) zero x other = refl
get-set_other (y ∷ xs) (suc i) (suc k) x other = get-set_other xs i k x (λ same. other (ap suc same))

-- an element that is written where it was
pub set-found : {A : Type 0} (xs : List A) (i : ℕ) (x : A) → slice_get xs i ≡ Some x → slice_set xs i x ≡ xs
set-found [] i x there = refl
set-found {A = A} (y ∷ xs) zero x there = let same : x ≡ y = cc in ap (λ (z : A). z ∷ xs) same
set-found {A = A} (y ∷ xs) (suc i) x there = ap (λ (l : List A). y ∷ l) (set-found xs i x there)

-- an element that is pushed, and the others
pub get-push : {A : Type 0} (xs : List A) (x : A) → slice_get (xs ++ x ∷ []) (length xs) ≡ Some x
get-push [] x = refl
get-push (y ∷ xs) x = get-push xs x

pub get-push_other : {A : Type 0} (xs : List A) (k : ℕ) (x : A) → k < length xs → slice_get (xs ++ x ∷ []) k ≡ slice_get xs k
get-push_other [] k x within = absurd (omega arith)
get-push_other (y ∷ xs) zero x within = refl
get-push_other (y ∷ xs) (suc k) x within = get-push_other xs k x (omega arith)

-- a number is once that of its node
pub once-same : (k : ℕ) → once k k ≡ 1
once-same k = rw (eq-eqb k k refl)

pub once-other : (k node : ℕ) → (k ≡ node → ⊥) → once k node ≡ 0
once-other k node other = grind (arith, nat_tests)

pub once-most : (k node : ℕ) → once k node ≤ 1
once-most k node = grind (arith, nat_tests)

pub uses-root : (tree : Tree) → 1 ≤ uses (root tree) tree
uses-root (over node number passed trap) = omega (arith, once-same node)
uses-root (leaf node number passed line) = omega (arith, once-same node)
uses-root (fork node number passed line children) = omega (arith, once-same node)
uses-root (pair node number passed left right) = omega (arith, once-same node)

-- the second list has the nodes of the tree as the first has
abbrev pub SameIn : (tree : Tree) → (old new : List Node) → Type 0
SameIn tree old new = (k : ℕ) → 1 ≤ uses k tree → slice_get new k ≡ slice_get old k

-- a list that has the same nodes has the tree
pub fits-same : (old new : List Node) (most : ℕ) (tree : Tree) → SameIn tree old new → Fits old most tree → Fits new most tree
fits-same old new most (over node number passed trap) same fits = same node (omega (arith, once-same node)) ∙ fits
fits-same old new most (leaf node number passed line) same fits = (same node (omega (arith, once-same node)) ∙ fits.0, fits.1, fits.2)
fits-same old new most (fork node number passed line children) same fits =
    (same node (omega (arith, once-same node)) ∙ fits.0, fits.1, fits.2, fits.3, fits-same old new most children (λ k used. same k (omega arith)) fits.4)
fits-same old new most (pair node number passed left right) same fits = (
  same node (omega (arith, once-same node)) ∙ fits.0,
  fits-same old new most left (λ k used. same k (omega arith)) fits.1,
  fits-same old new most right (λ k used. same k (omega arith)) fits.2,
)

-- the list has no node at or past its length
past : (nodes : List Node) (node : ℕ) (found : Node) (k : ℕ) → slice_get nodes node ≡ Some found → length nodes ≤ k → once k node ≡ 0
past nodes node found k here far = once-other k node (λ same. absurd (omega (arith, slice_get_within nodes node found here, same)))

pub uses-past : (nodes : List Node) (most : ℕ) (tree : Tree) (k : ℕ) → Fits nodes most tree → length nodes ≤ k → uses k tree ≡ 0
uses-past nodes most (over node number passed trap) k fits far = past nodes node _ k fits far
uses-past nodes most (leaf node number passed line) k fits far = past nodes node _ k fits.0 far
uses-past nodes most (fork node number passed line children) k fits far = omega (arith, past nodes node _ k fits.0 far, uses-past nodes most children k fits.4 far)
uses-past nodes most (pair node number passed left right) k fits far =
    omega (arith, past nodes node _ k fits.0 far, uses-past nodes most left k fits.1 far, uses-past nodes most right k fits.2 far)

-- a greater bound on the turns
pub fits-more : (nodes : List Node) (low high : ℕ) → low ≤ high → (tree : Tree) → Fits nodes low tree → Fits nodes high tree
fits-more nodes low high below (over node number passed trap) fits = fits
fits-more nodes low high below (leaf node number passed line) fits = (fits.0, fits.1, IsBelow-more low high below line fits.2)
fits-more nodes low high below (fork node number passed line children) fits =
    (fits.0, fits.1, IsBelow-more low high below line fits.2, fits.3, fits-more nodes low high below children fits.4)
fits-more nodes low high below (pair node number passed left right) fits =
    (fits.0, fits-more nodes low high below left fits.1, fits-more nodes low high below right fits.2)

-- the nodes of a tree in a hole, and those around it
uses-fill : (k : ℕ) (crumb : Crumb) (tree : Tree) → uses k (fill crumb tree) ≡ uses_beside k crumb + uses k tree
uses-fill k (under node number passed line) tree = refl
uses-fill k (left_of node number passed right) tree = omega arith
uses-fill k (right_of node number passed left) tree = omega arith

pub uses-plug : (k : ℕ) (crumbs : List Crumb) (tree : Tree) → uses k (plug crumbs tree) ≡ uses_around k crumbs + uses k tree
uses-plug k [] tree = omega arith
uses-plug k (crumb ∷ crumbs) tree = omega (arith, uses-plug k crumbs (fill crumb tree), uses-fill k crumb tree)

-- what is around a hole stays where its nodes stay
crumb-same : (old new : List Node) (most : ℕ) (crumb : Crumb) (below : ℕ) → ((k : ℕ) → 1 ≤ uses_beside k crumb → slice_get new k ≡ slice_get old k)
    → FitsCrumb old most crumb below → FitsCrumb new most crumb below
crumb-same old new most (under node number passed line) below same fits = ((fits.0.0, same node (omega (arith, once-same node)) ∙ fits.0.1), fits.1, fits.2)
crumb-same old new most (left_of node number passed right) below same fits =
    ((fits.0.0, same node (omega (arith, once-same node)) ∙ fits.0.1), fits-same old new most right (λ k used. same k (omega arith)) fits.1)
crumb-same old new most (right_of node number passed left) below same fits =
    ((fits.0.0, same node (omega (arith, once-same node)) ∙ fits.0.1), fits-same old new most left (λ k used. same k (omega arith)) fits.1)

pub around-same : (old new : List Node) (most : ℕ) (crumbs : List Crumb) (below : ℕ) → ((k : ℕ) → 1 ≤ uses_around k crumbs → slice_get new k ≡ slice_get old k)
    → FitsAround old most crumbs below → FitsAround new most crumbs below
around-same old new most [] below same fits = fits
around-same old new most (crumb ∷ crumbs) below same fits =
    (crumb-same old new most crumb below (λ k used. same k (omega arith)) fits.0, around-same old new most crumbs (crumb_node crumb) (λ k used. same k (omega arith)) fits.1)

crumb-past : (nodes : List Node) (most : ℕ) (crumb : Crumb) (below k : ℕ) → FitsCrumb nodes most crumb below → length nodes ≤ k → uses_beside k crumb ≡ 0
crumb-past nodes most (under node number passed line) below k fits far = past nodes node _ k fits.0.1 far
crumb-past nodes most (left_of node number passed right) below k fits far = omega (arith, past nodes node _ k fits.0.1 far, uses-past nodes most right k fits.1 far)
crumb-past nodes most (right_of node number passed left) below k fits far = omega (arith, past nodes node _ k fits.0.1 far, uses-past nodes most left k fits.1 far)

pub around-past : (nodes : List Node) (most : ℕ) (crumbs : List Crumb) (below k : ℕ) → FitsAround nodes most crumbs below → length nodes ≤ k → uses_around k crumbs ≡ 0
around-past nodes most [] below k fits far = refl
around-past nodes most (crumb ∷ crumbs) below k fits far =
    omega (arith, crumb-past nodes most crumb below k fits.0 far, around-past nodes most crumbs (crumb_node crumb) k fits.1 far)

crumb-more : (nodes : List Node) (low high : ℕ) → low ≤ high → (crumb : Crumb) (below : ℕ) → FitsCrumb nodes low crumb below → FitsCrumb nodes high crumb below
crumb-more nodes low high more' (under node number passed line) below fits = (fits.0, fits.1, IsBelow-more low high more' line fits.2)
crumb-more nodes low high more' (left_of node number passed right) below fits = (fits.0, fits-more nodes low high more' right fits.1)
crumb-more nodes low high more' (right_of node number passed left) below fits = (fits.0, fits-more nodes low high more' left fits.1)

pub around-more : (nodes : List Node) (low high : ℕ) → low ≤ high → (crumbs : List Crumb) (below : ℕ) → FitsAround nodes low crumbs below → FitsAround nodes high crumbs below
around-more nodes low high more' [] below fits = fits
around-more nodes low high more' (crumb ∷ crumbs) below fits =
    (crumb-more nodes low high more' crumb below fits.0, around-more nodes low high more' crumbs (crumb_node crumb) fits.1)
