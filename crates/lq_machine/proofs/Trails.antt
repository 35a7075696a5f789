-- The path of a line, from the nodes above it.
use Rattle.std.proofs.Common.{◌≡◌, ℕ, zero, suc, ◌+◌, ◌<◌, ◌≤◌, List, [], ◌∷◌, ◌++◌, length, drop, get_or, Option, refl, sym, ap, ◌∙◌, arith, append_assoc, add-one}
use Rattle.std.proofs.Math.Seq.{drop-cons}
use Rattle.std.specs.Prelude.{slice_get}
use Rattle.lq_machine.specs.declared.machine.forest.Node.{Node}
use Rattle.lq_machine.specs.declared.machine.forest.Seat.{Seat}
use Rattle.lq_machine.specs.Around.{Crumb, under, left_of, right_of, way_of, branches_in, FitsAround}
use Rattle.lq_machine.specs.Paths.{into_branch, onto, fork_seat, through, through_all}

through-last : (nodes : List Node) (path way : List ℕ) (node : ℕ) → through_all nodes path (way ++ node ∷ []) ≡ through (through_all nodes path way) (fork_seat node (slice_get nodes node))
through-last nodes path [] node = refl
through-last nodes path (x ∷ way) node = through-last nodes (through path (fork_seat x (slice_get nodes x))) way node

into-more : (branch : List ℕ) (passed number : ℕ) → into_branch (branch ++ passed ∷ []) number ≡ branch ++ passed ∷ number ∷ []
into-more [] passed number = refl
into-more (x ∷ branch) passed number = append_assoc (x ∷ branch) (passed ∷ []) (number ∷ [])

-- the path through what is around a hole, to the branch of a task in it
pub trail : (nodes : List Node) (most : ℕ) (crumbs : List Crumb) (below number : ℕ) → FitsAround nodes most crumbs below → into_branch (through_all nodes [] (way_of crumbs)) number ≡ branches_in crumbs number
trail nodes most [] below number fits = refl
trail nodes most (under node k f line ∷ crumbs) below number fits =
    let inner = trail nodes most crumbs node k fits.1 in
    ap (λ (path : List ℕ). into_branch path number)
    (through-last nodes [] (way_of crumbs) node ∙ ap (λ (o : Option Node). through (through_all nodes [] (way_of crumbs)) (fork_seat node o)) fits.0.0.1 ∙ ap (λ (path : List ℕ). path ++ f ∷ []) inner)
    ∙ into-more (branches_in crumbs k) f number
trail nodes most (left_of node k f right ∷ crumbs) below number fits =
    ap (λ (path : List ℕ). into_branch path number)
    (through-last nodes [] (way_of crumbs) node ∙ ap (λ (o : Option Node). through (through_all nodes [] (way_of crumbs)) (fork_seat node o)) fits.0.0.1)
    ∙ trail nodes most crumbs node number fits.1
trail nodes most (right_of node k f left ∷ crumbs) below number fits =
    ap (λ (path : List ℕ). into_branch path number)
    (through-last nodes [] (way_of crumbs) node ∙ ap (λ (o : Option Node). through (through_all nodes [] (way_of crumbs)) (fork_seat node o)) fits.0.0.1)
    ∙ trail nodes most crumbs node number fits.1

-- the rest of a way, from a number on
pub drop-more : (way : List ℕ) (i : ℕ) → i < length way → drop i way ≡ get_or way i 0 ∷ drop (i + 1) way
drop-more way i within = rw (add-one, drop-cons way i 0) refl

drop-past : (way : List ℕ) (i : ℕ) → length way ≤ i → drop i way ≡ []
drop-past [] zero past = refl
drop-past [] (suc i) past = refl
drop-past (x ∷ way) zero past = absurd (omega arith)
drop-past (x ∷ way) (suc i) past = drop-past way i (omega arith)

pub trail_goes : (nodes : List Node) (way path next all : List ℕ) (i : ℕ) (o : Option Seat) → i < length way → next ≡ through path o → o ≡ fork_seat (get_or way i 0) (slice_get nodes (get_or way i 0))
    → through_all nodes path (drop i way) ≡ all → through_all nodes next (drop (i + 1) way) ≡ all
trail_goes nodes way path next all i o within is fork so_far =
    ap (λ (p : List ℕ). through_all nodes p (drop (i + 1) way)) (is ∙ ap (through path) fork) ∙ ap (through_all nodes path) (sym (drop-more way i within)) ∙ so_far

pub trail_ends : (nodes : List Node) (most : ℕ) (crumbs : List Crumb) (way path last : List ℕ) (i : ℕ) (seat : Seat) → length way ≤ i → through_all nodes path (drop i way) ≡ through_all nodes [] way
    → way ≡ way_of crumbs → FitsAround nodes most crumbs seat.node → last ≡ onto path seat → last ≡ branches_in crumbs seat.number ++ seat.passed ∷ []
trail_ends nodes most crumbs way path last i seat past so_far same fits is =
    let here : path ≡ through_all nodes [] (way_of crumbs) = ap (through_all nodes path) (sym (drop-past way i past)) ∙ so_far ∙ ap (through_all nodes []) same in
    is ∙ ap (λ (p : List ℕ). into_branch p seat.number ++ seat.passed ∷ []) here ∙ ap (λ (b : List ℕ). b ++ seat.passed ∷ []) (trail nodes most crumbs seat.node seat.number fits)
