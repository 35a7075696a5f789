-- A branch keeps to its frame: it does the same in worlds that are alike where it looks, and leaves the other words as they are.
use Rattle.std.proofs.Common.{◌≡◌, ℕ, zero, suc, ◌+◌, ◌-◌, ◌<◌, ℤ, Bool, true, false, ◌&&◌, ◌||◌, List, [], ◌∷◌, ◌++◌, Option, None, refl, sym, ap, ◌∙◌, subst, arith}
use Rattle.std.specs.Prelude.{Contains, nat_lt, IsTrue, slice_get, filter_map, sum_by}
use Rattle.std.proofs.lemmas.List.Sums.{sum_by-cons}
use Rattle.std.specs.List.{AllZip, list_all, list_any}
use Rattle.std.proofs.lemmas.Bool.{ltb-true}
use Rattle.std.proofs.lemmas.List.Elements.{All-contains, Contains-append_left, Contains-append_right}
use Rattle.lq_tree.specs.declared.place.Place.{Place}
use Rattle.lq_meaning.specs.declared.memory.Address.{Address}
use Rattle.lq_meaning.specs.Memory.{lies, word_at}
use Rattle.lq_meaning.specs.World.{World, Acted, act}
use Rattle.lq_meaning.specs.Ending.{Ending, Strayed, Spent}
use Rattle.lq_meaning.specs.Control.{Came, answered, trapped}
use Rattle.lq_meaning.specs.Task.{Task, Ended, Due, Fork, Tasks, none, more}
use Rattle.lq_meaning.specs.Tasks.{IsRegular, AreRegular}
use Rattle.lq_meaning.proofs.Writes.{Lies-lies}
use Rattle.lq_alone.specs.Alone.{Access, Alone, after, are_apart, all_accesses, pairwise_apart, merged, halting, trapping, is_spent, ends, alone_behind, behind, behind_fork, within, accesses_of, joined, alone, alone_each}
use Rattle.lq_alone.specs.Frame.{HasSameBlocks, HasSameWords, IsUnwritten, DoesTheSame}
use Rattle.lq_alone.proofs.Alike.{IsAlike, IsAlike-after, IsAlike-within, word_at-after}
use Rattle.lq_alone.proofs.Actions.{moved, ActsAlike, Both, Trap, Stray, accesses_alike, acts_alike}
use Rattle.lq_alone.proofs.Joined.{first_such, Joins, Halts, RunsOut, Traps, Passes, joins, is_out}
use Rattle.lq_alone.proofs.Left.{alone_left, regular_parts}

-- ---- branches that do the same

-- what branches cost from a world on
abbrev costs : World → List Alone → ℕ
costs v branches = sum_by (λ (branch : Alone). branch.world.cost - v.cost) branches

costs-more : (v : World) (b : Alone) (branches : List Alone) → costs v (b ∷ branches) ≡ b.world.cost - v.cost + costs v branches
costs-more v b branches = sum_by-cons (λ (branch : Alone). branch.world.cost - v.cost) b branches

-- each of the branches does the same in both worlds
abbrev AllSame : List Alone → List Alone → Type 0
AllSame = AllZip DoesTheSame

same_accesses : (branches branches' : List Alone) → AllSame branches branches' → all_accesses branches' ≡ all_accesses branches
same_accesses [] [] all = refl
same_accesses [] (b' ∷ branches') all = absurd all
same_accesses (b ∷ branches) [] all = absurd all
same_accesses (b ∷ branches) (b' ∷ branches') all = λ i. all.0.accesses i ++ same_accesses branches branches' all.1 i

same_endings : {X : Type 0} (f : Ending → Option X) (branches branches' : List Alone) → AllSame branches branches' →
    filter_map (λ (b : Alone). f b.ending) branches' ≡ filter_map (λ (b : Alone). f b.ending) branches
same_endings f [] [] all = refl
same_endings f [] (b' ∷ branches') all = absurd all
same_endings f (b ∷ branches) [] all = absurd all
same_endings f (b ∷ branches) (b' ∷ branches') all = rw (all.0.ending, same_endings f branches branches' all.1) refl

same_spent : (branches branches' : List Alone) → AllSame branches branches' →
    list_any (λ (b : Alone). is_spent b.ending) branches' ≡ list_any (λ (b : Alone). is_spent b.ending) branches
same_spent [] [] all = refl
same_spent [] (b' ∷ branches') all = absurd all
same_spent (b ∷ branches) [] all = absurd all
same_spent (b ∷ branches) (b' ∷ branches') all = λ i. is_spent (all.0.ending i) || same_spent branches branches' all.1 i

same_costs : (w w' : World) → w'.cost ≡ w.cost → (branches branches' : List Alone) → AllSame branches branches' → costs w' branches' ≡ costs w branches
same_costs w w' same [] [] all = refl
same_costs w w' same [] (b' ∷ branches') all = absurd all
same_costs w w' same (b ∷ branches) [] all = absurd all
same_costs w w' same (b ∷ branches) (b' ∷ branches') all =
    let cost = all.0.cost in
    let rest = same_costs w w' same branches branches' all.1 in
    omega (arith, same, cost, rest, costs-more w b branches, costs-more w' b' branches')

same_apart : (branches branches' : List Alone) → AllSame branches branches' → list_all (λ (b : Alone). b.apart) branches' ≡ list_all (λ (b : Alone). b.apart) branches
same_apart [] [] all = refl
same_apart [] (b' ∷ branches') all = absurd all
same_apart (b ∷ branches) [] all = absurd all
same_apart (b ∷ branches) (b' ∷ branches') all = λ i. all.0.apart i && same_apart branches branches' all.1 i

same_others : (accesses accesses' : List Access) → accesses' ≡ accesses → (branches branches' : List Alone) → AllSame branches branches' →
    list_all (λ (other : Alone). are_apart accesses' other.accesses) branches' ≡ list_all (λ (other : Alone). are_apart accesses other.accesses) branches
same_others accesses accesses' same [] [] all = refl
same_others accesses accesses' same [] (b' ∷ branches') all = absurd all
same_others accesses accesses' same (b ∷ branches) [] all = absurd all
same_others accesses accesses' same (b ∷ branches) (b' ∷ branches') all = λ i. are_apart (same i) (all.0.accesses i) && same_others accesses accesses' same branches branches' all.1 i

same_pairwise : (branches branches' : List Alone) → AllSame branches branches' → pairwise_apart branches' ≡ pairwise_apart branches
same_pairwise [] [] all = refl
same_pairwise [] (b' ∷ branches') all = absurd all
same_pairwise (b ∷ branches) [] all = absurd all
same_pairwise (b ∷ branches) (b' ∷ branches') all = λ i. same_others b.accesses b'.accesses all.0.accesses branches branches' all.1 i && same_pairwise branches branches' all.1 i

-- ---- an action

same_ends : (ending : Ending) (w w' : World) → w'.cost ≡ w.cost → DoesTheSame (ends ending w) (ends ending w')
same_ends ending w w' same = record { ending = refl; accesses = refl; cost = same; apart = refl }

same_behind : (accesses accesses' : List Access) (a a' : Alone) → accesses' ≡ accesses → DoesTheSame a a' → DoesTheSame (behind accesses a) (behind accesses' a')
same_behind accesses accesses' a a' same s = record { ending = s.ending; accesses = λ i. same i ++ s.accesses i; cost = s.cost; apart = s.apart }

-- an action, and what is behind it
due_same : (w w' : World) (at : Place) (accesses accesses' : List Access) (r r' : Acted) (go : ℤ → World → Alone) → w'.cost ≡ w.cost → accesses' ≡ accesses → ActsAlike w w' accesses r r' →
    IsAlike (accesses ++ (alone_behind (answered at r) go).accesses) w.memory w'.memory →
    ((word : ℤ) → IsAlike (go word (moved w accesses)).accesses (moved w accesses).memory (moved w' accesses).memory → DoesTheSame (go word (moved w accesses)) (go word (moved w' accesses))) →
    DoesTheSame (behind accesses (alone_behind (answered at r) go)) (behind accesses' (alone_behind (answered at r') go))
due_same w w' at accesses accesses' r r' go cost same (Both word is is') alike next =
    let here : IsAlike (accesses ++ (go word (moved w accesses)).accesses) w.memory w'.memory = rw is at alike in
    rw (is, is')
    (same_behind accesses accesses' (go word (moved w accesses)) (go word (moved w' accesses)) same
    (next word (IsAlike-after w.memory w'.memory accesses (go word (moved w accesses)).accesses here)))
due_same w w' at accesses accesses' r r' go cost same (Trap kind is is') alike next =
    rw (is, is')
    (same_behind accesses accesses' (ends (trapped kind at) (moved w accesses)) (ends (trapped kind at) (moved w' accesses)) same
    (same_ends (trapped kind at) (moved w accesses) (moved w' accesses) (ap (λ c. c + 1) cost)))
due_same w w' at accesses accesses' r r' go cost same (Stray is is') alike next =
    rw (is, is')
    (same_behind accesses accesses' (ends (Strayed at) (moved w accesses)) (ends (Strayed at) (moved w' accesses)) same
    (same_ends (Strayed at) (moved w accesses) (moved w' accesses) (ap (λ c. c + 1) cost)))

-- where the fuel serves for an action, and where it doesn't
within_same : (fuel : ℕ) (w w' : World) (t t' : Bool) (next : World → Alone) → nat_lt w.cost fuel ≡ t → t' ≡ t → w'.cost ≡ w.cost → IsAlike (within t w next).accesses w.memory w'.memory →
    (w.cost < fuel → IsAlike (next w).accesses w.memory w'.memory → DoesTheSame (next w) (next w')) → DoesTheSame (within t w next) (within t' w' next)
within_same fuel w w' true t' next is same cost alike go = rw same (go (ltb-true _ _ is) alike)
within_same fuel w w' false t' next is same cost alike go = rw same (same_ends Spent w w' cost)

-- ---- a fork

module _ (fuel : ℕ) (w w' : World) (branches branches' : List Alone) (go : World → Alone) (cost : w'.cost ≡ w.cost) (all : AllSame branches branches') where
  same_fork : (a a' : Alone) → DoesTheSame a a' → DoesTheSame (behind_fork branches a) (behind_fork branches' a')
  same_fork a a' s =
      record {
        ending = s.ending;
        accesses = λ i. same_accesses branches branches' all i ++ s.accesses i;
        cost = s.cost;
        apart = λ i. same_apart branches branches' all i && same_pairwise branches branches' all i && s.apart i;
      }

  -- the same first endings, and the same cost
  same_first : (such : Ending → Option Ending) → first_such such branches' ≡ first_such such branches
  same_first such = ap (λ endings. slice_get endings 0) (same_endings such branches branches' all)

  same_merged : (merged w' branches').cost ≡ (merged w branches).cost
  same_merged = let sum = same_costs w w' cost branches branches' all in omega (arith, cost, sum)

  same_out : is_out fuel w' branches' ≡ is_out fuel w branches
  same_out = λ i. same_spent branches branches' all i || nat_lt fuel (same_merged i)

  fork_same : (came : Came (Unit {0})) → Joins fuel branches w came → IsAlike (all_accesses branches ++ (alone_behind came (λ _ v. go v)).accesses) w.memory w'.memory →
      (IsAlike (go (merged w branches)).accesses (merged w branches).memory (merged w' branches').memory → DoesTheSame (go (merged w branches)) (go (merged w' branches'))) →
      DoesTheSame (behind_fork branches (alone_behind came (λ _ v. go v))) (behind_fork branches' (alone_behind (joined fuel branches' w') (λ _ v. go v)))
  fork_same _ (Halts ending h) alike next =
      let h' = same_first halting ∙ h in
      rw h' (same_fork (ends ending w) (ends ending w') (same_ends ending w w' cost))
  fork_same _ (RunsOut h out) alike next =
      let h' = same_first halting ∙ h in
      let out' = same_out ∙ out in
      rw (h', out') (same_fork (ends Spent (record w { cost = fuel })) (ends Spent (record w' { cost = fuel })) (same_ends Spent (record w { cost = fuel }) (record w' { cost = fuel }) refl))
  fork_same _ (Traps h out ending t) alike next =
      let h' = same_first halting ∙ h in
      let out' = same_out ∙ out in
      let t' = same_first trapping ∙ t in
      rw (h', out', t')
      (same_fork (ends ending (merged w branches)) (ends ending (merged w' branches')) (same_ends ending (merged w branches) (merged w' branches') same_merged))
  fork_same _ (Passes h out t) alike next =
      let h' = same_first halting ∙ h in
      let out' = same_out ∙ out in
      let t' = same_first trapping ∙ t in
      let behind = IsAlike-after w.memory w'.memory (all_accesses branches) (go (merged w branches)).accesses alike in
      rw (h', out', t')
      (same_fork (go (merged w branches)) (go (merged w' branches'))
      (next (subst (λ xs. IsAlike (go (merged w branches)).accesses (after w.memory (all_accesses branches)) (after w'.memory xs)) (sym (same_accesses branches branches' all)) behind)))

-- ---- tasks

mutual
  -- A quiet task does the same in a world of the same cost that is alike where it looks.
  pub alone_same : (fuel n : ℕ) (task : Task) (w w' : World) → IsRegular task n true → fuel < w.cost + n → w'.cost ≡ w.cost → IsAlike (alone fuel task w).accesses w.memory w'.memory →
      DoesTheSame (alone fuel task w) (alone fuel task w')
  alone_same fuel n (Ended ending) w w' regular enough cost alike = same_ends ending w w' cost
  alone_same fuel zero (Due at action next) w w' regular enough cost alike =
      within_same fuel w w' (nat_lt w.cost fuel) (nat_lt w'.cost fuel) (λ w. behind (accesses_of action w) (alone_behind (answered at.place (act action w)) (λ word w. alone fuel (next word) w)))
      refl (ap (λ c. nat_lt c fuel) cost) cost alike (λ less. absurd (omega (arith, enough, less)))
  alone_same fuel (suc n) (Due at action next) w w' regular enough cost alike =
      within_same fuel w w' (nat_lt w.cost fuel) (nat_lt w'.cost fuel) (λ w. behind (accesses_of action w) (alone_behind (answered at.place (act action w)) (λ word w. alone fuel (next word) w)))
      refl (ap (λ c. nat_lt c fuel) cost) cost alike
      (λ less alike.
      let accesses = accesses_of action w in
      let here = IsAlike-within w.memory w'.memory _ accesses (λ a c. Contains-append_left accesses _ a c) alike in
      due_same w w' at.place accesses (accesses_of action w') (act action w) (act action w') (λ word w. alone fuel (next word) w) cost (accesses_alike action w w' here)
      (acts_alike action w w' regular.0 here) alike
      (λ word alike. alone_same fuel n (next word) (moved w accesses) (moved w' accesses) (regular.1 word) (omega (arith, enough)) (ap (λ c. c + 1) cost) alike))
  alone_same fuel n (Fork children parent) w w' regular enough cost alike =
      let branches = alone_each fuel children w in
      let parts = regular_parts n children parent regular in
      let here = IsAlike-within w.memory w'.memory _ (all_accesses branches) (λ a c. Contains-append_left (all_accesses branches) _ a c) alike in
      let all = alone_same_each fuel n children w w' parts.0 enough cost here in
      let merged_cost = same_merged fuel w w' branches (alone_each fuel children w') (λ w. alone fuel parent w) cost all in
      fork_same fuel w w' branches (alone_each fuel children w') (λ w. alone fuel parent w) cost all (joined fuel branches w) (joins fuel branches w) alike
      (λ alike. alone_same fuel n parent (merged w branches) (merged w' (alone_each fuel children w')) parts.1 (omega (arith, enough)) merged_cost alike)

  -- and the branches of a fork
  pub alone_same_each : (fuel n : ℕ) (tasks : Tasks) (w w' : World) → AreRegular tasks n → fuel < w.cost + n → w'.cost ≡ w.cost →
      IsAlike (all_accesses (alone_each fuel tasks w)) w.memory w'.memory → AllSame (alone_each fuel tasks w) (alone_each fuel tasks w')
  alone_same_each fuel n none w w' regular enough cost alike = tt
  alone_same_each fuel n (more task tasks) w w' regular enough cost alike =
      let b = alone fuel task w in
      let others = all_accesses (alone_each fuel tasks w) in (
        alone_same fuel n task w w' regular.0 enough cost (IsAlike-within w.memory w'.memory (b.accesses ++ others) b.accesses (λ a c. Contains-append_left b.accesses others a c) alike),
        alone_same_each fuel n tasks w w' regular.1 enough cost (IsAlike-within w.memory w'.memory (b.accesses ++ others) others (λ a c. Contains-append_right b.accesses others a c) alike),
      )

-- ---- the frame

-- A quiet task does the same in a world of the same cost with the same words at its accesses, in blocks of the same sizes.
pub keeps_to_frame : (fuel n : ℕ) (task : Task) (w w' : World) → IsRegular task n true → fuel < w.cost + n → w'.cost ≡ w.cost → HasSameBlocks w.memory w'.memory →
    HasSameWords (alone fuel task w).accesses w.memory w'.memory → DoesTheSame (alone fuel task w) (alone fuel task w')
keeps_to_frame fuel n task w w' regular enough cost blocks words =
    alone_same fuel n task w w' regular enough cost
    (record {
      shape = λ k. record { fields = blocks.fields k; words = blocks.words k };
      same = λ a c. record { lies = (alone_left fuel n task w regular enough).lie a c; word = All-contains (λ (x : Access). word_at w'.memory x.address ≡ word_at w.memory x.address) (alone fuel task w).accesses a words c };
    })

-- A quiet task leaves the words of the addresses that it doesn't write.
pub leaves_others : (fuel n : ℕ) (task : Task) (w : World) (x : Address) → IsRegular task n true → fuel < w.cost + n → IsUnwritten (alone fuel task w).accesses x →
    IsTrue (lies w.memory x) → word_at (alone fuel task w).world.memory x ≡ word_at w.memory x
leaves_others fuel n task w x regular enough unwritten l =
    let left = alone_left fuel n task w regular enough in
    let kept : (a : Access) → Contains left.kept a → Contains (alone fuel task w).accesses a =
    λ a c. subst (λ xs. Contains xs a) (sym left.parts) (Contains-append_left left.kept left.lost a c) in
    ap (λ m. word_at m x) left.memory
    ∙ word_at-after w.memory left.kept x (λ a c. All-contains (λ (a : Access). a.address ≡ x → a.written ≡ None) (alone fuel task w).accesses a unwritten (kept a c))
    (λ a c. left.lie a (kept a c)) (Lies-lies w.memory x l)

-- The same of a world in which it does the same.
pub leaves_others_there : (fuel n : ℕ) (task : Task) (w w' : World) (x : Address) → IsRegular task n true → fuel < w.cost + n → w'.cost ≡ w.cost → HasSameBlocks w.memory w'.memory →
    HasSameWords (alone fuel task w).accesses w.memory w'.memory → IsUnwritten (alone fuel task w).accesses x → IsTrue (lies w'.memory x) →
    word_at (alone fuel task w').world.memory x ≡ word_at w'.memory x
leaves_others_there fuel n task w w' x regular enough cost blocks words unwritten l =
    let s = keeps_to_frame fuel n task w w' regular enough cost blocks words in
    leaves_others fuel n task w' x regular (omega (arith, enough, cost)) (subst (λ xs. IsUnwritten xs x) (sym s.accesses) unwritten) l
