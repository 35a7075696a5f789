-- The task of an accepted slice is clean with every fuel.
use Rattle.std.proofs.Common.{◌≡◌, ◌≢◌, ℕ, zero, suc, ◌+◌, ◌*◌, ◌<◌, Bool, true, false, nat_lt, ℤ, pos, List, [], ◌∷◌, ◌++◌, map, length, Option, None, refl, sym, ap, ap₂, ◌∙◌, subst, ⊎_elim, arith, rules, get_or-set_other, get_or-set_same}
use Rattle.std.specs.Prelude.{slice_set}
use Rattle.std.specs.List.{All, AllByRecursion}
use Rattle.std.proofs.lemmas.List.{length-replicate}
use Rattle.std.proofs.lemmas.List.Elements.{All-head, All-tail, All-weaker}
use Rattle.std.proofs.lemmas.Bool.{cond_both}
use Rattle.std.proofs.Math.Nat.{mul-one}
use Rattle.lq_tree.specs.declared.place.Place.{Place}
use Rattle.lq_tree.specs.declared.plain.Branch.{out-Branch, roll-Branch, the_lemmas}
use Rattle.lq_tree.specs.declared.plain.PStmt.{PStmt}
use Rattle.lq_tree.specs.declared.plain.Slot.{Slot}
use Rattle.lq_plain.specs.Plain.{branch}
use Rattle.lq_meaning.specs.declared.action.Action.{Action}
use Rattle.lq_meaning.specs.declared.action.Action.TheVariants.{Allocate, Load, Store as StoreWord, Print as PrintNumber}
use Rattle.lq_meaning.specs.World.{World, Acted, act}
use Rattle.lq_meaning.specs.Ending.{Ending, Done, Spent}
use Rattle.lq_meaning.specs.Control.{Came, answered, Flow}
use Rattle.lq_meaning.specs.Entry.{start}
use Rattle.lq_meaning.specs.PlainMeaning.{Slots, word_of}
use Rattle.lq_meaning.specs.Task.{Spot, Task, Ended, Due, Fork, Tasks, none, more, forked}
use Rattle.lq_meaning.specs.TaskControl.{Next, leaf, returned}
use Rattle.lq_meaning.specs.Behaviour.{Context, child, exec_all, exec_branch}
use Rattle.lq_meaning.proofs.LineRows.{branches-list, exec_branch-body}
use Rattle.lq_meaning.proofs.Array.{array, IsArray, Keeps, store_keeps, load_keeps}
use Rattle.lq_alone.specs.declared.slice.Store.{Store}
use Rattle.lq_alone.specs.declared.slice.Step.{Step}
use Rattle.lq_alone.specs.declared.slice.Step.TheVariants.{Store as StoreStep, Print as PrintStep}
use Rattle.lq_alone.specs.declared.slice.Slice.{Slice}
use Rattle.lq_alone.specs.Literal.{step_index, IsAccepted}
use Rattle.lq_alone.specs.Alone.{Alone, are_apart, merged, halting, trapping, joined, alone_behind, behind, behind_fork, within, accesses_of, alone}
use Rattle.lq_alone.specs.Clean.{is_clean}
use Rattle.lq_alone.proofs.Accepted.{Accepted-from_check}
use Rattle.lq_alone.proofs.Joined.{first_such, Joins, Halts, RunsOut, Traps, Passes, joins}
use Rattle.lq_alone.proofs.Marks.{after-append}
use Rattle.lq_alone.proofs.SlicePlain.{plain_store, plain_load, plain_print, plain_steps, plain_fork, stores_made, array_slot, plain_return, plain_end, plain_statements}
use Rattle.lq_alone.proofs.StoresAlone.{At, StoresAlone, stores_task, stores_alone, IsFree, apart_accesses, All-swap, IsArray-after}

-- clean with every fuel, from every world with an array of so many elements
abbrev CleanOver : ℕ → Task → Type 0
CleanOver count task = (fuel : ℕ) (w : World) → IsArray count w.memory → is_clean (alone fuel task w) ≡ true

-- where the fuel serves for an action, and where it doesn't
within_clean : (fuels : Bool) (w : World) (next : World → Alone) → is_clean (next w) ≡ true → is_clean (within fuels w next) ≡ true
within_clean true w next clean = clean
within_clean false w next clean = refl

-- an action that answers and leaves the array, and what is clean behind it
due_clean : (count : ℕ) (at : Spot) (action : Action) (next : ℤ → Task) → ((w : World) → IsArray count w.memory → Keeps count action w) → ((word : ℤ) → CleanOver count (next word)) →
    CleanOver count (Due at action next)
due_clean count at action next keeps rest fuel w a =
    let k = keeps w a in
    within_clean (nat_lt w.cost fuel) w _
    (subst (λ (r : Acted). is_clean (behind (accesses_of action w) (alone_behind (answered at.place r) (λ word w. alone fuel (next word) w))) ≡ true) (sym k.answers)
    (rest k.word fuel k.after k.array_stays))

-- a print answers its number
print_keeps : (count : ℕ) (number : ℤ) (w : World) → IsArray count w.memory → Keeps count (PrintNumber number) w
print_keeps count number w a = record { word = _; after = _; answers = refl; array_stays = a }

-- ---- a fork of two branches

-- a branch of stores neither halts nor traps
no_such : (such : Ending → Option Ending) → such Done ≡ None → such Spent ≡ None → (P : ℕ → Type 0) (a : Alone) → StoresAlone P a → such a.ending ≡ None
no_such such done spent P a s = ⊎_elim (λ e. ap such e ∙ done) (λ e. ap such e ∙ spent) s.ending

first_of_none : (such : Ending → Option Ending) (a b : Alone) → such a.ending ≡ None → such b.ending ≡ None → first_such such (a ∷ b ∷ []) ≡ None
first_of_none such a b e f = rw (e, f) refl

module _ (P Q : ℕ → Type 0) (a b : Alone) (first : StoresAlone P a) (second : StoresAlone Q b) where
  none_halts : first_such halting (a ∷ b ∷ []) ≡ None
  none_halts = first_of_none halting a b (no_such halting refl refl P a first) (no_such halting refl refl Q b second)

  none_traps : first_such trapping (a ∷ b ∷ []) ≡ None
  none_traps = first_of_none trapping a b (no_such trapping refl refl P a first) (no_such trapping refl refl Q b second)

  -- what is behind the join
  joined_clean : (fuel : ℕ) (w : World) (came : Came (Unit {0})) (next : World → Alone) → Joins fuel (a ∷ b ∷ []) w came → is_clean (next (merged w (a ∷ b ∷ []))) ≡ true →
      is_clean (alone_behind came (λ _ w. next w)) ≡ true
  joined_clean fuel w _ next (Halts ending h) clean = let never = sym none_halts ∙ h in absurd cc
  joined_clean fuel w _ next (RunsOut h out) clean = refl
  joined_clean fuel w _ next (Traps h out ending t) clean = let never = sym none_traps ∙ t in absurd cc
  joined_clean fuel w _ next (Passes h out t) clean = clean

  -- branches that are apart, and what is clean behind them
  forked_clean : (rest : Alone) → are_apart a.accesses b.accesses ≡ true → is_clean rest ≡ true → is_clean (behind_fork (a ∷ b ∷ []) rest) ≡ true
  forked_clean rest apart clean = rw (first.apart, second.apart, apart) clean

-- the memory behind both has the array
merged_array : (count : ℕ) (w : World) (a b : Alone) → IsArray count w.memory → AllByRecursion (At (λ i. i < count)) a.accesses → AllByRecursion (At (λ i. i < count)) b.accesses →
    IsArray count (merged w (a ∷ b ∷ [])).memory
merged_array count w a b is one other =
    rw (after-append w.memory a.accesses (b.accesses ++ [])) (
    let behind_one = IsArray-after count a.accesses w.memory is one in
    rw (after-append _ b.accesses []) (IsArray-after count b.accesses _ behind_one other))

-- what is asked of the stores of two blocks
record Blocks (count : ℕ) (left right : List Store) : Type 0 where
  left_below : All (λ (t : Store). t.index < count) left
  right_below : All (λ (t : Store). t.index < count) right
  differ : All (λ (t : Store). All (λ (o : Store). o.index ≢ t.index) left) right

-- two branches, each in a context of its own
module _ (count : ℕ) (c d : Context) (slots : Slots) (pointer : word_of slots 0 ≡ array) (parent : Task) (behind_clean : CleanOver count parent) where
  module _ (left right : List Store) (b : Blocks count left right) (fuel : ℕ) (w : World) (is : IsArray count w.memory) where
    abbrev one : Alone
    one = alone fuel (stores_task c slots left) w

    abbrev other : Alone
    other = alone fuel (stores_task d slots right) w

    one_below : StoresAlone (λ i. i < count) one
    one_below = stores_alone count (λ i. i < count) c slots pointer left b.left_below b.left_below fuel w is

    other_below : StoresAlone (λ i. i < count) other
    other_below = stores_alone count (λ i. i < count) d slots pointer right b.right_below b.right_below fuel w is

    -- the second block accesses no element that the first stores to
    free : All (λ (o : Store). IsFree other.accesses o.index) left
    free =
        All-weaker (λ (o : Store). All (λ (t : Store). o.index ≢ t.index) right) (λ (o : Store). IsFree other.accesses o.index)
        (λ o h. (stores_alone count (λ j. o.index ≢ j) d slots pointer right b.right_below h fuel w is).accesses) left
        (All-swap (λ (o t : Store). o.index ≢ t.index) left right b.differ)

    apart : are_apart one.accesses other.accesses ≡ true
    apart = apart_accesses one.accesses other.accesses (stores_alone count (IsFree other.accesses) c slots pointer left b.left_below free fuel w is).accesses

    pair_clean : is_clean (alone fuel (Fork (more (stores_task c slots left) (more (stores_task d slots right) none)) parent) w) ≡ true
    pair_clean =
        forked_clean (λ i. i < count) (λ i. i < count) one other one_below other_below (alone_behind (joined fuel (one ∷ other ∷ []) w) (λ _ w. alone fuel parent w)) apart
        (joined_clean (λ i. i < count) (λ i. i < count) one other one_below other_below fuel w (joined fuel (one ∷ other ∷ []) w) (λ w. alone fuel parent w) (joins fuel (one ∷ other ∷ []) w)
        (behind_clean fuel (merged w (one ∷ other ∷ [])) (merged_array count w one other is one_below.accesses other_below.accesses)))

  -- the fork is passed where no store is due
  both_clean : (left right : List Store) → Blocks count left right → CleanOver count (forked (more (stores_task c slots left) (more (stores_task d slots right) none)) parent)
  both_clean [] [] b = behind_clean
  both_clean (s ∷ left) right b = pair_clean (s ∷ left) right b
  both_clean [] (t ∷ right) b = pair_clean [] (t ∷ right) b

-- ---- the body

-- a branch of a plain form has its statements
out_roll : (at : Place) (body : List PStmt) → (out-Branch (roll-Branch (record { at = at; body = body }))).body ≡ body
out_roll at body = search (rules, the_lemmas)

branch_is : (d : Context) (at : Place) (made : List Slot) (stores : List Store) (slots : Slots) → leaf (exec_branch d (branch at (stores_made made stores)) slots) ≡ stores_task d slots stores
branch_is d at made stores slots =
    ap (leaf {L = Slots}) (exec_branch-body d (branch at (stores_made made stores)) slots ∙ ap (λ (body : List PStmt). exec_all d body slots) (out_roll at (map plain_store stores)))

-- behind the body
abbrev pub at_end : Next (Flow Slots)
at_end flow = returned flow (λ word passed. Ended Done)

module _ (count : ℕ) (c : Context) where
  -- statements that are clean where the first slot points to the array
  abbrev BodyClean : List PStmt → Type 0
  BodyClean body = (slots : Slots) (passed : ℕ) → word_of slots 0 ≡ array → CleanOver count (exec_all c body slots at_end passed)

  -- where an action is due
  abbrev spot : (passed : ℕ) → Place → Spot
  spot passed at = record { path = c.branch ++ passed ∷ []; place = at }

  store_clean : (s : Store) (rest : List PStmt) → s.index < count → BodyClean rest → BodyClean (plain_store s ∷ rest)
  store_clean s rest below clean slots passed pointer =
      due_clean count (spot passed s.at) (StoreWord (word_of slots 0) (pos s.index) 0 s.value) (λ _. exec_all c rest slots at_end passed)
      (λ w a. subst (λ p. Keeps count (StoreWord p (pos s.index) 0 s.value) w) (sym pointer) (store_keeps count s.index s.value w a below))
      (λ _. clean slots passed pointer)

  stores_clean : (stores : List Store) (rest : List PStmt) → All (λ (t : Store). t.index < count) stores → BodyClean rest → BodyClean (map plain_store stores ++ rest)
  stores_clean [] rest below clean = clean
  stores_clean (s ∷ stores) rest below clean =
      store_clean s (map plain_store stores ++ rest) (All-head (λ (t : Store). t.index < count) s stores below)
      (stores_clean stores rest (All-tail (λ (t : Store). t.index < count) s stores below) clean)

  print_clean : (at : Place) (index n : ℕ) (rest : List PStmt) → index < count → 0 ≢ n → BodyClean rest → BodyClean (plain_load at index n ∷ plain_print at n ∷ rest)
  print_clean at index n rest below other clean slots passed pointer =
      due_clean count (spot passed at) (Load (word_of slots 0) (pos index) 0) (λ word. exec_all c (plain_print at n ∷ rest) (slice_set slots n word) at_end passed)
      (λ w a. subst (λ p. Keeps count (Load p (pos index) 0) w) (sym pointer) (load_keeps count index w a below))
      (λ word.
      due_clean count (spot passed at) (PrintNumber (word_of (slice_set slots n word) n)) (λ _. exec_all c rest (slice_set slots n word) at_end passed)
      (print_keeps count (word_of (slice_set slots n word) n))
      (λ _. clean (slice_set slots n word) passed (get_or-set_other slots n 0 word (pos 0) other ∙ pointer)))

  steps_clean : (n : ℕ) (steps : List Step) (rest : List PStmt) → 0 < n → All (λ (t : Step). step_index t < count) steps → BodyClean rest → BodyClean (plain_steps n steps ++ rest)
  steps_clean n [] rest some below clean = clean
  steps_clean n (StoreStep s ∷ steps) rest some below clean =
      store_clean s (plain_steps n steps ++ rest) (All-head (λ (t : Step). step_index t < count) (StoreStep s) steps below)
      (steps_clean n steps rest some (All-tail (λ (t : Step). step_index t < count) (StoreStep s) steps below) clean)
  steps_clean n (PrintStep at index ∷ steps) rest some below clean =
      print_clean at index n (plain_steps (n + 1) steps ++ rest) (All-head (λ (t : Step). step_index t < count) (PrintStep at index) steps below) (λ e. absurd (omega (arith, e, some)))
      (steps_clean (n + 1) steps rest (omega (arith, some)) (All-tail (λ (t : Step). step_index t < count) (PrintStep at index) steps below) clean)

  fork_clean : (made : List Slot) (s : Slice) (rest : List PStmt) → Blocks count s.left.stores s.right.stores → BodyClean rest → BodyClean (plain_fork made s ∷ rest)
  fork_clean made s rest b clean slots passed pointer =
      let blocks = branch s.left.at (stores_made made s.left.stores) ∷ branch s.right.at (stores_made made s.right.stores) ∷ [] in
      subst (λ (ts : Tasks). CleanOver count (forked ts (exec_all c rest slots at_end (suc passed))))
      (sym (
      branches-list c passed blocks slots
      ∙ ap₂ (λ (t u : Task). more t (more u none)) (branch_is (child c passed 0) s.left.at made s.left.stores slots) (branch_is (child c passed 1) s.right.at made s.right.stores slots)))
      (both_clean count (child c passed 0) (child c passed 1) slots pointer (exec_all c rest slots at_end (suc passed)) (clean slots (suc passed) pointer) s.left.stores s.right.stores b)

-- what the declaration leaves: a trap, or a memory with the array alone
allocated_clean : (count words fuel : ℕ) (at : Place) (next : ℤ → Task) → 0 < count → CleanOver count (next array) →
    is_clean (alone_behind (answered at (act (Allocate (pos count) 1) (start words))) (λ word w. alone fuel (next word) w)) ≡ true
allocated_clean zero words fuel at next some clean = absurd (omega arith)
allocated_clean (suc k) words fuel at next some clean =
    cond_both (nat_lt words (suc k * 1)) _ _ (λ r. is_clean (alone_behind (answered at r) (λ word w. alone fuel (next word) w)) ≡ true) (λ _. refl)
    (λ _. clean fuel _ (record { fields = refl; words = length-replicate (suc k * 1) (pos 0) ∙ mul-one (suc k) }))

-- The statements of an accepted slice are clean, where there is a slot for the array.
pub statements_clean : (c : Context) (name : List ℕ) (s : Slice) → IsAccepted s → (slots : Slots) → 0 < length slots → (fuel words : ℕ) →
    is_clean (alone fuel (exec_all c (plain_statements name s) slots at_end 0) (start words)) ≡ true
statements_clean c name s accepted slots some fuel words =
    let f = Accepted-from_check s accepted in
    let first = array_slot name ∷ [] in
    let end = steps_clean s.count c 1 s.after (plain_return s ∷ []) (omega arith) f.after (λ slots passed pointer fuel w a. refl) in
    let fork = fork_clean s.count c first s (plain_end first s) (record { left_below = f.left; right_below = f.right; differ = f.differ }) end in
    let body = stores_clean s.count c s.before (plain_fork first s ∷ plain_end first s) f.before fork in
    within_clean (nat_lt 0 fuel) (start words) _
    (allocated_clean s.count words fuel s.declaration (λ word. exec_all c (map plain_store s.before ++ (plain_fork first s ∷ plain_end first s)) (slice_set slots 0 word) at_end 0) f.some
    (body (slice_set slots 0 array) 0 (get_or-set_same slots 0 array (pos 0) some)))
