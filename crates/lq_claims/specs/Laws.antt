-- What the rule means, what a split and a join do to the views, and what it is for a kind of step to keep a rule.
use Rattle.std.specs.Prelude.{◌≡◌, ◌≢◌, ℕ, ◌+◌, ◌*◌, ◌%◌, ◌^◌, ◌<◌, ◌≤◌, true, false, ◌||◌, List, [], ◌∷◌, ◌++◌, length, replicate}
use mathlib.Core.Option.{none, some}
use lib.ListN.{get_elem?}
use Rattle.atomic_table.specs.Table.{State, Step, Me, step, opening, Allows, Splits, Joins}
use Rattle.lq_claims.specs.declared.view.Round.{Round}
use Rattle.lq_claims.specs.declared.view.View.{View}
use Rattle.lq_claims.specs.View.{times, claimed}
use Rattle.lq_claims.specs.Claims.{all_stakes, back_count, IsHome}

-- all that may be drawn fits a word
abbrev pub Fits : Round → Type 0
Fits round = round.workers * (round.chunks + 1) < 2 ^ 64

module _ (S : Type 0) where
  -- a rule of the table: a fact of the words, the slots and all views, in a round
  abbrev pub Rule : Type 1
  Rule = Round → State S View → Type 0

  -- what a step tells: of the step, the seat before, the number found and the seat after
  abbrev pub Told : Type 1
  Told = Step S → Me S View → ℕ → Me S View → Type 0

module _ {S : Type 0} where
  -- a number that a seat claimed it claimed once, and no other seat did
  abbrev pub HasOneClaimer : Rule S → Type 0
  HasOneClaimer holds = (round : Round) (state : State S View) → holds round state
      → (number one other : ℕ) (v w : View) → one ≢ other → get_elem? state.views one ≡ some v → get_elem? state.views other ≡ some w
      → 0 < times number (claimed v) → (times number (claimed v) ≡ 1) × (times number (claimed w) ≡ 0)

  -- A seat with all stakes that is marked and holds no number: it gave back each number of a chunk once, every slot is at home with its
  -- chunk finished, and as many are back as there are chunks.
  abbrev pub KnowsAllAreBack : (ℕ → S → Type 0) → Rule S → Type 0
  KnowsAllAreBack finished holds = (round : Round) (state : State S View) → holds round state
      → (seat : ℕ) (v : View) → get_elem? state.views seat ≡ some v → v.stakes ≡ all_stakes → v.past ≡ true → v.held ≡ []
      → ((number : ℕ) → number < round.chunks → (times number v.returned ≡ 1) × IsHome finished state number)
      × (length v.returned ≡ round.chunks) × (back_count state.words ≡ round.chunks)

  -- a table whose slots have chunks that wait, with zeros for words and one seat, keeps the rule
  abbrev pub OpensKept : (ℕ → S → Type 0) → Rule S → (Round → View) → Type 0
  OpensKept waiting holds first = (round : Round) (chunks : List S) → length chunks ≡ round.chunks
      → ((number : ℕ) (x : S) → get_elem? chunks number ≡ some x → waiting number x)
      → holds round (opening (replicate 3 0) chunks (first round))

  -- a claim keeps it, where the view has a draw left
  abbrev pub ClaimsKeep : Rule S → Told S → Type 0
  ClaimsKeep holds then = (round : Round) → Fits round → (seat : ℕ) (me : Me S View) → 0 < me.0.draws
      → Allows (holds round) round.chunks seat me 1 (λ n. (n + 1) % 2 ^ 64) (then (step round.chunks 1 1 0 none) me)

  -- a return keeps it, of the chunk that was claimed last, where it is finished
  abbrev pub ReturnsKeep : (ℕ → S → Type 0) → Rule S → Told S → Type 0
  ReturnsKeep finished holds then = (round : Round) → Fits round → (seat : ℕ) (me : Me S View) (number : ℕ) (x : S) (held : List ℕ) (out : List (ℕ × S))
      → me.0.held ≡ number ∷ held → me.1 ≡ (number, x) ∷ out → finished number x
      → Allows (holds round) round.chunks seat me 2 (λ n. (n + 1) % 2 ^ 64) (then (step round.chunks 2 1 0 none) me)

  -- a split keeps it, of a view with a stake to spare and with the draws
  abbrev pub SplitsKeep : Rule S → (draws : ℕ) → (View → View) → (View → View) → Type 0
  SplitsKeep holds draws left right = (round : Round) (seat : ℕ) (v : View) → 1 < v.stakes → draws ≤ v.draws → Splits (holds round) seat v (left v) (right v)

  -- a join keeps it, into a view with a stake
  abbrev pub JoinsKeep : Rule S → (View → View → View) → View → Type 0
  JoinsKeep holds both spent = (round : Round) (seat other : ℕ) (v w : View) → 0 < v.stakes → Joins (holds round) seat v other w (both v w) spent

-- A split gives draws and one stake to a view that has neither numbers nor a mark, and loses none of either; the seat keeps its numbers
-- and its mark, and both know how many chunks there are.
abbrev pub DividesStakes : (draws : ℕ) → (View → View) → (View → View) → Type 0
DividesStakes draws left right = (v : View) → 1 < v.stakes → draws ≤ v.draws
    → ((left v).draws + (right v).draws ≡ v.draws) × ((right v).draws ≡ draws)
    × ((left v).stakes + (right v).stakes ≡ v.stakes) × ((right v).stakes ≡ 1)
    × ((left v).held ≡ v.held) × ((left v).returned ≡ v.returned) × (claimed (right v) ≡ [])
    × ((left v).past ≡ v.past) × ((right v).past ≡ false)
    × ((left v).chunks ≡ v.chunks) × ((right v).chunks ≡ v.chunks)

-- a join adds draws and stakes up, and the one view has the numbers of both, and a mark where either has
abbrev pub AddsStakes : (View → View → View) → View → Type 0
AddsStakes both spent = (v w : View)
    → ((both v w).draws ≡ v.draws + w.draws) × ((both v w).stakes ≡ v.stakes + w.stakes)
    × ((number : ℕ) → times number (claimed (both v w)) ≡ times number (claimed v) + times number (claimed w))
    × ((both v w).held ≡ v.held ++ w.held) × ((both v w).past ≡ (v.past || w.past)) × ((both v w).chunks ≡ v.chunks)
    × (claimed spent ≡ []) × (spent.draws ≡ 0) × (spent.stakes ≡ 0)
