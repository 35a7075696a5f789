-- The rule of one deque (docs/THREADS.md, "Stealing"). Pushes, pops, steals, splits and joins are to keep it (specs/Steps.antt).
use Rattle.std.specs.Prelude.{◌≡◌, ◌⊎◌, ⊤, ℕ, ◌+◌, ◌%◌, ◌<◌, List, [], ◌∷◌, map, length, sum_by}
use Rattle.std.specs.List.{AllByRecursion}
use mathlib.Core.Option.{some}
use lib.ListN.{get_elem?}
use Rattle.lq_claims.specs.View.{times}
use Rattle.lq_steal.specs.declared.view.View.{View}
use Rattle.lq_steal.specs.View.{all_stakes, spent}

-- each number is below those behind it
abbrev pub Ascends : List ℕ → Type 0
Ascends [] = ⊤
Ascends (number ∷ numbers) = AllByRecursion (λ behind. number < behind) numbers × Ascends numbers

-- how many passes took a number
abbrev pub takers : List View → (number : ℕ) → ℕ
takers views number = sum_by (λ (v : View). times number v.taken) views

-- the chunks were dealt to one deque: chunk j goes to deque j mod the number of deques
abbrev pub AreDealt : (deques deque : ℕ) → List ℕ → Type 0
AreDealt deques deque numbers = AllByRecursion (λ number. number % deques ≡ deque) numbers

-- the stakes of all passes are all there are, and a pass without one has nothing
pub record HasStakes (views : List View) : Type 0 where
  pub all : sum_by (λ (v : View). v.stakes) views ≡ all_stakes
  pub without : (pass : ℕ) (v : View) → get_elem? views pass ≡ some v → v.stakes ≡ 0 → v ≡ spent

-- these numbers were put, and one pass knows them
pub record WerePut (put : List ℕ) (views : List View) : Type 0 where
  pub known : (pass : ℕ) (v : View) → get_elem? views pass ≡ some v → (v.put ≡ []) ⊎ (v.put ≡ put)
  pub once : sum_by (λ (v : View). length v.put) views ≡ length put

module _ {T : Type 0} (number : T → ℕ) (deques : ℕ) (waiting : T → Type 0) where
  -- The numbers that were put ascend, and were dealt to this deque. Each stands in one place: in the deque, or in what one pass took. The numbers in
  -- the deque ascend, and the tasks there wait.
  pub record IsHanded (tasks : List T) (views : List View) : Type 0 where
    pub put : List ℕ
    pub deque : ℕ
    pub were_put : WerePut put views
    pub ascend : Ascends put
    pub dealt : AreDealt deques deque put
    pub placed : (k : ℕ) → times k put ≡ times k (map number tasks) + takers views k
    pub queued : Ascends (map number tasks)
    pub wait : AllByRecursion waiting tasks
    pub stakes : HasStakes views
