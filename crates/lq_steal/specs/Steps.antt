-- What each kind of step does to the one view, and what it tells (docs/THREADS.md, "Stealing").
use Rattle.std.specs.Prelude.{◌≡◌, ℕ, ◌+◌, ◌-◌, List, [], ◌++◌, map}
use Rattle.std.specs.List.{AllByRecursion}
use Rattle.lq_claims.specs.View.{times}
use Rattle.lq_steal.specs.declared.view.View.{View}
use Rattle.lq_steal.specs.View.{all_stakes}

module _ {T : Type 0} (number : T → ℕ) where
  -- the numbers of the tasks are put too
  abbrev pub Pushed : View → List T → View → Type 0
  Pushed old tasks new = new ≡ record old { put = old.put ++ map number tasks }

  -- the numbers of the tasks are taken too, and the tasks were waiting
  abbrev pub Taken : (waiting : T → Type 0) → View → List T → View → Type 0
  Taken waiting old tasks new = (new ≡ record old { taken = old.taken ++ map number tasks }) × AllByRecursion waiting tasks

  -- who has all stakes knows where each number is: what was put is in the deque or was taken
  abbrev pub KnowsAll : View → (tasks : List T) → Type 0
  KnowsAll v tasks = v.stakes ≡ all_stakes → (k : ℕ) → times k v.put ≡ times k (map number tasks) + times k v.taken

-- and on an empty deque that each was taken
abbrev pub FoundEmpty : View → Type 0
FoundEmpty v = v.stakes ≡ all_stakes → (k : ℕ) → times k v.put ≡ times k v.taken

-- of a split, what stays with the pass
abbrev pub kept_part : View → View
kept_part v = record v { stakes = v.stakes - 1 }

-- and what the new one has
abbrev pub given_part : View → View
given_part v = record { stakes = 1; put = []; taken = [] }

-- a join puts the numbers together and adds the stakes
abbrev pub joined_view : View → View → View
joined_view v w = record { stakes = v.stakes + w.stakes; put = v.put ++ w.put; taken = v.taken ++ w.taken }
