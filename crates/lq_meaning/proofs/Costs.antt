-- Each action costs 1, whatever comes of it.
use Rattle.std.proofs.Common.{◌≡◌, ℕ, zero, suc, ◌+◌, ◌*◌, ℤ, pos, negsuc, nat_lt, Option, None, Some, refl}
use Rattle.std.proofs.lemmas.Bool.{cond_both}
use Rattle.lq_meaning.specs.declared.memory.Address.{Address}
use Rattle.lq_meaning.specs.Memory.{reach}
use Rattle.lq_meaning.specs.declared.action.Action.{Action}
use Rattle.lq_meaning.specs.declared.action.Action.TheVariants.{Allocate, Load, Store, Print, Enter, Test, Start}
use Rattle.lq_meaning.specs.World.{World, Acted, Answers, Traps, Strays, counted, allocated, take_words, loaded, stored, entered, act}

-- the world that an action leaves
abbrev pub left_by : Acted → World
left_by (Answers word w) = w
left_by (Traps kind w) = w
left_by (Strays w) = w

-- taking words costs nothing further
take_words-cost : (w : World) (fields count : ℕ) → (left_by (take_words w fields count)).cost ≡ w.cost
take_words-cost w fields count = cond_both (nat_lt w.left (count * fields)) _ _ (λ (r : Acted). (left_by r).cost ≡ w.cost) (λ _. refl) (λ _. refl)

-- nor does a calloc
allocated-cost : (w : World) (count : ℤ) (fields : ℕ) → (left_by (allocated w count fields)).cost ≡ w.cost
allocated-cost w (pos zero) fields = refl
allocated-cost w (pos (suc n)) fields = take_words-cost w fields (suc n)
allocated-cost w (negsuc n) fields = refl

-- nor a load
loaded-cost : (w : World) (r : Option Address) → (left_by (loaded w r)).cost ≡ w.cost
loaded-cost w None = refl
loaded-cost w (Some a) = refl

-- nor a store
stored-cost : (w : World) (r : Option Address) (word : ℤ) → (left_by (stored w r word)).cost ≡ w.cost
stored-cost w None word = refl
stored-cost w (Some a) word = refl

-- nor a call
entered-cost : (w : World) (more : ℕ) → (left_by (entered w more)).cost ≡ w.cost
entered-cost w zero = refl
entered-cost w (suc more) = refl

-- the world that an action leaves has cost 1 more
pub act-cost : (action : Action) (w : World) → (left_by (act action w)).cost ≡ w.cost + 1
act-cost (Allocate count fields) w = allocated-cost (counted w) count fields
act-cost (Load p i field) w = loaded-cost (counted w) (reach w.memory p i field)
act-cost (Store p i field word) w = stored-cost (counted w) (reach w.memory p i field) word
act-cost (Print number) w = refl
act-cost (Enter more) w = entered-cost (counted w) more
act-cost Test w = refl
act-cost Start w = refl
