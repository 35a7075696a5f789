-- What an action prints.
use Rattle.std.proofs.Common.{◌≡◌, ℕ, zero, suc, ◌*◌, ℤ, pos, negsuc, nat_lt, List, [], ◌∷◌, ◌++◌, Option, None, Some, refl, sym, ap, ◌∙◌, append_assoc}
use Rattle.std.proofs.lemmas.List.{append-nil}
use Rattle.std.proofs.lemmas.Bool.{cond_both}
use Rattle.lq_meaning.specs.declared.memory.Address.{Address}
use Rattle.lq_meaning.specs.Memory.{reach}
use Rattle.lq_meaning.specs.declared.action.Action.{Action}
use Rattle.lq_meaning.specs.declared.action.Action.TheVariants.{Allocate, Load, Store, Print, Enter, Test, Start}
use Rattle.lq_meaning.specs.World.{World, Acted, counted, allocated, take_words, loaded, stored, entered, act}
use Rattle.lq_meaning.proofs.Costs.{left_by}

-- what was printed is a front of what is printed now
abbrev pub Adds : List ℤ → List ℤ → Type 0
Adds old new = (added : List ℤ) × (new ≡ old ++ added)

pub Adds-none : (old : List ℤ) → Adds old old
Adds-none old = ([], sym (append-nil old))

pub Adds-trans : (old middle new : List ℤ) → Adds old middle → Adds middle new → Adds old new
Adds-trans old middle new (xs, e) (ys, h) = (xs ++ ys, h ∙ ap (λ ns. ns ++ ys) e ∙ append_assoc old xs ys)

take_words_adds : (w : World) (fields count : ℕ) → Adds w.printed (left_by (take_words w fields count)).printed
take_words_adds w fields count = cond_both (nat_lt w.left (count * fields)) _ _ (λ (r : Acted). Adds w.printed (left_by r).printed) (λ _. Adds-none w.printed) (λ _. Adds-none w.printed)

allocated_adds : (w : World) (count : ℤ) (fields : ℕ) → Adds w.printed (left_by (allocated w count fields)).printed
allocated_adds w (pos zero) fields = Adds-none w.printed
allocated_adds w (pos (suc n)) fields = take_words_adds w fields (suc n)
allocated_adds w (negsuc n) fields = Adds-none w.printed

loaded_adds : (w : World) (r : Option Address) → Adds w.printed (left_by (loaded w r)).printed
loaded_adds w None = Adds-none w.printed
loaded_adds w (Some a) = Adds-none w.printed

stored_adds : (w : World) (r : Option Address) (word : ℤ) → Adds w.printed (left_by (stored w r word)).printed
stored_adds w None word = Adds-none w.printed
stored_adds w (Some a) word = Adds-none w.printed

entered_adds : (w : World) (more : ℕ) → Adds w.printed (left_by (entered w more)).printed
entered_adds w zero = Adds-none w.printed
entered_adds w (suc more) = Adds-none w.printed

-- an action prints behind what was printed
pub act_adds : (action : Action) (w : World) → Adds w.printed (left_by (act action w)).printed
act_adds (Allocate count fields) w = allocated_adds (counted w) count fields
act_adds (Load p i field) w = loaded_adds (counted w) (reach w.memory p i field)
act_adds (Store p i field word) w = stored_adds (counted w) (reach w.memory p i field) word
act_adds (Print number) w = (number ∷ [], refl)
act_adds (Enter more) w = entered_adds (counted w) more
act_adds Test w = Adds-none w.printed
act_adds Start w = Adds-none w.printed
