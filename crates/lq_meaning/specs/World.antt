-- What the actions of a program find and leave (docs/LANGUAGE.md, "Costs" and "Traps").
use Rattle.std.specs.Prelude.{ℕ, zero, suc, ◌+◌, ◌-◌, ◌*◌, ℤ, pos, negsuc, nat_lt, if◌then◌else◌, List, [], ◌∷◌, ◌++◌, length, Option, None, Some}
use Rattle.lq_tree.specs.declared.trap.TrapKind.{TrapKind}
use Rattle.lq_tree.specs.declared.trap.TrapKind.TheVariants.{Count, Words, Depth}
use Rattle.lq_meaning.specs.declared.action.Action.{Action}
use Rattle.lq_meaning.specs.declared.action.Action.TheVariants.{Allocate, Load, Store, Print, Enter, Test, Start}
use Rattle.lq_meaning.specs.Word.{pointer}
use Rattle.lq_meaning.specs.declared.memory.Address.{Address}
use Rattle.lq_meaning.specs.Memory.{Blocks, reach, word_at, with_word, with_block}

-- the memory, the words that are left for a calloc, the cost so far, and the numbers printed so far
pub record World : Type 0 where
  pub memory : Blocks
  pub left : ℕ
  pub cost : ℕ
  pub printed : List ℤ

-- what comes of an action: a word, a trap or a stray
pub data Acted : Type 0 where
  Answers : (word : ℤ) → (after : World) → Acted
  Traps : (kind : TrapKind) → (after : World) → Acted
  Strays : (after : World) → Acted

-- the action is counted before anything else, also where it traps or strays
abbrev pub counted : World → World
counted w = record { memory = w.memory; left = w.left; cost = w.cost + 1; printed = w.printed }

-- a calloc of this many elements, which is at least one
abbrev pub take_words : World → (fields count : ℕ) → Acted
take_words w fields count =
    if nat_lt w.left (count * fields) then Traps Words w
    else Answers (pointer (length w.memory + 1) 0) (record { memory = with_block w.memory fields count; left = w.left - count * fields; cost = w.cost; printed = w.printed })

-- the count is tested before the words
abbrev pub allocated : World → ℤ → ℕ → Acted
allocated w (pos zero) fields = Traps Count w
allocated w (pos (suc n)) fields = take_words w fields (suc n)
allocated w (negsuc n) fields = Traps Count w

-- a load answers the word of its address, or strays without one
abbrev pub loaded : World → Option Address → Acted
loaded w None = Strays w
loaded w (Some a) = Answers (word_at w.memory a) w

-- a store answers the word that it wrote
abbrev pub stored : World → Option Address → ℤ → Acted
stored w None word = Strays w
stored w (Some a) word = Answers word (record { memory = with_word w.memory a word; left = w.left; cost = w.cost; printed = w.printed })

-- a print adds its number behind those before
abbrev pub printed : World → ℤ → Acted
printed w number = Answers number (record { memory = w.memory; left = w.left; cost = w.cost; printed = w.printed ++ number ∷ [] })

-- a call is one function too many where no more may become active
abbrev pub entered : World → ℕ → Acted
entered w zero = Traps Depth w
entered w (suc more) = Answers (pos 0) w

-- what an action does
abbrev pub act : Action → World → Acted
act (Allocate count fields) w = allocated (counted w) count fields
act (Load p index field) w = loaded (counted w) (reach w.memory p index field)
act (Store p index field word) w = stored (counted w) (reach w.memory p index field) word
act (Print number) w = printed (counted w) number
act (Enter more) w = entered (counted w) more
act Test w = Answers (pos 0) (counted w)
act Start w = Answers (pos 0) (counted w)
