-- What a pass knows of a deque (docs/THREADS.md, "Stealing").
use Rattle.std.specs.Prelude.{ℕ, []}
use Rattle.lq_steal.specs.declared.view.View.{View}

-- how many stakes of a deque there are
abbrev pub all_stakes : ℕ
all_stakes = 1024

-- the caller at the beginning: all stakes, and no chunk
abbrev pub first_view : View
first_view = record { stakes = all_stakes; put = []; taken = [] }

-- a view with nothing
abbrev pub spent : View
spent = record { stakes = 0; put = []; taken = [] }
