-- What a seat knows of the claims (docs/THREADS.md, "Claims").
use Rattle.std.specs.Prelude.{ℕ, ◌==◌, false, List, [], ◌++◌, count_by}
use Rattle.lq_claims.specs.declared.view.View.{View}

-- how often a number stands in a list
abbrev pub times : (number : ℕ) → List ℕ → ℕ
times number numbers = count_by (λ other. other == number) numbers

-- the numbers that a view claimed: those that it holds, and those that it gave back
abbrev pub claimed : View → List ℕ
claimed v = v.held ++ v.returned

-- a view with nothing
abbrev pub spent : View
spent = record { chunks = 0; draws = 0; stakes = 0; past = false; held = []; returned = [] }
