-- Two workers and two chunks: what each step does to a view, and states that the rule refuses.
use Rattle.std.proofs.Common.{◌≡◌, ℕ, Bool, true, false, true≢false, List, [], ◌∷◌, sym, ap, refl, ⊎_elim, arith}
use mathlib.Core.Option.{Option, some, none, some-injective, some-ne-none}
use Rattle.atomic_table.specs.Table.{State, step}
use Rattle.lq_claims.specs.declared.view.Round.{Round}
use Rattle.lq_claims.specs.declared.view.View.{View}
use Rattle.lq_claims.specs.View.{spent}
use Rattle.lq_claims.specs.Claims.{IsRight, IsKept, opening_view}
use Rattle.lq_claims.specs.Steps.{Claims, GivesBack, given_back, kept_part, given_part, joined_view}

abbrev two : Round
two = record { chunks = 2; workers = 2 }

-- what a seat knows in this round
abbrev view : (draws stakes : ℕ) → Bool → (held returned : List ℕ) → View
view draws stakes past held returned = record { chunks = 2; draws = draws; stakes = stakes; past = past; held = held; returned = returned }

-- a slot has 0 while its chunk waits, and 1 when it is finished
abbrev waits : (number slot : ℕ) → Type 0
waits number slot = slot ≡ 0

abbrev is_done : (number slot : ℕ) → Type 0
is_done number slot = slot ≡ 1

-- the caller begins with three draws for each worker
begins : opening_view two ≡ view 6 1024 false [] []
begins = refl

-- three of them go to a worker
stays : kept_part 3 (view 6 1024 false [] []) ≡ view 3 1023 false [] []
stays = refl

goes : given_part 3 (view 6 1024 true (1 ∷ []) (0 ∷ [])) ≡ view 3 1 false [] []
goes = refl

-- the worker draws 0, and the slot goes out to it
claims_first : Claims waits (step 2 1 1 0 none) (view 3 1 false [] [], []) 0 (view 2 1 false (0 ∷ []) [], (0, 0) ∷ [])
claims_first = record { drawn = (0, refl, refl); within = omega arith }

-- it gives it back, finished, behind an earlier one
gives_back : GivesBack {S = ℕ} (step 2 2 1 0 none) (view 1 1 false (1 ∷ []) (0 ∷ []), (1, 1) ∷ []) 1 (view 1 1 false [] (1 ∷ 0 ∷ []), [])
gives_back = refl

-- the last one that was claimed is the first that goes back
gives_last_back : given_back (view 1 1 false (1 ∷ 0 ∷ []) []) (1 ∷ 0 ∷ []) ≡ view 1 1 false (0 ∷ []) (1 ∷ [])
gives_last_back = refl

-- it draws 2, which is the number of no chunk
claims_none : Claims {S = ℕ} waits (step 2 1 1 0 none) (view 1 1 false [] (1 ∷ 0 ∷ []), []) 2 (view 0 1 true [] (1 ∷ 0 ∷ []), [])
claims_none = record { drawn = refl; within = omega arith }

-- nobody claims such a number
no_such_chunk : (slot : ℕ) → Claims waits (step 2 1 1 0 none) (view 3 1 false [] [], []) 2 (view 2 1 false (2 ∷ []) [], (2, slot) ∷ []) → ⊥
no_such_chunk slot told = true≢false (sym (ap (λ (me : View × List (ℕ × ℕ)). me.0.past) told.drawn))

-- the caller takes in the worker
joins : joined_view (view 2 1023 true [] []) (view 0 1 false [] (1 ∷ 0 ∷ [])) ≡ view 2 1024 true [] (1 ∷ 0 ∷ [])
joins = refl

joins_a_mark : joined_view (view 2 1023 false [] []) (view 0 1 true [] (1 ∷ 0 ∷ [])) ≡ view 2 1024 true [] (1 ∷ 0 ∷ [])
joins_a_mark = refl

-- ---- states that the rule refuses

abbrev state : (next back : ℕ) → List (Option ℕ) → List View → State ℕ View
state next back homes views = record { words = 0 ∷ next ∷ back ∷ []; homes = homes; views = views }

-- two seats hold one number
held_twice : IsKept waits is_done two (state 1 0 (none ∷ some 0 ∷ []) (view 2 1023 false (0 ∷ []) [] ∷ view 3 1 false (0 ∷ []) [] ∷ [])) → ⊥
held_twice kept = let once = kept.claimed.once 0 (omega arith) in absurd (omega arith)

-- a number that was drawn is with nobody
lost : IsKept waits is_done two (state 1 0 (none ∷ some 0 ∷ []) (view 2 1023 false [] [] ∷ view 3 1 false [] [] ∷ [])) → ⊥
lost kept = let once = kept.claimed.once 0 (omega arith) in absurd (omega arith)

-- a number is with a seat before it was drawn
not_drawn : IsKept waits is_done two (state 0 0 (none ∷ some 0 ∷ []) (view 3 1023 false (0 ∷ []) [] ∷ view 3 1 false [] [] ∷ [])) → ⊥
not_drawn kept = let none_there = kept.claimed.no_other 0 (omega arith) in absurd (omega arith)

-- a slot is at home while its number is held
at_home : IsKept waits is_done two (state 1 0 (some 0 ∷ some 0 ∷ []) (view 2 1023 false (0 ∷ []) [] ∷ view 3 1 false [] [] ∷ [])) → ⊥
at_home kept = let out = kept.slots.out 0 (omega arith) in some-ne-none 0 (some-injective (some 0) none out)

-- a chunk was given back that still waits
unfinished : IsKept waits is_done two (state 1 1 (some 0 ∷ some 0 ∷ []) (view 2 1023 false [] (0 ∷ []) ∷ view 3 1 false [] [] ∷ [])) → ⊥
unfinished kept =
    let back = kept.slots.back 0 (omega arith) in
    let same = some-injective 0 back.0 (some-injective (some 0) (some back.0) back.1) in
    let done = back.2 in
    absurd (omega arith)

-- nobody has the last stake
stake_lost : IsKept waits is_done two (state 0 0 (some 0 ∷ some 0 ∷ []) (view 3 1022 false [] [] ∷ view 3 1 false [] [] ∷ [])) → ⊥
stake_lost kept = let stakes = kept.counted.stakes in absurd (omega arith)

-- a draw was made that no number tells of
draw_lost : IsKept waits is_done two (state 0 0 (some 0 ∷ some 0 ∷ []) (view 2 1023 false [] [] ∷ view 3 1 false [] [] ∷ [])) → ⊥
draw_lost kept = let draws = kept.counted.draws in absurd (omega arith)

-- a mark too early: a chunk is left
marked_early : IsKept waits is_done two (state 2 0 (none ∷ none ∷ []) (view 1 1023 true (1 ∷ 0 ∷ []) [] ∷ view 3 1 false [] [] ∷ [])) → ⊥
marked_early kept =
    ⊎_elim
    (λ (e : view 1 1023 true (1 ∷ 0 ∷ []) [] ≡ spent). let stakes = ap (λ (u : View). u.stakes) e in absurd (omega arith))
    (λ (r : IsRight 2 2 (view 1 1023 true (1 ∷ 0 ∷ []) [])). let past = r.past refl in absurd (omega arith))
    (kept.counted.right 0 (view 1 1023 true (1 ∷ 0 ∷ []) []) refl)

-- a number that a view without a stake holds
stakeless : IsKept waits is_done two (state 1 0 (none ∷ some 0 ∷ []) (view 5 1024 false [] [] ∷ view 0 0 false (0 ∷ []) [] ∷ [])) → ⊥
stakeless kept =
    ⊎_elim
    (λ (e : view 0 0 false (0 ∷ []) [] ≡ spent). let chunks = ap (λ (u : View). u.chunks) e in absurd (omega arith))
    (λ (r : IsRight 2 1 (view 0 0 false (0 ∷ []) [])). let stake = r.stake in absurd (omega arith))
    (kept.counted.right 1 (view 0 0 false (0 ∷ []) []) refl)

-- fewer are counted as given back than were
miscounted : IsKept waits is_done two (state 1 0 (some 1 ∷ some 0 ∷ []) (view 2 1023 false [] (0 ∷ []) ∷ view 3 1 false [] [] ∷ [])) → ⊥
miscounted kept = let back = kept.claimed.back in absurd (omega arith)
