-- Two deques, of which this one is dealt the chunks 1, 3 and 5: what each step does to a view, and deques that the rule refuses.
use Rattle.std.proofs.Common.{◌≡◌, ℕ, List, [], ◌∷◌, length, sym, ap, refl, subst, ⊎_elim, arith}
use Rattle.lq_claims.specs.View.{times}
use Rattle.lq_steal.specs.declared.view.View.{View}
use Rattle.lq_steal.specs.View.{first_view}
use Rattle.lq_steal.specs.Handed.{AreDealt, IsHanded}
use Rattle.lq_steal.specs.Steps.{Pushed, Taken, kept_part, given_part, joined_view}

-- what a pass knows
abbrev view : (stakes : ℕ) → (put taken : List ℕ) → View
view stakes put taken = record { stakes = stakes; put = put; taken = taken }

-- a task is its number, and any waits
abbrev number_of : ℕ → ℕ
number_of task = task

abbrev waits : ℕ → Type 0
waits task = Unit {0}

begins : first_view ≡ view 1024 [] []
begins = refl

pushes : Pushed number_of (view 1024 (1 ∷ []) []) (3 ∷ []) (view 1024 (1 ∷ 3 ∷ []) [])
pushes = refl

gives_a_pass : given_part (view 1024 (1 ∷ 3 ∷ 5 ∷ []) []) ≡ view 1 [] []
gives_a_pass = refl

keeps_the_numbers : kept_part (view 1024 (1 ∷ 3 ∷ 5 ∷ []) []) ≡ view 1023 (1 ∷ 3 ∷ 5 ∷ []) []
keeps_the_numbers = refl

takes : Taken number_of waits (view 1 [] (1 ∷ [])) (3 ∷ []) (view 1 [] (1 ∷ 3 ∷ []))
takes = (refl, (tt, tt))

joins : joined_view (view 1023 (1 ∷ 3 ∷ 5 ∷ []) (5 ∷ [])) (view 1 [] (1 ∷ 3 ∷ [])) ≡ view 1024 (1 ∷ 3 ∷ 5 ∷ []) (5 ∷ 1 ∷ 3 ∷ [])
joins = refl

-- ---- deques that the rule refuses

abbrev Refuses : (tasks : List ℕ) → List View → Type 0
Refuses tasks views = IsHanded number_of 2 waits tasks views → ⊥

-- a chunk was taken twice
taken_twice : Refuses (3 ∷ []) (view 1022 (1 ∷ 3 ∷ []) [] ∷ view 1 [] (1 ∷ []) ∷ view 1 [] (1 ∷ []) ∷ [])
taken_twice h =
    ⊎_elim
    (λ (e : (1 ∷ 3 ∷ []) ≡ []). let long = ap (λ (ns : List ℕ). length ns) e in absurd (omega arith))
    (λ (e : (1 ∷ 3 ∷ []) ≡ h.put). let placed = h.placed 1 in let put = ap (λ (ns : List ℕ). times 1 ns) e in absurd (omega arith))
    (h.were_put.known 0 (view 1022 (1 ∷ 3 ∷ []) []) refl)

-- one that was taken is in the deque
taken_and_left : Refuses (1 ∷ 3 ∷ []) (view 1023 (1 ∷ 3 ∷ []) [] ∷ view 1 [] (1 ∷ []) ∷ [])
taken_and_left h =
    ⊎_elim
    (λ (e : (1 ∷ 3 ∷ []) ≡ []). let long = ap (λ (ns : List ℕ). length ns) e in absurd (omega arith))
    (λ (e : (1 ∷ 3 ∷ []) ≡ h.put). let placed = h.placed 1 in let put = ap (λ (ns : List ℕ). times 1 ns) e in absurd (omega arith))
    (h.were_put.known 0 (view 1023 (1 ∷ 3 ∷ []) []) refl)

-- one that was put is nowhere
lost : Refuses (3 ∷ []) (view 1024 (1 ∷ 3 ∷ []) [] ∷ [])
lost h =
    ⊎_elim
    (λ (e : (1 ∷ 3 ∷ []) ≡ []). let long = ap (λ (ns : List ℕ). length ns) e in absurd (omega arith))
    (λ (e : (1 ∷ 3 ∷ []) ≡ h.put). let placed = h.placed 1 in let put = ap (λ (ns : List ℕ). times 1 ns) e in absurd (omega arith))
    (h.were_put.known 0 (view 1024 (1 ∷ 3 ∷ []) []) refl)

-- the deque turned round
turned_round : Refuses (3 ∷ 1 ∷ []) (view 1024 (1 ∷ 3 ∷ []) [] ∷ [])
turned_round h = let first = h.queued.0.0 in absurd (omega arith)

-- chunks of two deques
dealt_to_another : Refuses (1 ∷ 2 ∷ []) (view 1024 (1 ∷ 2 ∷ []) [] ∷ [])
dealt_to_another h =
    ⊎_elim
    (λ (e : (1 ∷ 2 ∷ []) ≡ []). let long = ap (λ (ns : List ℕ). length ns) e in absurd (omega arith))
    (λ (e : (1 ∷ 2 ∷ []) ≡ h.put). let dealt = subst (AreDealt 2 h.deque) (sym e) h.dealt in let one = dealt.0 in let two = dealt.1.0 in absurd (omega arith))
    (h.were_put.known 0 (view 1024 (1 ∷ 2 ∷ []) []) refl)

-- a stake is lost
stake_lost : Refuses [] (view 1022 [] [] ∷ view 1 [] [] ∷ [])
stake_lost h = let stakes = h.stakes.all in absurd (omega arith)

-- a pass without a stake took something
stakeless : Refuses [] (view 1024 (1 ∷ []) [] ∷ view 0 [] (1 ∷ []) ∷ [])
stakeless h =
    let e = ap (λ (u : View). length u.taken) (h.stakes.without 1 (view 0 [] (1 ∷ [])) refl refl) in
    absurd (omega arith)

-- two passes put chunks
put_by_two : Refuses (1 ∷ 3 ∷ []) (view 1023 (1 ∷ []) [] ∷ view 1 (3 ∷ []) [] ∷ [])
put_by_two h =
    ⊎_elim
    (λ (e : (1 ∷ []) ≡ []). let long = ap (λ (ns : List ℕ). length ns) e in absurd (omega arith))
    (λ (e : (1 ∷ []) ≡ h.put). let once = h.were_put.once in let long = ap (λ (ns : List ℕ). length ns) e in absurd (omega arith))
    (h.were_put.known 0 (view 1023 (1 ∷ []) []) refl)
