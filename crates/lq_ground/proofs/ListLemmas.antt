-- Lists of slots, and of scopes.
use Rattle.std.proofs.Common.{◌≡◌, ℕ, suc, ◌+◌, ◌-◌, ◌<◌, ◌==◌, Bool, true, false, cond, List, [], ◌∷◌, ◌++◌, length, get_or, drop, drop-cons, add-one, slice_get, Some, filter, refl, ap, sym, ◌∙◌, arith, append_assoc}
use Rattle.std.specs.List.{range_with_len}
use Rattle.std.proofs.lemmas.Bool.{true≢false, ne_eqb}
use Rattle.lq_tree.specs.PlainScopes.{is_among}
use Rattle.lq_symbolic.specs.declared.state.Start.{Start}
use Rattle.lq_symbolic.specs.declared.state.SymState.{SymState as State}
use Rattle.lq_symbolic.specs.State.{renew}
use Rattle.lq_ground.specs.Ground.{Ground, class_of_slot, slots_of, renewed, at_entry}

-- one slot more of the first ones
pub range_more : (slot count : ℕ) → slot < count → range_with_len slot (count - slot) ≡ slot ∷ range_with_len (slot + 1) (count - (slot + 1))
range_more slot count low = let e : count - slot ≡ suc (count - (slot + 1)) = omega arith in ap (range_with_len slot) e

pub first_more : (slot count : ℕ) (before after all : List ℕ) → slot < count → before ++ range_with_len slot (count - slot) ≡ all → after ≡ before ++ slot ∷ []
    → after ++ range_with_len (slot + 1) (count - (slot + 1)) ≡ all
first_more slot count before after all low first more =
    let rest = range_with_len (slot + 1) (count - (slot + 1)) in
    ap (λ (xs : List ℕ). xs ++ rest) more ∙ append_assoc before (slot ∷ []) rest ∙ ap (λ (xs : List ℕ). before ++ xs) (sym (range_more slot count low)) ∙ first

-- of those that pass, one more or not
pub filter_more : (test : ℕ → Bool) (slot count : ℕ) (before after all : List ℕ) → slot < count → before ++ filter test (range_with_len slot (count - slot)) ≡ all
    → after ≡ before ++ cond (test slot) (slot ∷ []) [] → after ++ filter test (range_with_len (slot + 1) (count - (slot + 1))) ≡ all
filter_more test slot count before after all low first more =
    let rest = filter test (range_with_len (slot + 1) (count - (slot + 1))) in
    ap (λ (xs : List ℕ). xs ++ rest) more ∙ append_assoc before (cond (test slot) (slot ∷ []) []) rest
    ∙ ap (λ (xs : List ℕ). before ++ xs) (elim (test slot) as (λ b. cond b (slot ∷ []) [] ++ rest ≡ cond b (slot ∷ rest) rest) [ true ↦ refl | false ↦ refl ])
    ∙ ap (λ (xs : List ℕ). before ++ filter test xs) (sym (range_more slot count low)) ∙ first

-- where none passes
pub filter_none : (test : ℕ → Bool) (xs : List ℕ) → ((n : ℕ) → test n ≡ false) → filter test xs ≡ []
filter_none test [] none = refl
filter_none test (x ∷ xs) none = ap (λ b. cond b (x ∷ filter test xs) (filter test xs)) (none x) ∙ filter_none test xs none

pub none_among : (slots : List ℕ) → (length slots == 0) ≡ true → (n : ℕ) → is_among slots n ≡ false
none_among [] empty n = refl
none_among (x ∷ slots) empty n = absurd (true≢false (sym empty ∙ ne_eqb (suc (length slots)) 0 (omega arith)))

-- ---- slots that get new values, and the outermost scope

pub renewed_more : (g : Ground) (slots : List ℕ) (i : ℕ) (old new all : State) → i < length slots
    → (let slot = get_or slots i 0 in new ≡ renew (class_of_slot g slot) slot (slice_get (slots_of g) slot) old)
    → renewed g (drop i slots) old ≡ all → renewed g (drop (i + 1) slots) new ≡ all
renewed_more g slots i old new all within one first =
    let cut : drop i slots ≡ get_or slots i 0 ∷ drop (i + 1) slots = rw (add-one) (drop-cons slots i 0 within) in
    ap (renewed g (drop (i + 1) slots)) one ∙ ap (λ (xs : List ℕ). renewed g xs old) (sym cut) ∙ first

pub entry_last : (scopes : List Start) (start : Start) → Some start ≡ slice_get scopes (length scopes - 1) → at_entry scopes ≡ start.values
entry_last [] start is = absurd cc
entry_last (s ∷ []) start is = let e : start ≡ s = cc in ap (λ (t : Start). t.values) (sym e)
entry_last (s ∷ (t ∷ scopes)) start is =
    let back : suc (suc (length scopes)) - 1 ≡ suc (suc (length scopes) - 1) = omega arith in
    entry_last (t ∷ scopes) start (is ∙ ap (slice_get (s ∷ (t ∷ scopes))) back)
