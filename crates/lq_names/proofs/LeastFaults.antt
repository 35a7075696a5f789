-- The least fault is in the list, and nothing in the list comes before it.
use Rattle.std.proofs.Common.{◌≡◌, ℕ, zero, suc, ◌<◌, Bool, true, false, not, ◌&&◌, ◌||◌, ◌==◌, nat_lt, cond, List, [], ◌∷◌, length, get_or, fold, Option, None, Some, refl, ap, sym, ◌∙◌, subst, ◌⊎◌, inl, inr, arith}
use Rattle.std.specs.List.{Contains}
use Rattle.std.proofs.lemmas.Bool.{cases_Bool}
use Rattle.std.proofs.lemmas.Bool.Decides.{nat_tests}
use Rattle.lq_names.specs.declared.fault.Fault.{Fault}
use Rattle.lq_names.specs.Faults.{precedes, lesser, least, fault_at}

-- an order of three numbers, one after another
abbrev before : (l c r k d s : ℕ) → Bool
before l c r k d s = (nat_lt l k || (l == k && nat_lt c d)) || (not (nat_lt k l || (k == l && nat_lt d c)) && nat_lt r s)

irreflexive : (l c r : ℕ) → before l c r l c r ≡ true → ⊥
irreflexive l c r f = grind (arith, nat_tests)

chained : (l c r k d s m e t : ℕ) → before l c r k d s ≡ true → before k d s m e t ≡ true → before l c r m e t ≡ true
chained l c r k d s m e t f g = grind (arith, nat_tests)

split : (l c r k d s m e t : ℕ) → before l c r k d s ≡ false → before l c r m e t ≡ true → before k d s m e t ≡ true
split l c r k d s m e t f g = grind (arith, nat_tests)

-- what the walk has found, and what comes of one fault more
abbrev pub Settled : Option Fault → Fault → Type 0
Settled None f = Unit {0}
Settled (Some h) f = precedes h f ≡ false

abbrev pub Given : Option Fault → Fault → Type 0
Given None f = ⊥
Given (Some h) f = h ≡ f

precedes_not_itself : (f : Fault) → precedes f f ≡ false
precedes_not_itself f = elim (cases_Bool (precedes f f)) [
  | inl bad ↦ absurd (irreflexive f.at.line f.at.col f.rule bad)
  | inr good ↦ good
]

settle : (h x f : Fault) → precedes x h ≡ true → precedes x f ≡ false → precedes h f ≡ false
settle h x f first ok = elim (cases_Bool (precedes h f)) [
  | inl bad ↦ let e : precedes x f ≡ true = chained x.at.line x.at.col x.rule h.at.line h.at.col h.rule f.at.line f.at.col f.rule first bad in cc
  | inr good ↦ good
]

settle_other : (h x f : Fault) → precedes x h ≡ false → precedes h f ≡ false → precedes x f ≡ false
settle_other h x f first ok = elim (cases_Bool (precedes x f)) [
  | inl bad ↦ let e : precedes h f ≡ true = split x.at.line x.at.col x.rule h.at.line h.at.col h.rule f.at.line f.at.col f.rule first bad in cc
  | inr good ↦ good
]

each_of : (x : Fault) (xs : List Fault) (f : Fault) → precedes x f ≡ false → ((k : ℕ) (d : Fault) → k < length xs → precedes (get_or xs k d) f ≡ false)
    → (k : ℕ) (d : Fault) → k < length (x ∷ xs) → precedes (get_or (x ∷ xs) k d) f ≡ false
each_of x xs f first rest zero d lt = first
each_of x xs f first rest (suc k) d lt = rest k d (omega arith)

-- how the least of one more relates to the walk behind it
pub record Minimum (found : Option Fault) (xs : List Fault) (f : Fault) : Type 0 where
  pub among : Given found f ⊎ Contains xs f
  pub early : Settled found f
  pub each : (k : ℕ) (d : Fault) → k < length xs → precedes (get_or xs k d) f ≡ false

later : (x : Fault) (xs : List Fault) (f : Fault) → Contains xs f → Contains (x ∷ xs) f
later x xs f (k, lt, is) = (suc k, omega arith, is)

here : (x : Fault) (xs : List Fault) → Contains (x ∷ xs) x
here x xs = (0, omega arith, refl)

-- one more: either the walk behind it starts from the new one, or from the old one
from_new : (found : Option Fault) (x : Fault) (xs : List Fault) (f : Fault) → Settled found f → Minimum (Some x) xs f → Minimum found (x ∷ xs) f
from_new found x xs f early m = record {
  among = inr (elim m.among [ inl is ↦ subst (Contains (x ∷ xs)) is (here x xs) | inr there ↦ later x xs f there ]);
  early = early;
  each = each_of x xs f m.early m.each;
}

from_old : (h x : Fault) (xs : List Fault) (f : Fault) → precedes x h ≡ false → Minimum (Some h) xs f → Minimum (Some h) (x ∷ xs) f
from_old h x xs f first m = record {
  among = elim m.among [ inl is ↦ inl is | inr there ↦ inr (later x xs f there) ];
  early = m.early;
  each = each_of x xs f (settle_other h x f first m.early) m.each;
}

least_of : (found : Option Fault) (xs : List Fault) (f : Fault) → fold lesser found xs ≡ Some f → Minimum found xs f
least_of None [] f h = cc
least_of (Some g) [] f h =
    let is : g ≡ f = cc in
    record { among = inl is; early = subst (λ (x : Fault). precedes g x ≡ false) is (precedes_not_itself g); each = λ k d lt. absurd (omega arith) }
least_of None (x ∷ xs) f h = from_new None x xs f tt (least_of (Some x) xs f h)
least_of (Some g) (x ∷ xs) f h = elim (cases_Bool (precedes x g)) [
  | inl first ↦
      let next : fold lesser (Some x) xs ≡ Some f = sym (ap (λ b. fold lesser (cond b (Some x) (Some g)) xs) first) ∙ h in
      let m = least_of (Some x) xs f next in
      from_new (Some g) x xs f (settle g x f first m.early) m
  | inr kept ↦
      let next : fold lesser (Some g) xs ≡ Some f = sym (ap (λ b. fold lesser (cond b (Some x) (Some g)) xs) kept) ∙ h in
      from_old g x xs f kept (least_of (Some g) xs f next)
]

never_none : (g : Fault) (xs : List Fault) → fold lesser (Some g) xs ≡ None → ⊥
never_none g [] h = cc
never_none g (x ∷ xs) h = elim (cases_Bool (precedes x g)) [
  | inl first ↦ never_none x xs (sym (ap (λ b. fold lesser (cond b (Some x) (Some g)) xs) first) ∙ h)
  | inr kept ↦ never_none g xs (sym (ap (λ b. fold lesser (cond b (Some x) (Some g)) xs) kept) ∙ h)
]

pub none_of : (xs : List Fault) → least None xs ≡ None → xs ≡ []
unfolding least
none_of [] h = refl
none_of (x ∷ xs) h = absurd (never_none x xs h)

pub least_is : (xs : List Fault) (f : Fault) → least None xs ≡ Some f → Contains xs f × ((g : Fault) → Contains xs g → precedes g f ≡ false)
unfolding least
least_is xs f h =
    let m = least_of None xs f h in
    (elim m.among [ inl bad ↦ absurd bad | inr there ↦ there ], λ g there. subst (λ (x : Fault). precedes x f ≡ false) there.2 (m.each there.0 g there.1))

same_line : (l c r k d s : ℕ) → before l c r k d s ≡ false → before k d s l c r ≡ false → l ≡ k
same_line l c r k d s f g = grind (arith, nat_tests)

same_column : (l c r k d s : ℕ) → before l c r k d s ≡ false → before k d s l c r ≡ false → c ≡ d
same_column l c r k d s f g = grind (arith, nat_tests)

same_rule : (l c r k d s : ℕ) → before l c r k d s ≡ false → before k d s l c r ≡ false → r ≡ s
same_rule l c r k d s f g = grind (arith, nat_tests)

made : (l c r k d s : ℕ) → l ≡ k → c ≡ d → r ≡ s → fault_at (record { line = l; col = c }) r ≡ fault_at (record { line = k; col = d }) s
made l c r k d s e f g = cc

pub one_first : (f g : Fault) → precedes f g ≡ false → precedes g f ≡ false → f ≡ g
one_first f g a b =
    let e = same_line f.at.line f.at.col f.rule g.at.line g.at.col g.rule a b in
    let h = same_column f.at.line f.at.col f.rule g.at.line g.at.col g.rule a b in
    let i = same_rule f.at.line f.at.col f.rule g.at.line g.at.col g.rule a b in
    made f.at.line f.at.col f.rule g.at.line g.at.col g.rule e h i
