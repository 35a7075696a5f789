-- The multiples of facts, and the table of their sums.
use Rattle.std.proofs.Common.{◌≡◌, ℕ, ◌-◌, ◌⊎◌, inl, inr, ℤ, ◌+ℤ◌, List, [], ◌∷◌, ◌++◌, length, get_or, sym, ap, ◌∙◌, arith, subst, length-append}
use Rattle.std.proofs.lemmas.Int.{ints}
use Rattle.std.proofs.lemmas.Bool.{cases_lt}
use Rattle.std.specs.Prelude.{Contains, OnOk, Result, Ok, Err, Some}
use Rattle.std.specs.Ordering.{int_eq}
use Rattle.std.specs.HashMap.{get}
use Rattle.lq_linear.proofs.ItemLemmas.{get_left, get_right}
use Rattle.lq_validity.specs.declared.pool.Multiple.{Multiple}
use Rattle.lq_validity.specs.Sum.{plus}
use Rattle.lq_validity.specs.Table.{Table, HasAtMost, PutsSum}
use Rattle.lq_validity.specs.Pool.{HasSums, PutsPairs}

pub last_in : {X : Type 0} (xs : List X) (x : X) → Contains (xs ++ x ∷ []) x
last_in xs x = (length xs, omega (arith, length-append xs (x ∷ [])), get_right xs (x ∷ []) (length xs) x (omega arith) ∙ first (length xs - length xs) (omega arith)) where
  first : (k : ℕ) → k ≡ 0 → get_or (x ∷ []) k x ≡ x
  first k e = ap (λ n. get_or (x ∷ []) n x) e

pub earlier_in : {X : Type 0} (xs : List X) (x y : X) → Contains xs y → Contains (xs ++ x ∷ []) y
earlier_in xs x y c = (c.0, omega (arith, c.1, length-append xs (x ∷ [])), get_left xs (x ∷ []) c.0 y c.1 ∙ c.2)

-- what a list with one more at its end contains
pub in_longer : {X : Type 0} (xs : List X) (x y : X) → Contains (xs ++ x ∷ []) y → Contains xs y ⊎ (x ≡ y)
in_longer {X} xs x y c = elim (cases_lt c.0 (length xs)) [
  | inl l ↦ inl (c.0, l, sym (get_left xs (x ∷ []) c.0 y l) ∙ c.2)
  | inr l ↦
      let e : c.0 - length xs ≡ 0 = omega (arith, c.1, length-append xs (x ∷ [])) in
      inr (sym (ap (λ n. get_or (x ∷ []) n y) e) ∙ sym (get_right xs (x ∷ []) c.0 y l) ∙ c.2)
]

-- one multiple more
pub sums_more : (multiples : List Multiple) (a : Multiple) (old middle new : Table) → HasSums multiples old → PutsSum a.sum old middle → PutsPairs (multiples ++ a ∷ []) a.sum middle new → HasSums (multiples ++ a ∷ []) new
sums_more multiples a old middle new h p q = record { none = kept _ _ h.none; single = single; double = double } where
  kept : (w m : ℤ) → HasAtMost old w m → HasAtMost new w m
  kept w m k = q.lower w m (p.lower w m k)

  single : (b : Multiple) → Contains (multiples ++ a ∷ []) b → HasAtMost new b.sum.weight b.sum.most
  single b c = elim (in_longer multiples a b c) [
    | inl k ↦ kept _ _ (h.single b k)
    | inr e ↦ subst (λ m. HasAtMost new m.sum.weight m.sum.most) e (q.lower _ _ p.here)
  ]

  swapped : (b d : Multiple) → HasAtMost new (plus b.sum d.sum).weight (plus b.sum d.sum).most → HasAtMost new (plus d.sum b.sum).weight (plus d.sum b.sum).most
  swapped b d k = record { found = k.found; there = subst (λ w. at w k.found) (turned b.sum.weight d.sum.weight) k.there; low = omega (arith, ints, k.low, turned b.sum.most d.sum.most) } where
    turned : (x y : ℤ) → x +ℤ y ≡ y +ℤ x
    turned x y = omega (arith, ints)

    at : ℤ → ℤ → Type 0
    at w m = get int_eq new w ≡ Some m

  double : (b d : Multiple) → Contains (multiples ++ a ∷ []) b → Contains (multiples ++ a ∷ []) d → HasAtMost new (plus b.sum d.sum).weight (plus b.sum d.sum).most
  double b d i j = elim (in_longer multiples a b i) [
    | inr e ↦ subst (λ m. HasAtMost new (plus m.sum d.sum).weight (plus m.sum d.sum).most) e (q.pairs d j)
    | inl k ↦ elim (in_longer multiples a d j) [
      | inr e ↦ swapped d b (subst (λ m. HasAtMost new (plus m.sum b.sum).weight (plus m.sum b.sum).most) e (q.pairs b i))
      | inl n ↦ kept _ _ (h.double b d k n)
    ]
  ]

pub sums_more_on_ok : {X E : Type 0} (r : Result X E) (multiples : List Multiple) (a : Multiple) (old middle new : Table) → HasSums multiples old → PutsSum a.sum old middle → OnOk r (PutsPairs (multiples ++ a ∷ []) a.sum middle new) → OnOk r (HasSums (multiples ++ a ∷ []) new)
sums_more_on_ok (Ok x) multiples a old middle new h p q = sums_more multiples a old middle new h p q
sums_more_on_ok (Err e) multiples a old middle new h p q = tt
