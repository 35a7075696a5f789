-- Tables of sums.
use Rattle.std.proofs.Common.{◌≡◌, ℕ, ◌<◌, inl, inr, Bool, true, false, cond, List, length, get_or, ℤ, ◌≤ℤ◌, refl, sym, ap, ◌∙◌, arith, subst}
use Rattle.std.proofs.lemmas.Int.{ints}
use Rattle.std.proofs.lemmas.Bool.{cases_Bool}
use Rattle.std.proofs.lemmas.List.{get_or_read}
use Rattle.std.specs.Cmp.{signed_Decides}
use lib.Dec.{T}
use Rattle.std.specs.Int.Signed.{le_z}
use Rattle.std.specs.Ordering.{int_eq}
use Rattle.std.specs.Option.{option_copied}
use Rattle.std.specs.Borrow.{Bor}
use Rattle.std.specs.Prelude.{Contains, Option, Some, None}
use Rattle.std.specs.HashMap.{get, Updates}
use Rattle.lq_validity.specs.declared.sum.Sum.{Sum}
use Rattle.lq_validity.specs.Table.{Table, HasAtMost, PutsSum}

-- what is at most a number tests so
pub le_told : (a b : ℤ) → a ≤ℤ b → le_z a b ≡ true
le_told a b h = told (le_z a b) h.le where
  told : (b : Bool) → T b → b ≡ true
  told true t = refl
  told false t = absurd t

-- what a look-up gave
pub found_there : (table : Table) (weight : ℤ) (r : Option (Bor ℤ)) (b : Bor ℤ) → option_copied r ≡ get int_eq table weight → r ≡ Some b → get int_eq table weight ≡ Some b.now
found_there table weight r b e q = sym e ∙ ap option_copied q

pub not_found : (table : Table) (weight m : ℤ) (r : Option (Bor ℤ)) → option_copied r ≡ get int_eq table weight → r ≡ None → get int_eq table weight ≡ Some m → ⊥
not_found table weight m r e q h = none_some (sym (ap option_copied q) ∙ e ∙ h) where
  none_some : None ≡ Some m → ⊥
  none_some e = cc

same_some : (m n : ℤ) → Some m ≡ Some n → m ≡ n
same_some m n e = cc

pub found_same : (table : Table) (weight m n : ℤ) → get int_eq table weight ≡ Some m → get int_eq table weight ≡ Some n → m ≡ n
found_same table weight m n e q = same_some m n (sym e ∙ q)

-- a sum written over what was not lower
pub puts_over : (old new : Table) (sum : Sum) → Updates int_eq old new sum.weight (Some sum.most) → ((m : ℤ) → get int_eq old sum.weight ≡ Some m → sum.most ≤ℤ m) → PutsSum sum old new
puts_over old new sum u le = record { lower = lower; here = record { found = sum.most; there = u.1; low = omega (arith, ints) } } where
  lower : (w m : ℤ) → HasAtMost old w m → HasAtMost new w m
  lower w m h = elim (cases_Bool (int_eq sum.weight w)) [
    | inl e ↦
        let same : sum.weight ≡ w = (signed_Decides sum.weight w).0 e in
        let q : sum.most ≤ℤ h.found = le h.found (subst (λ x. get int_eq old x ≡ Some h.found) (sym same) h.there) in
        record { found = sum.most; there = u.0 w ∙ ap (λ b. cond b (Some sum.most) (get int_eq old w)) e; low = omega (arith, ints, q, h.low) }
    | inr e ↦ record { found = h.found; there = u.2 w e ∙ h.there; low = h.low }
  ]

-- what holds at no place of a list holds of nothing in it
pub nowhere : {X : Type 0} (P : X → Type 0) (xs : List X) (d : X) → ((k : ℕ) → k < length xs → P (get_or xs k d) → ⊥) → (x : X) → Contains xs x → P x → ⊥
nowhere P xs d h x c p = h c.0 c.1 (subst P (get_or_read xs c.0 x c.1 (sym c.2) d) p)

-- what holds at each place of a list holds of all in it
pub everywhere : {X : Type 0} (P : X → Type 0) (xs : List X) (d : X) → ((k : ℕ) → k < length xs → P (get_or xs k d)) → (x : X) → Contains xs x → P x
everywhere P xs d h x c = subst P (sym (get_or_read xs c.0 x c.1 (sym c.2) d)) (h c.0 c.1)

pub same_weight : (table : Table) (a b found : ℤ) → a ≡ b → get int_eq table a ≡ Some found → get int_eq table b ≡ Some found
same_weight table a b found e h = subst (λ w. get int_eq table w ≡ Some found) e h
