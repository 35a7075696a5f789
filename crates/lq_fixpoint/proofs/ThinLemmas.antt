-- How many rows assignments have, and the rows of one template.
use Rattle.std.proofs.Common.{◌≡◌, ℕ, zero, suc, ◌<◌, ◌≤◌, Bool, true, false, List, [], ◌∷◌, length, get_or, set, slice_get, Option, Some, sym, ap, ◌∙◌, arith}
use Rattle.std.specs.Prelude.{◌||◌}
use Rattle.std.specs.List.{AllZip}
use Rattle.lq_linear.specs.Row.{Inequality}
use Rattle.lq_templates.specs.Conditions.{IsPart}
use Rattle.lq_fixpoint.specs.Thinning.{total}
use Rattle.lq_fixpoint.proofs.Parts.{part_itself, part_short, all_itself}

-- ---- how many rows there are

pub count_within : (a b : List (List Inequality)) → AllZip IsPart a b → total a ≤ total b
count_within [] [] p = omega arith
count_within [] (y ∷ b) p = absurd p
count_within (x ∷ a) [] p = absurd p
count_within (x ∷ a) (y ∷ b) p = omega (arith, part_short p.0, count_within a b p.1)

pub count_set : (a : List (List Inequality)) (n : ℕ) (part : List Inequality) → n < length a → length part < length (get_or a n []) → total (set a n part) < total a
count_set [] n part h less = absurd (omega arith)
count_set (x ∷ a) zero part h less = omega arith
count_set (x ∷ a) (suc n) part h less = omega (arith, count_set a n part (omega arith) less)

-- ---- the rows of one template

pub within_set : (a : List (List Inequality)) (n : ℕ) (part : List Inequality) → IsPart part (get_or a n []) → AllZip IsPart (set a n part) a
within_set [] n part p = tt
within_set (x ∷ a) zero part p = (p, all_itself a)
within_set (x ∷ a) (suc n) part p = (part_itself x, within_set a n part p)

pub keeps_set : (o a : List (List Inequality)) (n : ℕ) (part : List Inequality) → AllZip IsPart o a
    → (IsPart (get_or o n []) (get_or a n []) → IsPart (get_or o n []) part) → AllZip IsPart o (set a n part)
keeps_set [] [] n part p h = tt
keeps_set [] (y ∷ a) n part p h = absurd p
keeps_set (x ∷ o) [] n part p h = absurd p
keeps_set (x ∷ o) (y ∷ a) zero part p h = (h p.0, p.1)
keeps_set (x ∷ o) (y ∷ a) (suc n) part p h = (p.0, keeps_set o a n part p.1 h)

pub got_rows : {X : Type 0} (list : List X) (n : ℕ) (d x : X) → Some x ≡ slice_get list n → get_or list n d ≡ x
got_rows [] n d x e = absurd cc
got_rows (y ∷ list) zero d x e = same_some y x (sym e) where
  same_some : {X : Type 0} (y x : X) → ◌≡◌ {A = Option X} (Some y) (Some x) → y ≡ x
  same_some y x e = cc
got_rows (y ∷ list) (suc n) d x e = got_rows list n d x e

-- ---- two tests

pub or_first : (d e : Bool) → d ≡ true → (d || e) ≡ d
or_first d e h = ap (λ b. b || e) h ∙ sym h

pub or_later : (d e : Bool) → d ≡ false → (d || e) ≡ e
or_later d e h = ap (λ b. b || e) h
