-- The rounds in which the functions that make an access are found.
use Rattle.std.proofs.Common.{◌≡◌, ℕ, zero, suc, ◌+◌, ◌-◌, ◌≤◌, Bool, List, [], ◌∷◌, length, map, refl, ap, sym, ◌∙◌, arith, slice_get}
use Rattle.lq_tree.specs.declared.plain.PFunc.{PFunc}
use Rattle.lq_tree.specs.declared.plain.PProgram.{PProgram}
use Rattle.lq_tree.specs.PlainWalk.{statements}
use Rattle.lq_templates.specs.declared.touches.Touch.{Touch}
use Rattle.lq_templates.specs.Accesses.{Access, make, function_makes}
use Rattle.lq_templates.specs.Classes.{ClassOf}
use Rattle.lq_templates.specs.Makers.{next_makers, round}
use Rattle.lq_templates.specs.Names.{mark, marked}
use Rattle.lq_templates.specs.Touches.{touches_make, all_touches}
use Rattle.lq_templates.proofs.AccessSets.{rounds}
use Rattle.lq_templates.proofs.TouchLemmas.{each_makes}

-- ---- a round that adds none is the last

pub still : (a : Access) (all : List (List Touch)) (n : ℕ) → round a all (suc n) ≡ round a all n → (more : ℕ) → round a all (more + n) ≡ round a all n
still a all n same zero = let e : zero + n ≡ n = omega arith in ap (round a all) e
still a all n same (suc more) = let e : suc more + n ≡ suc (more + n) = omega arith in ap (round a all) e ∙ ap (next_makers a all) (still a all n same more) ∙ same

-- ---- what is found is what the functions make

-- of the functions from a number on, in a round
found : (class_of : ClassOf) (by : ℕ → Access → Bool) (a : Access) (number : ℕ) (funcs : List PFunc) (k : ℕ)
    → mark (slice_get (map (touches_make (λ n. by n a) a) (all_touches class_of number funcs)) k) ≡ function_makes class_of by a (number + k) (slice_get funcs k)
found class_of by a number [] k = refl
found class_of by a number (f ∷ funcs) zero = each_makes (class_of number) by a (statements f.body) ∙ ap (λ n. make (class_of n) by a (statements f.body)) (omega arith)
found class_of by a number (f ∷ funcs) (suc k) = found class_of by a (suc number) funcs k ∙ ap (λ n. function_makes class_of by a n (slice_get funcs k)) (omega arith)

module _ (p : PProgram) (class_of : ClassOf) (a : Access) where
  pub round_is : (n k : ℕ) → marked (round a (all_touches class_of 0 p.funcs) n) k ≡ rounds p class_of n k a
  round_is zero k = refl
  round_is (suc n) k =
      let same : marked (round a (all_touches class_of 0 p.funcs) n) ≡ (λ m. rounds p class_of n m a) = λ i m. round_is n m i in
      ap (λ set. mark (slice_get (map (touches_make set a) (all_touches class_of 0 p.funcs)) k)) same
      ∙ found class_of (rounds p class_of n) a 0 p.funcs k ∙ ap (λ m. function_makes class_of (rounds p class_of n) a m (slice_get p.funcs k)) (omega arith)

-- so what a round that adds none has is what is found in the end
pub last : (a : Access) (all : List (List Touch)) (n : ℕ) (makers next : List Bool) → n ≤ length all → makers ≡ round a all n → next ≡ next_makers a all makers → next ≡ makers → makers ≡ round a all (length all)
last a all n makers next few is made same =
    let e : (length all - n) + n ≡ length all = omega (arith, few) in
    is ∙ sym (still a all n (ap (next_makers a all) (sym is) ∙ sym made ∙ same ∙ is) (length all - n)) ∙ ap (round a all) e
