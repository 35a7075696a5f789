-- The order of atoms.
use Rattle.std.proofs.Common.{◌≡◌, ◌≢◌, zero, suc, List, [], ◌∷◌, map, ap, arith, ◌⊎◌, inl, inr, sym, ◌∙◌}
use Rattle.std.specs.List.{AllByRecursion, AllPairs}
use Rattle.std.proofs.lemmas.List.Elements.{All-from_recursion}
use Rattle.lq_text.specs.declared.atom.Atom.{Atom}
use Rattle.lq_text.specs.declared.atom.Atom.TheVariants.{Offset, Length}
use Rattle.lq_text.specs.Order.{subject_of, ArePair, MayPrecede, MayStandBefore, AreInOrder}
use Rattle.lq_text.proofs.Lists.{all_weaker}

-- what holds of each element of a list and of what it is mapped to

module _ {X Y : Type 0} (P : Y → Type 0) (f : X → Y) where
  pub all_of_map : (xs : List X) → AllByRecursion P (map f xs) → AllByRecursion (λ x. P (f x)) xs
  all_of_map [] h = tt
  all_of_map (x ∷ xs) h = (h.0, all_of_map xs h.1)

  pub map_of_all : (xs : List X) → AllByRecursion (λ x. P (f x)) xs → AllByRecursion P (map f xs)
  map_of_all [] h = tt
  map_of_all (x ∷ xs) h = (h.0, map_of_all xs h.1)

-- ---- each atom stands once

other_subject : (atom other : Atom) → MayPrecede atom other → atom ≢ other
other_subject atom other h same = h.1 (ap subject_of same)

other_next : (atom next : Atom) → MayPrecede atom next ⊎ ArePair atom next → atom ≢ next
other_next atom next (inl h) same = other_subject atom next h same
other_next atom next (inr h) same =
    let one : Offset h.0 ≡ Length h.0 = sym h.1 ∙ same ∙ h.2 in
    absurd cc

other_later : (atom : Atom) (atoms : List Atom) → MayStandBefore atom atoms → AllByRecursion (λ later. atom ≢ later) atoms
other_later atom [] h = tt
other_later atom (next ∷ later) h = (other_next atom next h.0, all_weaker _ _ (other_subject atom) later h.1)

pub stand_once : (atoms : List Atom) → AreInOrder atoms → AllPairs (λ atom later. atom ≢ later) atoms
stand_once [] h i j d below inside = absurd (omega arith)
stand_once (atom ∷ atoms) h i zero d below inside = absurd (omega arith)
stand_once (atom ∷ atoms) h zero (suc j) d below inside = All-from_recursion (λ later. atom ≢ later) atoms (other_later atom atoms h.0) j d (omega arith)
stand_once (atom ∷ atoms) h (suc i) (suc j) d below inside = stand_once atoms h.1 i j d (omega arith) (omega arith)
