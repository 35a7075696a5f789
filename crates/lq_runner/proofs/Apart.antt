-- Accesses that are apart, one by one.
use Rattle.std.proofs.Common.{◌≡◌, ℕ, zero, suc, List, [], ◌∷◌, ◌++◌, sym, ap, refl, subst, ◌∙◌, Bool, true, false, true≢false, take, drop}
use Rattle.std.specs.Prelude.{not, ◌&&◌, ◌||◌}
use Rattle.std.specs.List.{list_any, list_all, AllByRecursion}
use Rattle.std.proofs.lemmas.Bool.{or_parts}
use Rattle.std.proofs.lemmas.List.Concat.{flat_map-append}
use Rattle.std.proofs.lemmas.List.{take-append-drop}
use Rattle.lq_runner.proofs.Pairs.{all_map}
use Rattle.lq_alone.specs.Alone.{Access, Alone, clash, are_apart, pairwise_apart, all_accesses, behind_fork}
use Rattle.lq_alone.specs.Clean.{is_stray, is_clean}

-- both parts of what is true
pub both_true : (a b : Bool) → (a && b) ≡ true → (a ≡ true) × (b ≡ true)
both_true true b e = (refl, e)
both_true false b e = absurd (true≢false (sym e))

pub not_true : (a : Bool) → not a ≡ true → a ≡ false
not_true true e = absurd (true≢false (sym e))
not_true false e = refl

-- what isn't true is false
pub false_where : (a : Bool) → (a ≡ true → ⊥) → a ≡ false
false_where true never = absurd (never refl)
false_where false never = refl

module _ {X : Type 0} where
  pub none_passes : (p : X → Bool) (xs : List X) → list_any p xs ≡ false → AllByRecursion (λ x. p x ≡ false) xs
  none_passes p [] none_there = tt
  none_passes p (x ∷ xs) none_there = let parts = or_parts (p x) (list_any p xs) none_there in (parts.0, none_passes p xs parts.1)

  pub all_pass : (p : X → Bool) (xs : List X) → list_all p xs ≡ true → AllByRecursion (λ x. p x ≡ true) xs
  all_pass p [] all = tt
  all_pass p (x ∷ xs) all = let parts = both_true (p x) (list_all p xs) all in (parts.0, all_pass p xs parts.1)

  -- an element that passes, with what holds of each
  pub one_passes : (p : X → Bool) (P : X → Type 0) (xs : List X) → list_any p xs ≡ true → AllByRecursion P xs → (x : X) × (p x ≡ true) × P x
  one_passes p P [] any all = absurd (true≢false (sym any))
  one_passes p P (x ∷ xs) any all = by (p x) refl (one_passes p P xs)
    where
      by : (b : Bool) → p x ≡ b → (list_any p xs ≡ true → AllByRecursion P xs → (y : X) × (p y ≡ true) × P y) → (y : X) × (p y ≡ true) × P y
      by true e rest = (x, e, all.0)
      by false e rest = rest (subst (λ b. b || list_any p xs ≡ true) e any) all.1

  pub all_append : (P : X → Type 0) (xs ys : List X) → AllByRecursion P xs → AllByRecursion P ys → AllByRecursion P (xs ++ ys)
  all_append P [] ys first second = second
  all_append P (x ∷ xs) ys first second = (first.0, all_append P xs ys first.1 second)

  pub all_parts : (P : X → Type 0) (xs ys : List X) → AllByRecursion P (xs ++ ys) → AllByRecursion P xs × AllByRecursion P ys
  all_parts P [] ys all = (tt, all)
  all_parts P (x ∷ xs) ys all = let rest = all_parts P xs ys all.1 in ((all.0, rest.0), rest.1)

-- no access of the one clashes with one of the other
abbrev pub Apart : List Access → List Access → Type 0
Apart accesses others = AllByRecursion (λ a. AllByRecursion (λ b. clash a b ≡ false) others) accesses

pub apart_of : (accesses others : List Access) → are_apart accesses others ≡ true → Apart accesses others
apart_of accesses others apart =
    all_map (λ a. list_any (clash a) others ≡ false) (λ a. AllByRecursion (λ b. clash a b ≡ false) others) (λ a none_there. none_passes (clash a) others none_there)
    accesses (none_passes (λ a. list_any (clash a) others) accesses (not_true (list_any (λ a. list_any (clash a) others) accesses) apart))

pub apart_right : (accesses others more : List Access) → Apart accesses (others ++ more) → Apart accesses others × Apart accesses more
apart_right [] others more apart = (tt, tt)
apart_right (a ∷ accesses) others more apart =
    let here = all_parts (λ b. clash a b ≡ false) others more apart.0 in
    let rest = apart_right accesses others more apart.1 in
    ((here.0, rest.0), (here.1, rest.1))

apart_join : (accesses others more : List Access) → Apart accesses others → Apart accesses more → Apart accesses (others ++ more)
apart_join [] others more first second = tt
apart_join (a ∷ accesses) others more first second = (all_append (λ b. clash a b ≡ false) others more first.0 second.0, apart_join accesses others more first.1 second.1)

apart_none : (accesses : List Access) → Apart accesses []
apart_none [] = tt
apart_none (a ∷ accesses) = (tt, apart_none accesses)

-- each branch is apart from all behind it
abbrev pub Chain : List Alone → Type 0
Chain [] = Unit {0}
Chain (branch ∷ branches) = Apart branch.accesses (all_accesses branches) × Chain branches

apart_all : (branch : Alone) (branches : List Alone) → AllByRecursion (λ (other : Alone). are_apart branch.accesses other.accesses ≡ true) branches
    → Apart branch.accesses (all_accesses branches)
apart_all branch [] all = apart_none branch.accesses
apart_all branch (other ∷ branches) all = apart_join branch.accesses other.accesses (all_accesses branches) (apart_of branch.accesses other.accesses all.0) (apart_all branch branches all.1)

pub chain_of : (branches : List Alone) → pairwise_apart branches ≡ true → Chain branches
chain_of [] apart = tt
chain_of (branch ∷ branches) apart =
    let parts = both_true (list_all (λ (other : Alone). are_apart branch.accesses other.accesses) branches) (pairwise_apart branches) apart in
    (apart_all branch branches (all_pass (λ (other : Alone). are_apart branch.accesses other.accesses) branches parts.0), chain_of branches parts.1)

-- all accesses, in two parts
pub accesses_parts : (n : ℕ) (branches : List Alone) → all_accesses branches ≡ all_accesses (take n branches) ++ all_accesses (drop n branches)
accesses_parts n branches = ap all_accesses (sym (take-append-drop n branches)) ∙ flat_map-append (λ (branch : Alone). branch.accesses) (take n branches) (drop n branches)

-- the first of them are apart from the others, which are a chain
pub chain_parts : (n : ℕ) (branches : List Alone) → Chain branches → Apart (all_accesses (take n branches)) (all_accesses (drop n branches)) × Chain (drop n branches)
chain_parts zero branches chain = (tt, chain)
chain_parts (suc n) [] chain = (tt, tt)
chain_parts (suc n) (branch ∷ branches) chain =
    let rest = chain_parts n branches chain.1 in
    let here = subst (Apart branch.accesses) (accesses_parts n branches) chain.0 in
    let behind = (apart_right branch.accesses (all_accesses (take n branches)) (all_accesses (drop n branches)) here).1 in
    (all_append (λ a. AllByRecursion (λ b. clash a b ≡ false) (all_accesses (drop n branches))) branch.accesses (all_accesses (take n branches)) behind rest.0, rest.1)

-- the branches of a clean fork are apart
pub fork_apart : (branches : List Alone) (behind : Alone) → is_clean (behind_fork branches behind) ≡ true → pairwise_apart branches ≡ true
fork_apart branches behind e =
    let own = list_all (λ (branch : Alone). branch.apart) branches in
    let fork = both_true (not (is_stray behind.ending)) ((own && pairwise_apart branches) && behind.apart) e in
    let first = both_true (own && pairwise_apart branches) behind.apart fork.1 in
    (both_true own (pairwise_apart branches) first.0).1
