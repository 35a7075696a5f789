-- Joined lists, and what holds of each element of their parts.
use Rattle.std.proofs.Common.{◌≡◌, ◌≢◌, ℕ, ◌≤◌, List, [], ◌∷◌, ◌++◌, length, refl, ap, arith, length-append}
use Rattle.std.specs.List.{AllByRecursion}

-- where two joined lists are the same, the first that is no longer begins the other
pub front_of : {X : Type 0} (a b c d : List X) → a ++ b ≡ c ++ d → length a ≤ length c → (x : List X) × (c ≡ a ++ x) × (b ≡ x ++ d)
front_of [] b c d e h = (c, refl, e)
front_of (p ∷ a) b [] d e h = absurd (omega arith)
front_of (p ∷ a) b (q ∷ c) d e h =
    let same : p ≡ q = cc in
    let rest : a ++ b ≡ c ++ d = cc in
    let r = front_of a b c d rest (omega arith) in
    (r.0, cc, r.2)

-- the same where the second lists say which is longer
pub back_of : {X : Type 0} (a b c d : List X) → a ++ b ≡ c ++ d → length d ≤ length b → (x : List X) × (c ≡ a ++ x) × (b ≡ x ++ d)
back_of a b c d e h = front_of a b c d e (omega (arith, length-append a b, length-append c d, ap length e))

module _ {X : Type 0} (P : X → Type 0) where
  pub all_left : (a b : List X) → AllByRecursion P (a ++ b) → AllByRecursion P a
  all_left [] b h = tt
  all_left (x ∷ a) b h = (h.0, all_left a b h.1)

  pub all_right : (a b : List X) → AllByRecursion P (a ++ b) → AllByRecursion P b
  all_right [] b h = h
  all_right (x ∷ a) b h = all_right a b h.1

  pub all_joined : (a b : List X) → AllByRecursion P a → AllByRecursion P b → AllByRecursion P (a ++ b)
  all_joined [] b h k = k
  all_joined (x ∷ a) b h k = (h.0, all_joined a b h.1 k)

  -- a list whose elements all have P and all lack it is empty
  pub empty_by_both : (a : List X) → AllByRecursion P a → AllByRecursion (λ x. ¬ P x) a → a ≡ []
  empty_by_both [] h k = refl
  empty_by_both (x ∷ a) h k = absurd (k.0 h.0)

pub all_weaker : {X : Type 0} (P Q : X → Type 0) → ((x : X) → P x → Q x) → (a : List X) → AllByRecursion P a → AllByRecursion Q a
all_weaker P Q f [] h = tt
all_weaker P Q f (x ∷ a) h = (f x h.0, all_weaker P Q f a h.1)

-- none of the elements is this one
abbrev pub Avoids : ℕ → List ℕ → Type 0
Avoids one list = AllByRecursion (λ each. each ≢ one) list

pub meets : (one : ℕ) (a b : List ℕ) → Avoids one (a ++ one ∷ b) → ⊥
meets one [] b h = h.0 refl
meets one (x ∷ a) b h = meets one a b h.1

-- the bytes before the first such byte, and those behind it
pub same_split : (one : ℕ) (a b c d : List ℕ) → Avoids one a → Avoids one c → a ++ one ∷ b ≡ c ++ one ∷ d → (a ≡ c) × (b ≡ d)
same_split one [] b [] d h k e = (refl, cc)
same_split one [] b (y ∷ c) d h k e = let same : y ≡ one = cc in absurd (k.0 same)
same_split one (x ∷ a) b [] d h k e = let same : x ≡ one = cc in absurd (h.0 same)
same_split one (x ∷ a) b (y ∷ c) d h k e =
    let first : x ≡ y = cc in
    let rest : a ++ one ∷ b ≡ c ++ one ∷ d = cc in
    let r = same_split one a b c d h.1 k.1 rest in
    let same : a ≡ c = r.0 in
    (cc, r.1)
