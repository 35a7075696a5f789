-- Where the elements of pieces stand in the list that they make.
use Rattle.std.proofs.Common.{◌≡◌, ℕ, zero, suc, ◌+◌, ◌-◌, ◌*◌, ◌^◌, ◌<◌, ◌≤◌, List, [], ◌∷◌, ◌++◌, length, drop, slice_get, Option, Some, None, OnSome, Bor, refl, sym, ap, ◌∙◌, append_assoc, append-nil, length-append, arith}
use Rattle.std.specs.Option.{option_copied}
use Rattle.std.proofs.lemmas.Option.{slice_get_within}
use Rattle.std.specs.List.{AllByRecursion}
use Rattle.lq_chain.specs.Pieces.{joined, ArePieces}

-- an element of the first of two lists
get-front : {X : Type 0} → (a b : List X) (k : ℕ) → k < length a → slice_get (a ++ b) k ≡ slice_get a k
get-front [] b k h = absurd (omega arith)
get-front (x ∷ a) b zero h = refl
get-front (x ∷ a) b (suc k) h = get-front a b k (omega arith)

-- an element of the second
get-behind : {X : Type 0} → (a b : List X) (k n : ℕ) → n ≡ length a + k → slice_get (a ++ b) n ≡ slice_get b k
get-behind [] b k n h = ap (slice_get b) (let e : n ≡ k = omega arith in e)
get-behind (x ∷ a) b k zero h = absurd (omega arith)
get-behind (x ∷ a) b k (suc n) h = get-behind a b k n (omega arith)

-- how long whole pieces are together
pub joined-length : {X : Type 0} → (pieces : List (List X)) → AllByRecursion (λ piece. length piece ≡ 256) pieces → length (joined pieces) ≡ length pieces * 256
joined-length [] h = refl
joined-length (p ∷ ps) h = omega (arith, length-append p (joined ps), joined-length ps h.1, h.0)

-- one more piece
pub joined-append : {X : Type 0} → (pieces : List (List X)) (last : List X) → joined (pieces ++ last ∷ []) ≡ joined pieces ++ last
joined-append [] last = append-nil last
joined-append (p ∷ ps) last = ap (λ l. p ++ l) (joined-append ps last) ∙ sym (append_assoc p (joined ps) last)

-- an element of a piece
pub joined-get : {X : Type 0} → (pieces : List (List X)) (last piece : List X) → AllByRecursion (λ piece. length piece ≡ 256) pieces →
    (q r n : ℕ) → n ≡ q * 256 + r → r < 256 → slice_get pieces q ≡ Some piece → slice_get (joined pieces ++ last) n ≡ slice_get piece r
joined-get [] last piece h q r n e l found = absurd cc
joined-get (p ∷ ps) last piece h zero r n e l found =
    let same : p ≡ piece = cc in
    ap (λ l. slice_get l n) (append_assoc p (joined ps) last) ∙ get-front p (joined ps ++ last) n (omega (arith, h.0)) ∙ ap (slice_get p) (let k : n ≡ r = omega arith in k) ∙ ap (λ l. slice_get l r) same
joined-get (p ∷ ps) last piece h (suc q) r n e l found =
    ap (λ l. slice_get l n) (append_assoc p (joined ps) last) ∙ get-behind p (joined ps ++ last) (q * 256 + r) n (omega (arith, h.0)) ∙
    joined-get ps last piece h.1 q r (q * 256 + r) refl l found

-- an element behind all pieces
pub joined-get_last : {X : Type 0} → (pieces : List (List X)) (last : List X) → AllByRecursion (λ piece. length piece ≡ 256) pieces →
    (n : ℕ) → length pieces * 256 ≤ n → slice_get (joined pieces ++ last) n ≡ slice_get last (n - length pieces * 256)
joined-get_last pieces last h n l = get-behind (joined pieces) last (n - length pieces * 256) n (omega (arith, joined-length pieces h))

-- the list has no more elements than its pieces have room for
pub joined-few : {X : Type 0} → (pieces : List (List X)) (last : List X) → ArePieces pieces last → length (joined pieces ++ last) < 2 ^ 41
joined-few pieces last h = let few = h.few in let short = h.short in omega (arith, length-append (joined pieces) last, joined-length pieces h.whole)

-- a place with an element is in the list
pub found-within : {X : Type 0} → (found : Option (Bor X)) (list : List X) (n : ℕ) → option_copied found ≡ slice_get list n → OnSome found (n < length list)
found-within None list n e = tt
found-within (Some x) list n e = slice_get_within list n x.now (sym e)

-- nothing is left where there is no element
pub drop-none : {X : Type 0} → (list : List X) (n : ℕ) → None ≡ slice_get list n → drop n list ≡ []
drop-none [] zero e = refl
drop-none [] (suc n) e = refl
drop-none (x ∷ list) zero e = absurd cc
drop-none (x ∷ list) (suc n) e = drop-none list n e

-- an element, and what is left behind it
pub drop-some : {X : Type 0} → (list : List X) (n : ℕ) (x : X) → Some x ≡ slice_get list n → drop n list ≡ x ∷ drop (n + 1) list
drop-some [] n x e = absurd cc
drop-some (y ∷ list) zero x e = let same : x ≡ y = cc in ap (λ z. z ∷ list) (sym same)
drop-some (y ∷ list) (suc n) x e = drop-some list n x e ∙ ap (λ m. x ∷ drop m (y ∷ list)) (let k : suc (n + 1) ≡ suc n + 1 = omega arith in k)

-- a place without an element is past the end
pub past-end : {X : Type 0} → (list : List X) (n : ℕ) → None ≡ slice_get list n → length list ≤ n
past-end [] n e = omega arith
past-end (x ∷ list) zero e = absurd cc
past-end (x ∷ list) (suc n) e = let rest = past-end list n e in omega arith
