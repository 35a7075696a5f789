-- Sums of multiples of rows.
use Rattle.std.proofs.Common.{◌≡◌, ℕ, ◌+◌, ◌^◌, ◌<◌, ℤ, pos, neg_ℤ, ◌+ℤ◌, ◌*ℤ◌, List, length, drop, get_or, ap, ◌∙◌, arith}
use Rattle.std.proofs.lemmas.Int.{ints}
use Rattle.lq_linear.specs.Terms.{IsWithin}
use Rattle.lq_linear.proofs.LawLemmas.{multiple_le}
use Rattle.lq_validity.specs.declared.sum.Sum.{Sum}
use Rattle.lq_linear.specs.Derivation.{Part}
use Rattle.lq_linear.proofs.CombinationLemmas.{drop_part}
use Rattle.lq_validity.specs.Sum.{multiple, part_sum, parts_sum, IsNear}

pub same_sum : (a b c d : ℤ) → a ≡ c → b ≡ d → ◌≡◌ {A = Sum} (record { weight = a; most = b }) (record { weight = c; most = d })
same_sum a b c d e q = ap (λ x. record { weight = x; most = b }) e ∙ ap (λ x. record { weight = c; most = x }) q

-- a multiple of a number within a bound
product_within : (n : ℕ) (z : ℤ) → n < 4294967296 → IsWithin (2 ^ 82) z → IsWithin (2 ^ 114) (pos n *ℤ z)
product_within n z l h =
    let up = multiple_le n z (pos 4835703278458516698824704) h.high in
    let down = multiple_le n (neg_ℤ (pos 4835703278458516698824704)) z h.low in
    record { low = omega (arith, ints, down, l); high = omega (arith, ints, up, l) }

pub multiple_near : (n : ℕ) (sum : Sum) → n < 4294967296 → IsNear (2 ^ 82) sum → IsNear (2 ^ 114) (multiple n sum)
multiple_near n sum l h = record { weight_near = product_within n sum.weight l h.weight_near; most_near = product_within n sum.most l h.most_near }

-- a part more of a sum
pub step_weight : (sums : List Sum) (parts : List Part) (i : ℕ) (total new whole : ℤ) → i < length parts → total +ℤ (parts_sum sums (drop i parts)).weight ≡ whole
    → new ≡ (part_sum sums (get_or parts i (0, 0))).weight → (total +ℤ new) +ℤ (parts_sum sums (drop (i + 1) parts)).weight ≡ whole
step_weight sums parts i total new whole l h e =
    move total new (part_sum sums (get_or parts i (0, 0))).weight _ _ whole h (ap (λ p. (parts_sum sums p).weight) (drop_part parts i l)) e where
      move : (a b c d r w : ℤ) → a +ℤ d ≡ w → d ≡ c +ℤ r → b ≡ c → (a +ℤ b) +ℤ r ≡ w
      move a b c d r w p q e = omega (arith, ints, p, q, e)
