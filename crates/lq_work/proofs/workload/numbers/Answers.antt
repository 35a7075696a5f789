use Rattle.std.proofs.Common.{◌≡◌, ◌+◌, ◌*◌, ◌%◌, ℕ, ℤ, pos, List, [], ◌∷◌, ◌++◌, map, ap, sym, ◌∙◌, add-one, arith, w64}
use Rattle.std.specs.List.{range_with_len}
use Rattle.std.proofs.lemmas.List.FromFn.{map-range_with_len_more}
use Rattle.std.proofs.lemmas.Int.{to_z_pos}
use Rattle.lq_work.specs.Numbers.{number_at}
use Rattle.lq_work.proofs.workload.numbers.Goals as goal

-- the number at the next place is made of that at this one
number_more : (n k x : ℕ) → x ≡ number_at n k → (x * 1103515245 + 12345) % 2147483648 ≡ number_at n (k + 1)
number_more n k x same = rw add-one (ap (λ y. (y * 1103515245 + 12345) % 2147483648) same)

-- one number more, behind those before it
numbers_more :
    (n k x : ℕ) (before : List ℤ) → x ≡ number_at n (k + 1) → before ≡ map (λ place. pos (number_at n place)) (range_with_len 1 k)
    → before ++ pos x ∷ [] ≡ map (λ place. pos (number_at n place)) (range_with_len 1 (k + 1))
numbers_more n k x before number made =
    let more = map-range_with_len_more (λ place. pos (number_at n place)) 1 k (k + 1) (omega arith) in
    ap (λ list. list ++ pos x ∷ []) made
    ∙ (ap (λ y. map (λ place. pos (number_at n place)) (range_with_len 1 k) ++ pos y ∷ []) number ∙ sym more)

pub loop-preserved : goal.loop-preserved
loop-preserved c =
    let next = number_more c.args.n c.loop.counter c.loop.number c.loop.invariant.number in
    let next_number = (c.loop.number * 1103515245 + 12345) % 2147483648 in
    record {
      number = next;
      small = omega arith;
      made =
          c.in_ok-push.ensures.items
          ∙ (ap (λ z. c.loop.made.items ++ z ∷ []) (to_z_pos w64 next_number (omega arith)) ∙ numbers_more _ _ _ _ next c.loop.invariant.made);
    }
