use Rattle.std.proofs.Common.{◌≡◌, ◌≤◌, ◌^◌, pos, map}
use Rattle.std.specs.List.{range_with_len}
use Rattle.lq_work.specs.Numbers.{number_at}
use Rattle.lq_work.proofs.workload.numbers.Given as goal

abbrev pub invariant-loop : goal.invariant-loop
invariant-loop l = record {
  number : l.number ≡ number_at l.fn.n l.counter;
  small : l.number ≤ 2 ^ 31;
  made : l.made.items ≡ map (λ place. pos (number_at l.fn.n place)) (range_with_len 1 l.counter);
}
