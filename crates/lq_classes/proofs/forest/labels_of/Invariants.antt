use Rattle.std.proofs.Common.{◌≡◌, ℕ, ◌<◌, length, get_or}
use Rattle.lq_classes.specs.Forest.{Leads}
use Rattle.lq_classes.proofs.forest.labels_of.Given as goal

abbrev pub invariant-loop-number : goal.invariant-loop-number
invariant-loop-number l =
    record {
      size : length l.labels.items ≡ l.number;
      found : (i : ℕ) → i < l.number → Leads l.parents i (get_or l.labels.items i 0);
      same : (i : ℕ) → i < l.number → get_or l.labels.items (get_or l.parents i 0) 0 ≡ get_or l.labels.items i 0;
    }
