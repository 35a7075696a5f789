use Rattle.std.proofs.Common.{◌≡◌, ℕ, ◌<◌, length, get_or}
use Rattle.lq_classes.specs.Layout.{start}
use Rattle.lq_classes.proofs.layout.starts_of.Given as goal

abbrev pub invariant-loop-function : goal.invariant-loop-function
invariant-loop-function l =
    record {
      size : length l.starts.items ≡ l.function-index;
      each : (n : ℕ) → n < l.function-index → get_or l.starts.items n 0 ≡ start l.program.funcs n;
      next : l.next ≡ start l.program.funcs l.function-index;
    }
