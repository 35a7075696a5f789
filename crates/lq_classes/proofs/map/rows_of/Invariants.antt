use Rattle.std.proofs.Common.{◌≡◌, ◌++◌, length, drop}
use Rattle.lq_classes.specs.Layout.{total, parts_of}
use Rattle.lq_classes.proofs.map.rows_of.Given as goal

abbrev pub invariant-loop-function : goal.invariant-loop-function
invariant-loop-function l =
    record {
      all : l.rows ++ parts_of (drop l.function-index l.program.funcs) l.rest ≡ parts_of l.program.funcs l.numbers;
      size : length l.rest ≡ total (drop l.function-index l.program.funcs);
    }
