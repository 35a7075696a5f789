-- The names of the kinds of traps (docs/LANGUAGE.md, "Traps").
use Rattle.std.specs.Prelude.{ℕ, List, codes}
use Rattle.lq_tree.specs.declared.trap.TrapKind.{TrapKind}
use Rattle.lq_tree.specs.declared.trap.TrapKind.TheVariants.{Overflow, Zero, Offset, Count, Words, Depth, Range}

-- the word for a kind of trap
abbrev pub kind_text : TrapKind → List ℕ
kind_text Overflow = codes "overflow"
kind_text Zero = codes "zero"
kind_text Offset = codes "offset"
kind_text Count = codes "count"
kind_text Words = codes "words"
kind_text Depth = codes "depth"
kind_text Range = codes "range"
