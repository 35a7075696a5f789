-- How the counts of a shape go on. Private: no public clause names it.
use Rattle.std.specs.Prelude.{ℕ, List}
use Rattle.lq_lexer.specs.declared.shape.Count.{Count}
use Rattle.lq_lexer.specs.declared.shape.Count.TheVariants.{Brackets, Stretch}
use Rattle.lq_lexer.specs.Shape.{open_after, stretch_after}

-- a count, one token on
abbrev pub count_after : Count → ℕ → List ℕ → ℕ
count_after Brackets count token = open_after count token
count_after Stretch count token = stretch_after count token
