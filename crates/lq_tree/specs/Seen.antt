-- The types of the code, as those of the definitions.
use Rattle.lq_tree.specs.declared.types.ExprType.{ExprType}
use Rattle.lq_tree.specs.declared.types.ExprType.TheVariants as known
use Rattle.lq_tree.specs.Types.{Ty, Number, Pointer, Element, Whole, Nothing, Unknown}

-- a type of the code, without its references
abbrev pub seen : ExprType → Ty
seen known.Number = Number
seen (known.Pointer base stars) = Pointer base.now stars
seen (known.Element name) = Element name.now
seen (known.Whole name) = Whole name.now
seen known.Nothing = Nothing
seen known.Unknown = Unknown
