-- The table of limits, read by its numbers.
use Rattle.std.proofs.Common.{◌≡◌, refl, Some}
use Rattle.lq_tree.specs.declared.limit.Quantity.{Quantity}
use Rattle.lq_tree.specs.declared.limit.Quantity.TheVariants.{SourceBytes, QualifierBytes, InputBytes, PickBytes, ProofBytes, Brackets, Stretch, Functions, InputNumbers, PickNumbers, Structs, Fields, Locals, Branches, Instances, Conditions, Facts, Arms}
use Rattle.lq_tree.specs.Limit.{row_of, numbered}

pub numbered-number : (quantity : Quantity) → numbered (row_of quantity).number ≡ Some quantity
numbered-number SourceBytes = refl
numbered-number QualifierBytes = refl
numbered-number InputBytes = refl
numbered-number PickBytes = refl
numbered-number ProofBytes = refl
numbered-number Brackets = refl
numbered-number Stretch = refl
numbered-number Functions = refl
numbered-number InputNumbers = refl
numbered-number PickNumbers = refl
numbered-number Structs = refl
numbered-number Fields = refl
numbered-number Locals = refl
numbered-number Branches = refl
numbered-number Instances = refl
numbered-number Conditions = refl
numbered-number Facts = refl
numbered-number Arms = refl
