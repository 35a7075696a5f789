use Rattle.std.proofs.Common.{◌+◌, ◌*◌, ap, ◌∙◌, pos, slice_index_or, rules}
use Rattle.std.specs.Int.{w64}
use Rattle.std.proofs.lemmas.Int.{to_z-of_z}
use Rattle.lq_meaning.specs.declared.memory.Block.{Block}
use Rattle.lq_meaning.proofs.Positions.{block_read}
use Rattle.lq_meaning.proofs.memory.Memory.word_at.Goals as goal

pub returns : goal.returns
returns c =
    to_z-of_z w64 c.word_at.result (search rules)
    ∙ c.word_at.ensures
    ∙ ap (λ (b : Block). slice_index_or b.words (c.args.element * b.fields + c.args.field) (pos 0)) (block_read c.args.self.now c.args.block c.args.element c.args.field c.index.result.now c.requires (search rules))
