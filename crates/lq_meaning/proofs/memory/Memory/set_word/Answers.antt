use Rattle.std.proofs.Common.{◌-◌, rules, ap, ◌∙◌, slice_set}
use Rattle.lq_meaning.specs.Memory.{Blocks}
use Rattle.lq_meaning.proofs.Positions.{block_written}
use Rattle.lq_meaning.proofs.memory.Memory.set_word.Goals as goal

pub returns : goal.returns
returns c =
    ap (λ (m : Blocks). slice_set m (c.args.block - 1) c.set_word.new.self) c.self.view_is
    ∙ block_written c.args.self.now c.args.block c.args.element c.args.field c.args.word c.index_mut.result.now c.set_word.new.self c.requires (search rules) c.set_word.ensures.fields (search rules)
