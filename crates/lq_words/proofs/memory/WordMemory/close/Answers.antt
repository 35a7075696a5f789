use Rattle.std.proofs.Common.{sym, ap, ◌∙◌, arith}
use Rattle.lq_words.specs.Part.{Holding, HasAllOf}
use Rattle.lq_words.specs.Memory.{Space}
use Rattle.lq_words.proofs.Closing.{closed_values}
use Rattle.lq_words.proofs.memory.WordMemory.close.Goals as goal

pub returns-clause-values : goal.returns-clause-values
returns-clause-values c =
    let seat = c.part.inside.seat in
    let supply = c.self.inside.table.shared.key in
    let home = ap (λ (p : Holding). p.home) c.part.view_is ∙ c.requires.home ∙ sym (ap (λ (m : Space). m.home) c.self.view_is) in
    let cells = ap (λ (m : Space). m.cells) c.self.view_is in
    let words = ap (λ z. z.words) home ∙ c.self.invariant.words in
    let count = c.word_count-cells.ensures in
    let size = c.self.invariant.words in
    let all : HasAllOf c.args.part supply.cells = λ cell inside. c.requires.all cell (omega arith) in
    closed_values supply seat.table_id seat.id seat.me c.args.part _ _ c.part.view_is c.part.invariant words all c.close_with.ensures.values.2
    c.values_of.result.items (let is = c.values_of.ensures.count in omega (arith, c.values_of.result.ok.0)) (λ cell inside. c.values_of.ensures.values cell (omega arith))
