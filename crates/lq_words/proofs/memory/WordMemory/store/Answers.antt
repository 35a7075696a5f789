use Rattle.std.proofs.Common.{◌≡◌, ◌<◌, sym, ap, ◌∙◌, arith}
use Rattle.lq_rule.specs.View.{units_at as held_units}
use Rattle.lq_rule.specs.Steps.{Seated, with_word}
use Rattle.lq_rule.proofs.Kept.{store_keeps, cell_of_word}
use Rattle.lq_words.specs.Part.{Holding, value_at, holding_of}
use Rattle.lq_words.specs.Memory.{Space}
use Rattle.lq_words.proofs.Holdings.{units_on, unit_known, signed_back}
use Rattle.lq_words.proofs.Stores.{stored_value, other_value}
use Rattle.lq_words.proofs.memory.WordMemory.store.Goals as goal

pub store-requires : goal.store-requires
store-requires c =
    let seat = c.part.inside.seat in
    let cell = c.args.cell in
    let settled = c.part.invariant in
    let here = units_on seat.table_id seat.me c.args.part.now c.part.view_is cell in
    let most = ap (λ (p : Holding). p.all) c.part.view_is in
    let all : held_units seat.me.0.own cell ≡ seat.me.0.all = omega (arith, c.requires.all) in
    let home = ap (λ (p : Holding). p.home) c.part.view_is ∙ c.requires.home ∙ sym (ap (λ (m : Space). m.home) c.self.view_is) in
    let known = unit_known seat.table_id seat.me settled cell (omega (arith, settled.unspent)) in
    let words = ap (λ z. z.words) home in
    let size = c.self.invariant.words in
    let cells = settled.cells in
    let lengths = settled.words in
    (home, omega arith, store_keeps c.self.inside.table.shared.key _ _ cell _ seat.me (omega arith) (omega arith) settled.unspent all)

pub returns-clause-value : goal.returns-clause-value
returns-clause-value c =
    let seat = c.part.inside.seat in
    let cell = c.args.cell in
    let settled = c.part.invariant in
    let here = units_on seat.table_id seat.me c.args.part.now c.part.view_is cell in
    let most = ap (λ (p : Holding). p.all) c.part.view_is in
    let unit : 0 < held_units seat.me.0.own cell = omega (arith, c.requires.all, settled.unspent) in
    let known = unit_known seat.table_id seat.me settled cell unit in
    let lengths = settled.words in
    let word = c.cast_unsigned.result in
    ap (λ (m : Seated). value_at (holding_of seat.table_id m) cell) (c.store.ensures.2 ∙ ap (λ k. (with_word seat.me.0 k word, seat.me.1)) (cell_of_word cell))
    ∙ stored_value seat.table_id seat.me cell word unit (omega arith)
    ∙ signed_back word c.args.value c.ranges.value c.cast_unsigned.ensures

pub returns-clause-others : goal.returns-clause-others
returns-clause-others c = λ other apart.
    let seat = c.part.inside.seat in
    let cell = c.args.cell in
    let word = c.cast_unsigned.result in
    ap (λ (m : Seated). value_at (holding_of seat.table_id m) other) (c.store.ensures.2 ∙ ap (λ k. (with_word seat.me.0 k word, seat.me.1)) (cell_of_word cell))
    ∙ other_value seat.table_id seat.me cell word other apart
    ∙ ap (λ (p : Holding). value_at p other) c.part.view_is
