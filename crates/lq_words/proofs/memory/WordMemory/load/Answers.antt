use Rattle.std.proofs.Common.{◌≡◌, ◌<◌, sym, ap, ◌∙◌, arith}
use Rattle.std.specs.Int.{w64, cast_signed, cast_unsigned}
use Rattle.std.proofs.lemmas.Int.{of_z-to_z}
use Rattle.lq_rule.specs.View.{units_at as held_units, word_at as held_word}
use Rattle.lq_rule.proofs.Kept.{load_keeps, cell_of_word}
use Rattle.lq_words.specs.Part.{Holding}
use Rattle.lq_words.specs.Memory.{Space}
use Rattle.lq_words.proofs.Holdings.{units_on, value_on, unit_known}
use Rattle.lq_words.proofs.memory.WordMemory.load.Goals as goal

pub load-requires : goal.load-requires
load-requires c =
    let seat = c.part.inside.seat in
    let here = units_on seat.table_id seat.me c.args.part.now c.part.view_is c.args.cell in
    let unit : 0 < held_units seat.me.0.own c.args.cell = omega (arith, c.requires.unit) in
    let home = ap (λ (p : Holding). p.home) c.part.view_is ∙ c.requires.home ∙ sym (ap (λ (m : Space). m.home) c.self.view_is) in
    let known = unit_known seat.table_id seat.me c.part.invariant c.args.cell unit in
    (home, omega (arith, ap (λ z. z.words) home), load_keeps c.self.inside.table.shared.key _ _ c.args.cell seat.me unit)

pub returns-clause-value : goal.returns-clause-value
returns-clause-value c =
    let seat = c.part.inside.seat in
    let cell = c.args.cell in
    let found : c.load.result ≡ held_word seat.me.0.own cell = c.load.ensures.2.0 ∙ ap (held_word seat.me.0.own) (cell_of_word cell) in
    ap (λ z. cast_signed w64 (cast_unsigned w64 z)) c.cast_signed.ensures ∙ ap (cast_signed w64) (of_z-to_z w64 c.load.result c.load.type_inv ∙ found)
    ∙ sym (value_on seat.table_id seat.me c.args.part.now c.part.view_is cell c.requires.unit)
