use Rattle.std.proofs.Common.{◌≡◌, ℕ, ◌-◌, sym, ap, ◌∙◌, arith}
use Rattle.lq_rule.specs.View.{units_at as held_units}
use Rattle.lq_rule.specs.Steps.{Seated, foot_part}
use Rattle.lq_rule.proofs.Kept.{split_keeps}
use Rattle.lq_words.specs.Part.{Holding, holding_of}
use Rattle.lq_words.specs.Memory.{Space}
use Rattle.lq_words.proofs.Holdings.{units_on, settled_as, keeps_as}
use Rattle.lq_words.proofs.Splits.{piece_units, piece_settled, piece_values, foot_within, rest_within}
use Rattle.lq_words.proofs.memory.WordMemory.part.Goals as goal

pub split_seat-rest-requires : goal.split_seat-rest-requires
split_seat-rest-requires g c =
    let seat = c.whole.inside.seat in
    let home = ap (λ (p : Holding). p.home) c.whole.view_is ∙ c.requires.home ∙ sym (ap (λ (m : Space). m.home) c.self.view_is) in
    (home, omega arith, split_keeps c.self.inside.table.shared.key g.F.Foot.foot seat.id seat.me.0 (foot_within seat.table_id seat.me c.args.whole g.F.Foot.foot c.whole.view_is c.requires.within))

pub invariant_of-result : goal.invariant_of-result
invariant_of-result g c =
    let seat = c.whole.inside.seat in
    let made = c.split_seat-rest.ensures in
    let foot = g.F.Foot.foot in
    let known = c.whole.invariant in
    settled_as _ _ _ _ made.0 (made.2 ∙ ap (λ s. (foot_part foot seat.me.0, s)) known.slots)
    (piece_settled seat.table_id seat.me foot (foot_within seat.table_id seat.me c.args.whole foot c.whole.view_is c.requires.within) known)

pub invariant_of-result-2 : goal.invariant_of-result-2
invariant_of-result-2 g c =
    let seat = c.whole.inside.seat in
    let made = c.split_seat-rest.ensures in
    let foot = g.F.Foot.foot in
    settled_as _ _ _ _ made.3 made.4 (piece_settled seat.table_id seat.me (λ cell. held_units seat.me.0.own cell - foot cell) (rest_within seat.me foot) c.whole.invariant)

pub returns-clause-first : goal.returns-clause-first
returns-clause-first g c = λ cell.
    let seat = c.whole.inside.seat in
    let made = c.split_seat-rest.ensures in
    let foot = g.F.Foot.foot in
    ap (λ (m : Seated). held_units m.0.own cell) made.2 ∙ piece_units seat.table_id seat.me foot (foot_within seat.table_id seat.me c.args.whole foot c.whole.view_is c.requires.within) cell

pub returns-clause-second : goal.returns-clause-second
returns-clause-second g c = λ cell.
    let seat = c.whole.inside.seat in
    let made = c.split_seat-rest.ensures in
    let foot = g.F.Foot.foot in
    let less = foot_within seat.table_id seat.me c.args.whole foot c.whole.view_is c.requires.within cell in
    let known = units_on seat.table_id seat.me c.args.whole c.whole.view_is cell in
    let is : held_units c.split_seat-rest.result.me.0.own cell ≡ held_units seat.me.0.own cell - foot cell =
    ap (λ (m : Seated). held_units m.0.own cell) made.4 ∙ piece_units seat.table_id seat.me (λ k. held_units seat.me.0.own k - foot k) (rest_within seat.me foot) cell
    in omega arith

pub returns-clause-values : goal.returns-clause-values
returns-clause-values g c =
    let seat = c.whole.inside.seat in
    let made = c.split_seat-rest.ensures in
    let foot = g.F.Foot.foot in
    let rest : ℕ → ℕ = λ cell. held_units seat.me.0.own cell - foot cell in (
      keeps_as _ _ _ _ c.whole.view_is
          (λ i. holding_of (sym made.0 i) (sym (made.2 ∙ ap (λ s. (foot_part foot seat.me.0, s)) c.whole.invariant.slots) i))
          (piece_values seat.table_id seat.me foot (foot_within seat.table_id seat.me c.args.whole foot c.whole.view_is c.requires.within)),
      keeps_as _ _ _ _ c.whole.view_is (λ i. holding_of (sym made.3 i) (sym made.4 i)) (piece_values seat.table_id seat.me rest (rest_within seat.me foot)),
    )
