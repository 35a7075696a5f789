use Rattle.std.proofs.Common.{◌≡◌, ℕ, ◌+◌, ◌≤◌, sym, ap, refl, ◌∙◌, arith}
use Rattle.lq_rule.specs.View.{units_at as held_units}
use Rattle.lq_rule.specs.Steps.{Seated}
use Rattle.lq_rule.proofs.Kept.{join_keeps, look_keeps}
use Rattle.lq_words.specs.Part.{Holding, holding_of, IsSettled}
use Rattle.lq_words.specs.Memory.{Space}
use Rattle.lq_words.proofs.Holdings.{units_on, settled_as, keeps_as}
use Rattle.lq_words.proofs.Joins.{whole_of, new_is, new_agree, new_most, whole_units, whole_settled, keeps_first, keeps_second}
use Rattle.lq_words.proofs.memory.WordMemory.rejoin.Goals as goal

pub join_seat-requires : goal.join_seat-requires
join_seat-requires c =
    let here = sym (ap (λ (m : Space). m.home) c.self.view_is) in
    let one = ap (λ (p : Holding). p.home) c.a.view_is ∙ c.requires.first ∙ here in
    let other = ap (λ (p : Holding). p.home) c.b.view_is ∙ c.requires.second ∙ here in
    (one, other, c.b.invariant.slots, omega arith, join_keeps c.self.inside.table.shared.key _ _ _ _ c.a.invariant.unspent)

pub load-requires : goal.load-requires
load-requires c =
    let one = ap (λ (p : Holding). p.home) c.a.view_is ∙ c.requires.first ∙ sym (ap (λ (m : Space). m.home) c.self.view_is) in
    let joined = c.join_seat.ensures in
    let all = ap (λ (m : Seated). m.0.all) joined.2 in
    (joined.0 ∙ one, omega arith, look_keeps c.self.inside.table.shared.key _ _ _ (omega (arith, c.a.invariant.unspent)))

-- the second seat is one of the first one's table
same_table : (c : goal.After-load) → c.a.inside.seat.table_id ≡ c.b.inside.seat.table_id
same_table c =
    let here = sym (ap (λ (m : Space). m.home) c.self.view_is) in
    let one = ap (λ (p : Holding). p.home) c.a.view_is ∙ c.requires.first ∙ here in
    let other = ap (λ (p : Holding). p.home) c.b.view_is ∙ c.requires.second ∙ here in
    one ∙ sym other

second_settled : (c : goal.After-load) → IsSettled c.a.inside.seat.table_id c.b.inside.seat.me
second_settled c = settled_as _ _ _ _ (same_table c) refl c.b.invariant

whole_is : (c : goal.After-load) → c.load.new.seat.me ≡ whole_of c.a.inside.seat.me c.b.inside.seat.me
whole_is c = new_is c.a.inside.seat.me c.b.inside.seat.me c.join_seat.new.seat.me c.load.new.seat.me _ _ c.a.invariant.slots c.join_seat.ensures.2 c.load.ensures.2

most_units : (c : goal.After-load) (cell : ℕ) → held_units c.a.inside.seat.me.0.own cell + held_units c.b.inside.seat.me.0.own cell ≤ c.a.inside.seat.me.0.all
most_units c = new_most c.a.inside.seat.me c.b.inside.seat.me c.join_seat.new.seat.me c.load.new.seat.me _ _ c.a.invariant.slots c.join_seat.ensures.2 c.load.ensures.2

pub invariant_of-result : goal.invariant_of-result
invariant_of-result c =
    let table = c.a.inside.seat.table_id in
    settled_as _ _ _ _ (c.load.ensures.0 ∙ c.join_seat.ensures.0) (whole_is c)
    (whole_settled table c.a.inside.seat.me c.b.inside.seat.me c.a.invariant (second_settled c) (most_units c))

pub returns-clause-units : goal.returns-clause-units
returns-clause-units c = λ cell.
    let a = c.a.inside.seat in
    let b = c.b.inside.seat in
    let one = units_on a.table_id a.me c.args.a c.a.view_is cell in
    let other = units_on b.table_id b.me c.args.b c.b.view_is cell in
    let both = whole_units a.table_id a.me b.me c.a.invariant (second_settled c) cell in
    ap (λ (m : Seated). held_units m.0.own cell) (whole_is c) ∙ both ∙ omega arith

pub returns-clause-within : goal.returns-clause-within
returns-clause-within c = λ cell.
    let a = c.a.inside.seat in
    let b = c.b.inside.seat in
    let is = ap (λ (m : Seated). held_units m.0.own cell) (whole_is c) in
    let all = ap (λ (m : Seated). m.0.all) (whole_is c) in
    let both = whole_units a.table_id a.me b.me c.a.invariant (second_settled c) cell in
    let most = most_units c cell in
    omega arith

pub returns-clause-values : goal.returns-clause-values
returns-clause-values c =
    let a = c.a.inside.seat in
    let b = c.b.inside.seat in
    let second = second_settled c in
    let agree = new_agree a.me b.me c.join_seat.new.seat.me c.load.new.seat.me _ _ c.a.invariant.slots c.join_seat.ensures.2 c.load.ensures.2 in
    let result_is : holding_of a.table_id (whole_of a.me b.me) ≡ holding_of c.load.new.seat.table_id c.load.new.seat.me = λ i. holding_of (sym (c.load.ensures.0 ∙ c.join_seat.ensures.0) i) (sym (whole_is c) i) in (
      keeps_as _ _ _ _ result_is c.a.view_is (keeps_first a.table_id a.me b.me c.a.invariant second),
      keeps_as _ _ _ _ result_is (ap (λ t. holding_of t b.me) (same_table c) ∙ c.b.view_is) (keeps_second a.table_id a.me b.me c.a.invariant second agree),
    )
