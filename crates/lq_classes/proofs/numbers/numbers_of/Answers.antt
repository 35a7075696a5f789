use Rattle.std.proofs.Common.{ℕ, ◌<◌, get_or, length, ap, sym, subst, ◌∙◌, List, ◌++◌, [], ◌∷◌, ◌+◌, arith}
use Rattle.lq_classes.proofs.NumberLemmas.{Numbered, numbered_start, number_none, number_one, numbers_all}
use Rattle.lq_classes.proofs.numbers.numbers_of.Goals.{then-is_pointer+in_ok-push, else-is_pointer+in_ok-push-2}
use Rattle.lq_classes.proofs.numbers.numbers_of.Goals as goal

pub loop-at-init : goal.loop-at-init
loop-at-init c = numbered_start c.args.pointers.now c.args.labels.now c.in_ok-seen.seen.items c.new-numbers.result.items (c.in_ok-seen.ensures.items_if_clones_equal (λ y e. e)) c.new-numbers.ensures.items

pub loop-at-preserved : goal.loop-at-preserved
loop-at-preserved c =
    let pointers = c.args.pointers.now in
    let labels = c.args.labels.now in
    let at = c.loop-at.at in
    elim c.if-is_pointer.branch [
      | then-is_pointer+in_ok-push w ↦
          let down = c.requires.within at in
          let inside : get_or labels at 0 < length labels = omega (arith, down, c.loop-at-test.true, c.requires.size) in
          let one = number_one pointers labels c.loop-at.seen.items c.loop-at.numbers.items c.loop-at.count at w.number.result w.number.new.count w.number.new.seen.items w.push.new.self.items c.loop-at.invariant
          w.if-is_pointer.true inside w.number.ensures.met w.number.ensures.next w.in_ok-push.ensures.items in
          subst (λ (ss : List ℕ). Numbered pointers labels ss c.if-is_pointer.numbers.items c.if-is_pointer.count (at + 1)) (ap (λ v. v.items) (sym w.seen-is))
          (subst (λ (ns : List ℕ). Numbered pointers labels w.number.new.seen.items ns c.if-is_pointer.count (at + 1)) (ap (λ v. v.items) (sym w.numbers-is))
          (subst (λ n. Numbered pointers labels w.number.new.seen.items w.push.new.self.items n (at + 1)) (sym w.count-is) one))
      | else-is_pointer+in_ok-push-2 w ↦
          let one = number_none pointers labels c.loop-at.seen.items c.loop-at.numbers.items c.loop-at.count at c.loop-at.invariant w.if-is_pointer.false in
          subst (λ (ss : List ℕ). Numbered pointers labels ss c.if-is_pointer.numbers.items c.if-is_pointer.count (at + 1)) (ap (λ v. v.items) (sym w.seen-is))
          (subst (λ (ns : List ℕ). Numbered pointers labels c.loop-at.seen.items ns c.if-is_pointer.count (at + 1)) (sym (ap (λ v. v.items) w.numbers-is ∙ w.in_ok-push-2.ensures.items))
          (subst (λ n. Numbered pointers labels c.loop-at.seen.items (c.loop-at.numbers.items ++ 0 ∷ []) n (at + 1)) (sym w.count-is) one))
    ]

pub returns : goal.returns
returns c = numbers_all c.args.pointers.now c.args.labels.now c.loop-at.seen.items c.loop-at.numbers.items c.loop-at.count c.loop-at.at c.loop-at.invariant (omega (arith, c.loop-at-test.false, c.loop-at.auto.at-end))
