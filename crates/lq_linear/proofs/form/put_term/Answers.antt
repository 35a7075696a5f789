use Rattle.std.proofs.Common.{◌≡◌, pos, ◌+ℤ◌, ◌^◌, ◌<◌, ◌∷◌, ◌++◌, take, drop, get_or, length, arith, subst, sym, ap, ◌∙◌, refl}
use Rattle.std.proofs.lemmas.Int.{ints}
use Rattle.std.proofs.lemmas.List.{get_or_read}
use Rattle.lq_linear.specs.Terms.{IsPlaceOf, IsWithin}
use Rattle.lq_linear.proofs.Collecting.{all_at, adds_gone, adds_onto, adds_new}
use Rattle.lq_linear.proofs.FormLemmas.{sum_held, coefficient_held}
use Rattle.lq_linear.proofs.form.put_term.Goals as goal
use Rattle.lq_linear.proofs.form.put_term.Goals.{else-place-len-via-then-place-len+else-index-symbol, else-place-len-via-else-place-len}

pub returns-then-sum-eq0 : goal.returns-then-sum-eq0
returns-then-sum-eq0 c =
    let old = c.args.terms.now.items in
    let i = c.place_of-place.result in
    let place : IsPlaceOf c.args.symbol old i = subst (λ l. IsPlaceOf c.args.symbol l i) c.deref.ensures.value c.place_of-place.ensures in
    let here : i < length old = omega (arith, c.args.terms.now.ok.0) in
    let read : c.index-then-index-symbol.result.now ≡ get_or old i (0, pos 0) = get_or_read old i _ here c.index-then-index-symbol.ensures (0, pos 0) in
    let read_symbol : c.index.result.now ≡ get_or old i (0, pos 0) = get_or_read old i _ here c.index.ensures (0, pos 0) in
    let near : IsWithin (2 ^ 40) (c.index-then-index-symbol.result.now).1 = subst (λ t. IsWithin (2 ^ 40) t.1) (sym read) (all_at (λ t. IsWithin (2 ^ 40) t.1) old i (0, pos 0) here c.requires.near) in
    let held = sum_held (c.index-then-index-symbol.result.now).1 c.args.coefficient near c.requires.small in
    let none = c.if-sum-eq0.true in
    let gone : (c.index-then-index-symbol.result.now).1 +ℤ c.args.coefficient ≡ pos 0 = omega (arith, ints, near.low, near.high, c.requires.small.within.low, c.requires.small.within.high, none) in
    adds_gone c.args.symbol c.args.coefficient old i place c.requires.small _ here (ap (λ t. t.0) (sym read_symbol) ∙ c.if-index-symbol.true) (ap (λ t. t.1 +ℤ c.args.coefficient) (sym read) ∙ gone) c.remove.ensures.items

pub returns-else-sum-eq0 : goal.returns-else-sum-eq0
returns-else-sum-eq0 c =
    let old = c.args.terms.now.items in
    let i = c.place_of-place.result in
    let place : IsPlaceOf c.args.symbol old i = subst (λ l. IsPlaceOf c.args.symbol l i) c.deref.ensures.value c.place_of-place.ensures in
    let here : i < length old = omega (arith, c.args.terms.now.ok.0) in
    let read : c.index-then-index-symbol.result.now ≡ get_or old i (0, pos 0) = get_or_read old i _ here c.index-then-index-symbol.ensures (0, pos 0) in
    let read_symbol : c.index.result.now ≡ get_or old i (0, pos 0) = get_or_read old i _ here c.index.ensures (0, pos 0) in
    let near : IsWithin (2 ^ 40) (c.index-then-index-symbol.result.now).1 = subst (λ t. IsWithin (2 ^ 40) t.1) (sym read) (all_at (λ t. IsWithin (2 ^ 40) t.1) old i (0, pos 0) here c.requires.near) in
    let held = sum_held (c.index-then-index-symbol.result.now).1 c.args.coefficient near c.requires.small in
    let some = c.if-sum-eq0.false in
    adds_onto c.args.symbol c.args.coefficient old i place c.requires.small _ _ here (ap (λ t. t.0) (sym read_symbol) ∙ c.if-index-symbol.true) (held ∙ ap (λ t. t.1 +ℤ c.args.coefficient) read)
    (λ z. some (omega (arith, ints, near.low, near.high, c.requires.small.within.low, c.requires.small.within.high, sym held ∙ z))) refl

pub returns-in_ok-insert : goal.returns-in_ok-insert
returns-in_ok-insert c =
    let old = c.args.terms.now.items in
    let i = c.place_of-place.result in
    let place : IsPlaceOf c.args.symbol old i = subst (λ l. IsPlaceOf c.args.symbol l i) c.deref.ensures.value c.place_of-place.ensures in
    adds_new c.args.symbol c.args.coefficient old i place c.requires.small _
    (λ here e. elim c.else-place-len.branch [
      | else-place-len-via-then-place-len+else-index-symbol w ↦ absurd (w.if-index-symbol.false (ap (λ t. t.0) (get_or_read old i _ here w.index.ensures (0, pos 0)) ∙ e))
      | else-place-len-via-else-place-len w ↦ absurd (omega (arith, c.args.terms.now.ok.0))
    ])
    (c.in_ok-insert.ensures.items ∙ ap (λ z. take i old ++ (c.args.symbol, z) ∷ drop i old) (coefficient_held c.args.coefficient c.requires.small))
