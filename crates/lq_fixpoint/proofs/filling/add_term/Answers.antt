use Rattle.std.proofs.Common.{◌≡◌, pos, ◌+ℤ◌, ◌<◌, ◌++◌, ◌∷◌, take, drop, length, get_or, arith, subst, sym, ap, ◌∙◌, to_z, of_z, w64}
use Rattle.std.proofs.lemmas.Int.{ints}
use Rattle.std.proofs.lemmas.List.{get_or_read}
use Rattle.lq_linear.specs.Terms.{IsPlaceOf}
use Rattle.lq_fixpoint.proofs.FillingLemmas.{term_gone, term_set, term_new, term_none, some_is, some_fits}
use Rattle.lq_fixpoint.proofs.filling.add_term.Goals as goal
use Rattle.lq_fixpoint.proofs.filling.add_term.Goals.{else-place-len-via-then-place-len+else-index-symbol, else-place-len-via-else-place-len}

pub returns-then-sum-eq0 : goal.returns-then-sum-eq0
returns-then-sum-eq0 c =
    let old = c.args.terms.now.items in
    let i = c.place_of-place.result in
    let place : IsPlaceOf c.args.symbol old i = subst (λ l. IsPlaceOf c.args.symbol l i) c.deref.ensures.value c.place_of-place.ensures in
    let here : i < length old = omega (arith, c.args.terms.now.ok.0) in
    let read : c.index-then-index-symbol.result.now ≡ get_or old i (0, pos 0) = get_or_read old i _ here c.index-then-index-symbol.ensures (0, pos 0) in
    let read_symbol : c.index.result.now ≡ get_or old i (0, pos 0) = get_or_read old i _ here c.index.ensures (0, pos 0) in
    let number : to_z w64 (of_z w64 c.args.number) ≡ c.args.number = omega (arith, ints) in
    let there : to_z w64 (of_z w64 (c.index-then-index-symbol.result.now).1) ≡ (c.index-then-index-symbol.result.now).1 = omega (arith, ints) in
    let fits = some_fits _ _ _ _ c.checked_add.ensures c.in_ok-sum.ensures.ok_part in
    let sum = some_is _ _ _ _ c.checked_add.ensures c.in_ok-sum.ensures.ok_part in
    let none = c.if-sum-eq0.true in
    let zero : c.args.number +ℤ (c.index-then-index-symbol.result.now).1 ≡ pos 0 = omega (arith, ints, fits, sum, none, number, there) in
    c.remove.ensures.items ∙ term_gone c.args.symbol c.args.number old i place here (ap (λ t. t.0) (sym read_symbol) ∙ c.if-index-symbol.true) (ap (λ t. c.args.number +ℤ t.1) (sym read) ∙ zero)

pub returns-else-sum-eq0 : goal.returns-else-sum-eq0
returns-else-sum-eq0 c =
    let old = c.args.terms.now.items in
    let i = c.place_of-place.result in
    let place : IsPlaceOf c.args.symbol old i = subst (λ l. IsPlaceOf c.args.symbol l i) c.deref.ensures.value c.place_of-place.ensures in
    let here : i < length old = omega (arith, c.args.terms.now.ok.0) in
    let read : c.index-then-index-symbol.result.now ≡ get_or old i (0, pos 0) = get_or_read old i _ here c.index-then-index-symbol.ensures (0, pos 0) in
    let read_symbol : c.index.result.now ≡ get_or old i (0, pos 0) = get_or_read old i _ here c.index.ensures (0, pos 0) in
    let number : to_z w64 (of_z w64 c.args.number) ≡ c.args.number = omega (arith, ints) in
    let there : to_z w64 (of_z w64 (c.index-then-index-symbol.result.now).1) ≡ (c.index-then-index-symbol.result.now).1 = omega (arith, ints) in
    let fits = some_fits _ _ _ _ c.checked_add.ensures c.in_ok-sum.ensures.ok_part in
    let sum = some_is _ _ _ _ c.checked_add.ensures c.in_ok-sum.ensures.ok_part in
    let held : to_z w64 (of_z w64 c.in_ok-sum.sum) ≡ c.args.number +ℤ (c.index-then-index-symbol.result.now).1 = omega (arith, ints, fits, sum, number, there) in
    term_set c.args.symbol c.args.number old i place (to_z w64 (of_z w64 c.in_ok-sum.sum)) here (ap (λ t. t.0) (sym read_symbol) ∙ c.if-index-symbol.true) (held ∙ ap (λ t. c.args.number +ℤ t.1) read)
    (λ z. c.if-sum-eq0.false (omega (arith, ints, z)))

pub returns-in_ok-insert : goal.returns-in_ok-insert
returns-in_ok-insert c =
    let old = c.args.terms.now.items in
    let i = c.place_of-place.result in
    let place : IsPlaceOf c.args.symbol old i = subst (λ l. IsPlaceOf c.args.symbol l i) c.deref.ensures.value c.place_of-place.ensures in
    let number : to_z w64 (of_z w64 c.args.number) ≡ c.args.number = omega (arith, ints) in
    c.in_ok-insert.ensures.items
    ∙ ap (λ z. take i old ++ (c.args.symbol, z) ∷ drop i old) number
    ∙ term_new c.args.symbol c.args.number old i place
    (λ here e. elim c.else-place-len.branch [
      | else-place-len-via-then-place-len+else-index-symbol w ↦ absurd (w.if-index-symbol.false (ap (λ t. t.0) (get_or_read old i _ here w.index.ensures (0, pos 0)) ∙ e))
      | else-place-len-via-else-place-len w ↦ absurd (omega (arith, c.args.terms.now.ok.0))
    ])
    (λ z. c.if-number-ne0.true (omega (arith, ints, z)))

pub returns-else-number-ne0 : goal.returns-else-number-ne0
returns-else-number-ne0 c =
    let old = c.args.terms.now.items in
    let i = c.place_of-place.result in
    let place : IsPlaceOf c.args.symbol old i = subst (λ l. IsPlaceOf c.args.symbol l i) c.deref.ensures.value c.place_of-place.ensures in
    term_none c.args.symbol c.args.number old i place
    (λ here e. elim c.else-place-len.branch [
      | else-place-len-via-then-place-len+else-index-symbol w ↦ absurd (w.if-index-symbol.false (ap (λ t. t.0) (get_or_read old i _ here w.index.ensures (0, pos 0)) ∙ e))
      | else-place-len-via-else-place-len w ↦ absurd (omega (arith, c.args.terms.now.ok.0))
    ])
    (omega (arith, ints, c.if-number-ne0.false))
