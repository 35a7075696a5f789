use Rattle.std.proofs.Common.{◌≡◌, arith, to_z, of_z, w64, refl}
use Rattle.std.proofs.lemmas.Int.{ints}
use Rattle.std.proofs.lemmas.Result.{err_from_is_err_and}
use Rattle.lq_meaning.specs.Operators.{Fails, Computes}
use Rattle.lq_meaning.specs.PlainMeaning as spec
use Rattle.lq_meaning.proofs.Values.{ok_of, err_of, tested_is, bin_fails, bin_decided, bin_then, shift_is}
use Rattle.lq_meaning.proofs.value.+values.Goals as goal

pub computed-returns-in_err-left-in-Bin-clause-err : goal.computed-returns-in_err-left-in-Bin-clause-err
computed-returns-in_err-left-in-Bin-clause-err t c =
    let p = err_from_is_err_and c.from_residual-in_err-left-in-Bin.result c.from_residual-in_err-left-in-Bin.ensures.1 in
    rw (p.1, p.2)
    (bin_fails c.args.slots.now c.args.e.now c.in-Bin.left c.in-Bin.right c.get-in-Bin.result.now c.in-Bin.right c.in-Bin.op c.in-Bin.is c.get-in-Bin.ensures refl
    c.in_err-left-in-Bin.field-0.0 c.in_err-left-in-Bin.ensures.err)

pub computed-returns-in-Some-clause-ok : goal.computed-returns-in-Some-clause-ok
computed-returns-in-Some-clause-ok t c =
    let word : to_z w64 (of_z w64 c.in-Some.word) ≡ c.in-Some.word = omega (arith, ints) in
    let left : to_z w64 (of_z w64 c.in_ok-left-in-Bin.left) ≡ c.in_ok-left-in-Bin.left = omega (arith, ints) in
    rw (word)
    (bin_decided c.args.slots.now c.args.e.now c.in-Bin.left c.in-Bin.right c.get-in-Bin.result.now c.in-Bin.right c.in-Bin.op c.in-Bin.is c.get-in-Bin.ensures refl
    (to_z w64 (of_z w64 c.in_ok-left-in-Bin.left)) c.in-Some.word (rw (left) c.in_ok-left-in-Bin.ensures.ok) c.in-Some.ensures.some)

pub computed-returns-in_err-value-in-None-clause-err : goal.computed-returns-in_err-value-in-None-clause-err
computed-returns-in_err-value-in-None-clause-err t c =
    let p = err_from_is_err_and c.from_residual-in_err-value-in-None.result c.from_residual-in_err-value-in-None.ensures.1 in
    let left : to_z w64 (of_z w64 c.in_ok-left-in-Bin.left) ≡ c.in_ok-left-in-Bin.left = omega (arith, ints) in
    rw (p.1, p.2)
    (bin_then c.args.slots.now c.args.e.now c.in-Bin.left c.in-Bin.right c.get-in-Bin.result.now c.get-in-None.result.now c.in-Bin.op c.in-Bin.is c.get-in-Bin.ensures c.get-in-None.ensures
    (to_z w64 (of_z w64 c.in_ok-left-in-Bin.left)) (rw (left) c.in_ok-left-in-Bin.ensures.ok) c.in-None.ensures.none (Fails c.in_err-value-in-None.field-0.0) c.in_err-value-in-None.ensures.err)

pub computed-returns-in_ok-value-in-None-clause-ok : goal.computed-returns-in_ok-value-in-None-clause-ok
computed-returns-in_ok-value-in-None-clause-ok t c =
    let left : to_z w64 (of_z w64 c.in_ok-left-in-Bin.left) ≡ c.in_ok-left-in-Bin.left = omega (arith, ints) in
    let right : to_z w64 (of_z w64 c.in_ok-value-in-None.field-0) ≡ c.in_ok-value-in-None.field-0 = omega (arith, ints) in
    let it = bin_then c.args.slots.now c.args.e.now c.in-Bin.left c.in-Bin.right c.get-in-Bin.result.now c.get-in-None.result.now c.in-Bin.op c.in-Bin.is c.get-in-Bin.ensures c.get-in-None.ensures
    (to_z w64 (of_z w64 c.in_ok-left-in-Bin.left)) (rw (left) c.in_ok-left-in-Bin.ensures.ok) c.in-None.ensures.none
    (Computes (to_z w64 (of_z w64 c.in_ok-value-in-None.field-0))) (rw (right) c.in_ok-value-in-None.ensures.ok) in
    rw (it) (ok_of c.arithmetic.result _ c.arithmetic.ensures)

pub computed-returns-in_ok-value-in-None-clause-err : goal.computed-returns-in_ok-value-in-None-clause-err
computed-returns-in_ok-value-in-None-clause-err t c =
    let left : to_z w64 (of_z w64 c.in_ok-left-in-Bin.left) ≡ c.in_ok-left-in-Bin.left = omega (arith, ints) in
    let right : to_z w64 (of_z w64 c.in_ok-value-in-None.field-0) ≡ c.in_ok-value-in-None.field-0 = omega (arith, ints) in
    let it = bin_then c.args.slots.now c.args.e.now c.in-Bin.left c.in-Bin.right c.get-in-Bin.result.now c.get-in-None.result.now c.in-Bin.op c.in-Bin.is c.get-in-Bin.ensures c.get-in-None.ensures
    (to_z w64 (of_z w64 c.in_ok-left-in-Bin.left)) (rw (left) c.in_ok-left-in-Bin.ensures.ok) c.in-None.ensures.none
    (Computes (to_z w64 (of_z w64 c.in_ok-value-in-None.field-0))) (rw (right) c.in_ok-value-in-None.ensures.ok) in
    rw (it) (err_of c.arithmetic.result _ c.arithmetic.ensures)

pub computed-returns-in_err-value-in-Shift-clause-err : goal.computed-returns-in_err-value-in-Shift-clause-err
computed-returns-in_err-value-in-Shift-clause-err t c =
    let p = err_from_is_err_and c.from_residual-in_err-value-in-Shift.result c.from_residual-in_err-value-in-Shift.ensures.1 in
    rw (p.1, p.2)
    (shift_is c.args.slots.now c.args.e.now c.in-Shift.pointer c.in-Shift.n c.get-in-Shift.result.now c.get-in-Shift-2.result.now c.in-Shift.is c.get-in-Shift.ensures c.get-in-Shift-2.ensures
    (Computes c.in_ok-pointer-in-Shift.pointer) (Fails c.in_err-value-in-Shift.field-0.0) c.in_ok-pointer-in-Shift.ensures.ok c.in_err-value-in-Shift.ensures.err)

pub computed-returns-in_ok-value-in-Shift-clause-ok : goal.computed-returns-in_ok-value-in-Shift-clause-ok
computed-returns-in_ok-value-in-Shift-clause-ok t c =
    let left : to_z w64 (of_z w64 c.in_ok-pointer-in-Shift.pointer) ≡ c.in_ok-pointer-in-Shift.pointer = omega (arith, ints) in
    let right : to_z w64 (of_z w64 c.in_ok-value-in-Shift.field-0) ≡ c.in_ok-value-in-Shift.field-0 = omega (arith, ints) in
    let it = shift_is c.args.slots.now c.args.e.now c.in-Shift.pointer c.in-Shift.n c.get-in-Shift.result.now c.get-in-Shift-2.result.now c.in-Shift.is c.get-in-Shift.ensures c.get-in-Shift-2.ensures
    (Computes (to_z w64 (of_z w64 c.in_ok-pointer-in-Shift.pointer))) (Computes (to_z w64 (of_z w64 c.in_ok-value-in-Shift.field-0))) (rw (left) c.in_ok-pointer-in-Shift.ensures.ok) (rw (right) c.in_ok-value-in-Shift.ensures.ok) in
    rw (it) (ok_of c.shifted.result _ c.shifted.ensures)

pub computed-returns-in_ok-value-in-Shift-clause-err : goal.computed-returns-in_ok-value-in-Shift-clause-err
computed-returns-in_ok-value-in-Shift-clause-err t c =
    let left : to_z w64 (of_z w64 c.in_ok-pointer-in-Shift.pointer) ≡ c.in_ok-pointer-in-Shift.pointer = omega (arith, ints) in
    let right : to_z w64 (of_z w64 c.in_ok-value-in-Shift.field-0) ≡ c.in_ok-value-in-Shift.field-0 = omega (arith, ints) in
    let it = shift_is c.args.slots.now c.args.e.now c.in-Shift.pointer c.in-Shift.n c.get-in-Shift.result.now c.get-in-Shift-2.result.now c.in-Shift.is c.get-in-Shift.ensures c.get-in-Shift-2.ensures
    (Computes (to_z w64 (of_z w64 c.in_ok-pointer-in-Shift.pointer))) (Computes (to_z w64 (of_z w64 c.in_ok-value-in-Shift.field-0))) (rw (left) c.in_ok-pointer-in-Shift.ensures.ok) (rw (right) c.in_ok-value-in-Shift.ensures.ok) in
    rw (it) (err_of c.shifted.result _ c.shifted.ensures)

pub computed-returns-in_err-pointer-in-Shift-clause-err : goal.computed-returns-in_err-pointer-in-Shift-clause-err
computed-returns-in_err-pointer-in-Shift-clause-err t c =
    let p = err_from_is_err_and c.from_residual-in_err-pointer-in-Shift.result c.from_residual-in_err-pointer-in-Shift.ensures.1 in
    rw (p.1, p.2)
    (shift_is c.args.slots.now c.args.e.now c.in-Shift.pointer c.in-Shift.n c.get-in-Shift.result.now c.in-Shift.n c.in-Shift.is c.get-in-Shift.ensures refl
    (Fails c.in_err-pointer-in-Shift.field-0.0) (spec.value c.args.slots.now c.in-Shift.n) c.in_err-pointer-in-Shift.ensures.err refl)

pub computed-returns-in_ok-value-in-Not-clause-ok : goal.computed-returns-in_ok-value-in-Not-clause-ok
computed-returns-in_ok-value-in-Not-clause-ok t c =
    let it = tested_is c.args.slots.now c.args.e.now c.in-Not.e c.get-in-Not.result.now c.in-Not.is c.get-in-Not.ensures (Computes c.in_ok-value-in-Not.field-0) c.in_ok-value-in-Not.ensures.ok in
    let word : to_z w64 (of_z w64 c.truth.result) ≡ c.truth.result = omega (arith, ints) in
    let read : to_z w64 (of_z w64 c.in_ok-value-in-Not.field-0) ≡ c.in_ok-value-in-Not.field-0 = omega (arith, ints) in
    rw (word, it, c.truth.ensures, c.is_zero.ensures, read) refl
