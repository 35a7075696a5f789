use Rattle.std.proofs.Common.{◌∙◌, None, arith, to_z, of_z, w64}
use Rattle.std.proofs.Common.{◌≡◌, refl}
use Rattle.std.proofs.lemmas.Int.{ints}
use Rattle.std.proofs.lemmas.Bool.{false≢true}
use Rattle.lq_fixpoint.proofs.FillingLemmas.{row_made, found_row}
use Rattle.lq_fixpoint.proofs.filling.row_of_terms.Goals as goal

pub returns-in_err-of : goal.returns-in_err-of
returns-in_err-of c =
    c.from_residual.ensures
    ∙ row_made c.args.terms.items c.args.most c.requires None tt
    (λ a w. false≢true (c.in_err-of.ensures.bounds.1 (record { are_terms = a; within = record { low = omega (arith, ints); high = omega (arith, ints) } })))

pub returns : goal.returns
returns c =
    let most : to_z w64 (of_z w64 c.args.most) ≡ c.args.most = omega (arith, ints) in
    found_row c.args.terms.items c.args.most c.requires c.in_ok-of.field-0 c.of-2.result c.in_ok-of.ensures.form (c.in_ok-of.ensures.bounds.0 refl)
    (rw most at c.of-2.ensures.row) (rw most at c.of-2.ensures.bounds)
