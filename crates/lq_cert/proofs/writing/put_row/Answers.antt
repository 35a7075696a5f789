use Rattle.std.proofs.Common.{◌++◌, ap, ◌∙◌, w64}
use Rattle.std.proofs.lemmas.Int.{to_z-of_z}
use Rattle.lq_text.specs.Numeral.{decimal_of}
use Rattle.lq_cert.proofs.WritingLemmas.{row_text, ok_as}
use Rattle.lq_cert.proofs.writing.put_row.Goals as goal

pub returns : goal.returns
returns c =
    let kept = ap (λ z. c.extend_from_slice.new.self.items ++ decimal_of z) (to_z-of_z w64 c.args.most c.ranges.most) in
    ok_as c.put_number.result c.put_number.new.out.items (kept ∙ row_text _ _ _ _ c.args.template.now c.args.terms.now c.args.most c.in_ok-put_numbered.ensures c.in_ok-put_terms.ensures c.in_ok-extend_from_slice.ensures.items) c.put_number.ensures.ok
