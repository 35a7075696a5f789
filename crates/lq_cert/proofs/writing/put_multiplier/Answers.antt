use Rattle.std.proofs.Common.{◌++◌, ap, arith}
use Rattle.lq_cert.proofs.WritingLemmas.{multiplier_text, ok_as}
use Rattle.lq_cert.proofs.writing.put_multiplier.Goals as goal

pub returns : goal.returns
returns c =
    ok_as c.put_number.result c.put_number.new.out.items (ap (λ t. c.args.out.now.items ++ t) (multiplier_text c.args.number c.from.result (omega arith) c.from.ensures)) c.put_number.ensures.ok
