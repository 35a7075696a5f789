use Rattle.std.proofs.Common.{take}
use Rattle.std.specs.List.{AllZip}
use Rattle.lq_certify.specs.Certified.{IsCertified}
use Rattle.lq_certify.proofs.certified.certify_all.Given as goal

abbrev pub invariant-loop-c : goal.invariant-loop-c
invariant-loop-c l = AllZip (IsCertified l.mults l.assign) (take l.c-index l.list) l.all
