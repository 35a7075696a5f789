use Rattle.std.proofs.Common.{ap, arith}
use Rattle.lq_names.specs.Faults.{least}
use Rattle.lq_names.specs.Headers.{struct_faults}
use Rattle.lq_names.proofs.ProgramLaws.{struct_more, struct_end}
use Rattle.lq_names.proofs.check.in_structs.Goals as goal

pub loop-item-init : goal.loop-item-init
loop-item-init c = ap (λ names. least c.args.found (struct_faults c.args.program.now names c.args.structs.now)) c.new-earlier.ensures

pub loop-item-preserved : goal.loop-item-preserved
loop-item-preserved c =
    struct_more c.args.program.now c.loop-item.earlier c.add.new.self c.loop-item.found _ c.loop-item.item-index c.at_struct-found.result c.args.structs.now c.item-item.result (omega arith) c.item-item.is c.loop-item.invariant
    c.at_struct-found.ensures c.in_ok-add.ensures.names

pub returns : goal.returns
returns c = struct_end c.args.program.now c.loop-item.earlier c.loop-item.earlier c.loop-item.found _ c.loop-item.item-index c.args.structs.now (omega arith) c.loop-item.invariant
