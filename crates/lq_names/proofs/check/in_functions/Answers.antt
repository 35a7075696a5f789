use Rattle.std.proofs.Common.{ap, arith, length, List}
use Rattle.lq_tree.specs.declared.program.Func.{Func}
use Rattle.lq_names.specs.Seen.{is_among}
use Rattle.lq_names.proofs.ProgramLaws.{function_more, function_end, item_of}
use Rattle.lq_names.proofs.check.in_functions.Goals as goal

pub loop-function-preserved : goal.loop-function-preserved
loop-function-preserved c =
    let same = c.as_slice-function-items.ensures in
    function_more c.args.program.now c.loop-function.earlier c.add.new.self c.loop-function.found _ c.loop-function.function-index (is_among c.args.prints.now) (is_among c.args.allocates.now)
    c.at_head-found.result c.in_ok-found.found c.args.program.now.funcs c.function-item.result
    (let e = ap (λ (fs : List Func). length fs) same in omega (arith, e, c.loop-function-test.true))
    (item_of c.as_slice-function-items.result.now c.args.program.now.funcs c.loop-function.function-index c.function-item.result same c.function-item.is)
    c.loop-function.invariant c.at_head-found.ensures c.in_ok-found.ensures c.in_ok-add.ensures.names

pub returns : goal.returns
returns c =
    let e = ap (λ (fs : List Func). length fs) c.as_slice-function-items.ensures in
    function_end c.args.program.now c.loop-function.earlier c.loop-function.earlier c.loop-function.found _ c.loop-function.function-index (is_among c.args.prints.now) (is_among c.args.allocates.now) c.args.program.now.funcs
    (omega (arith, e, c.loop-function-test.false)) c.loop-function.invariant
