use Rattle.lq_templates.proofs.worked.Calling.{formed_of}
use Rattle.lq_tests.proofs.templates.calling.Goals as goal

pub returns : goal.returns
returns c =
    formed_of c.new.result c.in_ok-funcs.funcs c.new-2.result c.in_ok-first.field-0 c.in_ok-main_function.field-0 c.new.ensures c.in_ok-funcs.ensures c.in_ok-first.ensures c.in_ok-main_function.ensures
    c.new-2.ensures
