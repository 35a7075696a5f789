use Rattle.std.proofs.Common.{sym}
use Rattle.lq_tree.proofs.TypeLaws.{type_of_bin, type_of_index, type_of_deref, type_of_arrow, type_of_dot, type_of_call}
use Rattle.lq_tree.proofs.types.+type_of.Goals as goal

pub returns-in-Bin : goal.returns-in-Bin
returns-in-Bin t c =
    rw (c.combined.ensures, c.type_of.ensures, c.get.ensures, c.type_of-in-Bin.ensures, c.get-in-Bin.ensures, c.in-Bin.is)
    (sym (type_of_bin c.args.program.now c.args.scope.now c.in-Bin.operator c.in-Bin.left c.in-Bin.right))

pub returns-in-Index : goal.returns-in-Index
returns-in-Index t c =
    rw (c.element.ensures, c.type_of-in-Index.ensures, c.get-in-Index.ensures) (sym (type_of_index c.args.program.now c.args.scope.now c.args.expr.now c.in-Index.base _ c.in-Index.is))

pub returns-in-Deref : goal.returns-in-Deref
returns-in-Deref t c =
    rw (c.element-in-Deref.ensures, c.type_of-in-Deref.ensures, c.get-in-Deref.ensures, c.in-Deref.is) (sym (type_of_deref c.args.program.now c.args.scope.now c.in-Deref.base))

pub returns-in-Arrow : goal.returns-in-Arrow
returns-in-Arrow t c =
    rw (c.dotted.ensures, c.element-element.ensures, c.type_of-in-Arrow.ensures, c.get-in-Arrow.ensures, c.in-Arrow.is)
    (sym (type_of_arrow c.args.program.now c.args.scope.now c.in-Arrow.base c.in-Arrow.field))

pub returns-in-Dot : goal.returns-in-Dot
returns-in-Dot t c =
    rw (c.dotted-in-Dot.ensures, c.type_of-in-Dot.ensures, c.get-in-Dot.ensures, c.in-Dot.is)
    (sym (type_of_dot c.args.program.now c.args.scope.now c.in-Dot.base c.in-Dot.field))

pub returns-in-Call : goal.returns-in-Call
returns-in-Call t c =
    rw (c.called.ensures, c.function_of.ensures, c.len.ensures, c.in-Call.is) (sym (type_of_call c.args.program.now c.args.scope.now c.in-Call.name c.in-Call.args))
