use Rattle.std.proofs.Common.{◌++◌, ap}
use Rattle.lq_cert.proofs.WritingLemmas.{exact_text, goal_text, void_text, ok_as}
use Rattle.lq_cert.proofs.writing.put_line.Goals as goal

pub returns-in-Exact : goal.returns-in-Exact
returns-in-Exact c =
    ok_as c.put_consequence.result c.put_consequence.new.out.items (ap (λ t. c.args.out.now.items ++ t) (exact_text _ _ _ _ _ c.in-Exact.is c.as_slice-in-Exact.ensures)) c.put_consequence.ensures

pub returns-in-Goal : goal.returns-in-Goal
returns-in-Goal c =
    ok_as c.put_consequence-in-Goal.result c.put_consequence-in-Goal.new.out.items (ap (λ t. c.args.out.now.items ++ t) (goal_text _ _ _ _ _ c.in-Goal.is c.as_slice-in-Goal.ensures)) c.put_consequence-in-Goal.ensures

pub returns-in_ok-put_numbered-in-Void : goal.returns-in_ok-put_numbered-in-Void
returns-in_ok-put_numbered-in-Void c =
    ok_as c.put_parts.result c.put_parts.new.out.items (void_text _ _ _ _ _ _ c.in-Void.is c.as_slice-in-Void.ensures c.in_ok-put_numbered-in-Void.ensures) c.put_parts.ensures
