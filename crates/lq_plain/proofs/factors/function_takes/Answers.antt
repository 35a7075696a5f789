use Rattle.std.proofs.Common.{pos, List, ap, ◌∙◌}
use Rattle.std.specs.List.{list_any}
use Rattle.lq_tree.specs.declared.stmt.Stmt.{Stmt}
use Rattle.lq_names.specs.Sites.{sites_list}
use Rattle.lq_plain.proofs.FactorLemmas.{placed_takes, body_takes}
use Rattle.lq_plain.proofs.factors.function_takes.Goals as goal

pub returns : goal.returns
returns c =
    body_takes (pos c.args.number) c.args.function.now c.stmts_take.result
    (λ s. c.stmts_take.ensures.list s ∙ ap (λ (xs : List Stmt). list_any (placed_takes (pos c.args.number)) (sites_list s xs)) c.as_slice.ensures)
