use Rattle.std.proofs.Common.{ap, sym, ◌∙◌, List}
use Rattle.std.specs.List.{list_any}
use Rattle.std.specs.Option.{option_copied}
use Rattle.lq_tree.specs.declared.stmt.Stmt.{Stmt}
use Rattle.lq_names.specs.Calls.{placed_does, function_does}
use Rattle.lq_names.specs.Sites.{sites_list}
use Rattle.lq_names.specs.Seen.{is_among}
use Rattle.lq_names.proofs.SiteWalk.{body_does}
use Rattle.lq_names.proofs.effects.function_does.Goals as goal

pub returns-in-Some : goal.returns-in-Some
returns-in-Some c =
    body_does c.args.program.now c.args.effect (is_among c.args.names.now) c.in-Some.function.now c.stmts_do.result
    (λ s. c.stmts_do.ensures.list s ∙ ap (λ (xs : List Stmt). list_any (placed_does c.args.effect (is_among c.args.names.now)) (sites_list s xs)) c.as_slice.ensures)
    ∙ ap (function_does c.args.effect (is_among c.args.names.now)) (sym (ap (λ o. option_copied o) c.in-Some.is) ∙ c.function_of.ensures)
