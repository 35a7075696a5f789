use Rattle.std.proofs.Common.{ℕ, List, sym, ap, ◌∙◌, slice_get}
use Rattle.std.specs.Option.{option_copied}
use Rattle.std.specs.Prelude.{unwrap_or}
use Rattle.lq_classes.specs.Classes.{number_in}
use Rattle.lq_classes.proofs.LayoutLemmas.{get_or-unwrap}
use Rattle.lq_classes.proofs.map.class_of.Goals as goal

pub returns-in-Some : goal.returns-in-Some
returns-in-Some c =
    let slot = c.args.a.slot in
    let read = c.unwrap_or.ensures ∙ ap (λ o. unwrap_or o 0) (c.copied.ensures ∙ c.get-in-Some.ensures.value) ∙ get_or-unwrap c.in-Some.row.now slot in
    let found = ap (λ o. number_in o slot) (sym (ap option_copied c.in-Some.is) ∙ c.get.ensures.value) in
    let view = c.c.view_is in
    record { number = read ∙ found ∙ ap (λ (rows : List (List ℕ)). number_in (slice_get rows c.args.a.func) slot) view }
