use Rattle.std.proofs.Common.{ap, sym, ◌∙◌}
use Rattle.std.specs.Option.{option_copied}
use Rattle.lq_ground.proofs.ListLemmas.{entry_last}
use Rattle.lq_ground.proofs.scoping.at_entry.Goals as goal

pub returns-in-Some : goal.returns-in-Some
returns-in-Some c =
    c.as_slice.ensures ∙ sym (entry_last c.args.scopes.now c.in-Some.start.now (sym (ap option_copied c.in-Some.is) ∙ c.last.ensures.value))
