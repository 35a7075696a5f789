use Rattle.std.proofs.Common.{List, Bool, ◌++◌, add-one, ap, ◌∙◌}
use Rattle.lq_templates.specs.Listing.{effects}
use Rattle.lq_templates.specs.Names.{marked}
use Rattle.lq_templates.proofs.ListingLemmas.{listing_same, same_marks}
use Rattle.lq_templates.proofs.listing.put_scope.Goals as goal

pub returns : goal.returns
returns c =
    let l = c.args.listing.now in
    let marks = ap (λ (bs : List Bool). marked bs) c.as_slice.ensures ∙ same_marks c.in_ok-in_scope.in_scope c.args.scope.now c.in_ok-in_scope.ensures in
    listing_same (c.in_ok-listing.ensures ∙ add-one l.scopes)
    (c.in_ok-put_effects.ensures ∙ ap (λ set. l.templates ++ effects c.args.slots.now (record { scope = l.scopes; at = c.args.at }) c.args.done.now set c.args.makers.now) marks)
