use Rattle.std.proofs.Common.{List, map, ap, ap₂, ◌∙◌}
use Rattle.lq_templates.specs.declared.firsts.Firsts.{Firsts}
use Rattle.lq_templates.specs.declared.listing.Listing.{Listing}
use Rattle.lq_templates.specs.declared.makers.Makers.{Makers}
use Rattle.lq_templates.specs.declared.touches.Touch.{Touch}
use Rattle.lq_templates.specs.Accesses.{Access}
use Rattle.lq_templates.specs.Classes.{class_in}
use Rattle.lq_templates.specs.Listing.{with_functions}
use Rattle.lq_templates.specs.Makers.{makers_of}
use Rattle.lq_templates.proofs.AccessSets.{templates_by}
use Rattle.lq_templates.proofs.ListingLemmas.{all_listed}
use Rattle.lq_templates.proofs.listing.templates.Goals as goal

pub returns : goal.returns
returns c =
    let p = c.args.program.now in
    let class_of = class_in c.args.classes.now in
    let records = c.in_ok-firsts.firsts.records in
    let start : Listing = record { scopes = 0; templates = records } in
    let makers = c.as_slice-3.ensures ∙ c.in_ok-makers.ensures
    ∙ ap₂ (λ (all : List (List Touch)) (accesses : List Access). map (makers_of all) accesses) (c.as_slice.ensures ∙ c.in_ok-all.ensures) (c.as_slice-2.ensures ∙ ap (λ (s : Firsts). s.accesses) c.in_ok-firsts.ensures) in
    templates_by p class_of c.put_functions.new.listing.templates
    (all_listed p class_of records c.put_functions.new.listing (ap (λ (s : Firsts). s.records) c.in_ok-firsts.ensures)
    (c.in_ok-put_functions.ensures ∙ ap (λ (ms : List Makers). with_functions p class_of ms 0 p.funcs start) makers))
