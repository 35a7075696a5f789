use Rattle.std.proofs.Common.{◌≡◌, ap, ◌∙◌, List, []}
use Rattle.std.proofs.lemmas.Result.{IfOk-weaker}
use Rattle.lq_tree.specs.declared.program.StructDef.{StructDef}
use Rattle.lq_names.specs.Seen.{is_among}
use Rattle.lq_names.specs.Faults.{least}
use Rattle.lq_names.specs.Headers.{struct_faults, function_faults}
use Rattle.lq_names.specs.Broken.{Tells}
use Rattle.lq_names.proofs.ProgramLaws.{whole}
use Rattle.lq_names.proofs.Telling.{tells}
use Rattle.lq_names.proofs.check.least_fault.Goals as goal

pub returns : goal.returns
returns c =
    let p = c.args.program.now in
    let prints = is_among c.in_ok-prints.prints in
    let allocates = is_among c.in_ok-allocates.allocates in
    IfOk-weaker c.in_functions.result (λ r. r ≡ least c.in_ok-found.found (function_faults p prints allocates [] p.funcs)) (Tells p)
    (λ r e. tells p prints allocates c.in_ok-prints.ensures c.in_ok-allocates.ensures r
    (whole p prints allocates c.at_entry-found.result c.in_ok-found.found r c.at_entry-found.ensures
    (c.in_ok-found.ensures ∙ ap (λ (ds : List StructDef). least c.at_entry-found.result (struct_faults p [] ds)) c.as_slice.ensures) e))
    c.in_functions.ensures
