-- An accepted slice is clean.
use Rattle.std.proofs.Common.{◌≡◌, ◌-◌, ◌<◌, suc, true, pos, replicate, length, sym, subst, arith}
use Rattle.std.proofs.lemmas.List.{length-replicate}
use Rattle.lq_plain.specs.Flat.{Made}
use Rattle.lq_plain.specs.Plain.{plain_program}
use Rattle.lq_meaning.specs.Entry.{start}
use Rattle.lq_meaning.specs.Behaviour.{context, exec_all}
use Rattle.lq_alone.specs.Alone.{alone}
use Rattle.lq_alone.specs.Clean.{is_clean}
use Rattle.lq_alone.specs.Slice.{program}
use Rattle.lq_alone.proofs.SlicePlain.{body_slots, body_plain}
use Rattle.lq_alone.proofs.SliceClean.{at_end, statements_clean}
use Rattle.lq_alone.proofs.laws.accepted_slices_are_clean.Goals as goal

pub returns : goal.returns
returns c name s accepted input words fuel small =
    let p = program name s in
    let d = context (plain_program p) (suc fuel) in
    let many = length (body_slots name s) in
    let some : 0 < length (replicate (many - 0) (pos 0)) = omega (arith, length-replicate (many - 0) (pos 0)) in
    subst (λ (m : Made). is_clean (alone fuel (exec_all d m.front (replicate (length m.slots - 0) (pos 0)) at_end 0) (start words)) ≡ true) (sym (body_plain p name s))
    (statements_clean d name s accepted (replicate (many - 0) (pos 0)) some fuel words)
