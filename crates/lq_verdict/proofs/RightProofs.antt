-- The rows of a right proof are valid.
use Rattle.std.proofs.Common.{ℕ, suc, List, [], ◌∷◌, drop, reverse, sym, subst}
use Rattle.std.proofs.lemmas.List.{reverse-reverse}
use Rattle.lq_cert.specs.declared.line.Line.{Line}
use Rattle.lq_cert.specs.declared.line.Line.TheVariants.{End}
use Rattle.lq_templates.specs.declared.condition.Conditions.{Conditions}
use Rattle.lq_templates.specs.Conditions.{IsValid}
use Rattle.lq_conditions.specs.Conditions.{IsValidFor}
use Rattle.lq_verdict.specs.Claims.{assign_of}
use Rattle.lq_verdict.specs.Audit.{version_of, begun, assign, IsRightEnd, AreRight, HasEnded, IsRightFor}
use Rattle.lq_verdict.proofs.Passed.{take_rest, all_skipped, all_begun, due_behind, passed, end_kept}

ended_valid : (asked : Conditions) (back : List Line) → AreRight asked back → HasEnded back → IsValidFor (assign asked back) asked.list
ended_valid asked [] right ended = absurd ended
ended_valid asked (End ∷ []) right ended = absurd right.0
ended_valid asked (End ∷ last ∷ before) right ended =
    let a = assign asked (last ∷ before) in
    let end : IsRightEnd asked (last ∷ before) = due_behind asked last before End right.0 in
    subst (λ x. IsValidFor x asked.list) (sym (end_kept asked (last ∷ before)))
    (take_rest (IsValid a) asked.list (begun (last ∷ before))
    (all_begun asked a (last ∷ before) (passed asked (last ∷ before) right.1) end.complete)
    (all_skipped (version_of (last ∷ before)) a (suc (begun (last ∷ before))) (drop (begun (last ∷ before)) asked.list) end.none_left))
ended_valid asked (_ ∷ before) right ended = absurd ended

pub right_valid : (asked : Conditions) (text : List ℕ) (proof : IsRightFor asked text) → IsValidFor (assign_of asked.templates proof.lines) asked.list
right_valid asked text proof =
    subst (λ lines. IsValidFor (assign_of asked.templates lines) asked.list) (reverse-reverse proof.lines)
    (ended_valid asked (reverse proof.lines) proof.right proof.ended)
