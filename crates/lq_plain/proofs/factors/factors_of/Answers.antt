use Rattle.std.proofs.Common.{w64, to_z, of_z, ℤ, pos, Bool, List, [], ◌∷◌, ◌++◌, if◌then◌else◌, ap, sym, ◌∙◌, arith}
use Rattle.std.specs.List.{list_any}
use Rattle.std.proofs.Math.Facts.{to_z_pos}
use Rattle.lq_plain.specs.Factors.{factors, function_takes}
use Rattle.lq_plain.proofs.FactorLemmas.{number_more}
use Rattle.lq_plain.proofs.factors.factors_of.Goals.{then-program_takes+in_ok-push, else-program_takes}
use Rattle.lq_plain.proofs.factors.factors_of.Goals as goal

pub loop-number-preserved : goal.loop-number-preserved
loop-number-preserved c =
    let test : ℤ → Bool = λ n. list_any (function_takes n) c.args.program.now.funcs in
    let one = pos c.loop-number.number in
    let found = c.loop-number.found in
    let chosen : Bool → List ℤ = λ b. if b then found ++ (one ∷ []) else found in
    number_more test c.loop-number.number (omega (arith, c.loop-number-test.true)) found c.if-program_takes.found (factors c.args.program.now) c.loop-number.invariant
    (elim c.if-program_takes.branch [
      | then-program_takes+in_ok-push w ↦ w.found-is ∙ w.in_ok-push.ensures.ok ∙ ap (λ n. found ++ (n ∷ [])) (ap (λ z. to_z w64 (of_z w64 z)) w.from.ensures ∙ to_z_pos w64 (omega (arith, c.loop-number-test.true))) ∙ ap chosen (sym (sym c.program_takes.ensures ∙ w.if-program_takes.true))
      | else-program_takes w ↦ w.found-is ∙ ap chosen (sym (sym c.program_takes.ensures ∙ w.if-program_takes.false))
    ])
