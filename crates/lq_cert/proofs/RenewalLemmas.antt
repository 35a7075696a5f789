-- What a proof's renewal is, and that its lines are those of a proof file.
use Rattle.std.proofs.Common.{◌≡◌, ℕ, ◌≤◌, Bool, true, false, cond, List, [], ◌∷◌, ◌++◌, length, refl, ap, ◌∙◌, arith}
use Rattle.std.specs.List.{AllByRecursion}
use Rattle.lq_text.proofs.Lists.{all_weaker}
use Rattle.lq_cert.specs.ProofFile.{IsLineOf, AreLines}
use Rattle.lq_cert.specs.Renewal.{behind_exacts, lacks_goal, with_goals, renewed}
use Rattle.lq_cert.specs.declared.line.FileVersion.TheVariants.{One, Two}
use Rattle.lq_cert.specs.declared.line.Line.{Line}
use Rattle.lq_cert.specs.declared.line.Line.TheVariants.{Version, Condition, Exact}

-- ---- `exact` lines

exacts_once : (lines : List Line) → behind_exacts (behind_exacts lines) ≡ behind_exacts lines
exacts_once [] = refl
exacts_once (Exact item divisor parts ∷ later) = exacts_once later
exacts_once (line ∷ later) = refl

condition_kept : (lacks : Bool) (number : ℕ) (later : List Line) → let kept : List Line = cond lacks (behind_exacts later) (Condition number ∷ later) in behind_exacts kept ≡ kept
condition_kept true number later = exacts_once later
condition_kept false number later = refl

-- the `exact` lines at the front stay at the front
exacts_stay : (lines : List Line) → behind_exacts (with_goals lines) ≡ with_goals (behind_exacts lines)
exacts_stay [] = refl
exacts_stay (Exact item divisor parts ∷ later) = exacts_stay later
exacts_stay (Condition number ∷ later) = condition_kept (lacks_goal (Condition number) later) number (with_goals later)
exacts_stay (line ∷ later) = refl

pub behind_shorter : (lines : List Line) → length (behind_exacts lines) ≤ length lines
behind_shorter [] = omega arith
behind_shorter (Exact item divisor parts ∷ later) = omega (arith, behind_shorter later)
behind_shorter (line ∷ later) = omega arith

-- ---- the loop

pub taken_out : (out : List Line) (line : Line) (later : List Line) → lacks_goal line later ≡ true → out ++ with_goals (line ∷ later) ≡ out ++ with_goals (behind_exacts later)
taken_out out line later e =
    ap (λ lacks. out ++ cond lacks (behind_exacts (with_goals later)) (line ∷ with_goals later)) e ∙ ap (λ lines. out ++ lines) (exacts_stay later)

-- ---- the lines of a renewal

module _ (P : Line → Type 0) where
  all_behind_exacts : (lines : List Line) → AllByRecursion P lines → AllByRecursion P (behind_exacts lines)
  all_behind_exacts [] h = tt
  all_behind_exacts (Exact item divisor parts ∷ later) h = all_behind_exacts later h.1
  all_behind_exacts (line ∷ later) h = h

  all_kept : (lacks : Bool) (line : Line) (later : List Line) → P line → AllByRecursion P later → AllByRecursion P (cond lacks (behind_exacts later) (line ∷ later))
  all_kept true line later p h = all_behind_exacts later h
  all_kept false line later p h = (p, h)

  all_with_goals : (lines : List Line) → AllByRecursion P lines → AllByRecursion P (with_goals lines)
  all_with_goals [] h = tt
  all_with_goals (line ∷ later) h = all_kept (lacks_goal line later) line (with_goals later) h.0 (all_with_goals later h.1)

-- version 2 allows what version 1 does
fits_two : (later lines : List Line) (line : Line) → IsLineOf (Version One ∷ later) line → IsLineOf (Version Two ∷ lines) line
fits_two later lines line h = (h.0, omega (arith, h.1))

pub renewed_lines : (lines : List Line) → AreLines lines → AreLines (renewed lines)
renewed_lines (Version One ∷ later) h =
    ((tt, omega arith), all_weaker (IsLineOf (Version One ∷ later)) (IsLineOf (Version Two ∷ with_goals later)) (fits_two later (with_goals later)) (with_goals later) (all_with_goals (IsLineOf (Version One ∷ later)) later h.1))
renewed_lines _ h = h

pub renewed_once : (lines : List Line) → renewed (renewed lines) ≡ renewed lines
renewed_once (Version One ∷ later) = refl
renewed_once _ = refl
