-- Which lines are right, told by tests that compute.
use Rattle.std.proofs.Common.{◌≡◌, ℕ, suc, ◌-◌, ◌<◌, ◌≤◌, Bool, true, false, not, List, [], ◌∷◌, length, Option, None, Some, refl, sym, ap, subst}
use Rattle.std.specs.Prelude.{Decides, ◌&&◌, ◌==◌, nat_lt, nat_le, ℤ}
use Rattle.std.specs.List.{list_all}
use Rattle.std.specs.Option.{is_some}
use Rattle.std.proofs.lemmas.Bool.{true≢false}
use Rattle.std.proofs.lemmas.Bool.Decides.{Decides-and, Decides-like, Decides-ltb, Decides-eqb}
use Rattle.lq_text.specs.declared.order.Term.{Term as LineTerm}
use Rattle.lq_linear.specs.Terms.{Term}
use Rattle.lq_linear.specs.Row.{Inequality}
use Rattle.lq_linear.specs.Collect.{as_row}
use Rattle.lq_linear.specs.Item.{rows, row_numbered}
use Rattle.lq_linear.specs.Certificate.{Exactness}
use Rattle.lq_linear.specs.Derivation.{Combination}
use Rattle.lq_cert.specs.declared.line.Line.{Line}
use Rattle.lq_cert.specs.declared.line.Line.TheVariants.{Version, Row, Condition as Begins, Exact, Goal, Void, End}
use Rattle.lq_templates.specs.Conditions.{facts_of, rows_at}
use Rattle.lq_templates.specs.declared.template.Named.{Named}
use Rattle.lq_templates.specs.declared.template.Template.{Template}
use Rattle.lq_templates.specs.declared.condition.Assign.{Assign}
use Rattle.lq_templates.specs.declared.condition.Condition.{Condition}
use Rattle.lq_templates.specs.declared.condition.Conditions.{Conditions}
use Rattle.lq_verdict.proofs.Deciding.{decides_le, decides_all, decides_bounded, ascends, decides_ascends, is_right, decides_right, is_right_entry, decides_right_entry}
use Rattle.lq_verdict.specs.Claims.{row_over, names_at, IsOver, MayHaveRow, IsClaim}
use Rattle.lq_verdict.specs.Audit.{consequence, contradiction, exactness, entries, goals_told, assign, facts, goals, next, IsNext, IsRightExact, IsRightGoal, IsRightEnd, IsDue, IsVersion, IsRightBehind, AreRight}

abbrev is_over : List Named → Inequality → Bool
is_over names row = list_all (λ (term : Term). nat_lt term.0 (length names)) row.terms && ascends (λ (term : Term). term.0) row.terms

decides_over : (names : List Named) (row : Inequality) → Decides (is_over names row) (IsOver names row)
decides_over names row =
    Decides-like (is_over names row) (λ h. record { named = h.0; ordered = h.1 }) (λ h. (h.named, h.ordered))
    (Decides-and (list_all (λ (term : Term). nat_lt term.0 (length names)) row.terms) (ascends (λ (term : Term). term.0) row.terms)
    (decides_all (λ (term : Term). term.0 < length names) (λ (term : Term). nat_lt term.0 (length names)) (λ term. Decides-ltb term.0 (length names)) row.terms)
    (decides_ascends (λ (term : Term). term.0) row.terms))

abbrev may_have_row : Line → ℕ → Bool
may_have_row (Version version) template = true
may_have_row (Row earlier terms most) template = nat_le earlier template
may_have_row line template = false

decides_may_have : (line : Line) (template : ℕ) → Decides (may_have_row line template) (MayHaveRow line template)
decides_may_have (Version version) template = (λ e. tt, λ h. refl)
decides_may_have (Row earlier terms most) template = decides_le earlier template
decides_may_have _ template = (λ e. absurd (true≢false (sym e)), λ h. absurd h)

abbrev is_claim : List Template → Assign → ℕ → List LineTerm → ℤ → Bool
is_claim templates so_far template terms most =
    nat_le template (length templates) && (is_over (names_at templates template) (row_over (names_at templates template) terms most) && nat_lt (length (rows_at so_far template)) 256)

decides_claim : (templates : List Template) (so_far : Assign) (template : ℕ) (terms : List LineTerm) (most : ℤ) → Decides (is_claim templates so_far template terms most) (IsClaim templates so_far template terms most)
decides_claim templates so_far template terms most =
    Decides-like (is_claim templates so_far template terms most) (λ h. record { there = h.0; over = h.1.0; few = h.1.1 }) (λ h. (h.there, (h.over, h.few)))
    (Decides-and (nat_le template (length templates)) _ (decides_le template (length templates))
    (Decides-and (is_over (names_at templates template) (row_over (names_at templates template) terms most)) (nat_lt (length (rows_at so_far template)) 256)
    (decides_over (names_at templates template) (row_over (names_at templates template) terms most)) (Decides-ltb (length (rows_at so_far template)) 256)))

abbrev next_is : Assign → Option (ℕ × Condition) → ℕ → Bool
next_is assign None number = false
next_is assign (Some found) number = (found.0 == number) && nat_le (length (rows (facts_of assign found.1))) 512

record Nexts (assign : Assign) (found : Option (ℕ × Condition)) (number : ℕ) : Type 0 where
  condition : Condition
  is_next : found ≡ Some (number, condition)
  few : length (rows (facts_of assign condition)) ≤ 512

decides_next : (assign : Assign) (found : Option (ℕ × Condition)) (number : ℕ) → Decides (next_is assign found number) (Nexts assign found number)
decides_next assign None number = (λ e. absurd (true≢false (sym e)), λ h. let none : None ≡ Some (number, h.condition) = h.is_next in absurd cc)
decides_next assign (Some found) number =
    Decides-like (next_is assign (Some found) number)
    (λ h. record { condition = found.1; is_next = ap (λ (n : ℕ). let some : Option (ℕ × Condition) = Some (n, found.1) in some) h.0; few = h.1 })
    (λ h.
    let some : Some found ≡ Some (number, h.condition) = h.is_next in
    let same : found ≡ (number, h.condition) = cc in
    (ap (λ (p : ℕ × Condition). p.0) same, subst (λ (c : Condition). length (rows (facts_of assign c)) ≤ 512) (sym (ap (λ (p : ℕ × Condition). p.1) same)) h.few))
    (Decides-and (found.0 == number) (nat_le (length (rows (facts_of assign found.1))) 512) (Decides-eqb found.0 number) (decides_le (length (rows (facts_of assign found.1))) 512))

decides_none : {X : Type 0} (found : Option X) → Decides (not (is_some found)) (found ≡ None)
decides_none None = (λ e. refl, λ h. refl)
decides_none (Some x) = (λ e. absurd (true≢false (sym e)), λ h. absurd cc)

abbrev is_version : Line → Bool
is_version (Version version) = true
is_version line = false

decides_version : (line : Line) → Decides (is_version line) (IsVersion line)
decides_version (Version version) = (λ e. tt, λ h. refl)
decides_version _ = (λ e. absurd (true≢false (sym e)), λ h. absurd h)

module _ (asked : Conditions) where
  abbrev is_complete : List Line → Bool
  is_complete before = goals_told before == length (goals asked before)

  abbrev begins_next : List Line → ℕ → Bool
  begins_next before number = is_complete before && next_is (assign asked before) (next asked before) number

  decides_begins : (before : List Line) (number : ℕ) → Decides (begins_next before number) (IsNext asked before number)
  decides_begins before number =
      Decides-like (begins_next before number)
      (λ h. record { complete = h.0; condition = (h.1).condition; is_next = (h.1).is_next; few = (h.1).few })
      (λ h. (h.complete, record { condition = h.condition; is_next = h.is_next; few = h.few }))
      (Decides-and (is_complete before) (next_is (assign asked before) (next asked before) number)
      (Decides-eqb (goals_told before) (length (goals asked before))) (decides_next (assign asked before) (next asked before) number))

  abbrev is_right_exact : List Line → Exactness → Bool
  is_right_exact before entry =
      (goals_told before == 0) && (list_all (λ (earlier : Exactness). nat_lt earlier.item entry.item) (entries before) && is_right_entry (entries before) (facts asked before) entry)

  decides_exact : (before : List Line) (entry : Exactness) → Decides (is_right_exact before entry) (IsRightExact asked before entry)
  decides_exact before entry =
      Decides-like (is_right_exact before entry)
      (λ h. record { no_goals = h.0; ascending = h.1.0; right = h.1.1 }) (λ h. (h.no_goals, (h.ascending, h.right)))
      (Decides-and (goals_told before == 0) _ (Decides-eqb (goals_told before) 0)
      (Decides-and (list_all (λ (earlier : Exactness). nat_lt earlier.item entry.item) (entries before)) (is_right_entry (entries before) (facts asked before) entry)
      (decides_all (λ (earlier : Exactness). earlier.item < entry.item) (λ (earlier : Exactness). nat_lt earlier.item entry.item) (λ earlier. Decides-ltb earlier.item entry.item) (entries before))
      (decides_right_entry (entries before) (facts asked before) entry)))

  abbrev is_right_goal : List Line → ℕ → Combination → Bool
  is_right_goal before goal c =
      (goal == suc (goals_told before)) && (nat_le goal (length (goals asked before))
      && (is_some (as_row (row_numbered (goals asked before) goal)) && is_right (entries before) (facts asked before) (row_numbered (goals asked before) goal) c))

  decides_goal : (before : List Line) (goal : ℕ) (c : Combination) → Decides (is_right_goal before goal c) (IsRightGoal asked before goal c)
  decides_goal before goal c =
      let row = row_numbered (goals asked before) goal in
      Decides-like (is_right_goal before goal c)
      (λ h. record { is_next = h.0; there = h.1.0; bounded = h.1.1.0; right = h.1.1.1 }) (λ h. (h.is_next, (h.there, (h.bounded, h.right))))
      (Decides-and (goal == suc (goals_told before)) _ (Decides-eqb goal (suc (goals_told before)))
      (Decides-and (nat_le goal (length (goals asked before))) _ (decides_le goal (length (goals asked before)))
      (Decides-and (is_some (as_row row)) (is_right (entries before) (facts asked before) row c) (decides_bounded row) (decides_right (entries before) (facts asked before) row c))))

  abbrev is_right_end : List Line → Bool
  is_right_end before = is_complete before && not (is_some (next asked before))

  decides_end : (before : List Line) → Decides (is_right_end before) (IsRightEnd asked before)
  decides_end before =
      Decides-like (is_right_end before) (λ h. record { complete = h.0; none_left = h.1 }) (λ h. (h.complete, h.none_left))
      (Decides-and (is_complete before) (not (is_some (next asked before))) (Decides-eqb (goals_told before) (length (goals asked before))) (decides_none (next asked before)))

  abbrev is_due : Line → List Line → Line → Bool
  is_due last before (Version version) = false
  is_due last before (Row template terms most) = may_have_row last template && is_claim asked.templates (assign asked before) template terms most
  is_due last before (Begins number) = begins_next before number
  is_due last before (Exact item divisor parts) = is_right_exact before (exactness item divisor parts)
  is_due last before (Goal goal divisor parts) = is_right_goal before goal (consequence divisor parts)
  is_due last before (Void goal parts) = is_right_goal before goal (contradiction parts)
  is_due last before End = is_right_end before

  decides_due : (last : Line) (before : List Line) (line : Line) → Decides (is_due last before line) (IsDue asked last before line)
  decides_due last before (Version version) = (λ e. absurd (true≢false (sym e)), λ h. absurd h)
  decides_due last before (Row template terms most) =
      Decides-and (may_have_row last template) (is_claim asked.templates (assign asked before) template terms most)
      (decides_may_have last template) (decides_claim asked.templates (assign asked before) template terms most)
  decides_due last before (Begins number) = decides_begins before number
  decides_due last before (Exact item divisor parts) = decides_exact before (exactness item divisor parts)
  decides_due last before (Goal goal divisor parts) = decides_goal before goal (consequence divisor parts)
  decides_due last before (Void goal parts) = decides_goal before goal (contradiction parts)
  decides_due last before End = decides_end before

  abbrev pub is_right_behind : List Line → Line → Bool
  is_right_behind [] line = is_version line
  is_right_behind (End ∷ before) line = false
  is_right_behind (last ∷ before) line = is_due last (last ∷ before) line

  pub decides_behind : (before : List Line) (line : Line) → Decides (is_right_behind before line) (IsRightBehind asked before line)
  decides_behind [] line = decides_version line
  decides_behind (End ∷ before) line = (λ e. absurd (true≢false (sym e)), λ h. absurd h)
  decides_behind (last ∷ before) line = decides_due last (last ∷ before) line

  abbrev pub are_right : List Line → Bool
  are_right [] = true
  are_right (line ∷ before) = is_right_behind before line && are_right before

  pub decides_lines : (before : List Line) → Decides (are_right before) (AreRight asked before)
  decides_lines [] = (λ e. tt, λ h. refl)
  decides_lines (line ∷ before) = Decides-and (is_right_behind before line) (are_right before) (decides_behind before line) (decides_lines before)
