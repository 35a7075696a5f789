-- What the lines so far show, where each of them is right.
use Rattle.std.proofs.Common.{◌≡◌, ℕ, zero, suc, ◌+◌, ◌-◌, ◌≤◌, false, cond, List, [], ◌∷◌, ◌++◌, length, get_or, take, drop, reverse, Option, None, Some, inl, inr, refl, sym, ap, ap₂, subst, ◌∙◌, arith, append-nil, ℤ}
use Rattle.std.specs.Prelude.{slice_get}
use Rattle.std.specs.List.{AllByRecursion, flat_map}
use Rattle.std.proofs.lemmas.Bool.{cases_Bool, ltb-false}
use Rattle.std.proofs.lemmas.Grind.{reverse_onto, flat_map-append}
use Rattle.std.proofs.lemmas.List.{take_all}
use Rattle.lq_text.proofs.Lists.{all_joined, all_weaker}
use Rattle.lq_linear.specs.Row.{Inequality, Meets, nothing}
use Rattle.lq_linear.specs.Item.{MeetsItem, rows, row_numbered}
use Rattle.lq_linear.specs.Derivation.{Combination}
use Rattle.lq_linear.specs.Certificate.{Exactness}
use Rattle.lq_linear.specs.declared.item.Item.{Item}
use Rattle.lq_linear.proofs.LawLemmas.{proves_met, all_usable, all_reverse}
use Rattle.lq_cert.specs.Right.{HasEntry, MayUse, IsRight, IsRightEntry}
use Rattle.lq_cert.specs.declared.line.FileVersion.{FileVersion}
use Rattle.lq_cert.specs.declared.line.FileVersion.TheVariants.{One, Two}
use Rattle.lq_cert.specs.declared.line.Line.{Line}
use Rattle.lq_cert.specs.declared.line.Line.TheVariants.{Version, Row, Condition as Begins, Exact, Goal, Void, End}
use Rattle.lq_cert.proofs.SoundLemmas.{used_met}
use Rattle.lq_templates.specs.declared.template.Named.{Named}
use Rattle.lq_templates.specs.declared.template.Template.{Template}
use Rattle.lq_templates.specs.declared.condition.Assign.{Assign}
use Rattle.lq_templates.specs.declared.condition.Condition.{Condition}
use Rattle.lq_templates.specs.declared.condition.Conditions.{Conditions}
use Rattle.lq_templates.specs.Conditions.{facts_of, goals_of, IsValid}
use Rattle.lq_verdict.specs.Claims.{claimed, claimed_from, MayHaveRow}
use Rattle.lq_verdict.specs.Audit.{consequence, contradiction, exactness, begun, entries, goals_told, condition_at, facts_at, goals_at, has_lines, first_with_lines, assign, IsDue, IsRightBehind, AreRight}

-- ---- lists

module _ {X : Type 0} (P : X → Type 0) where
  -- one more of the first
  take_one : (xs : List X) (n : ℕ) → AllByRecursion P (take n xs) → ((x : X) → slice_get xs n ≡ Some x → P x) → AllByRecursion P (take (suc n) xs)
  take_one [] n h f = tt
  take_one (x ∷ xs) zero h f = (f x refl, tt)
  take_one (x ∷ xs) (suc n) h f = (h.0, take_one xs n h.1 f)

  -- the first, and some behind them
  take_more : (xs : List X) (n m : ℕ) → AllByRecursion P (take n xs) → AllByRecursion P (take m (drop n xs)) → AllByRecursion P (take (n + m) xs)
  take_more xs zero m h k = let same : m ≡ zero + m = omega arith in subst (λ i. AllByRecursion P (take i xs)) same k
  take_more [] (suc n) m h k = let same : suc (n + m) ≡ suc n + m = omega arith in subst (λ i. AllByRecursion P (take i [])) same tt
  take_more (x ∷ xs) (suc n) m h k = let same : suc (n + m) ≡ suc n + m = omega arith in subst (λ i. AllByRecursion P (take i (x ∷ xs))) same (h.0, take_more xs n m h.1 k)

  pub take_rest : (xs : List X) (n : ℕ) → AllByRecursion P (take n xs) → AllByRecursion P (drop n xs) → AllByRecursion P xs
  take_rest xs zero h k = k
  take_rest [] (suc n) h k = tt
  take_rest (x ∷ xs) (suc n) h k = (h.0, take_rest xs n h.1 k)

got : {X : Type 0} (xs : List X) (n : ℕ) (x d : X) → slice_get xs n ≡ Some x → get_or xs n d ≡ x
got [] n x d e = absurd cc
got (y ∷ xs) zero x d e = cc
got (y ∷ xs) (suc n) x d e = got xs n x d e

-- ---- entries

entry_joined : (entries more : List Exactness) (n : ℕ) → HasEntry entries n → HasEntry (entries ++ more) n
entry_joined [] more n h = absurd h
entry_joined (e ∷ entries) more n (inl h) = inl h
entry_joined (e ∷ entries) more n (inr h) = inr (entry_joined entries more n h)

-- what is right stays right where there are more entries
right_joined : (entries more : List Exactness) (items : List Item) (goal : Inequality) (c : Combination) → IsRight entries items goal c → IsRight (entries ++ more) items goal c
right_joined entries more items goal c h = (
  record {
    few = (h.0).few;
    ascending = (h.0).ascending;
    multipliers = (h.0).multipliers;
    allowed = (h.0).allowed;
    usable = all_usable (MayUse entries items) (MayUse (entries ++ more) items) c.parts
        (λ n u. record {
          before = u.before;
          item = u.item;
          after = u.after;
          place = u.place;
          parts = u.parts;
          counted = u.counted;
          fact = record { there = (u.fact).there; bounded = (u.fact).bounded; third = λ e. entry_joined entries more _ ((u.fact).third e) };
        }) (h.0).usable;
  },
  h.1,
)

entered_joined : (entries more : List Exactness) (items : List Item) (e : Exactness) → IsRightEntry entries items e → IsRightEntry (entries ++ more) items e
entered_joined entries more items e h = record {
  before = h.before;
  item = h.item;
  after = h.after;
  parts = h.parts;
  divides = h.divides;
  counted = h.counted;
  directly = h.directly;
  right = right_joined entries more h.before _ e.combination h.right;
}

-- a right combination holds where the facts are met
right_met : (v : ℕ → ℤ) (entries : List Exactness) (items : List Item) (goal : Inequality) (c : Combination) → AllByRecursion (IsRightEntry entries items) entries → AllByRecursion (MeetsItem v) items → IsRight entries items goal c → Meets v goal
right_met v entries items goal c entered met r =
    proves_met v (rows (reverse items)) goal c.void c.divisor c.parts r.0.allowed.0
    (all_usable (MayUse entries items) (λ k. Meets v (row_numbered (rows (reverse items)) k)) c.parts
    (used_met v items entries met entered (length items) items [] (omega arith) (sym (append-nil items))) r.0.usable) r.1

-- ---- rows

kept_from : (line : Line) → ((number : ℕ) (names : List Named) → claimed number names line ≡ []) → (number : ℕ) (templates : List Template) (lines : List Line)
    → claimed_from number templates (lines ++ line ∷ []) ≡ claimed_from number templates lines
kept_from line none number [] lines = refl
kept_from line none number (t ∷ templates) lines =
    ap₂ (λ (r : List Inequality) (rs : List (List Inequality)). r ∷ rs)
    (flat_map-append (claimed number t.names) lines (line ∷ []) ∙ ap (λ l. flat_map (claimed number t.names) lines ++ (l ++ [])) (none number t.names) ∙ append-nil (flat_map (claimed number t.names) lines))
    (kept_from line none (suc number) templates lines)

-- a line that claims nothing leaves the rows as they are
assign_kept : (asked : Conditions) (line : Line) (before : List Line) → ((number : ℕ) (names : List Named) → claimed number names line ≡ []) → assign asked (line ∷ before) ≡ assign asked before
assign_kept asked line before none =
    ap (λ (rows : List (List Inequality)). let made : Assign = record { rows = rows } in made)
    (ap (claimed_from 1 asked.templates) (reverse_onto before line []) ∙ kept_from line none 1 asked.templates (reverse before))

pub end_kept : (asked : Conditions) (before : List Line) → assign asked (End ∷ before) ≡ assign asked before
end_kept asked before = assign_kept asked End before (λ n names. refl)

-- ---- conditions without lines

no_lines : (version : FileVersion) (a : Assign) (c : Condition) → has_lines version a c ≡ false → IsValid a c
no_lines One a c e v met = absurd cc
no_lines Two a c e v met = none (goals_of a c) (ltb-false 0 (length (goals_of a c)) e) where
  none : (gs : List Inequality) → length gs ≤ 0 → AllByRecursion (Meets v) gs
  none [] h = tt
  none (g ∷ gs) h = absurd (omega arith)

-- the conditions in front of the first that has lines are valid
skipped : (version : FileVersion) (a : Assign) (number : ℕ) (list : List Condition) (found : ℕ × Condition) → first_with_lines version a number list ≡ Some found
    → (j : ℕ) × (found.0 ≡ number + j) × AllByRecursion (IsValid a) (take j list)
skipped version a number [] found e = absurd cc
skipped version a number (c ∷ list) found e =
    elim (cases_Bool (has_lines version a c)) [
      | inl there ↦
          let here : Some (number, c) ≡ Some found = sym (ap (λ b. cond b (Some (number, c)) (first_with_lines version a (suc number) list)) there) ∙ e in
          let same : (number, c) ≡ found = cc in
          (0, sym (ap (λ (p : ℕ × Condition). p.0) same) ∙ omega arith, tt)
      | inr none ↦
          let later : first_with_lines version a (suc number) list ≡ Some found = sym (ap (λ b. cond b (Some (number, c)) (first_with_lines version a (suc number) list)) none) ∙ e in
          let rest = skipped version a (suc number) list found later in
          let at = rest.1 in
          (suc rest.0, omega arith, (no_lines version a c none, rest.2))
    ]

pub all_skipped : (version : FileVersion) (a : Assign) (number : ℕ) (list : List Condition) → first_with_lines version a number list ≡ None → AllByRecursion (IsValid a) list
all_skipped version a number [] e = tt
all_skipped version a number (c ∷ list) e =
    elim (cases_Bool (has_lines version a c)) [
      | inl there ↦
          let here : ◌≡◌ {A = Option (ℕ × Condition)} (Some (number, c)) None = sym (ap (λ b. cond b (Some (number, c)) (first_with_lines version a (suc number) list)) there) ∙ e in
          absurd cc
      | inr none ↦
          let later : first_with_lines version a (suc number) list ≡ None = sym (ap (λ b. cond b (Some (number, c)) (first_with_lines version a (suc number) list)) none) ∙ e in
          (no_lines version a c none, all_skipped version a (suc number) list later)
    ]

-- ---- the condition at work

-- so many of its goals hold where its facts do
abbrev pub Tells : Assign → Option Condition → (told : ℕ) → Type 0
Tells a c told = (v : ℕ → ℤ) → AllByRecursion (MeetsItem v) (facts_at a c) → AllByRecursion (Meets v) (take told (goals_at a c))

all_told : (a : Assign) (c : Condition) (told : ℕ) → Tells a (Some c) told → told ≡ length (goals_of a c) → IsValid a c
all_told a c told tells complete v met =
    subst (AllByRecursion (Meets v)) (take_all told (goals_of a c) (omega (arith, complete))) (tells v (all_reverse (MeetsItem v) (facts_of a c) met))

told_some : (a : Assign) (c : Option Condition) (told : ℕ) → Tells a c told → told ≡ length (goals_at a c) → (d : Condition) → c ≡ Some d → IsValid a d
told_some a None told tells complete d e = absurd cc
told_some a (Some c) told tells complete d e = let same : c ≡ d = cc in subst (IsValid a) same (all_told a c told tells complete)

-- the conditions up to the one at work are valid, once all its goals are told
valid_up_to : (a : Assign) (list : List Condition) (n told : ℕ) → Tells a (condition_at list n) told → told ≡ length (goals_at a (condition_at list n)) → AllByRecursion (IsValid a) (take (n - 1) list) → AllByRecursion (IsValid a) (take n list)
valid_up_to a list zero told tells complete earlier = tt
valid_up_to a list (suc n) told tells complete earlier =
    take_one (IsValid a) list n (subst (λ k. AllByRecursion (IsValid a) (take k list)) (omega arith) earlier) (told_some a (slice_get list n) told tells complete)

-- ---- all lines so far

-- with these rows, the conditions before the one at work are valid, its entries are right, and what is told of it holds
pub record Passed (asked : Conditions) (a : Assign) (before : List Line) : Type 0 where
  pub earlier : AllByRecursion (IsValid a) (take (begun before - 1) asked.list)
  pub entered : AllByRecursion (IsRightEntry (entries before) (facts_at a (condition_at asked.list (begun before)))) (entries before)
  pub tells : Tells a (condition_at asked.list (begun before)) (goals_told before)

module _ (asked : Conditions) where
  -- no condition has begun
  at_start : (a : Assign) (before : List Line) → begun before ≡ 0 → entries before ≡ [] → goals_told before ≡ 0 → Passed asked a before
  at_start a before b e g = record {
    earlier = subst (λ n. AllByRecursion (IsValid a) (take (n - 1) asked.list)) (sym b) tt;
    entered = subst (λ es. AllByRecursion (IsRightEntry (entries before) (facts_at a (condition_at asked.list (begun before)))) es) (sym e) tt;
    tells = λ v met. subst (λ n. AllByRecursion (Meets v) (take n (goals_at a (condition_at asked.list (begun before))))) (sym g) tt;
  }

  -- behind a line at which a row may stand no condition has begun
  rows_first : (last : Line) (before : List Line) (template : ℕ) → MayHaveRow last template → AreRight asked (last ∷ before) → (begun (last ∷ before) ≡ 0) × (entries (last ∷ before) ≡ []) × (goals_told (last ∷ before) ≡ 0)
  rows_first (Version version) [] template may right = (refl, refl, refl)
  rows_first (Version version) (End ∷ before) template may right = absurd right.0
  rows_first (Version version) (last ∷ before) template may right = absurd right.0
  rows_first (Row earlier terms most) [] template may right = absurd right.0
  rows_first (Row earlier terms most) (End ∷ before) template may right = absurd right.0
  rows_first (Row earlier terms most) (last ∷ before) template may right = rows_first last before earlier right.0.0 right.1
  rows_first _ before template may right = absurd may

  -- all conditions that have begun are valid
  pub all_begun : (a : Assign) (before : List Line) → Passed asked a before → goals_told before ≡ length (goals_at a (condition_at asked.list (begun before))) → AllByRecursion (IsValid a) (take (begun before) asked.list)
  all_begun a before p complete = valid_up_to a asked.list (begun before) (goals_told before) p.tells complete p.earlier

  goal_told : (a : Assign) (before : List Line) (goal : ℕ) (c : Combination) → Passed asked a before → goal ≡ suc (goals_told before)
      → IsRight (entries before) (facts_at a (condition_at asked.list (begun before))) (row_numbered (goals_at a (condition_at asked.list (begun before))) goal) c
      → Tells a (condition_at asked.list (begun before)) (suc (goals_told before))
  goal_told a before goal c p is_next right v met =
      let gs = goals_at a (condition_at asked.list (begun before)) in
      take_one (Meets v) gs (goals_told before) (p.tells v met)
      (λ g e. subst (Meets v) (ap (λ k. get_or gs k nothing) (omega (arith, is_next)) ∙ got gs (goals_told before) g nothing e)
      (right_met v (entries before) (facts_at a (condition_at asked.list (begun before))) (row_numbered gs goal) c p.entered met right))

  -- one more line
  due_passed : (last : Line) (before : List Line) (line : Line) → AreRight asked (last ∷ before) → Passed asked (assign asked (last ∷ before)) (last ∷ before) → IsDue asked last (last ∷ before) line → Passed asked (assign asked (line ∷ last ∷ before)) (line ∷ last ∷ before)
  due_passed last before (Version version) right p due = absurd due
  due_passed last before (Row template terms most) right p due =
      let first = rows_first last before template due.0 right in
      at_start (assign asked (Row template terms most ∷ last ∷ before)) (Row template terms most ∷ last ∷ before) first.0 first.1 first.2
  due_passed last before (Begins number) right p due =
      let a = assign asked (last ∷ before) in
      let b = begun (last ∷ before) in
      let found = skipped _ a (suc b) (drop b asked.list) (number, due.condition) due.is_next in
      let at = found.1 in
      subst (λ x. Passed asked x (Begins number ∷ last ∷ before)) (sym (assign_kept asked (Begins number) (last ∷ before) (λ n names. refl))) (record {
        earlier = subst (λ k. AllByRecursion (IsValid a) (take k asked.list)) (omega (arith, at))
            (take_more (IsValid a) asked.list b found.0 (all_begun a (last ∷ before) p due.complete) found.2);
        entered = tt;
        tells = λ v met. tt;
      })
  due_passed last before (Exact item divisor parts) right p due =
      let a = assign asked (last ∷ before) in
      let es = entries (last ∷ before) in
      let e = exactness item divisor parts in
      let items = facts_at a (condition_at asked.list (begun (last ∷ before))) in
      subst (λ x. Passed asked x (Exact item divisor parts ∷ last ∷ before)) (sym (assign_kept asked (Exact item divisor parts) (last ∷ before) (λ n names. refl))) (record {
        earlier = p.earlier;
        entered = all_joined (IsRightEntry (es ++ e ∷ []) items) es (e ∷ [])
            (all_weaker (IsRightEntry es items) (IsRightEntry (es ++ e ∷ []) items) (entered_joined es (e ∷ []) items) es p.entered)
            (entered_joined es (e ∷ []) items e due.right, tt);
        tells = p.tells;
      })
  due_passed last before (Goal goal divisor parts) right p due =
      subst (λ x. Passed asked x (Goal goal divisor parts ∷ last ∷ before)) (sym (assign_kept asked (Goal goal divisor parts) (last ∷ before) (λ n names. refl)))
      (record { earlier = p.earlier; entered = p.entered; tells = goal_told (assign asked (last ∷ before)) (last ∷ before) goal (consequence divisor parts) p due.is_next due.right })
  due_passed last before (Void goal parts) right p due =
      subst (λ x. Passed asked x (Void goal parts ∷ last ∷ before)) (sym (assign_kept asked (Void goal parts) (last ∷ before) (λ n names. refl)))
      (record { earlier = p.earlier; entered = p.entered; tells = goal_told (assign asked (last ∷ before)) (last ∷ before) goal (contradiction parts) p due.is_next due.right })
  due_passed last before End right p due =
      subst (λ x. Passed asked x (End ∷ last ∷ before)) (sym (assign_kept asked End (last ∷ before) (λ n names. refl)))
      (record { earlier = p.earlier; entered = p.entered; tells = p.tells })

  -- a line that is right behind others is due
  pub due_behind : (last : Line) (before : List Line) (line : Line) → IsRightBehind asked (last ∷ before) line → IsDue asked last (last ∷ before) line
  due_behind End before line right = absurd right
  due_behind _ before line right = right

  first_passed : (line : Line) → IsRightBehind asked [] line → Passed asked (assign asked (line ∷ [])) (line ∷ [])
  first_passed (Version version) right = at_start (assign asked (Version version ∷ [])) (Version version ∷ []) refl refl refl
  first_passed _ right = absurd right

  pub passed : (before : List Line) → AreRight asked before → Passed asked (assign asked before) before
  passed [] right = at_start (assign asked []) [] refl refl refl
  passed (line ∷ []) right = first_passed line right.0
  passed (line ∷ last ∷ before) right = due_passed last before line right.1 (passed (last ∷ before) right.1) (due_behind last before line right.0)
