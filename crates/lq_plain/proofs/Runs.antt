-- How statements of the plain form lead from one part of a run to what is left of it.
use Rattle.std.proofs.Common.{◌≡◌, ℕ, ◌<◌, ◌≤◌, ℤ, pos, List, [], ◌∷◌, ◌++◌, length, slice_set, refl, sym, ap, ◌∙◌, subst, arith, get_or-set_same}
use Rattle.lq_tree.specs.Locals.{Local}
use Rattle.lq_tree.specs.declared.place.Place.{Place}
use Rattle.lq_tree.specs.declared.plain.PKind.{PKind}
use Rattle.lq_tree.specs.declared.plain.PStmt.{PStmt}
use Rattle.lq_meaning.specs.World.{World}
use Rattle.lq_meaning.specs.Control.{Came, Gives, Stops, Run, give, go_on, ◌⨾◌, Flow, GoesOn, Returns, Statement, done_with, unless_returned, ◌then_do◌}
use Rattle.lq_meaning.specs.Meaning.{Locals}
use Rattle.lq_meaning.specs.PlainMeaning.{Slots, Context, word_of, exec, exec_all}
use Rattle.lq_meaning.proofs.Sequence.{then-assoc}
use Rattle.lq_plain.specs.Flat.{statement}
use Rattle.lq_plain.proofs.Related.{Keeps, keeps_all, keeps_on, keeps_fewer, keeps_set, Related, related_above, related_kept}

-- ---- statements that follow one another

go_on_assoc : {L : Type 0} (a : Came (Flow L)) (next last : Statement L) → go_on (go_on a (unless_returned next)) (unless_returned last) ≡ go_on a (unless_returned (λ l. next l then_do last))
go_on_assoc (Gives (GoesOn l) w) next last = refl
go_on_assoc (Gives (Returns word) w) next last = refl
go_on_assoc (Stops ending w) next last = refl

pub then_do-assoc : {L : Type 0} (first : Run (Flow L)) (next last : Statement L) → (first then_do next then_do last) ≡ (first then_do λ l. next l then_do last)
then_do-assoc first next last = λ i w. go_on_assoc (first w) next last i

go_on_done : {L : Type 0} (a : Came (Flow L)) → go_on a (unless_returned done_with) ≡ a
go_on_done (Gives (GoesOn l) w) = refl
go_on_done (Gives (Returns word) w) = refl
go_on_done (Stops ending w) = refl

pub then_do-done : {L : Type 0} (first : Run (Flow L)) → (first then_do done_with) ≡ first
then_do-done first = λ i w. go_on_done (first w) i

-- two parts, and what comes behind the second
pub behind_two : {X Y Z V : Type 0} (first : Run X) (next : X → Run Y) (found : X → Y → Run Z) (last : Z → Run V)
    → ((first ⨾ λ x. next x ⨾ found x) ⨾ last) ≡ (first ⨾ λ x. next x ⨾ λ y. found x y ⨾ last)
behind_two first next found last = then-assoc first (λ x. next x ⨾ found x) last ∙ ap (λ f. first ⨾ f) (λ i x. then-assoc (next x) (found x) last i)

-- the statements of two lists joined
pub exec_all-joined : (d : Context) (xs ys : List PStmt) (slots : Slots) → exec_all d (xs ++ ys) slots ≡ (exec_all d xs slots then_do exec_all d ys)
exec_all-joined d [] ys slots = refl
exec_all-joined d (x ∷ xs) ys slots =
    ap (λ (next : Statement Slots). exec d x.at x.kind slots then_do next) (λ i after. exec_all-joined d xs ys after i)
    ∙ sym (then_do-assoc (exec d x.at x.kind slots) (exec_all d xs) (exec_all d ys))

-- one statement alone
pub exec_all-one : (d : Context) (at : Place) (kind : PKind) (slots : Slots) → exec_all d (statement at kind ∷ []) slots ≡ exec d at kind slots
exec_all-one d at kind slots = then_do-done (exec d at kind slots)

-- ---- statements lead from a part of a run to what is left of it

-- What came of the statements, and what came of the run: both stop, or the statements go on, the slots below a number are kept, and
-- the run comes to what is left of it.
abbrev pub Leads : {X : Type 0} → ℕ → Slots → (last : Slots → Run X) → Came (Flow Slots) → Came X → Type 0
Leads n slots last (Gives (GoesOn after) w) came = Keeps n slots after × (came ≡ last after w)
Leads n slots last (Gives (Returns word) w) came = ⊥
Leads n slots last (Stops ending w) came = came ≡ Stops ending w

-- so they do from all related locals and slots, where there are slots enough
pub record Comes {X : Type 0} (d : Context) (scope : List (Local ℕ)) (n enough : ℕ) (new : List PStmt) (first last : Locals → Slots → Run X) : Type 0 where
  pub leads : (locals : Locals) (slots : Slots) → Related scope locals n slots → enough ≤ length slots → (w : World) → Leads n slots (last locals) (exec_all d new slots w) (first locals slots w)

leads_back : {X : Type 0} (n m : ℕ) (slots after : Slots) (last : Slots → Run X) (front : Came (Flow Slots)) (mid came : Came X) → n ≤ m → Keeps n slots after → Leads m after last front mid → came ≡ mid
    → Leads n slots last front came
leads_back n m slots after last (Gives (GoesOn later) w) mid came fits kept lead same = (keeps_on n m fits kept lead.0, same ∙ lead.1)
leads_back n m slots after last (Gives (Returns word) w) mid came fits kept lead same = lead
leads_back n m slots after last (Stops ending w) mid came fits kept lead same = same ∙ lead

leads_on : {X : Type 0} (n m : ℕ) (slots : Slots) (mid last : Slots → Run X) (front : Came (Flow Slots)) (next : Statement Slots) (came : Came X) → n ≤ m → Leads n slots mid front came
    → ((after : Slots) (w : World) → Keeps n slots after → Leads m after last (next after w) (mid after w)) → Leads n slots last (go_on front (unless_returned next)) came
leads_on n m slots mid last (Gives (GoesOn after) w) next came fits lead rest = leads_back n m slots after last (next after w) (mid after w) came fits lead.0 (rest after w lead.0) lead.1
leads_on n m slots mid last (Gives (Returns word) w) next came fits lead rest = absurd lead
leads_on n m slots mid last (Stops ending w) next came fits lead rest = lead

leads_then : {X Y : Type 0} (n : ℕ) (slots : Slots) (last : Slots → Run X) (next : Slots → X → Run Y) (front : Came (Flow Slots)) (came : Came X)
    → ((after : Slots) → Keeps n slots after → (x : X) → next slots x ≡ next after x) → Leads n slots last front came → Leads n slots (λ s. last s ⨾ next s) front (go_on came (next slots))
leads_then {X} {Y} n slots last next (Gives (GoesOn after) w) came closed lead =
    (lead.0, ap (λ a. go_on a (next slots)) lead.1 ∙ ap (λ (k : X → Run Y). go_on (last after w) k) (λ i x. closed after lead.0 x i))
leads_then {X} {Y} n slots last next (Gives (Returns word) w) came closed lead = lead
leads_then {X} {Y} n slots last next (Stops ending w) came closed lead = ap (λ a. go_on a (next slots)) lead

leads_fewer : {X : Type 0} (n m : ℕ) (slots : Slots) (last : Slots → Run X) (front : Came (Flow Slots)) (came : Came X) → n ≤ m → Leads m slots last front came → Leads n slots last front came
leads_fewer n m slots last (Gives (GoesOn after) w) came fits lead = (keeps_fewer n m fits lead.0, lead.1)
leads_fewer n m slots last (Gives (Returns word) w) came fits lead = lead
leads_fewer n m slots last (Stops ending w) came fits lead = lead

leads_set : (n to : ℕ) (slots : Slots) (came : Came ℤ) → n ≤ to → to < length slots
    → Leads n slots (λ s. give (word_of s to)) (go_on came (λ word. done_with (slice_set slots to word))) came
leads_set n to slots (Gives word w) above below = (keeps_set n to slots word above, λ i. Gives (sym (get_or-set_same slots to word (pos 0) below) i) w)
leads_set n to slots (Stops ending w) above below = refl

module _ (d : Context) (scope : List (Local ℕ)) where
  -- first some statements, and then others
  pub comes_on : {X : Type 0} {new next : List PStmt} {first mid last : Locals → Slots → Run X} (n m enough more : ℕ) → n ≤ m → enough ≤ more
      → Comes d scope n enough new first mid → Comes d scope m more next mid last → Comes d scope n more (new ++ next) first last
  comes_on {X} {new} {next} {first} {mid} {last} n m enough more fits larger begins goes = record { leads = from } where
    from : (locals : Locals) (slots : Slots) → Related scope locals n slots → more ≤ length slots → (w : World) → Leads n slots (last locals) (exec_all d (new ++ next) slots w) (first locals slots w)
    from locals slots related long w =
        subst (λ (run : Run (Flow Slots)). Leads n slots (last locals) (run w) (first locals slots w)) (sym (exec_all-joined d new next slots))
        (leads_on n m slots (mid locals) (last locals) (exec_all d new slots w) (exec_all d next) (first locals slots w) fits (begins.leads locals slots related (omega arith) w)
        (λ after v kept. goes.leads locals after (related_above scope locals n m after fits (related_kept scope locals n n slots after (omega arith) kept related)) (omega (arith, kept.size)) v))

  -- the same statements, and then more of the run; what comes then looks at kept slots alone
  pub comes_then : {X Y : Type 0} {new : List PStmt} {first last : Locals → Slots → Run X} (n enough : ℕ) (next : Locals → Slots → X → Run Y)
      → ((locals : Locals) (slots after : Slots) → Keeps n slots after → (x : X) → next locals slots x ≡ next locals after x)
      → Comes d scope n enough new first last → Comes d scope n enough new (λ l s. first l s ⨾ next l s) (λ l s. last l s ⨾ next l s)
  comes_then {X} {Y} {new} {first} {last} n enough next closed comes =
      record { leads = λ locals slots related long w. leads_then n slots (last locals) (next locals) (exec_all d new slots w) (first locals slots w) (closed locals slots) (comes.leads locals slots related long w) }

  -- the same from fewer kept slots, and with more slots
  pub comes_fewer : {X : Type 0} {new : List PStmt} {first last : Locals → Slots → Run X} (n m enough more : ℕ) → n ≤ m → enough ≤ more → Comes d scope m enough new first last → Comes d scope n more new first last
  comes_fewer {X} {new} {first} {last} n m enough more fits larger comes =
      record {
        leads = λ locals slots related long w. leads_fewer n m slots (last locals) (exec_all d new slots w) (first locals slots w) fits
            (comes.leads locals slots (related_above scope locals n m slots fits related) (omega arith) w);
      }

  -- the run, said otherwise
  pub comes_from : {X : Type 0} {new : List PStmt} {first other last : Locals → Slots → Run X} (n enough : ℕ)
      → ((locals : Locals) (slots : Slots) → Related scope locals n slots → other locals slots ≡ first locals slots)
      → Comes d scope n enough new first last → Comes d scope n enough new other last
  comes_from {X} {new} {first} {other} {last} n enough same comes = record {
    leads = λ locals slots related long w.
        subst (λ (run : Run X). Leads n slots (last locals) (exec_all d new slots w) (run w)) (sym (same locals slots related)) (comes.leads locals slots related long w);
  }

  -- what is left, said otherwise
  pub comes_to : {X : Type 0} {new : List PStmt} {first last other : Locals → Slots → Run X} (n enough : ℕ) → ((locals : Locals) (slots : Slots) → last locals slots ≡ other locals slots)
      → Comes d scope n enough new first last → Comes d scope n enough new first other
  comes_to {X} {new} {first} {last} {other} n enough same comes = record {
    leads = λ locals slots related long w.
        subst (λ (left : Slots → Run X). Leads n slots left (exec_all d new slots w) (first locals slots w)) (λ i s. same locals s i) (comes.leads locals slots related long w);
  }

  -- no statements
  pub comes_still : {X : Type 0} {first last : Locals → Slots → Run X} (n enough : ℕ) → ((locals : Locals) (slots : Slots) → Related scope locals n slots → enough ≤ length slots → first locals slots ≡ last locals slots)
      → Comes d scope n enough [] first last
  comes_still {X} {first} {last} n enough same = record { leads = λ locals slots related long w. (keeps_all n slots, λ i. same locals slots related long i w) }

  -- where there are none, the run is what is left of it
  pub comes_none : {X : Type 0} {new : List PStmt} {first last : Locals → Slots → Run X} (n enough : ℕ) → new ≡ [] → Comes d scope n enough new first last
      → (locals : Locals) (slots : Slots) → Related scope locals n slots → enough ≤ length slots → first locals slots ≡ last locals slots
  comes_none {X} {new} {first} {last} n enough none comes locals slots related long =
      λ i w. (subst (λ (list : List PStmt). Leads n slots (last locals) (exec_all d list slots w) (first locals slots w)) none (comes.leads locals slots related long w)).1 i

  -- a slot behind those that are kept gets a word
  pub comes_set : (at : Place) (kind : PKind) (n to enough : ℕ) (act : Slots → Run ℤ) → n ≤ to → to < enough
      → ((slots : Slots) → exec d at kind slots ≡ (act slots ⨾ λ word. done_with (slice_set slots to word)))
      → Comes d scope n enough (statement at kind ∷ []) (λ l s. act s) (λ l s. give (word_of s to))
  comes_set at kind n to enough act above below does = record {
    leads = λ locals slots related long w.
        subst (λ (run : Run (Flow Slots)). Leads n slots (λ s. give (word_of s to)) (run w) (act slots w)) (sym (exec_all-one d at kind slots ∙ does slots))
        (leads_set n to slots (act slots w) above (omega arith));
  }
