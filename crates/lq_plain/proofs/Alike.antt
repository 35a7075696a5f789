-- What a statement of a source and its plain form come to, side by side.
use Rattle.std.proofs.Common.{◌≡◌, ℕ, zero, suc, ◌-◌, ◌≤◌, ◌^◌, ℤ, pos, negsuc, cond, nat_lt, List, [], ◌∷◌, ◌++◌, length, drop, Option, None, Some, refl, sym, ap, ◌∙◌, subst, arith, append_assoc}
use Rattle.lq_tree.specs.Locals.{Local}
use Rattle.lq_tree.specs.declared.place.Place.{Place}
use Rattle.lq_tree.specs.declared.plain.PKind.{PKind}
use Rattle.lq_tree.specs.declared.plain.PStmt.{PStmt}
use Rattle.lq_tree.specs.declared.trap.TrapKind.TheVariants.{Range}
use Rattle.lq_meaning.specs.declared.action.Action.TheVariants.{Start}
use Rattle.lq_meaning.specs.World.{World}
use Rattle.lq_meaning.specs.Ending.{Trap, Ending, Trapped, Strayed, Spent, Done as DoneEnding, Unruled}
use Rattle.lq_meaning.specs.Control.{trapped, Came, Gives, Stops, Run, stop, go_on, ◌⨾◌, due, by_truth, Flow, GoesOn, Returns, Statement, done_with, unless_returned, ◌then_do◌, caught, joined, iterations, iteration_count, each}
use Rattle.lq_meaning.specs.Meaning.{Context as Source, Locals, without, scoped}
use Rattle.lq_meaning.specs.PlainMeaning.{Slots, Context, exec, exec_all}
use Rattle.lq_plain.specs.Flat.{Made, statement}
use Rattle.lq_tree.specs.declared.plain.Slot.{Slot}
use Rattle.lq_plain.specs.Plain.{Behind, then_holds, fresh}
use Rattle.lq_plain.proofs.Related.{Keeps, Related, related_kept, as_many, outer_related, Bounded, bounded_above}
use Rattle.lq_plain.proofs.Runs.{Leads, Comes, exec_all-joined, exec_all-one}
use Rattle.lq_plain.proofs.Taken.{IsAfter, after_none, after_on, beside}

-- both stop in the same way, or both go on with what is related, and with the same world
abbrev pub Alike : {X Y : Type 0} → (X → Y → Type 0) → Came X → Came Y → Type 0
Alike R (Gives x v) (Gives y w) = R x y × (v ≡ w)
Alike R (Gives x v) (Stops ending w) = ⊥
Alike R (Stops ending v) (Gives y w) = ⊥
Alike R (Stops ending v) (Stops other w) = (ending ≡ other) × (v ≡ w)

-- both go on with what is related, or return the same word
abbrev pub FlowAlike : (Locals → Slots → Type 0) → Flow Locals → Flow Slots → Type 0
FlowAlike P (GoesOn l) (GoesOn s) = P l s
FlowAlike P (GoesOn l) (Returns word) = ⊥
FlowAlike P (Returns word) (GoesOn s) = ⊥
FlowAlike P (Returns word) (Returns other) = word ≡ other

-- related locals and slots, of which there are so many
abbrev pub Fits : List (Local ℕ) → (n size : ℕ) → Locals → Slots → Type 0
Fits scope n size l s = Related scope l n s × (length s ≡ size)

pub alike_go : {X Y Z V : Type 0} (R : X → Y → Type 0) (S : Z → V → Type 0) (a : Came X) (b : Came Y) (next : X → Run Z) (other : Y → Run V) → Alike R a b
    → ((x : X) (y : Y) (w : World) → R x y → Alike S (next x w) (other y w)) → Alike S (go_on a next) (go_on b other)
alike_go R S (Gives x v) (Gives y w) next other alike rest = subst (λ u. Alike S (next x u) (other y w)) (sym alike.1) (rest x y w alike.0)
alike_go R S (Gives x v) (Stops ending w) next other alike rest = absurd alike
alike_go R S (Stops ending v) (Gives y w) next other alike rest = absurd alike
alike_go R S (Stops ending v) (Stops other' w) next other alike rest = alike

-- what follows the same
pub alike_same : {X Z V : Type 0} (S : Z → V → Type 0) (a : Came X) (next : X → Run Z) (other : X → Run V) → ((x : X) (w : World) → Alike S (next x w) (other x w)) → Alike S (go_on a next) (go_on a other)
alike_same S (Gives x w) next other rest = rest x w
alike_same S (Stops ending w) next other rest = (refl, refl)

pub alike_flow : (P Q : Locals → Slots → Type 0) (next : Statement Locals) (other : Statement Slots) → ((l : Locals) (s : Slots) (w : World) → P l s → Alike (FlowAlike Q) (next l w) (other s w))
    → (flow : Flow Locals) (flow' : Flow Slots) (w : World) → FlowAlike P flow flow' → Alike (FlowAlike Q) (unless_returned next flow w) (unless_returned other flow' w)
alike_flow P Q next other rest (GoesOn l) (GoesOn s) w alike = rest l s w alike
alike_flow P Q next other rest (GoesOn l) (Returns word) w alike = absurd alike
alike_flow P Q next other rest (Returns word) (GoesOn s) w alike = absurd alike
alike_flow P Q next other rest (Returns word) (Returns word') w alike = (alike, refl)

pub alike_then : (P Q : Locals → Slots → Type 0) (a : Came (Flow Locals)) (b : Came (Flow Slots)) (next : Statement Locals) (other : Statement Slots) → Alike (FlowAlike P) a b
    → ((l : Locals) (s : Slots) (w : World) → P l s → Alike (FlowAlike Q) (next l w) (other s w)) → Alike (FlowAlike Q) (go_on a (unless_returned next)) (go_on b (unless_returned other))
alike_then P Q a b next other alike rest = alike_go (FlowAlike P) (FlowAlike Q) a b (unless_returned next) (unless_returned other) alike (alike_flow P Q next other rest)

-- the locals may end with a block
pub alike_without : (P Q : Locals → Slots → Type 0) (outer : Locals) (a : Came (Flow Locals)) (b : Came (Flow Slots)) → ((inner : Locals) (s : Slots) → P inner s → Q (drop (length inner - length outer) inner) s)
    → Alike (FlowAlike P) a b → Alike (FlowAlike Q) (go_on a (without outer)) b
alike_without P Q outer (Gives (GoesOn l) v) (Gives (GoesOn s) w) drops alike = (drops l s alike.0, alike.1)
alike_without P Q outer (Gives (GoesOn l) v) (Gives (Returns word) w) drops alike = alike
alike_without P Q outer (Gives (Returns word) v) (Gives (GoesOn s) w) drops alike = alike
alike_without P Q outer (Gives (Returns word) v) (Gives (Returns word') w) drops alike = alike
alike_without P Q outer (Gives (GoesOn l) v) (Stops ending w) drops alike = absurd alike
alike_without P Q outer (Gives (Returns word) v) (Stops ending w) drops alike = absurd alike
alike_without P Q outer (Stops ending v) (Gives flow w) drops alike = absurd alike
alike_without P Q outer (Stops ending v) (Stops other w) drops alike = alike

-- statements lead to what is left of a part, and both go on alike from there
pub alike_lead : {X : Type 0} (n : ℕ) (slots : Slots) (last : Slots → Run X) (front : Came (Flow Slots)) (came : Came X) (R : Flow Locals → Flow Slots → Type 0) (next : X → Run (Flow Locals)) (other : Slots → X → Run (Flow Slots))
    → Leads n slots last front came → ((after : Slots) (x : X) (w : World) → Keeps n slots after → Alike R (next x w) (other after x w))
    → Alike R (go_on came next) (go_on front (unless_returned (λ after. last after ⨾ other after)))
alike_lead n slots last (Gives (GoesOn after) w) came R next other lead rest =
    subst (λ a. Alike R (go_on a next) (go_on (last after w) (other after))) (sym lead.1) (alike_same R (last after w) next (other after) (λ x v. rest after x v lead.0))
alike_lead n slots last (Gives (Returns word) w) came R next other lead rest = absurd lead
alike_lead n slots last (Stops ending w) came R next other lead rest = subst (λ a. Alike R (go_on a next) (Stops ending w)) (sym lead) (refl, refl)

-- what is related so is related otherwise
pub alike_map : (P Q : Locals → Slots → Type 0) (a : Came (Flow Locals)) (b : Came (Flow Slots)) → ((l : Locals) (s : Slots) → P l s → Q l s) → Alike (FlowAlike P) a b → Alike (FlowAlike Q) a b
alike_map P Q (Gives (GoesOn l) v) (Gives (GoesOn s) w) goes alike = (goes l s alike.0, alike.1)
alike_map P Q (Gives (GoesOn l) v) (Gives (Returns word) w) goes alike = alike
alike_map P Q (Gives (Returns word) v) (Gives (GoesOn s) w) goes alike = alike
alike_map P Q (Gives (Returns word) v) (Gives (Returns word') w) goes alike = alike
alike_map P Q (Gives flow v) (Stops ending w) goes alike = absurd alike
alike_map P Q (Stops ending v) (Gives flow w) goes alike = absurd alike
alike_map P Q (Stops ending v) (Stops other w) goes alike = alike

-- one of two, by a word
pub alike_truth : (R : Flow Locals → Flow Slots → Type 0) (word : ℤ) (holds fails : Run (Flow Locals)) (holds' fails' : Run (Flow Slots)) (w : World) → Alike R (holds w) (holds' w) → Alike R (fails w) (fails' w)
    → Alike R (by_truth word holds fails w) (by_truth word holds' fails' w)
alike_truth R (pos zero) holds fails holds' fails' w one other = other
alike_truth R (pos (suc n)) holds fails holds' fails' w one other = one
alike_truth R (negsuc n) holds fails holds' fails' w one other = one

-- behind branches, with the locals and slots in front of them
pub alike_joined : (P : Locals → Slots → Type 0) (l : Locals) (s : Slots) (trap : Option Trap) (w : World) → P l s → Alike (FlowAlike P) (joined l trap w) (joined s trap w)
alike_joined P l s None w related = (related, refl)
alike_joined P l s (Some trap) w related = (refl, refl)

-- what stops, caught
caught_stop : (ending : Ending) (w : World) → caught {L = Locals} (Stops ending w) ≡ caught {L = Slots} (Stops ending w)
caught_stop (Trapped trap) w = refl
caught_stop DoneEnding w = refl
caught_stop (Strayed at) w = refl
caught_stop Spent w = refl
caught_stop Unruled w = refl

-- what is alike, caught
pub caught_alike : (P : Locals → Slots → Type 0) (a : Came (Flow Locals)) (b : Came (Flow Slots)) → Alike (FlowAlike P) a b → caught a ≡ caught b
caught_alike P (Gives (GoesOn l) v) (Gives (GoesOn s) w) alike = λ i. Gives None (alike.1 i)
caught_alike P (Gives (GoesOn l) v) (Gives (Returns word) w) alike = absurd alike.0
caught_alike P (Gives (Returns word) v) (Gives (GoesOn s) w) alike = absurd alike.0
caught_alike P (Gives (Returns word) v) (Gives (Returns word') w) alike = λ i. Stops Unruled (alike.1 i)
caught_alike P (Gives flow v) (Stops ending w) alike = absurd alike
caught_alike P (Stops ending v) (Gives flow w) alike = absurd alike
caught_alike P (Stops ending v) (Stops other w) alike = (λ i. caught {L = Locals} (Stops (alike.0 i) (alike.1 i))) ∙ caught_stop other w

caught_behind : {X : Type 0} (a : Came X) (run : Run (Flow Locals)) (other : Run (Flow Slots)) → ((w : World) → caught (run w) ≡ caught (other w)) → caught (go_on a (λ _. run)) ≡ caught (go_on a (λ _. other))
caught_behind (Gives x w) run other same = same w
caught_behind (Stops ending w) run other same = caught_stop ending w

-- iterations that are caught alike
pub each_alike : (fuel : ℕ) (at : Place) (low high : ℤ) (step : ℕ) (body : ℤ → Run (Flow Locals)) (other : ℤ → Run (Flow Slots)) → ((i : ℤ) (w : World) → caught (body i w) ≡ caught (other i w))
    → each fuel at low high step body ≡ each fuel at low high step other
each_alike fuel at low high step body other same =
    ap {B = Run (Option Trap)} (λ (iteration : ℤ → Run (Option Trap)). cond (nat_lt (2 ^ 20) (iteration_count low high step)) (stop (trapped Range at)) (iterations (iteration_count low high step) low step iteration))
    (λ i index w. caught_behind (due fuel at Start w) (body index) (other index) (same index) i)

-- ---- statements beside their plain form

-- from related locals and slots both come to the same
pub record Matches (d : Context) (scope : List (Local ℕ)) (n : ℕ) (inner : List (Local ℕ)) (m enough : ℕ) (run : Statement Locals) (list : List PStmt) : Type 0 where
  pub matches : (l : Locals) (s : Slots) → Related scope l n s → enough ≤ length s → (w : World) → Alike (FlowAlike (Fits inner m (length s))) (run l w) (exec_all d list s w)

pub matches_on : {d : Context} {scope mid last : List (Local ℕ)} {n k m enough more : ℕ} {run next : Statement Locals} {xs ys : List PStmt} → enough ≤ more → Matches d scope n mid k enough run xs → Matches d mid k last m more next ys
    → Matches d scope n last m more (λ l. run l then_do next) (xs ++ ys)
matches_on {d} {scope} {mid} {last} {n} {k} {m} {enough} {more} {run} {next} {xs} {ys} larger first second = record {
  matches = λ l s related long w.
      subst (λ (plain : Run (Flow Slots)). Alike (FlowAlike (Fits last m (length s))) ((run l then_do next) w) (plain w)) (sym (exec_all-joined d xs ys s))
      (alike_then (Fits mid k (length s)) (Fits last m (length s)) (run l w) (exec_all d xs s w) next (exec_all d ys) (first.matches l s related (omega arith) w)
      (λ inner after v fits. subst (λ size. Alike (FlowAlike (Fits last m size)) (next inner v) (exec_all d ys after v)) fits.1 (second.matches inner after fits.0 (omega (arith, fits.1)) v)));
}

-- an expression, and then one plain statement that goes on alike
pub finish : {X : Type 0} {d : Context} {scope inner : List (Local ℕ)} {n m enough more : ℕ} {new : List PStmt} {run : Locals → Run X} {last : Slots → Run X} (at : Place) (kind : PKind) (next : Locals → X → Run (Flow Locals)) (other : Slots → X → Run (Flow Slots))
    → enough ≤ more → Comes d scope n enough new (λ l s. run l) (λ l s. last s) → ((s : Slots) → exec d at kind s ≡ (last s ⨾ other s))
    → ((l : Locals) (s : Slots) (x : X) (w : World) → Related scope l n s → more ≤ length s → Alike (FlowAlike (Fits inner m (length s))) (next l x w) (other s x w))
    → Matches d scope n inner m more (λ l. run l ⨾ next l) (new ++ statement at kind ∷ [])
finish {X} {d} {scope} {inner} {n} {m} {enough} {more} {new} {run} {last} at kind next other larger comes does rest = record {
  matches = λ l s related long w.
      let one : exec_all d (statement at kind ∷ []) ≡ (λ after. last after ⨾ other after) = λ i after. (exec_all-one d at kind after ∙ does after) i in
      subst (λ (plain : Run (Flow Slots)). Alike (FlowAlike (Fits inner m (length s))) ((run l ⨾ next l) w) (plain w)) (sym (exec_all-joined d new (statement at kind ∷ []) s))
      (subst (λ (plain : Statement Slots). Alike (FlowAlike (Fits inner m (length s))) ((run l ⨾ next l) w) ((exec_all d new s then_do plain) w)) (sym one)
      (alike_lead n s last (exec_all d new s w) (run l w) (FlowAlike (Fits inner m (length s))) (next l) other (comes.leads l s related (omega arith) w)
      (λ after x v kept. subst (λ size. Alike (FlowAlike (Fits inner m size)) (next l x v) (other after x v)) kept.size
      (rest l after x v (related_kept scope l n n s after (omega arith) kept related) (omega (arith, kept.size))))));
}

module _ (c : Source) (call : Place → ℕ → List ℤ → Run ℤ) where
  -- a statement and its plain form, which may declare locals
  pub record Done (scope : List (Local ℕ)) (m : Made) (run : Statement Locals) (b : Behind) : Type 0 where
    pub more : List (Local ℕ)
    pub scopes : b.scope ≡ more ++ scope
    pub new : List PStmt
    pub after : IsAfter m b.made new
    pub bounded : Bounded b.scope (length b.made.slots)
    pub matches : Matches (beside c call) scope (length m.slots) b.scope (length b.made.slots) (length b.made.slots) run new

  -- a statement and its plain form, which declare nothing
  pub record Stays (scope : List (Local ℕ)) (m : Made) (run : Statement Locals) (last : Made) : Type 0 where
    pub new : List PStmt
    pub after : IsAfter m last new
    pub matches : Matches (beside c call) scope (length m.slots) scope (length last.slots) (length last.slots) run new

  pub stays_done : {scope : List (Local ℕ)} {m last : Made} {run : Statement Locals} → Bounded scope (length m.slots) → Stays scope m run last → Done scope m run (record { scope = scope; made = last })
  stays_done {scope} {m} {last} {run} bounded stays =
      record { more = []; scopes = refl; new = stays.new; after = stays.after; bounded = bounded_above scope (length m.slots) (length last.slots) stays.after.grows bounded; matches = stays.matches }

  pub done_stays : {scope : List (Local ℕ)} {m : Made} {run : Statement Locals} {b : Behind} → b.scope ≡ scope → Done scope m run b → Stays scope m run b.made
  done_stays {scope} {m} {run} {b} same done =
      record { new = done.new; after = done.after; matches = subst (λ inner. Matches (beside c call) scope (length m.slots) inner (length b.made.slots) (length b.made.slots) run done.new) same done.matches }

  pub done_on : {scope : List (Local ℕ)} {m : Made} {run next : Statement Locals} {b last : Behind} → Done scope m run b → Done b.scope b.made next last → Done scope m (λ l. run l then_do next) last
  done_on {scope} {m} {run} {next} {b} {last} first second = record {
    more = second.more ++ first.more;
    scopes = second.scopes ∙ ap (λ (outer : List (Local ℕ)). second.more ++ outer) first.scopes ∙ sym (append_assoc second.more first.more scope);
    new = first.new ++ second.new;
    after = after_on first.after second.after;
    bounded = second.bounded;
    matches = matches_on second.after.grows first.matches second.matches;
  }

  pub stays_on : {scope : List (Local ℕ)} {m k last : Made} {run next : Statement Locals} → Stays scope m run k → Stays scope k next last → Stays scope m (λ l. run l then_do next) last
  stays_on first second = record { new = first.new ++ second.new; after = after_on first.after second.after; matches = matches_on second.after.grows first.matches second.matches }

  -- nothing
  pub done_none : {scope : List (Local ℕ)} {m : Made} → Bounded scope (length m.slots) → Done scope m done_with (record { scope = scope; made = m })
  done_none {scope} {m} bounded = record { more = []; scopes = refl; new = []; after = after_none m; bounded = bounded; matches = record { matches = λ l s related long w. ((related, refl), refl) } }

  -- what it declares ends with it
  pub scoped_stays : {scope : List (Local ℕ)} {m : Made} {run : Statement Locals} {b : Behind} → Done scope m run b → Stays scope m (λ l. scoped l (run l)) b.made
  scoped_stays {scope} {m} {run} {b} done = record {
    new = done.new;
    after = done.after;
    matches = record {
      matches = λ l s related long w.
          alike_without (Fits b.scope (length b.made.slots) (length s)) (Fits scope (length b.made.slots) (length s)) l (run l w) (exec_all (beside c call) done.new s w)
          (λ inner after fits. (
            subst (λ size. Related scope (drop (length inner - size) inner) (length b.made.slots) after) (sym (as_many scope l (length m.slots) s related))
                (outer_related done.more scope inner (length b.made.slots) after (subst (λ list. Related list inner (length b.made.slots) after) done.scopes fits.0)),
            fits.1,
          ))
          (done.matches.matches l s related long w);
    };
  }

  -- an expression, and then one plain statement, behind which there may be more slots
  pub stays_finish : {X : Type 0} {scope : List (Local ℕ)} {m k : Made} {new : List PStmt} {run : Locals → Run X} {last : Slots → Run X} (at : Place) (kind : PKind) (slots : List _) (next : Locals → X → Run (Flow Locals)) (other : Slots → X → Run (Flow Slots))
      → IsAfter m k new → length k.slots ≤ length slots → Comes (beside c call) scope (length m.slots) (length k.slots) new (λ l s. run l) (λ l s. last s) → ((s : Slots) → exec (beside c call) at kind s ≡ (last s ⨾ other s))
      → ((l : Locals) (s : Slots) (x : X) (w : World) → Related scope l (length m.slots) s → length slots ≤ length s → Alike (FlowAlike (Fits scope (length slots) (length s))) (next l x w) (other s x w))
      → Stays scope m (λ l. run l ⨾ next l) (then_holds at kind k slots)
  stays_finish {X} {scope} {m} {k} {new} {run} {last} at kind slots next other after longer comes does rest = record {
    new = new ++ statement at kind ∷ [];
    after = record { stands = ap (λ (front : List PStmt). front ++ statement at kind ∷ []) after.stands ∙ append_assoc m.front new (statement at kind ∷ []); grows = omega (arith, after.grows, longer) };
    matches = finish at kind next other longer comes does rest;
  }

  -- the run, said otherwise
  pub stays_from : {scope : List (Local ℕ)} {m last : Made} {run other : Statement Locals} → ((l : Locals) → other l ≡ run l) → Stays scope m run last → Stays scope m other last
  stays_from {scope} {m} {last} {run} {other} same stays = subst (λ (does : Statement Locals). Stays scope m does last) (λ i l. sym (same l) i) stays

  -- a list of its own does what was made for it
  pub fresh_matches : {scope : List (Local ℕ)} {slots : List Slot} {last : Made} {run : Statement Locals} (stays : Stays scope (fresh slots) run last) (l : Locals) (s : Slots) → Related scope l (length slots) s → length last.slots ≤ length s → (w : World)
      → Alike (FlowAlike (Fits scope (length last.slots) (length s))) (run l w) (exec_all (beside c call) last.front s w)
  fresh_matches {scope} {slots} {last} {run} stays l s related long w =
      subst (λ (list : List PStmt). Alike (FlowAlike (Fits scope (length last.slots) (length s))) (run l w) (exec_all (beside c call) list s w)) (sym stays.after.stands) (stays.matches.matches l s related long w)
