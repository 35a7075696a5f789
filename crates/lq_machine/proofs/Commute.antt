-- Steps of two runnable leaves of one task, whose actions are apart, commute.
use Rattle.std.proofs.Common.{◌≡◌, ◌≢◌, ℕ, ◌+◌, ℤ, List, refl, sym, ap, ◌∙◌, subst}
use Rattle.lq_tree.specs.declared.trap.TrapKind.{TrapKind}
use Rattle.lq_meaning.specs.declared.action.Action.{Action}
use Rattle.lq_meaning.specs.World.{World, Acted, Answers, Traps, Strays, act}
use Rattle.lq_meaning.proofs.Apart.{Apart, apart_commute, apart-Traps, Apart-sym}
use Rattle.lq_log.specs.declared.entry.Entry.{Entry}
use Rattle.lq_meaning.specs.Task.{Spot, Task, Tasks, more, forked}
use Rattle.lq_machine.specs.Step.{runnable, Moves, moved, logged, resumed, step}
use Rattle.lq_machine.proofs.Leaves.{LeafAt, Leaf, here, inside, LeafIn, first, later, step-Leaf, step-answers, inside_forked}

-- Behind x in the place of one leaf the other leaf is still there, behind y in the place of the other the one is, and
-- with both in their places the whole is the same. `one` and `other` put a task in the place of the first and the second leaf.
record Beside (T : Type 0) (IsLeaf : T → ℕ → Spot → Action → (ℤ → Task) → (Task → T) → Type 0)
    (at_one : Spot) (action_one : Action) (next_one : ℤ → Task) (one : Task → T)
    (at_other : Spot) (action_other : Action) (next_other : ℤ → Task) (other : Task → T)
    (x y : Task) : Type 0 where
  number_other : ℕ
  put_other : Task → T
  other_stays : IsLeaf (one x) number_other at_other action_other next_other put_other
  number_one : ℕ
  put_one : Task → T
  one_stays : IsLeaf (other y) number_one at_one action_one next_one put_one
  same : put_other y ≡ put_one x

module _ (x y : Task) where
  mutual
    -- two different leaves of a task stay beside one another
    beside : {task : Task}
        {m : ℕ} {at_one : Spot} {action_one : Action} {next_one : ℤ → Task} {one : Task → Task} (leaf_one : Leaf task m at_one action_one next_one one)
        {n : ℕ} {at_other : Spot} {action_other : Action} {next_other : ℤ → Task} {other : Task → Task}
        (leaf_other : Leaf task n at_other action_other next_other other) →
        m ≢ n →
        Beside Task Leaf at_one action_one next_one one at_other action_other next_other other x y
    beside here here differ = absurd (differ refl)
    beside (inside {behind = behind} leaf_one) (inside leaf_other) differ =
        let b = beside_in leaf_one leaf_other differ in
        record {
          number_other = b.number_other;
          put_other = λ task. forked (b.put_other task) behind;
          other_stays = inside_forked behind b.other_stays;
          number_one = b.number_one;
          put_one = λ task. forked (b.put_one task) behind;
          one_stays = inside_forked behind b.one_stays;
          same = ap (λ children. forked children behind) b.same;
        }

    -- the same of leaves among tasks
    beside_in : {tasks : Tasks}
        {m : ℕ} {at_one : Spot} {action_one : Action} {next_one : ℤ → Task} {one : Task → Tasks} (leaf_one : LeafIn tasks m at_one action_one next_one one)
        {n : ℕ} {at_other : Spot} {action_other : Action} {next_other : ℤ → Task} {other : Task → Tasks}
        (leaf_other : LeafIn tasks n at_other action_other next_other other) →
        m ≢ n →
        Beside Tasks LeafIn at_one action_one next_one one at_other action_other next_other other x y
    beside_in (first {children = children} leaf_one) (first leaf_other) differ =
        let b = beside leaf_one leaf_other differ in
        record {
          number_other = b.number_other;
          put_other = λ task. more (b.put_other task) children;
          other_stays = first b.other_stays;
          number_one = b.number_one;
          put_one = λ task. more (b.put_one task) children;
          one_stays = first b.one_stays;
          same = ap (λ task. more task children) b.same;
        }
    beside_in (first {put = one} leaf_one) (later {put = other} leaf_other) differ =
        record {
          number_other = _;
          put_other = λ task. more (one x) (other task);
          other_stays = later leaf_other;
          number_one = _;
          put_one = λ task. more (one task) (other y);
          one_stays = first leaf_one;
          same = refl;
        }
    beside_in (later {put = one} leaf_one) (first {put = other} leaf_other) differ =
        record {
          number_other = _;
          put_other = λ task. more (other task) (one x);
          other_stays = first leaf_other;
          number_one = _;
          put_one = λ task. more (other y) (one task);
          one_stays = later leaf_one;
          same = refl;
        }
    beside_in (later {child} leaf_one) (later leaf_other) differ =
        let b = beside_in leaf_one leaf_other (λ e. differ (ap (λ k. runnable child + k) e)) in
        record {
          number_other = runnable child + b.number_other;
          put_other = λ task. more child (b.put_other task);
          other_stays = later b.other_stays;
          number_one = runnable child + b.number_one;
          put_one = λ task. more child (b.put_one task);
          one_stays = later b.one_stays;
          same = ap (more child) b.same;
        }

-- a step that moves, by an action that does not trap, is by its answer
record AnswersWith (r : Acted) (next : ℤ → Task) (put : Task → Task) (task : Task) (w : World) : Type 0 where
  word : ℤ
  answers : r ≡ Answers word w
  becomes : task ≡ put (next word)

-- what comes of an action that does not trap
answers_with : (at : Spot) (entries : List Entry) (next : ℤ → Task) (put : Task → Task) (r : Acted) (moved_entries : List Entry) (task : Task) (w : World) →
    ((kind : TrapKind) (after : World) → r ≢ Traps kind after) →
    moved put (resumed at entries next r) ≡ Moves moved_entries task w →
    AnswersWith r next put task w
answers_with at entries next put (Answers word after) moved_entries task w no_trap e = record { word = word; answers = cc; becomes = cc }
answers_with at entries next put (Traps kind after) moved_entries task w no_trap e = absurd (no_trap kind after refl)
answers_with at entries next put (Strays after) moved_entries task w no_trap e = absurd cc

-- the same of the step of a leaf whose action is apart from another
moves_apart : (w : World) {task : Task} {m : ℕ} (one : LeafAt task m) (other : Action) → Apart w.memory one.action other →
    (entries : List Entry) (after : Task) (w_after : World) → step task m w ≡ Moves entries after w_after →
    AnswersWith (act one.action w) one.next one.put after w_after
moves_apart w one other apart entries after w_after e =
    answers_with one.at (logged one.at one.action w) one.next one.put (act one.action w) entries after w_after (λ kind world. apart-Traps w one.action other kind world apart)
    (sym (step-Leaf one.leaf w) ∙ e)

-- a leaf is still there in another task, with its place and its action, and its step from there leads to `last`
pub record StillLeads {task : Task} {n : ℕ} (l : LeafAt task n) (after : Task) (w : World) (last : Task) (w_last : World) : Type 0 where
  pub number : ℕ
  pub leaf : LeafAt after number
  pub at : leaf.at ≡ l.at
  pub action : leaf.action ≡ l.action
  pub entries : List Entry
  pub leads : step after number w ≡ Moves entries last w_last

-- a leaf that is still there, with what its action answers there
still_leads : {task : Task} {n : ℕ} (l : LeafAt task n) {new : Task} {number : ℕ} {put : Task → Task} (leaf : Leaf new number l.at l.action l.next put)
    (after : Task) → after ≡ new → (w : World) (word : ℤ) (w_last : World) → act l.action w ≡ Answers word w_last →
    StillLeads l after w (put (l.next word)) w_last
still_leads l {number = number} {put} leaf after is_new w word w_last answers =
    subst (λ t. StillLeads l t w (put (l.next word)) w_last) (sym is_new)
    (record {
      number = number;
      leaf = record { at = l.at; action = l.action; next = l.next; put = put; leaf = leaf };
      at = refl;
      action = refl;
      entries = logged l.at l.action w;
      leads = step-answers leaf w word w_last answers;
    })

-- what the steps of two leaves leave, brought together again by the step of the other leaf
pub record Meeting {task : Task} {m n : ℕ} (one : LeafAt task m) (other : LeafAt task n) (after_one after_other : Task) (w_one w_other : World) : Type 0 where
  pub last : Task
  pub w_last : World
  pub other_behind_one : StillLeads other after_one w_one last w_last
  pub one_behind_other : StillLeads one after_other w_other last w_last
  pub printed : w_one.printed ≡ w_other.printed
  pub cost : w_one.cost ≡ w_other.cost

-- Steps of two different runnable leaves of a task, whose actions are apart, commute: each leaf is still there behind
-- the other's step, and the two orders lead to one task and one world.
pub leaves_commute : (w : World) (task : Task) (m n : ℕ) (one : LeafAt task m) (other : LeafAt task n) →
    m ≢ n → Apart w.memory one.action other.action →
    (entries_one entries_other : List Entry) (after_one after_other : Task) (w_one w_other : World) →
    step task m w ≡ Moves entries_one after_one w_one → step task n w ≡ Moves entries_other after_other w_other →
    Meeting one other after_one after_other w_one w_other
leaves_commute w task m n one other differ apart entries_one entries_other after_one after_other w_one w_other step_one step_other =
    let by_one = moves_apart w one other.action apart entries_one after_one w_one step_one in
    let by_other = moves_apart w other one.action (Apart-sym w.memory one.action other.action apart) entries_other after_other w_other step_other in
    let either = apart_commute w one.action other.action by_one.word by_other.word w_one w_other apart by_one.answers by_other.answers in
    let b = beside (one.next by_one.word) (other.next by_other.word) one.leaf other.leaf differ in
    record {
      last = b.put_other (other.next by_other.word);
      w_last = either.last;
      other_behind_one = still_leads other b.other_stays after_one by_one.becomes w_one by_other.word either.last either.b_behind_a;
      one_behind_other =
          subst (λ t. StillLeads one after_other w_other t either.last) (sym b.same)
          (still_leads one b.one_stays after_other by_other.becomes w_other by_one.word either.last either.a_behind_b);
      printed = either.printed;
      cost = either.cost;
    }
