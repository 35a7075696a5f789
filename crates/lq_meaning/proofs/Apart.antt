-- Two actions that do not meet may be done in either order.
use Rattle.std.proofs.Common.{◌≡◌, ◌≢◌, ℕ, ◌+◌, ℤ, Option, None, Some, refl, sym, ap, ◌∙◌}
use Rattle.lq_tree.specs.declared.trap.TrapKind.{TrapKind}
use Rattle.lq_meaning.specs.declared.memory.Address.{Address}
use Rattle.lq_meaning.specs.Memory.{Blocks, word_at, with_word, reach}
use Rattle.lq_meaning.specs.declared.action.Action.{Action}
use Rattle.lq_meaning.specs.declared.action.Action.TheVariants.{Load, Store}
use Rattle.lq_meaning.specs.World.{World, Answers, Traps, counted, loaded, stored, act}
use Rattle.lq_meaning.proofs.Writes.{Lies-reach, reach-with_word, word_at-with_word_other, with_word_comm}

-- Two actions are apart in a memory where both are loads, or where each is a load or a store and they reach two
-- addresses. A calloc and a print are apart from nothing.
abbrev pub Apart : Blocks → Action → Action → Type 0
Apart m (Load p i f) (Load q j g) = Unit {0}
Apart m (Load p i f) (Store q j g v) = reach m p i f ≢ reach m q j g
Apart m (Store p i f u) (Load q j g) = reach m p i f ≢ reach m q j g
Apart m (Store p i f u) (Store q j g v) = reach m p i f ≢ reach m q j g
Apart m _ _ = ⊥

-- what a load leaves is the counted world, and what a store leaves is this
abbrev world_stored : World → Address → ℤ → World
world_stored w a u = record { memory = with_word w.memory a u; left = w.left; cost = w.cost + 1; printed = w.printed }

-- what a load that answers tells
loaded_answers : (w : World) (r : Option Address) (x : ℤ) (after : World) → loaded (counted w) r ≡ Answers x after →
    (a : Address) × (r ≡ Some a) × (x ≡ word_at w.memory a) × (after ≡ counted w)
loaded_answers w None x after e = absurd cc
loaded_answers w (Some a) x after e = (a, refl, cc, cc)

-- what a store that answers tells
stored_answers : (w : World) (r : Option Address) (u x : ℤ) (after : World) → stored (counted w) r u ≡ Answers x after →
    (a : Address) × (r ≡ Some a) × (x ≡ u) × (after ≡ world_stored w a u)
stored_answers w None u x after e = absurd cc
stored_answers w (Some a) u x after e = (a, refl, cc, cc)

-- the answers and the last world of two actions in either order, each action with what it answers and leaves first
pub record EitherOrder (a b : Action) (x y : ℤ) (after_a after_b : World) : Type 0 where
  pub last : World
  pub b_behind_a : act b after_a ≡ Answers y last
  pub a_behind_b : act a after_b ≡ Answers x last
  pub printed : after_a.printed ≡ after_b.printed
  pub cost : after_a.cost ≡ after_b.cost

-- two loads
load_load : (w : World) (p i : ℤ) (f : ℕ) (q j : ℤ) (g : ℕ) (x y : ℤ) (after_a after_b : World) →
    act (Load p i f) w ≡ Answers x after_a → act (Load q j g) w ≡ Answers y after_b →
    EitherOrder (Load p i f) (Load q j g) x y after_a after_b
load_load w p i f q j g x y after_a after_b ea eb =
    let a = loaded_answers w (reach w.memory p i f) x after_a ea in
    let b = loaded_answers w (reach w.memory q j g) y after_b eb in
    record {
      last = counted (counted w);
      b_behind_a = ap (act (Load q j g)) a.3 ∙ (ap (loaded (counted (counted w))) b.1 ∙ ap (λ z. Answers z (counted (counted w))) (sym b.2));
      a_behind_b = ap (act (Load p i f)) b.3 ∙ (ap (loaded (counted (counted w))) a.1 ∙ ap (λ z. Answers z (counted (counted w))) (sym a.2));
      printed = ap (λ (v : World). v.printed) (a.3 ∙ sym b.3);
      cost = ap (λ (v : World). v.cost) (a.3 ∙ sym b.3);
    }

-- a load and a store at another address
load_store : (w : World) (p i : ℤ) (f : ℕ) (q j : ℤ) (g : ℕ) (v : ℤ) (x y : ℤ) (after_a after_b : World) → reach w.memory p i f ≢ reach w.memory q j g →
    act (Load p i f) w ≡ Answers x after_a → act (Store q j g v) w ≡ Answers y after_b →
    EitherOrder (Load p i f) (Store q j g v) x y after_a after_b
load_store w p i f q j g v x y after_a after_b other ea eb =
    let a = loaded_answers w (reach w.memory p i f) x after_a ea in
    let b = stored_answers w (reach w.memory q j g) v y after_b eb in
    let in_a = Lies-reach w.memory p i f a.0 a.1 in
    let in_b = Lies-reach w.memory q j g b.0 b.1 in
    let apart : b.0 ≢ a.0 = λ e. other (a.1 ∙ (ap Some (sym e) ∙ sym b.1)) in
    record {
      last = world_stored (counted w) b.0 v;
      b_behind_a = ap (act (Store q j g v)) a.3 ∙ (ap (λ r. stored (counted (counted w)) r v) b.1 ∙ ap (λ z. Answers z (world_stored (counted w) b.0 v)) (sym b.2));
      a_behind_b =
          ap (act (Load p i f)) b.3
          ∙ (ap (loaded (counted (world_stored w b.0 v))) (reach-with_word w.memory b.0 v p i f in_b ∙ a.1)
          ∙ ap (λ z. Answers z (world_stored (counted w) b.0 v)) (word_at-with_word_other w.memory b.0 a.0 v in_b in_a apart ∙ sym a.2));
      printed = ap (λ (v : World). v.printed) a.3 ∙ sym (ap (λ (v : World). v.printed) b.3);
      cost = ap (λ (v : World). v.cost) a.3 ∙ sym (ap (λ (v : World). v.cost) b.3);
    }

-- the same, with the two actions named the other way round
turned : {a b : Action} {x y : ℤ} {after_a after_b : World} → EitherOrder a b x y after_a after_b → EitherOrder b a y x after_b after_a
turned o = record { last = o.last; b_behind_a = o.a_behind_b; a_behind_b = o.b_behind_a; printed = sym o.printed; cost = sym o.cost }

-- two stores at two addresses
store_store : (w : World) (p i : ℤ) (f : ℕ) (u : ℤ) (q j : ℤ) (g : ℕ) (v : ℤ) (x y : ℤ) (after_a after_b : World) → reach w.memory p i f ≢ reach w.memory q j g →
    act (Store p i f u) w ≡ Answers x after_a → act (Store q j g v) w ≡ Answers y after_b →
    EitherOrder (Store p i f u) (Store q j g v) x y after_a after_b
store_store w p i f u q j g v x y after_a after_b other ea eb =
    let a = stored_answers w (reach w.memory p i f) u x after_a ea in
    let b = stored_answers w (reach w.memory q j g) v y after_b eb in
    let in_a = Lies-reach w.memory p i f a.0 a.1 in
    let in_b = Lies-reach w.memory q j g b.0 b.1 in
    let apart : a.0 ≢ b.0 = λ e. other (a.1 ∙ (ap Some e ∙ sym b.1)) in
    record {
      last = world_stored (world_stored w a.0 u) b.0 v;
      b_behind_a =
          ap (act (Store q j g v)) a.3
          ∙ (ap (λ r. stored (counted (world_stored w a.0 u)) r v) (reach-with_word w.memory a.0 u q j g in_a ∙ b.1)
          ∙ ap (λ z. Answers z (world_stored (world_stored w a.0 u) b.0 v)) (sym b.2));
      a_behind_b =
          ap (act (Store p i f u)) b.3
          ∙ (ap (λ r. stored (counted (world_stored w b.0 v)) r u) (reach-with_word w.memory b.0 v p i f in_b ∙ a.1)
          ∙ (λ k.
          Answers (sym a.2 k)
          (record { memory = sym (with_word_comm w.memory a.0 b.0 u v in_a in_b apart) k; left = w.left; cost = w.cost + 1 + 1; printed = w.printed })));
      printed = ap (λ (v : World). v.printed) a.3 ∙ sym (ap (λ (v : World). v.printed) b.3);
      cost = ap (λ (v : World). v.cost) a.3 ∙ sym (ap (λ (v : World). v.cost) b.3);
    }

-- Apart actions commute: in either order they answer the same words and leave the same world.
pub apart_commute : (w : World) (a b : Action) (x y : ℤ) (after_a after_b : World) → Apart w.memory a b →
    act a w ≡ Answers x after_a → act b w ≡ Answers y after_b → EitherOrder a b x y after_a after_b
apart_commute w (Load p i f) (Load q j g) x y after_a after_b apart ea eb = load_load w p i f q j g x y after_a after_b ea eb
apart_commute w (Load p i f) (Store q j g v) x y after_a after_b apart ea eb = load_store w p i f q j g v x y after_a after_b apart ea eb
apart_commute w (Store p i f u) (Load q j g) x y after_a after_b apart ea eb =
    turned (load_store w q j g p i f u y x after_b after_a (λ e. apart (sym e)) eb ea)
apart_commute w (Store p i f u) (Store q j g v) x y after_a after_b apart ea eb = store_store w p i f u q j g v x y after_a after_b apart ea eb
apart_commute w _ _ x y after_a after_b apart ea eb = absurd apart

-- a load does not trap
loaded-Traps : (w : World) (r : Option Address) (kind : TrapKind) (after : World) → loaded w r ≢ Traps kind after
loaded-Traps w None kind after e = cc
loaded-Traps w (Some a) kind after e = cc

-- a store does not trap
stored-Traps : (w : World) (r : Option Address) (u : ℤ) (kind : TrapKind) (after : World) → stored w r u ≢ Traps kind after
stored-Traps w None u kind after e = cc
stored-Traps w (Some a) u kind after e = cc

-- an action that is apart from another does not trap
pub apart-Traps : (w : World) (a b : Action) (kind : TrapKind) (after : World) → Apart w.memory a b → act a w ≢ Traps kind after
apart-Traps w (Load p i f) b kind after apart e = loaded-Traps (counted w) (reach w.memory p i f) kind after e
apart-Traps w (Store p i f u) b kind after apart e = stored-Traps (counted w) (reach w.memory p i f) u kind after e
apart-Traps w _ b kind after apart e = apart

-- if an action is apart from another, that one is apart from it
pub Apart-sym : (m : Blocks) (a b : Action) → Apart m a b → Apart m b a
Apart-sym m (Load p i f) (Load q j g) apart = tt
Apart-sym m (Load p i f) (Store q j g v) apart = λ e. apart (sym e)
Apart-sym m (Store p i f u) (Load q j g) apart = λ e. apart (sym e)
Apart-sym m (Store p i f u) (Store q j g v) apart = λ e. apart (sym e)
Apart-sym m _ _ apart = absurd apart
