-- Lists of tasks one behind the other: their leaves, their ends and their steps.
use Rattle.std.proofs.Common.{◌≡◌, ◌+◌, true, false, None, Some, refl, arith}
use Rattle.std.specs.Prelude.{◌&&◌}
use Rattle.std.specs.Option.{option_or}
use Rattle.lq_meaning.specs.World.{World}
use Rattle.lq_meaning.specs.Task.{Tasks, none, more, has_ended, all_ended, trap_of, first_trap}
use Rattle.lq_machine.specs.Step.{all_runnable, Stepped, Moves, Leaves, moved}
use Rattle.lq_machine.specs.Forest.{join}

-- the leaves of two lists
pub runnable-join : (a b : Tasks) → all_runnable (join a b) ≡ all_runnable a + all_runnable b
runnable-join none b = omega arith
runnable-join (more task a) b = omega (arith, runnable-join a b)

-- both lists have ended
pub ended-join : (a b : Tasks) → all_ended (join a b) ≡ (all_ended a && all_ended b)
ended-join none b = refl
ended-join (more task a) b = elim (has_ended task) as (λ v. (v && all_ended (join a b)) ≡ ((v && all_ended a) && all_ended b)) [ true ↦ ended-join a b | false ↦ refl ]

-- the first trap of two lists
pub trap-join : (a b : Tasks) → first_trap (join a b) ≡ option_or (first_trap a) (first_trap b)
trap-join none b = refl
trap-join (more task a) b = elim (trap_of task) as (λ v. option_or v (first_trap (join a b)) ≡ option_or (option_or v (first_trap a)) (first_trap b)) [ None ↦ trap-join a b | Some t ↦ refl ]

-- one step after another, in what surrounds it
pub moved-moved : {A B C : Type 0} (f : B → C) (g : A → B) (s : Stepped A) → moved f (moved g s) ≡ moved (λ x. f (g x)) s
moved-moved f g (Moves entries task w) = refl
moved-moved f g (Leaves at w) = refl

pub moved-same : {A : Type 0} (s : Stepped A) → moved (λ x. x) s ≡ s
moved-same (Moves entries task w) = refl
moved-same (Leaves at w) = refl

-- a step in what surrounds it is one of this form
pub moves-in : {A B : Type 0} (f : A → B) (s : Stepped A) (entries : _) (x : B) (w : World) → moved f s ≡ Moves entries x w
    → (a : A) × (s ≡ Moves entries a w) × (f a ≡ x)
moves-in f (Moves entries' a w') entries x w same = (a, cc, cc)
moves-in f (Leaves at w') entries x w same = absurd cc

pub leaves-in : {A B : Type 0} (f : A → B) (s : Stepped A) (at : _) (w : World) → moved f s ≡ Leaves at w → s ≡ Leaves at w
leaves-in f (Moves entries' a w') at w same = absurd cc
leaves-in f (Leaves at' w') at w same = cc
