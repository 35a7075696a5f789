-- There are the functions that may print, and those that may allocate: a set of names that grows until it is closed.
use Rattle.std.proofs.Common.{◌≡◌, ℕ, zero, suc, ◌+◌, ◌<◌, Bool, List, [], Option, None, Some, IsTrue, find, refl, arith}
use Rattle.lq_tree.specs.declared.program.Func.{Func}
use Rattle.lq_tree.specs.declared.program.Program.{Program}
use Rattle.lq_names.specs.declared.effects.Effect.{Effect}
use Rattle.lq_names.specs.Calls.{IsClosed, IsLeast, is_missing}
use Rattle.lq_names.specs.Headers.{with_name}
use Rattle.lq_names.specs.Seen.{is_among}
use Rattle.lq_names.proofs.Closing.{outside, falls, stays_sound, is_least}

module _ (p : Program) (effect : Effect) where
  -- each closed set has these names
  abbrev IsSound : List (List ℕ) → Type 0
  IsSound names = (other : List ℕ → Bool) → IsClosed p effect other → (name : List ℕ) → IsTrue (is_among names name) → IsTrue (other name)

  abbrev LeastSet : Type 0
  LeastSet = (set : List ℕ → Bool) × IsLeast p effect set

  abbrev missing : List (List ℕ) → Option Func
  missing names = find (is_missing p effect (is_among names)) p.funcs

  -- nothing is missing, or one name more brings the set on
  grown : (names : List (List ℕ)) (left : ℕ) → outside (is_among names) p.funcs < suc left → IsSound names → (f : Option Func) → missing names ≡ f
      → ((next : List (List ℕ)) → outside (is_among next) p.funcs < left → IsSound next → LeastSet) → LeastSet
  grown names left few is_sound None is more = (is_among names, is_least p effect names is is_sound)
  grown names left few is_sound (Some f) is more =
      let next = with_name names f.name in
      let fewer = falls p effect names f next is refl in
      more next (omega (arith, few, fewer)) (stays_sound p effect names f next is refl is_sound)

  closed : (left : ℕ) (names : List (List ℕ)) → outside (is_among names) p.funcs < left → IsSound names → LeastSet
  closed zero names few is_sound = absurd (omega (arith, few))
  closed (suc left) names few is_sound = grown names left few is_sound (missing names) refl (closed left)

  pub least_set : LeastSet
  least_set = closed (outside (is_among []) p.funcs + 1) [] (omega arith) (λ other is_closed name there. cc)
