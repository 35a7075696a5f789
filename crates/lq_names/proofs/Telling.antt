-- What the least fault tells of a program.
use Rattle.std.proofs.Common.{◌≡◌, ℕ, Bool, true, false, List, [], length, Option, None, Some, refl, ap, sym, subst, arith}
use Rattle.std.proofs.Math.Path.{fun_ext}
use Rattle.std.specs.List.{Contains}
use Rattle.lq_tree.specs.declared.program.Program.{Program}
use Rattle.lq_names.specs.declared.fault.Fault.{Fault}
use Rattle.lq_names.specs.declared.effects.Effect.{Effect}
use Rattle.lq_names.specs.declared.effects.Effect.TheVariants.{Prints, Allocates}
use Rattle.lq_names.specs.Calls.{IsLeast}
use Rattle.lq_names.specs.Faults.{least}
use Rattle.lq_names.specs.Headers.{program_faults}
use Rattle.lq_names.specs.Broken.{IsBroken, Tells}
use Rattle.lq_names.proofs.LeastFaults.{none_of, least_is}

same_test : (a b : Bool) → (a ≡ true → b ≡ true) → (b ≡ true → a ≡ true) → a ≡ b
same_test true b f g = sym (f refl)
same_test false true f g = g refl
same_test false false f g = refl

-- there is one least set
one_set : (p : Program) (effect : Effect) (set other : List ℕ → Bool) → IsLeast p effect set → IsLeast p effect other → set ≡ other
one_set p effect set other a b = fun_ext (λ name. same_test (set name) (other name) (a.least other b.closed name) (b.least set a.closed name))

module _ (p : Program) (prints allocates : List ℕ → Bool) (may_print : IsLeast p Prints prints) (may_allocate : IsLeast p Allocates allocates) where
  told_here : (fault : Fault) → IsBroken p fault → Contains (program_faults p prints allocates) fault
  told_here fault b =
      let a = one_set p Prints b.prints prints b.may_print may_print in
      let e = one_set p Allocates b.allocates allocates b.may_allocate may_allocate in
      subst (λ (x : List ℕ → Bool). Contains (program_faults p prints x) fault) e (subst (λ (x : List ℕ → Bool). Contains (program_faults p x b.allocates) fault) a b.told)

  nothing_in : (xs : List Fault) (fault : Fault) → xs ≡ [] → Contains xs fault → ⊥
  nothing_in xs fault is there = let e : length xs ≡ 0 = ap length is in omega (arith, e, there.1)

  pub tells : (r : Option Fault) → r ≡ least None (program_faults p prints allocates) → Tells p r
  tells None is = λ fault b. nothing_in (program_faults p prints allocates) fault (none_of (program_faults p prints allocates) (sym is)) (told_here fault b)
  tells (Some f) is =
      let m = least_is (program_faults p prints allocates) f (sym is) in
      record {
        broken = record { prints = prints; allocates = allocates; may_print = may_print; may_allocate = may_allocate; told = m.0 };
        first = λ other b. m.1 other (told_here other b);
      }
