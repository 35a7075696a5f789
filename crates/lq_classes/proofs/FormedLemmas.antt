-- A formed program is small.
use Rattle.std.proofs.Common.{◌≡◌, ℕ, suc, ◌*◌, ◌^◌, ◌≤◌, List, [], ◌∷◌, length, Some, refl, arith, slice_get}
use Rattle.lq_tree.specs.declared.plain.PFunc.{PFunc}
use Rattle.lq_tree.specs.declared.plain.PProgram.{PProgram}
use Rattle.lq_tree.specs.Formed.{IsFormed}
use Rattle.lq_classes.specs.Layout.{total, IsSmall}

-- a function has fewer than 2^23 slots
pub few_slots : (p : PProgram) (n : ℕ) (f : PFunc) → IsFormed p → slice_get p.funcs n ≡ Some f → suc (length f.slots) ≤ 2 ^ 23
few_slots p n f formed there = let light = (formed.funcs n f there).light in omega (arith, light)

few_total : (funcs : List PFunc) → ((n : ℕ) (f : PFunc) → slice_get funcs n ≡ Some f → suc (length f.slots) ≤ 2 ^ 23) → total funcs ≤ length funcs * 2 ^ 23
few_total [] few = omega arith
few_total (f ∷ funcs) few = let one = few 0 f refl in let more = few_total funcs (λ n g there. few (suc n) g there) in omega (arith, one, more)

-- and there are at most 256 functions
pub formed_is_small : (p : PProgram) → IsFormed p → IsSmall p
formed_is_small p formed = let all = few_total p.funcs (λ n f there. few_slots p n f formed there) in let few = formed.few_funcs in omega (arith, all, few)
