-- The program that a test makes is formed: a loop that calls a function which loads. All that is asked of it is computed; its lists
-- of statements are opened for that.
use Rattle.std.proofs.Common.{◌≡◌, ℕ, zero, suc, false, List, [], ◌∷◌, Some, refl, subst, sym, ap₂, ◌∙◌}
use Rattle.std.specs.Prelude.{ℤ, pos, codes, slice_get}
use Rattle.std.proofs.lemmas.Bool.{leb-true, ltb-true}
use denote.Hole.Carrier.{roll, hidden}
use Rattle.lq_tree.specs.declared.expr.Base.TheVariants.{Int}
use Rattle.lq_tree.specs.declared.expr.CType.{CType}
use Rattle.lq_tree.specs.declared.program.StructDef.{StructDef}
use Rattle.lq_tree.specs.declared.plain.PExpr.{Num, Slot}
use Rattle.lq_tree.specs.declared.plain.PFunc.{PFunc}
use Rattle.lq_tree.specs.declared.plain.PKind.{PKind, Load, Call, While, Return}
use Rattle.lq_tree.specs.declared.plain.PKind.TheBlock.{hidden-the_row-PStmt-0, hidden-the_row-Branch-1}
use Rattle.lq_tree.specs.declared.plain.PProgram.{PProgram}
use Rattle.lq_tree.specs.declared.plain.PStmt.{PStmt}
use Rattle.lq_tree.specs.declared.plain.Slot.{Slot as Local}
use Rattle.lq_tree.specs.Formed.{IsFormedFunc, IsFormed}

abbrev int : ℕ → CType
int stars = record { base = Int; stars = stars }

abbrev local : List ℕ → ℕ → Local
local name stars = record { name = Some name; ctype = int stars }

abbrev at : ℕ → PKind → PStmt
at line kind = record { at = record { line = line; col = 3 }; kind = kind }

abbrev pub first : PFunc
first =
    record {
      at = record { line = 1; col = 1 };
      name = codes "first";
      result = Some (int 0);
      params = 1;
      slots = local (codes "p") 1 ∷ local (codes "x") 0 ∷ [];
      body = at 2 (Load 1 0 (Num (pos 0)) 0) ∷ at 3 (Return (Some (Slot 1))) ∷ [];
    }

abbrev pub main : PFunc
main =
    record {
      at = record { line = 5; col = 1 };
      name = codes "main";
      result = Some (int 0);
      params = 2;
      slots = local (codes "in") 1 ∷ local (codes "n") 0 ∷ [];
      body = at 6 (While [] (Slot 1) (at 7 (Call (Some 1) 0 (Slot 0 ∷ [])) ∷ [])) ∷ at 8 (Return (Some (Num (pos 0)))) ∷ [];
    }

abbrev pub calling : PProgram
calling = record { structs = []; funcs = first ∷ main ∷ []; main = 1; factors = [] }

abbrev program_of : List StructDef → List PFunc → List ℤ → PProgram
program_of structs funcs factors = record { structs = structs; funcs = funcs; main = 1; factors = factors }

first_formed : IsFormedFunc calling (λ _. false) 0 first
unfolding roll hidden hidden-the_row-PStmt-0 hidden-the_row-Branch-1
first_formed = record {
  params = leb-true _ _ refl;
  few = leb-true _ _ refl;
  slots = refl;
  result = refl;
  typed = refl;
  shaped = refl;
  shallow = refl;
  indices = refl;
  scoped = refl;
  silent = λ is. absurd cc;
  parallel = refl;
  light = ltb-true _ _ refl;
}

main_formed : IsFormedFunc calling (λ _. false) 1 main
unfolding roll hidden hidden-the_row-PStmt-0 hidden-the_row-Branch-1
main_formed = record {
  params = leb-true _ _ refl;
  few = leb-true _ _ refl;
  slots = refl;
  result = refl;
  typed = refl;
  shaped = refl;
  shallow = refl;
  indices = refl;
  scoped = refl;
  silent = λ is. absurd cc;
  parallel = refl;
  light = ltb-true _ _ refl;
}

each_formed : (number : ℕ) (f : PFunc) → slice_get calling.funcs number ≡ Some f → IsFormedFunc calling (λ _. false) number f
each_formed zero f e = let is : first ≡ f = cc in subst (IsFormedFunc calling (λ _. false) 0) is first_formed
each_formed (suc zero) f e = let is : main ≡ f = cc in subst (IsFormedFunc calling (λ _. false) 1) is main_formed
each_formed (suc (suc n)) f e = absurd cc

calling_formed : IsFormed calling
calling_formed = record {
  few_structs = leb-true _ _ refl;
  few_funcs = leb-true _ _ refl;
  struct_names = refl;
  func_names = refl;
  structs = tt;
  main = main;
  is_main = refl;
  entry = record { name = refl; result = refl; params = refl };
  quiet = λ _. false;
  funcs = each_formed;
  ascending = refl;
  factors = refl;
}

-- and so is what is put together of what is equal to its parts
pub formed_of : (structs : List StructDef) (funcs : List PFunc) (factors : List ℤ) (f m : PFunc) → structs ≡ [] → funcs ≡ f ∷ m ∷ [] → f ≡ first → m ≡ main → factors ≡ []
    → IsFormed (record { structs = structs; funcs = funcs; main = 1; factors = factors })
formed_of structs funcs factors f m no_structs both is_first is_main no_factors =
    let all : funcs ≡ first ∷ main ∷ [] = both ∙ ap₂ (λ (g h : PFunc). g ∷ h ∷ []) is_first is_main in
    let same : program_of structs funcs factors ≡ calling = λ i. program_of (no_structs i) (all i) (no_factors i) in
    subst IsFormed (sym same) calling_formed
