-- What the plain form of a program keeps of its functions.
use Rattle.std.proofs.Common.{◌≡◌, List, [], ◌∷◌, map, refl, ap}
use Rattle.lq_tree.specs.declared.program.Program.{Program}
use Rattle.lq_tree.specs.declared.program.Func.{Func}
use Rattle.lq_tree.specs.declared.plain.PFunc.{PFunc}
use Rattle.lq_plain.specs.Plain.{plain_func}

-- the names of functions in their order
pub names_stay : (p : Program) (funcs : List Func) → map (λ (f : PFunc). f.name) (map (plain_func p) funcs) ≡ map (λ (f : Func). f.name) funcs
names_stay p [] = refl
names_stay p (f ∷ funcs) = ap (λ names. f.name ∷ names) (names_stay p funcs)
