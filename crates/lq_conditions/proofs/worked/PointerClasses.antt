-- The classes of pointer values: a slot puts its own class on what it gets; null, and what comes from a field that no variable is loaded
-- from or stored to, has the class 0.
use Rattle.std.proofs.Common.{◌≡◌, refl}
use Rattle.std.specs.Prelude.{ℕ, [], ◌∷◌, Some, false}
use Rattle.lq_tree.specs.declared.plain.PExpr.{Null, Slot}
use Rattle.lq_tree.specs.declared.plain.PKind.{Calloc, Load, Set, Store}
use Rattle.lq_tree.specs.declared.plain.PFunc.{PFunc}
use Rattle.lq_tree.specs.declared.plain.PProgram.{PProgram}
use Rattle.lq_linear.specs.Form.{Linear}
use Rattle.lq_meaning.proofs.worked.SourceWords.{int, param, struct, struct_at}
use Rattle.lq_meaning.proofs.worked.PlainWords.{func, named, num, program, shift, stmt}
use Rattle.lq_templates.specs.Classes.{ClassOf}
use Rattle.lq_templates.proofs.worked.Words.{classes}
use Rattle.lq_symbolic.specs.declared.value.SymValue.{SymValue}
use Rattle.lq_symbolic.specs.declared.value.SymValue.TheVariants.{Int as OfInt, Ptr as OfPointer}
use Rattle.lq_symbolic.specs.declared.state.SymState.{SymState as State}
use Rattle.lq_ground.specs.Ground.{Ground, fields_of}
use Rattle.lq_conditions.specs.After.{after_all}
use Rattle.lq_conditions.specs.Conditions.{entered, before_body}
use Rattle.lq_conditions.proofs.worked.Words.{num as constant_of, sym}

abbrev pointer_classes_main : PFunc
pointer_classes_main = func 2 1 (Some (int 0)) "main" 2 (named "in" (int 1) ∷ named "n" (int 0) ∷ named "s" (struct "S" 1) ∷ named "a" (int 1) ∷ named "b" (int 1) ∷ [])
    (stmt 3 3 (Calloc 2 (num 1) (struct "S" 0)) ∷ stmt 4 3 (Calloc 3 (num 1) (int 0)) ∷ stmt 5 3 (Store 2 (num 0) 1 (shift (Slot 3) (num 1))) ∷ stmt 6 3 (Store 2 (num 0) 2 Null) ∷ stmt 7 3 (Load 4 2 (num 0) 1) ∷ stmt 8 3 (Set 3 Null) ∷ [])

abbrev pointer_classes : PProgram
pointer_classes = program (struct_at 1 1 "S" (param (int 0) "m" ∷ param (int 1) "d" ∷ param (int 1) "e" ∷ param (struct "S" 1) "next" ∷ []) ∷ []) (pointer_classes_main ∷ []) 0 []

abbrev pointer_classes_sorting : ClassOf
pointer_classes_sorting = classes ((0, 0, 1) ∷ (0, 2, 2) ∷ (0, 3, 3) ∷ (0, 4, 3) ∷ [])

abbrev ground : Ground
ground = record {
  env = record { program = pointer_classes; class_of = pointer_classes_sorting; by = λ function access. false; number = 0; func = pointer_classes_main };
  templates = [];
  before = 0;
  scope = 0;
}

abbrev pointer : (class block : ℕ) → (offset : Linear) → SymValue
pointer class block offset = OfPointer (record { class = class; block = block; offset = offset })

-- the fields of what `s` points to: a variable is stored to `d` and one is loaded from it, none to or from `e` and `next`
pointer-fields : fields_of ground 2 ≡
    record { ctype = int 0; class = 0 } ∷ record { ctype = int 1; class = 3 } ∷ record { ctype = int 1; class = 0 } ∷ record { ctype = struct "S" 1; class = 0 } ∷ []
pointer-fields = refl

abbrev behind : State
behind = after_all ground pointer_classes_main.body (before_body ground) (entered ground)

-- `a` is null at the end, and yet of its own class; `b` is what was stored to `d`
pointer-slots : behind.slots ≡
    pointer 1 0 (constant_of 0) ∷ OfInt (sym 1) ∷ pointer 2 2 (constant_of 0) ∷ pointer 3 12 (constant_of 0) ∷ pointer 3 3 (constant_of 1) ∷ []
pointer-slots = refl

-- the open record: `m` and `next` are new, `d` is `a + 1`, `e` is null
pointer-record : behind.opened ≡
    record {
      class = 2;
      at = record { class = 2; block = 2; offset = constant_of 0 };
      fields = OfInt (sym 4) ∷ pointer 3 3 (constant_of 1) ∷ pointer 0 11 (constant_of 0) ∷ pointer 0 9 (sym 10) ∷ [];
    } ∷ []
pointer-record = refl
