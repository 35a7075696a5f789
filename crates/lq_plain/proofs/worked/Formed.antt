-- Sources whose plain form is formed: all that is asked of it is computed, as one test. The boxes and lists in which the form is
-- written are opened here, since the tests match on what lies in them.
use Rattle.std.proofs.Common.{◌≡◌, ℕ, zero, suc, ◌+◌, Bool, true, false, List, [], ◌∷◌, Some, None, length, map, get_or, IsTrue, refl, subst, arith}
use Rattle.std.specs.Prelude.{ℤ, ◌==◌, ◌^◌, not, ◌&&◌, ◌||◌, leb, ltb, codes}
use Rattle.std.specs.List.{AllByRecursion, list_all, list_any, slice_get}
use Rattle.std.proofs.lemmas.Bool.{leb-true, ltb-true}
use denote.Hole.Carrier.{roll, hidden}
use Rattle.lq_tree.specs.declared.expr.Base.TheVariants.{Int}
use Rattle.lq_tree.specs.declared.program.Param.{Param}
use Rattle.lq_tree.specs.declared.program.StructDef.{StructDef}
use Rattle.lq_tree.specs.declared.plain.Branch.{roll-Branch}
use Rattle.lq_tree.specs.declared.plain.Slot.{Slot}
use Rattle.lq_tree.specs.declared.plain.PStmt.{PStmt}
use Rattle.lq_tree.specs.declared.plain.PFunc.{PFunc}
use Rattle.lq_tree.specs.declared.plain.PProgram.{PProgram}
use Rattle.lq_tree.specs.declared.plain.PKind.TheBlock.{hidden-the_row-PStmt-0, hidden-the_row-Branch-1}
use Rattle.lq_tree.specs.declared.plain.PExpr.TheBlock.{hidden-the_row-PExpr-0}
use Rattle.lq_tree.specs.declared.stmt.Arm.{out-Arm}
use Rattle.lq_tree.specs.declared.stmt.StmtKind.{out-StmtKind}
use Rattle.lq_tree.specs.declared.stmt.StmtKind.TheBlock.{shown-the_row-Arm-1}
use Rattle.lq_tree.specs.Formed.{IsFormedStruct, IsFormedFunc, IsFormed, are_different, below, is_result, own_indices, weight, takes_input, ascend, is_factor}
use Rattle.lq_tree.specs.PlainScopes.{keeps_scopes}
use Rattle.lq_tree.specs.PlainShape.{is_shallow, is_shaped, is_loud, keeps_quiet}
use Rattle.lq_tree.specs.PlainTypes.{is_slot_type, is_typed}
use Rattle.lq_tree.specs.PlainWalk.{statements, expressions}
use Rattle.lq_tree.specs.Types.{same}
use Rattle.lq_tree.specs.Walk.{nodes, inside}
use Rattle.lq_meaning.proofs.worked.sources.Arms.{arms}
use Rattle.lq_meaning.proofs.worked.sources.Calls.{in_order}
use Rattle.lq_meaning.proofs.worked.sources.Conditions.{conditions}
use Rattle.lq_meaning.proofs.worked.sources.Depth.{deeper}
use Rattle.lq_meaning.proofs.worked.sources.Division.{division}
use Rattle.lq_meaning.proofs.worked.sources.EarlyStops.{calling_sides}
use Rattle.lq_meaning.proofs.worked.sources.Endless.{endless}
use Rattle.lq_meaning.proofs.worked.sources.FirstNumber.{guarded}
use Rattle.lq_meaning.proofs.worked.sources.Halves.{halves}
use Rattle.lq_meaning.proofs.worked.sources.Indirect.{indirect}
use Rattle.lq_meaning.proofs.worked.sources.Lists.{lists}
use Rattle.lq_meaning.proofs.worked.sources.Loops.{loops}
use Rattle.lq_meaning.proofs.worked.sources.MiddleOverflow.{nested_faults}
use Rattle.lq_meaning.proofs.worked.sources.Pointers.{pointers}
use Rattle.lq_meaning.proofs.worked.sources.Records.{records}
use Rattle.lq_meaning.proofs.worked.sources.Sort.{sort}
use Rattle.lq_meaning.proofs.worked.sources.Squares.{squares}
use Rattle.lq_meaning.proofs.worked.sources.Strided.{strided}
use Rattle.lq_meaning.proofs.worked.sources.TwoStores.{nested_stores}
use Rattle.lq_meaning.proofs.worked.sources.Vector.{vector}
use Rattle.lq_plain.specs.Factors.{factors}
use Rattle.lq_plain.specs.Plain.{plain_program}

-- ---- what is formed, as tests

-- a struct
abbrev struct_test : List StructDef → StructDef → Bool
struct_test structs s =
    leb 1 (length s.fields) && (leb (length s.fields) 16 && (
    are_different same (map (λ (field : Param). field.name) s.fields) &&
    list_all (λ (field : Param). is_slot_type structs field.ctype) s.fields))

-- a function
abbrev func_test : PProgram → (quiet : ℕ → Bool) → ℕ → PFunc → Bool
func_test p quiet number f =
    leb f.params (length f.slots) && (leb f.params 32 && (
    list_all (λ (s : Slot). is_slot_type p.structs s.ctype) f.slots && (is_result p.structs f.result && (
    list_all (λ (s : PStmt). is_typed p f s.kind) (statements f.body) && (
    list_all (λ (s : PStmt). is_shaped s.kind) (statements f.body) && (
    list_all is_shallow (expressions f.body) && (
    own_indices (below f.params) f.body && (keeps_scopes (below f.params) f.body && (
    (not (quiet number) || not (list_any (λ (s : PStmt). is_loud quiet s.kind) (statements f.body))) && (
    list_all (λ (s : PStmt). keeps_quiet quiet s.kind) (statements f.body) && ltb (weight f) (2 ^ 23)))))))))))

-- functions from this number on
abbrev funcs_test : PProgram → (quiet : ℕ → Bool) → ℕ → List PFunc → Bool
funcs_test p quiet number [] = true
funcs_test p quiet number (f ∷ funcs) = func_test p quiet number f && funcs_test p quiet (suc number) funcs

-- a program, but for its factors
abbrev program_test : PProgram → (quiet : ℕ → Bool) → (main : PFunc) → Bool
program_test p quiet main =
    leb (length p.structs) 64 && (leb (length p.funcs) 256 && (
    are_different same (map (λ (s : StructDef). s.name) p.structs) && (
    are_different same (map (λ (f : PFunc). f.name) p.funcs) && (
    list_all (struct_test p.structs) p.structs && (
    same main.name (codes "main") && (takes_input main.params main.slots && funcs_test p quiet 0 p.funcs))))))

abbrev factors_test : List ℤ → Bool
factors_test numbers = ascend numbers && list_all is_factor numbers

-- ---- what passes them is formed

both : (a b : Bool) → IsTrue (a && b) → IsTrue a × IsTrue b
both true b is = (refl, is)
both false b is = absurd cc

if_first : (a b : Bool) → IsTrue (not a || b) → IsTrue a → IsTrue b
if_first true b is first = is
if_first false b is first = absurd cc

struct_formed : (structs : List StructDef) (s : StructDef) → IsTrue (struct_test structs s) → IsFormedStruct structs s
struct_formed structs s passes =
    let one = both _ _ passes in
    let two = both _ _ one.1 in
    let three = both _ _ two.1 in
    record { some = leb-true _ _ one.0; few = leb-true _ _ two.0; names = three.0; types = three.1 }

structs_formed : (structs all : List StructDef) → IsTrue (list_all (struct_test structs) all) → AllByRecursion (IsFormedStruct structs) all
structs_formed structs [] passes = tt
structs_formed structs (s ∷ all) passes =
    let here = both _ _ passes in
    (struct_formed structs s here.0, structs_formed structs all here.1)

func_formed : (p : PProgram) (quiet : ℕ → Bool) (number : ℕ) (f : PFunc) → IsTrue (func_test p quiet number f) → IsFormedFunc p quiet number f
func_formed p quiet number f passes =
    let a = both _ _ passes in
    let b = both _ _ a.1 in
    let c = both _ _ b.1 in
    let d = both _ _ c.1 in
    let e = both _ _ d.1 in
    let g = both _ _ e.1 in
    let h = both _ _ g.1 in
    let i = both _ _ h.1 in
    let j = both _ _ i.1 in
    let k = both _ _ j.1 in
    let l = both _ _ k.1 in
    record {
      params = leb-true _ _ a.0;
      few = leb-true _ _ b.0;
      slots = c.0;
      result = d.0;
      typed = e.0;
      shaped = g.0;
      shallow = h.0;
      indices = i.0;
      scoped = j.0;
      silent = if_first _ _ k.0;
      parallel = l.0;
      light = ltb-true _ _ l.1;
    }

-- the function with a number, of those from another one on
func_at : (p : PProgram) (quiet : ℕ → Bool) (n : ℕ) (funcs : List PFunc) → IsTrue (funcs_test p quiet n funcs) → (k : ℕ) (f : PFunc) → slice_get funcs k ≡ Some f → IsFormedFunc p quiet (n + k) f
func_at p quiet n [] passes k f is = absurd cc
func_at p quiet n (g ∷ funcs) passes zero f is =
    let first : n ≡ n + 0 = omega arith in
    subst (λ m. IsFormedFunc p quiet m f) first (subst (IsFormedFunc p quiet n) (the_same is) (func_formed p quiet n g (both _ _ passes).0)) where
      the_same : Some g ≡ Some f → g ≡ f
      the_same is = cc
func_at p quiet n (g ∷ funcs) passes (suc k) f is =
    let more : suc n + k ≡ n + suc k = omega arith in subst (λ m. IsFormedFunc p quiet m f) more (func_at p quiet (suc n) funcs (both _ _ passes).1 k f is)

formed : (p : PProgram) (quiet : ℕ → Bool) (main : PFunc) → slice_get p.funcs p.main ≡ Some main → main.result ≡ Some (record { base = Int; stars = 0 })
    → IsTrue (program_test p quiet main) → IsTrue (factors_test p.factors) → IsFormed p
formed p quiet main is_main result passes factors_pass =
    let a = both _ _ passes in
    let b = both _ _ a.1 in
    let c = both _ _ b.1 in
    let d = both _ _ c.1 in
    let e = both _ _ d.1 in
    let f = both _ _ e.1 in
    let g = both _ _ f.1 in
    let numbers : IsTrue (ascend p.factors) × IsTrue (list_all is_factor p.factors) = both _ _ factors_pass in
    record {
      few_structs = leb-true _ _ a.0;
      few_funcs = leb-true _ _ b.0;
      struct_names = c.0;
      func_names = d.0;
      structs = structs_formed p.structs p.structs e.0;
      main = main;
      is_main = is_main;
      entry = record { name = f.0; result = result; params = g.0 };
      quiet = quiet;
      funcs = λ number f is. let from_none : 0 + number ≡ number = omega arith in subst (λ m. IsFormedFunc p quiet m f) from_none (func_at p quiet 0 p.funcs g.1 number f is);
      ascending = numbers.0;
      factors = numbers.1;
    }

-- a function where there is none
abbrev nothing : PFunc
nothing = record { at = record { line = 1; col = 1 }; name = []; result = None; params = 0; slots = []; body = [] }

-- the function with the number of `main`
abbrev main_of : PProgram → PFunc
main_of p = get_or p.funcs p.main nothing

-- which functions neither print nor allocate: none that has to be named, the first, or the first two
abbrev none_has_to : ℕ → Bool
none_has_to number = false

abbrev first_is : ℕ → Bool
first_is number = number == 0

abbrev first_two_are : ℕ → Bool
first_two_are number = leb number 1

-- ---- the sources

-- iterations beside each other, each with an element of its own
squares_factors : IsTrue (factors_test (factors squares))
unfolding nodes inside out-StmtKind out-Arm shown-the_row-Arm-1 denote.Hole.Carrier.out denote.Hole.Carrier.shown
squares_factors = refl

squares_formed : IsFormed (plain_program squares)
unfolding roll hidden roll-Branch hidden-the_row-PStmt-0 hidden-the_row-Branch-1 hidden-the_row-PExpr-0
squares_formed = formed (plain_program squares) none_has_to (main_of (plain_program squares)) refl refl refl squares_factors

-- two calls beside each other, of a function that neither prints nor allocates
halves_factors : IsTrue (factors_test (factors halves))
unfolding nodes inside out-StmtKind out-Arm shown-the_row-Arm-1 denote.Hole.Carrier.out denote.Hole.Carrier.shown
halves_factors = refl

halves_formed : IsFormed (plain_program halves)
unfolding roll hidden roll-Branch hidden-the_row-PStmt-0 hidden-the_row-Branch-1 hidden-the_row-PExpr-0
halves_formed = formed (plain_program halves) first_is (main_of (plain_program halves)) refl refl refl halves_factors

-- iterations that read one number and write four elements
strided_factors : IsTrue (factors_test (factors strided))
unfolding nodes inside out-StmtKind out-Arm shown-the_row-Arm-1 denote.Hole.Carrier.out denote.Hole.Carrier.shown
strided_factors = refl

strided_formed : IsFormed (plain_program strided)
unfolding roll hidden roll-Branch hidden-the_row-PStmt-0 hidden-the_row-Branch-1 hidden-the_row-PExpr-0
strided_formed = formed (plain_program strided) none_has_to (main_of (plain_program strided)) refl refl refl strided_factors

-- branches in a branch
nested_faults_factors : IsTrue (factors_test (factors nested_faults))
unfolding nodes inside out-StmtKind out-Arm shown-the_row-Arm-1 denote.Hole.Carrier.out denote.Hole.Carrier.shown
nested_faults_factors = refl

nested_faults_formed : IsFormed (plain_program nested_faults)
unfolding roll hidden roll-Branch hidden-the_row-PStmt-0 hidden-the_row-Branch-1 hidden-the_row-PExpr-0
nested_faults_formed = formed (plain_program nested_faults) none_has_to (main_of (plain_program nested_faults)) refl refl refl nested_faults_factors

-- a record with a length and a pointer to its data
vector_factors : IsTrue (factors_test (factors vector))
unfolding nodes inside out-StmtKind out-Arm shown-the_row-Arm-1 denote.Hole.Carrier.out denote.Hole.Carrier.shown
vector_factors = refl

vector_formed : IsFormed (plain_program vector)
unfolding roll hidden roll-Branch hidden-the_row-PStmt-0 hidden-the_row-Branch-1 hidden-the_row-PExpr-0
vector_formed = formed (plain_program vector) none_has_to (main_of (plain_program vector)) refl refl refl vector_factors

-- indices that are read from an array
indirect_factors : IsTrue (factors_test (factors indirect))
unfolding nodes inside out-StmtKind out-Arm shown-the_row-Arm-1 denote.Hole.Carrier.out denote.Hole.Carrier.shown
indirect_factors = refl

indirect_formed : IsFormed (plain_program indirect)
unfolding roll hidden roll-Branch hidden-the_row-PStmt-0 hidden-the_row-Branch-1 hidden-the_row-PExpr-0
indirect_formed = formed (plain_program indirect) none_has_to (main_of (plain_program indirect)) refl refl refl indirect_factors

-- a loop that goes on for ever
endless_factors : IsTrue (factors_test (factors endless))
unfolding nodes inside out-StmtKind out-Arm shown-the_row-Arm-1 denote.Hole.Carrier.out denote.Hole.Carrier.shown
endless_factors = refl

endless_formed : IsFormed (plain_program endless)
unfolding roll hidden roll-Branch hidden-the_row-PStmt-0 hidden-the_row-Branch-1 hidden-the_row-PExpr-0
endless_formed = formed (plain_program endless) none_has_to (main_of (plain_program endless)) refl refl refl endless_factors

-- blocks in a block, which store
nested_stores_factors : IsTrue (factors_test (factors nested_stores))
unfolding nodes inside out-StmtKind out-Arm shown-the_row-Arm-1 denote.Hole.Carrier.out denote.Hole.Carrier.shown
nested_stores_factors = refl

nested_stores_formed : IsFormed (plain_program nested_stores)
unfolding roll hidden roll-Branch hidden-the_row-PStmt-0 hidden-the_row-Branch-1 hidden-the_row-PExpr-0
nested_stores_formed = formed (plain_program nested_stores) none_has_to (main_of (plain_program nested_stores)) refl refl refl nested_stores_factors

-- an early return
guarded_factors : IsTrue (factors_test (factors guarded))
unfolding nodes inside out-StmtKind out-Arm shown-the_row-Arm-1 denote.Hole.Carrier.out denote.Hole.Carrier.shown
guarded_factors = refl

guarded_formed : IsFormed (plain_program guarded)
unfolding roll hidden roll-Branch hidden-the_row-PStmt-0 hidden-the_row-Branch-1 hidden-the_row-PExpr-0
guarded_formed = formed (plain_program guarded) none_has_to (main_of (plain_program guarded)) refl refl refl guarded_factors

-- a function that calls itself
deeper_factors : IsTrue (factors_test (factors deeper))
unfolding nodes inside out-StmtKind out-Arm shown-the_row-Arm-1 denote.Hole.Carrier.out denote.Hole.Carrier.shown
deeper_factors = refl

deeper_formed : IsFormed (plain_program deeper)
unfolding roll hidden roll-Branch hidden-the_row-PStmt-0 hidden-the_row-Branch-1 hidden-the_row-PExpr-0
deeper_formed = formed (plain_program deeper) none_has_to (main_of (plain_program deeper)) refl refl refl deeper_factors

-- quotients and remainders of all signs
division_factors : IsTrue (factors_test (factors division))
unfolding nodes inside out-StmtKind out-Arm shown-the_row-Arm-1 denote.Hole.Carrier.out denote.Hole.Carrier.shown
division_factors = refl

division_formed : IsFormed (plain_program division)
unfolding roll hidden roll-Branch hidden-the_row-PStmt-0 hidden-the_row-Branch-1 hidden-the_row-PExpr-0
division_formed = formed (plain_program division) none_has_to (main_of (plain_program division)) refl refl refl division_factors

-- calls in `&&` and `||`
calling_sides_factors : IsTrue (factors_test (factors calling_sides))
unfolding nodes inside out-StmtKind out-Arm shown-the_row-Arm-1 denote.Hole.Carrier.out denote.Hole.Carrier.shown
calling_sides_factors = refl

calling_sides_formed : IsFormed (plain_program calling_sides)
unfolding roll hidden roll-Branch hidden-the_row-PStmt-0 hidden-the_row-Branch-1 hidden-the_row-PExpr-0
calling_sides_formed = formed (plain_program calling_sides) none_has_to (main_of (plain_program calling_sides)) refl refl refl calling_sides_factors

-- conditions that load
conditions_factors : IsTrue (factors_test (factors conditions))
unfolding nodes inside out-StmtKind out-Arm shown-the_row-Arm-1 denote.Hole.Carrier.out denote.Hole.Carrier.shown
conditions_factors = refl

conditions_formed : IsFormed (plain_program conditions)
unfolding roll hidden roll-Branch hidden-the_row-PStmt-0 hidden-the_row-Branch-1 hidden-the_row-PExpr-0
conditions_formed = formed (plain_program conditions) none_has_to (main_of (plain_program conditions)) refl refl refl conditions_factors

-- `for` in its forms
loops_factors : IsTrue (factors_test (factors loops))
unfolding nodes inside out-StmtKind out-Arm shown-the_row-Arm-1 denote.Hole.Carrier.out denote.Hole.Carrier.shown
loops_factors = refl

loops_formed : IsFormed (plain_program loops)
unfolding roll hidden roll-Branch hidden-the_row-PStmt-0 hidden-the_row-Branch-1 hidden-the_row-PExpr-0
loops_formed = formed (plain_program loops) none_has_to (main_of (plain_program loops)) refl refl refl loops_factors

-- `else if`
arms_factors : IsTrue (factors_test (factors arms))
unfolding nodes inside out-StmtKind out-Arm shown-the_row-Arm-1 denote.Hole.Carrier.out denote.Hole.Carrier.shown
arms_factors = refl

arms_formed : IsFormed (plain_program arms)
unfolding roll hidden roll-Branch hidden-the_row-PStmt-0 hidden-the_row-Branch-1 hidden-the_row-PExpr-0
arms_formed = formed (plain_program arms) none_has_to (main_of (plain_program arms)) refl refl refl arms_factors

-- calls in calls, whose values are kept
in_order_factors : IsTrue (factors_test (factors in_order))
unfolding nodes inside out-StmtKind out-Arm shown-the_row-Arm-1 denote.Hole.Carrier.out denote.Hole.Carrier.shown
in_order_factors = refl

in_order_formed : IsFormed (plain_program in_order)
unfolding roll hidden roll-Branch hidden-the_row-PStmt-0 hidden-the_row-Branch-1 hidden-the_row-PExpr-0
in_order_formed = formed (plain_program in_order) none_has_to (main_of (plain_program in_order)) refl refl refl in_order_factors

-- sums of a pointer and a number
pointers_factors : IsTrue (factors_test (factors pointers))
unfolding nodes inside out-StmtKind out-Arm shown-the_row-Arm-1 denote.Hole.Carrier.out denote.Hole.Carrier.shown
pointers_factors = refl

pointers_formed : IsFormed (plain_program pointers)
unfolding roll hidden roll-Branch hidden-the_row-PStmt-0 hidden-the_row-Branch-1 hidden-the_row-PExpr-0
pointers_formed = formed (plain_program pointers) none_has_to (main_of (plain_program pointers)) refl refl refl pointers_factors

-- records, calls of a function that allocates, and null as an argument
records_factors : IsTrue (factors_test (factors records))
unfolding nodes inside out-StmtKind out-Arm shown-the_row-Arm-1 denote.Hole.Carrier.out denote.Hole.Carrier.shown
records_factors = refl

records_formed : IsFormed (plain_program records)
unfolding roll hidden roll-Branch hidden-the_row-PStmt-0 hidden-the_row-Branch-1 hidden-the_row-PExpr-0
records_formed = formed (plain_program records) none_has_to (main_of (plain_program records)) refl refl refl records_factors

-- null as a value, a result and a field
lists_factors : IsTrue (factors_test (factors lists))
unfolding nodes inside out-StmtKind out-Arm shown-the_row-Arm-1 denote.Hole.Carrier.out denote.Hole.Carrier.shown
lists_factors = refl

lists_formed : IsFormed (plain_program lists)
unfolding roll hidden roll-Branch hidden-the_row-PStmt-0 hidden-the_row-Branch-1 hidden-the_row-PExpr-0
lists_formed = formed (plain_program lists) none_has_to (main_of (plain_program lists)) refl refl refl lists_factors

-- a recursion in branches
sort_factors : IsTrue (factors_test (factors sort))
unfolding nodes inside out-StmtKind out-Arm shown-the_row-Arm-1 denote.Hole.Carrier.out denote.Hole.Carrier.shown
sort_factors = refl

sort_formed : IsFormed (plain_program sort)
unfolding roll hidden roll-Branch hidden-the_row-PStmt-0 hidden-the_row-Branch-1 hidden-the_row-PExpr-0
sort_formed = formed (plain_program sort) first_two_are (main_of (plain_program sort)) refl refl refl sort_factors
