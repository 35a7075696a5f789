-- What the limits of the counts leave of a program: few functions, structs, fields and parameters, and few blocks beside each other.
use Rattle.std.proofs.Common.{◌≡◌, ℕ, ℤ, ◌≤◌, max, Bool, true, false, cond, List, [], ◌∷◌, ◌++◌, length, map, fold, Option, None, Some, option_map, refl, ap, sym, ◌∙◌, subst, arith, rules}
use Rattle.std.specs.Prelude.{nat_le, nat_lt}
use Rattle.std.specs.List.{AllByRecursion, flat_map}
use Rattle.std.proofs.lemmas.Bool.{ltb-false, le-leb}
use Rattle.lq_tree.specs.declared.expr.Expr.{Expr}
use Rattle.lq_tree.specs.declared.program.Func.{Func}
use Rattle.lq_tree.specs.declared.program.Program.{Program}
use Rattle.lq_tree.specs.declared.program.StructDef.{StructDef}
use Rattle.lq_tree.specs.declared.stmt.Stmt.{Stmt}
use Rattle.lq_tree.specs.declared.stmt.Arm.{Arm, out-Arm, roll-Arm, the_lemmas as arm_lemmas}
use Rattle.lq_tree.specs.declared.stmt.StmtKind.{StmtKind, If, While, For, Cobegin, Foreach, Cobegin', items-the_row-Stmt, items_hidden-the_row-Stmt-0, roll-StmtKind}
use Rattle.lq_tree.specs.declared.stmt.StmtKind.TheOpen as layer
use Rattle.lq_tree.specs.declared.stmt.StmtKind.TheFolds.{ind-Stmt, map-StmtKind}
use Rattle.lq_tree.specs.declared.stmt.StmtKind.TheVariants.{rolls-Empty, rolls-Block, rolls-Local, rolls-Set, rolls-Store, rolls-Call, rolls-If, rolls-While, rolls-For, rolls-Return, rolls-Print, rolls-Cobegin, rolls-Foreach}
use Rattle.lq_tree.specs.Walk.{inside, within_arm, statements}
use Rattle.lq_names.specs.declared.counts.Sizes.{Sizes}
use Rattle.lq_names.specs.Counts.{Count, first_passed, counts, most_fields, program_sizes, function_sizes, sizes_of, sizes_of_stmt, no_sizes, or_nothing, in_row, apart, behind}
use Rattle.lq_names.proofs.CountLaws.{sizes_block, sizes_if, sizes_while, sizes_for, sizes_cobegin, sizes_foreach}
use Rattle.lq_plain.proofs.SpelledStores.{listed, inside_block, inside_cobegin, inside_while, inside_foreach, inside_arm, inside_if, inside_for}

-- ---- the limits

none_passed : (c : Count) (rest : List Count) → first_passed (c ∷ rest) ≡ None → (c.found ≤ c.allowed) × (first_passed rest ≡ None)
none_passed c rest h = at (nat_lt c.allowed c.found) refl h where
  at : (b : Bool) → nat_lt c.allowed c.found ≡ b → cond b (Some (record { which = c.which; found = c.found; allowed = c.allowed })) (first_passed rest) ≡ None → (c.found ≤ c.allowed) × (first_passed rest ≡ None)
  at true is h = absurd cc
  at false is h = (ltb-false c.allowed c.found is, h)

each_within : (cs : List Count) → first_passed cs ≡ None → AllByRecursion (λ (c : Count). c.found ≤ c.allowed) cs
each_within [] h = tt
each_within (c ∷ cs) h = let first = none_passed c cs h in (first.0, each_within cs first.1)

-- a source within the limits of its counts
pub record IsWithin (p : Program) : Type 0 where
  pub functions : length p.funcs ≤ 256
  pub structs : length p.structs ≤ 64
  pub fields : most_fields p.structs ≤ 16
  pub locals : (program_sizes p).locals ≤ 32
  pub branches : (program_sizes p).branches ≤ 16

pub within_limits : (p : Program) → first_passed (counts p) ≡ None → IsWithin p
within_limits p h =
    let all = each_within (counts p) h in
    record { functions = all.0; structs = all.1.0; fields = all.1.1.0; locals = all.1.1.1.0; branches = all.1.1.1.1.0 }

fields_from : (n most : ℕ) (structs : List StructDef) → fold (λ (most : ℕ) (d : StructDef). max most (length d.fields)) n structs ≤ most → (n ≤ most) × AllByRecursion (λ (d : StructDef). length d.fields ≤ most) structs
fields_from n most [] h = (h, tt)
fields_from n most (d ∷ structs) h =
    let rest = fields_from (max n (length d.fields)) most structs h in
    let both : max n (length d.fields) ≤ most = rest.0 in
    (omega arith, (omega arith, rest.1))

pub few_fields : (p : Program) → IsWithin p → AllByRecursion (λ (d : StructDef). length d.fields ≤ 16) p.structs
few_fields p within = (fields_from 0 16 p.structs within.fields).1

-- ---- few blocks beside each other

-- a `cobegin` has at most 16 blocks; all other statements pass
abbrev pub is_narrow : StmtKind → Bool
is_narrow (Cobegin' n blocks) = nat_le (length (items-the_row-Stmt _ blocks)) 16
is_narrow _ = true

abbrev pub AreNarrow : List Stmt → Type 0
AreNarrow ss = AllByRecursion (λ (s : Stmt). is_narrow s.kind ≡ true) ss

both_narrow : (a b : List Stmt) → AreNarrow a → AreNarrow b → AreNarrow (a ++ b)
both_narrow [] b x y = y
both_narrow (s ∷ a) b x y = (x.0, both_narrow a b x.1 y)

by : {a b : List Stmt} → a ≡ b → AreNarrow b → AreNarrow a
by is h = subst AreNarrow (sym is) h

abbrev IsNarrow : StmtKind → Type 0
IsNarrow kind = (sizes_of kind).branches ≤ 16 → (is_narrow kind ≡ true) × AreNarrow (inside kind)

one_narrow : (s : Stmt) → IsNarrow s.kind → (sizes_of_stmt s).branches ≤ 16 → AreNarrow (statements (s ∷ []))
one_narrow s narrow h = let all = narrow h in (all.0, both_narrow (inside s.kind) [] all.1 tt)

-- one statement after another
row : {E : Type 0} (stmt : E → Stmt) → ((e : E) → IsNarrow (stmt e).kind) → (body : List E) (a : Sizes) → (fold behind a (map sizes_of_stmt (map stmt body))).branches ≤ 16 → (a.branches ≤ 16) × AreNarrow (statements (map stmt body))
row stmt narrow [] a h = (h, tt)
row stmt narrow (e ∷ body) a h =
    let rest = row stmt narrow body (behind a (sizes_of_stmt (stmt e))) h in
    let both : max a.branches (sizes_of_stmt (stmt e)).branches ≤ 16 = rest.0 in
    let first = narrow e (omega arith) in
    (omega arith, (first.0, both_narrow (inside (stmt e).kind) (statements (map stmt body)) first.1 rest.1))

-- bodies beside each other
bodies : {E A : Type 0} (item : E → A) (sizes : A → Sizes) (within : A → List Stmt) → ((e : E) → (sizes (item e)).branches ≤ 16 → AreNarrow (within (item e))) → (es : List E) (a : Sizes)
    → (fold apart a (map sizes (map item es))).branches ≤ 16 → (a.branches ≤ 16) × AreNarrow (flat_map within (map item es))
bodies item sizes within narrow [] a h = (h, tt)
bodies item sizes within narrow (e ∷ es) a h =
    let rest = bodies item sizes within narrow es (apart a (sizes (item e))) h in
    let both : max a.branches (sizes (item e)).branches ≤ 16 = rest.0 in
    (omega arith, both_narrow (within (item e)) (flat_map within (map item es)) (narrow e (omega arith)) rest.1)

abbrev OtherIsNarrow : Option Stmt → Type 0
OtherIsNarrow None = Unit {0}
OtherIsNarrow (Some b) = IsNarrow b.kind

other_part : (other : Option Stmt) → OtherIsNarrow other → (or_nothing (option_map sizes_of_stmt other)).branches ≤ 16 → AreNarrow (statements (listed other))
other_part None narrow h = tt
other_part (Some b) narrow h = one_narrow b narrow h

roll_out : (arm : Arm) → roll-Arm (out-Arm arm) ≡ arm
roll_out arm = search (rules, arm_lemmas)

arm_inside : (arm : Arm) → within_arm arm ≡ statements ((out-Arm arm).body ∷ [])
arm_inside arm = ap within_arm (sym (roll_out arm)) ∙ inside_arm ((out-Arm arm).cond, (out-Arm arm).body)

-- ---- each form

if_part : {E : Type 0} (arm : E → Arm) → ((e : E) → IsNarrow (out-Arm (arm e)).body.kind) → (arms : List E) (other : Option Stmt) → OtherIsNarrow other → IsNarrow (If (map arm arms) other)
if_part arm narrow arms other rest h =
    let all : (sizes_of (If (map arm arms) other)).branches ≤ 16 = h in
    let same = ap (λ (a : Sizes). a.branches) (sizes_if (map arm arms) other) in
    let held = bodies arm (λ (a : Arm). sizes_of_stmt (out-Arm a).body) within_arm (λ e few. by (arm_inside (arm e)) (one_narrow (out-Arm (arm e)).body (narrow e) few)) arms no_sizes (omega (arith, same)) in
    (refl, by (inside_if (map arm arms) other) (both_narrow (flat_map within_arm (map arm arms)) (statements (listed other)) held.1 (other_part other rest (omega (arith, same)))))

while_part : (e : Expr) (b : Stmt) → IsNarrow b.kind → IsNarrow (While e b)
while_part e b narrow h = (refl, by (inside_while e b) (one_narrow b narrow (subst (λ (a : Sizes). a.branches ≤ 16) (sizes_while e b) h)))

for_part : (first : Option Stmt) (e : Option Expr) (third : Option Stmt) (b : Stmt) → OtherIsNarrow first → OtherIsNarrow third → IsNarrow b.kind → IsNarrow (For first e third b)
for_part first e third b f g narrow h =
    let all : (sizes_of (For first e third b)).branches ≤ 16 = h in
    let same = ap (λ (a : Sizes). a.branches) (sizes_for first e third b) in (
      refl,
      by (inside_for first e third b)
          (both_narrow (statements (listed first) ++ statements (listed third)) (statements (b ∷ [])) (both_narrow (statements (listed first)) (statements (listed third)) (other_part first f (omega (arith, same))) (other_part third g (omega (arith, same))))
          (one_narrow b narrow (omega (arith, same)))),
    )

cobegin_part : {E : Type 0} (stmt : E → Stmt) → ((e : E) → IsNarrow (stmt e).kind) → (blocks : List E) → IsNarrow (Cobegin (map stmt blocks))
cobegin_part stmt narrow blocks h =
    let all : (sizes_of (Cobegin (map stmt blocks))).branches ≤ 16 = h in
    let same = ap (λ (a : Sizes). a.branches) (sizes_cobegin (map stmt blocks)) in
    let held = bodies stmt sizes_of_stmt (λ (s : Stmt). s ∷ inside s.kind) (λ e few. narrow e few) blocks no_sizes (omega (arith, same)) in
    (ap (λ (ss : List Stmt). nat_le (length ss) 16) (items_hidden-the_row-Stmt-0 (map stmt blocks)) ∙ le-leb (length (map stmt blocks)) 16 (omega (arith, same)), by (inside_cobegin (map stmt blocks)) held.1)

foreach_part : (i : List ℕ) (l r : Expr) (n : ℤ) (b : Stmt) → IsNarrow b.kind → IsNarrow (Foreach i l r n b)
foreach_part i l r n b narrow h =
    let all : (sizes_of (Foreach i l r n b)).branches ≤ 16 = h in
    let same = ap (λ (a : Sizes). a.branches) (sizes_foreach i l r n b) in
    (refl, by (inside_foreach i l r n b) (one_narrow b narrow (omega (arith, same))))

abbrev ArmIsNarrow : Arm → Type 0
ArmIsNarrow arm = IsNarrow (out-Arm arm).body.kind

abbrev Form : Type 0
Form = layer.StmtKind-F ((k : StmtKind) × IsNarrow k) ((a : Arm) × ArmIsNarrow a) ((b : Stmt) × IsNarrow b.kind)

abbrev plain : Form → layer.StmtKind-F StmtKind Arm Stmt
plain form = map-StmtKind _ _ _ _ _ _ (λ e. e.0) (λ e. e.0) (λ e. e.0) form

by_form : (form : Form) → IsNarrow (roll-StmtKind (plain form))
unfolding inside
by_form layer.Empty = subst IsNarrow (sym rolls-Empty) (λ h. (refl, tt))
by_form (layer.Block body) =
    subst IsNarrow (sym (rolls-Block _)) (λ h. (refl, by (inside_block _) (row (λ e. e.0) (λ e. e.1) body no_sizes (subst (λ (a : Sizes). a.branches ≤ 16) (sizes_block _) h)).1))
by_form (layer.Local t x e) = subst IsNarrow (sym (rolls-Local t x e)) (λ h. (refl, tt))
by_form (layer.Set x e) = subst IsNarrow (sym (rolls-Set x e)) (λ h. (refl, tt))
by_form (layer.Store t e) = subst IsNarrow (sym (rolls-Store t e)) (λ h. (refl, tt))
by_form (layer.Call f es) = subst IsNarrow (sym (rolls-Call f es)) (λ h. (refl, tt))
by_form (layer.If arms None) = subst IsNarrow (sym (rolls-If _ None)) (if_part (λ e. e.0) (λ e. e.1) arms None tt)
by_form (layer.If arms (Some b)) = subst IsNarrow (sym (rolls-If _ (Some b.0))) (if_part (λ e. e.0) (λ e. e.1) arms (Some b.0) b.1)
by_form (layer.While e b) = subst IsNarrow (sym (rolls-While e b.0)) (while_part e b.0 b.1)
by_form (layer.For None e None b) = subst IsNarrow (sym (rolls-For None e None b.0)) (for_part None e None b.0 tt tt b.1)
by_form (layer.For (Some f) e None b) = subst IsNarrow (sym (rolls-For (Some f.0) e None b.0)) (for_part (Some f.0) e None b.0 f.1 tt b.1)
by_form (layer.For None e (Some g) b) = subst IsNarrow (sym (rolls-For None e (Some g.0) b.0)) (for_part None e (Some g.0) b.0 tt g.1 b.1)
by_form (layer.For (Some f) e (Some g) b) = subst IsNarrow (sym (rolls-For (Some f.0) e (Some g.0) b.0)) (for_part (Some f.0) e (Some g.0) b.0 f.1 g.1 b.1)
by_form (layer.Return e) = subst IsNarrow (sym (rolls-Return e)) (λ h. (refl, tt))
by_form (layer.Print e) = subst IsNarrow (sym (rolls-Print e)) (λ h. (refl, tt))
by_form (layer.Cobegin blocks) = subst IsNarrow (sym (rolls-Cobegin _)) (cobegin_part (λ e. e.0) (λ e. e.1) blocks)
by_form (layer.Foreach i l r n b) = subst IsNarrow (sym (rolls-Foreach i l r n b.0)) (foreach_part i l r n b.0 b.1)

out_roll : (x : layer.Arm-F StmtKind Arm Stmt) → out-Arm (roll-Arm x) ≡ x
out_roll x = search (rules, arm_lemmas)

every : (stmt : Stmt) → IsNarrow stmt.kind
every = ind-Stmt IsNarrow ArmIsNarrow (λ (s : Stmt). IsNarrow s.kind) (λ x y is. subst (λ f. IsNarrow (roll-StmtKind f)) is (by_form y))
    (λ x y is. subst (λ (f : layer.Arm-F StmtKind Arm Stmt). IsNarrow f.body.kind) (is ∙ sym (out_roll x)) y.body.1) (λ x y is. subst (λ f. IsNarrow f.kind) is y.kind.1)

-- ---- functions

same_list : (body : List Stmt) → map (λ (b : Stmt). b) body ≡ body
same_list [] = refl
same_list (b ∷ body) = ap (λ (rest : List Stmt). b ∷ rest) (same_list body)

-- a function has few parameters, and few blocks beside each other
pub record FunctionWithin (f : Func) : Type 0 where
  pub params : length f.params ≤ 32
  pub narrow : AreNarrow (statements f.body)

function_within : (f : Func) → (function_sizes f).locals ≤ 32 → (function_sizes f).branches ≤ 16 → FunctionWithin f
function_within f h k = record {
  params = omega (arith, h);
  narrow = subst (λ (body : List Stmt). AreNarrow (statements body)) (same_list f.body) (row (λ (b : Stmt). b) every f.body no_sizes (subst (λ (body : List Stmt). (in_row (map sizes_of_stmt body)).branches ≤ 16) (sym (same_list f.body)) (omega (arith, k)))).1;
}

functions_from : (funcs : List Func) (a : Sizes) → (fold apart a (map function_sizes funcs)).locals ≤ 32 → (fold apart a (map function_sizes funcs)).branches ≤ 16
    → ((a.locals ≤ 32) × (a.branches ≤ 16)) × AllByRecursion FunctionWithin funcs
functions_from [] a h k = ((h, k), tt)
functions_from (f ∷ funcs) a h k =
    let rest = functions_from funcs (apart a (function_sizes f)) h k in
    let locals = (rest.0).0 in
    let branches = (rest.0).1 in
    ((omega (arith, locals), omega (arith, branches)), (function_within f (omega (arith, locals)) (omega (arith, branches)), rest.1))

pub functions_within : (p : Program) → IsWithin p → AllByRecursion FunctionWithin p.funcs
functions_within p within = (functions_from p.funcs no_sizes within.locals within.branches).1
