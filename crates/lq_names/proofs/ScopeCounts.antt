-- The count of locals is the most variables that are in scope at once.
use Rattle.std.proofs.Common.{◌≡◌, ℕ, ℤ, ◌+◌, ◌<◌, ◌≤◌, ◌^◌, min, max, Bool, List, [], ◌∷◌, ◌++◌, length, map, fold, Option, None, Some, option_map, arith, rules, refl, ap, sym, ◌∙◌, subst}
use Rattle.std.specs.List.{flat_map}
use Rattle.std.proofs.lemmas.List.{length-append, length-map, map-id}
use Rattle.std.proofs.lemmas.List.Concat.{flat_map-append}
use Rattle.std.proofs.lemmas.List.Sums.{fold-append}
use Rattle.lq_tree.specs.declared.place.Place.{Place}
use Rattle.lq_tree.specs.declared.expr.Expr.{Expr}
use Rattle.lq_tree.specs.declared.expr.CType.{CType}
use Rattle.lq_tree.specs.declared.stmt.Stmt.{Stmt}
use Rattle.lq_tree.specs.declared.stmt.Arm.{Arm, out-Arm, roll-Arm, the_lemmas as arm_lemmas}
use Rattle.lq_tree.specs.declared.stmt.StmtKind.{StmtKind, Empty, Local, Set, Store, Call, If, While, For, Return, Print, Cobegin, Foreach, roll-StmtKind}
use Rattle.lq_tree.specs.declared.stmt.StmtKind.TheOpen as layer
use Rattle.lq_tree.specs.declared.stmt.StmtKind.TheFolds.{ind-Stmt, map-StmtKind}
use Rattle.lq_tree.specs.declared.stmt.StmtKind.TheVariants.{rolls-Empty, rolls-Block, rolls-Local, rolls-Set, rolls-Store, rolls-Call, rolls-If, rolls-While, rolls-For, rolls-Return, rolls-Print, rolls-Cobegin, rolls-Foreach}
use Rattle.lq_tree.specs.declared.program.Program.{Program}
use Rattle.lq_tree.specs.declared.program.Func.{Func}
use Rattle.lq_names.specs.declared.counts.Sizes.{Sizes}
use Rattle.lq_names.specs.Counts.{program_sizes, function_sizes, parameters_of, sizes_of, sizes_of_stmt, no_sizes, one_local, or_nothing, in_row, beside, apart, behind, closed}
use Rattle.lq_names.specs.Scopes.{Site, Variable, Number, declared, in_parallel}
use Rattle.lq_names.specs.Sites.{Placed, sites, sites_of, sites_list, sites_of_bodies, sites_of_other, after, after_other, iteration}
use Rattle.lq_names.specs.Headers.{body_site}
use Rattle.lq_names.specs.InScope.{inside, around, function_sites, program_sites, most_in_scope}
use Rattle.lq_names.proofs.CountLaws.{sizes_empty, sizes_block, sizes_local, sizes_set, sizes_store, sizes_call, sizes_if, sizes_while, sizes_for, sizes_return, sizes_print, sizes_cobegin, sizes_foreach}
use Rattle.lq_names.proofs.SiteLaws.{placed, sites_block, sites_cobegin, sites_if, sites_while, sites_for, sites_foreach, sites_local}

-- ---- the most of several sites

abbrev larger : ℕ → Site → ℕ
larger most s = max most (length s.scope)

most_from : (n : ℕ) (ss : List Site) → fold larger n ss ≡ max n (most_in_scope ss)
most_from n [] = omega arith
most_from n (s ∷ ss) = omega (arith, most_from (max n (length s.scope)) ss, most_from (max 0 (length s.scope)) ss)

most_both : (a b : List Site) → most_in_scope (a ++ b) ≡ max (most_in_scope a) (most_in_scope b)
most_both a b = fold-append larger 0 a b ∙ most_from (most_in_scope a) b

-- the most variables in scope at these statements
abbrev most : List Placed → ℕ
most ps = most_in_scope (flat_map around ps)

both : (a b : List Placed) → most (a ++ b) ≡ max (most a) (most b)
both a b = ap most_in_scope (flat_map-append around a b) ∙ most_both (flat_map around a) (flat_map around b)

-- ---- parts of a function

-- a part of these sizes begins where so many variables are in scope, has so many at most, and leaves so many; a u64 counts no further than its largest number
record Counted (start top end : ℕ) (a : Sizes) : Type 0 where
  reached : start + a.locals ≤ max start top
  counted : min (max start top) 18446744073709551615 ≤ start + a.locals
  left : start + a.declared ≤ end
  all_left : min end 18446744073709551615 ≤ start + a.declared
  within : end ≤ max start top

in_order : {start x y between end : ℕ} {a b : Sizes} → Counted start x between a → Counted between y end b → Counted start (max x y) end (behind a b)
in_order f g = record { reached = omega (arith, f, g); counted = omega (arith, f, g); left = omega (arith, f, g); all_left = omega (arith, f, g); within = omega (arith, f, g) }

shut : {start top end : ℕ} {a : Sizes} → Counted start top end a → Counted start top start (closed a)
shut f = record { reached = omega (arith, f); counted = omega (arith, f); left = omega (arith, f); all_left = omega (arith, f); within = omega (arith, f) }

-- a part that declares nothing adds nothing
headed : {start x y end : ℕ} {a b : Sizes} → a.locals ≡ 0 → Counted start x start a → Counted start y end b → Counted start (max x y) end b
headed none f g = record { reached = omega (arith, none, f, g); counted = omega (arith, none, f, g); left = omega (arith, g); all_left = omega (arith, g); within = omega (arith, f, g) }

nothing : {start top : ℕ} {a : Sizes} → a.locals ≡ 0 → a.declared ≡ 0 → top ≤ start → Counted start top start a
nothing none less low = record { reached = omega (arith, none, low); counted = omega (arith, none, low); left = omega (arith, less); all_left = omega (arith, less); within = omega arith }

-- the start is in scope as well
lower : {start top end : ℕ} {a : Sizes} → Counted start (max start top) end a → Counted start top end a
lower f = record { reached = omega (arith, f); counted = omega (arith, f); left = omega (arith, f); all_left = omega (arith, f); within = omega (arith, f) }

moved : {start x y end : ℕ} {a b : Sizes} → x ≡ y → a ≡ b → Counted start y end b → Counted start x end a
moved {start = start} {x = x} {y = y} {end = end} {a = a} {b = b} is same f = subst (λ t. Counted start t end a) (sym is) (subst (Counted start y end) (sym same) f)

-- ---- statements

abbrev KindIsCounted : StmtKind → Type 0
KindIsCounted kind = (s : Site) (at : Place) → Counted (length s.scope) (most (sites s at kind)) (length (after s kind).scope) (sizes_of kind)

abbrev IsCounted : Stmt → Type 0
IsCounted stmt = KindIsCounted stmt.kind

-- one statement after another
row : {E : Type 0} (stmt : E → Stmt) → ((e : E) → IsCounted (stmt e)) → (body : List E) (s : Site) (start x : ℕ) (a : Sizes) → Counted start x (length s.scope) a
    → (end : ℕ) × Counted start (max x (most (sites_list s (map stmt body)))) end (fold behind a (map sizes_of_stmt (map stmt body)))
row stmt counts [] s start x a f = (length s.scope, moved (omega arith) refl f)
row stmt counts (e ∷ body) s start x a f =
    let one = sites_of s (stmt e) in
    let others = sites_list (after s (stmt e).kind) (map stmt body) in
    let next = row stmt counts body (after s (stmt e).kind) start (max x (most one)) (behind a (sizes_of_stmt (stmt e))) (in_order f (counts e s (stmt e).at)) in
    (next.0, moved (omega (arith, both one others)) refl next.1)

block : {E : Type 0} (stmt : E → Stmt) → ((e : E) → IsCounted (stmt e)) → (body : List E) (s : Site)
    → (end : ℕ) × Counted (length s.scope) (most (sites_list s (map stmt body))) end (in_row (map sizes_of_stmt (map stmt body)))
block stmt counts body s =
    let n = length s.scope in
    let all = row stmt counts body s n n no_sizes (nothing refl refl (omega arith)) in
    (all.0, lower all.1)

-- bodies beside each other
module _ {E A B : Type 0} (item : E → A) (within : A → List B) (sizes : A → Sizes) (weigh : List B → ℕ) (empty : weigh [] ≡ 0) (joined : (a b : List B) → weigh (a ++ b) ≡ max (weigh a) (weigh b))
    (start : ℕ) (counts : (e : E) → (end : ℕ) × Counted start (weigh (within (item e))) end (sizes (item e))) where
  each_more : (bodies : List E) (x : ℕ) (a : Sizes) → Counted start x start a → Counted start (max x (weigh (flat_map within (map item bodies)))) start (fold apart a (map sizes (map item bodies)))
  each_more [] x a f = moved (omega (arith, empty)) refl f
  each_more (e ∷ bodies) x a f =
      let one = within (item e) in
      let others = flat_map within (map item bodies) in
      moved (omega (arith, joined one others)) refl (each_more bodies (max x (weigh one)) (apart a (sizes (item e))) (in_order f (shut (counts e).1)))

  each : (bodies : List E) → Counted start (weigh (flat_map within (map item bodies))) start (beside (map sizes (map item bodies)))
  each bodies = lower (each_more bodies start no_sizes (nothing refl refl (omega arith)))

abbrev OtherIsCounted : Option Stmt → Type 0
OtherIsCounted None = Unit {0}
OtherIsCounted (Some b) = IsCounted b

other_part : (other : Option Stmt) → OtherIsCounted other → (s : Site) → Counted (length s.scope) (most (sites_of_other s other)) (length (after_other s other).scope) (or_nothing (option_map sizes_of_stmt other))
other_part None f s = nothing refl refl (omega arith)
other_part (Some b) f s = f s b.at

-- ---- each form

-- a statement with none inside it, which declares nothing
alone : (kind : StmtKind) → ((s : Site) (at : Place) → sites s at kind ≡ placed s at kind ∷ []) → ((s : Site) → after s kind ≡ s) → ((s : Site) → inside s kind ≡ s) → sizes_of kind ≡ no_sizes → KindIsCounted kind
alone kind itself behind_it in_it none s at =
    let same = ap (λ (t : Site). length t.scope) (behind_it s) in
    let also = ap (λ (t : Site). length t.scope) (in_it s) in
    moved (ap most (itself s at)) none (subst (λ m. Counted (length s.scope) (most (placed s at kind ∷ [])) m no_sizes) (sym same) (nothing refl refl (omega (arith, same, also))))

one_more : (s : Site) (v : Variable) → length (s.scope ++ (v ∷ [])) ≡ length s.scope + 1
one_more s v = length-append s.scope (v ∷ [])

local_part : (t : CType) (x : List ℕ) (e : Option Expr) → KindIsCounted (Local t x e)
local_part t x e s at =
    let more = one_more s (record { name = x; type = declared t }) in
    moved (ap most (sites_local s at t x e)) (sizes_local t x e)
    (record { reached = omega (arith, more); counted = omega (arith, more); left = omega (arith, more); all_left = omega (arith, more); within = omega (arith, more) })

if_part : {E : Type 0} (arm : E → Arm) → ((e : E) → IsCounted (out-Arm (arm e)).body) → (arms : List E) (other : Option Stmt) → OtherIsCounted other → KindIsCounted (If (map arm arms) other)
if_part arm counts arms other f s at =
    let all = map arm arms in
    let own = placed s at (If all other) ∷ [] in
    let bodies = each arm (λ (a : Arm). sites_of s (out-Arm a).body) (λ (a : Arm). sizes_of_stmt (out-Arm a).body) most refl both (length s.scope) (λ e. (_, counts e s (out-Arm (arm e)).body.at)) arms in
    moved (ap most (sites_if s at all other) ∙ both own (sites_of_bodies s all ++ sites_of_other s other) ∙ ap (max (most own)) (both (sites_of_bodies s all) (sites_of_other s other))) (sizes_if all other)
    (in_order (nothing refl refl (omega arith)) (in_order bodies (shut (other_part other f s))))

while_part : (e : Expr) (b : Stmt) → IsCounted b → KindIsCounted (While e b)
while_part e b f s at =
    let own = placed s at (While e b) ∷ [] in
    moved (ap most (sites_while s at e b) ∙ both own (sites_of s b)) (sizes_while e b) (headed {a = no_sizes} refl (nothing refl refl (omega arith)) (shut (f s b.at)))

for_part : (first : Option Stmt) (e : Option Expr) (third : Option Stmt) (b : Stmt) → OtherIsCounted first → OtherIsCounted third → IsCounted b → KindIsCounted (For first e third b)
for_part first e third b f g h s at =
    let inner = after_other s first in
    let own = placed inner at (For first e third b) ∷ [] in
    let last = sites_of_other inner third ++ sites_of inner b in
    moved
    (ap most (sites_for s at first e third b) ∙ both (sites_of_other s first) (own ++ last) ∙ ap (max (most (sites_of_other s first))) (both own last ∙ ap (max (most own)) (both (sites_of_other inner third) (sites_of inner b))))
    (sizes_for first e third b)
    (shut (in_order (other_part first f s) (headed {a = no_sizes} refl (nothing refl refl (omega arith)) (in_order (shut (other_part third g inner)) (shut (h inner b.at))))))

cobegin_part : {E : Type 0} (stmt : E → Stmt) → ((e : E) → IsCounted (stmt e)) → (blocks : List E) → KindIsCounted (Cobegin (map stmt blocks))
cobegin_part stmt counts blocks s at =
    let inner = in_parallel s in
    let bodies = each stmt (sites_of inner) sizes_of_stmt most refl both (length s.scope) (λ e. (_, counts e inner (stmt e).at)) blocks in
    moved (ap most (sites_cobegin s at (map stmt blocks))) (sizes_cobegin (map stmt blocks)) (lower (in_order (nothing refl refl (omega arith)) bodies))

foreach_part : (i : List ℕ) (l h : Expr) (n : ℤ) (b : Stmt) → IsCounted b → KindIsCounted (Foreach i l h n b)
foreach_part i l h n b f s at =
    let own = placed s at (Foreach i l h n b) ∷ [] in
    let inner = iteration s i in
    let more = one_more s (record { name = i; type = Number }) in
    let index : Counted (length s.scope) (most own) (length inner.scope) one_local =
    record { reached = omega (arith, more); counted = omega (arith, more); left = omega (arith, more); all_left = omega (arith, more); within = omega (arith, more) } in
    moved (ap most (sites_foreach s at i l h n b) ∙ both own (sites_of inner b)) (sizes_foreach i l h n b) (shut (in_order index (f inner b.at)))

-- ---- all statements

abbrev ArmIsCounted : Arm → Type 0
ArmIsCounted arm = IsCounted (out-Arm arm).body

abbrev Form : Type 0
Form = layer.StmtKind-F ((k : StmtKind) × KindIsCounted k) ((a : Arm) × ArmIsCounted a) ((b : Stmt) × IsCounted b)

abbrev plain : Form → layer.StmtKind-F StmtKind Arm Stmt
plain form = map-StmtKind _ _ _ _ _ _ (λ e. e.0) (λ e. e.0) (λ e. e.0) form

by_form : (form : Form) → KindIsCounted (roll-StmtKind (plain form))
unfolding sites
by_form layer.Empty = subst KindIsCounted (sym rolls-Empty) (alone Empty (λ s at. refl) (λ s. refl) (λ s. refl) sizes_empty)
by_form (layer.Block body) = subst KindIsCounted (sym (rolls-Block _)) (λ s at. moved (ap most (sites_block s at _)) (sizes_block _) (shut (block (λ e. e.0) (λ e. e.1) body s).1))
by_form (layer.Local t x e) = subst KindIsCounted (sym (rolls-Local t x e)) (local_part t x e)
by_form (layer.Set x e) = subst KindIsCounted (sym (rolls-Set x e)) (alone (Set x e) (λ s at. refl) (λ s. refl) (λ s. refl) (sizes_set x e))
by_form (layer.Store t e) = subst KindIsCounted (sym (rolls-Store t e)) (alone (Store t e) (λ s at. refl) (λ s. refl) (λ s. refl) (sizes_store t e))
by_form (layer.Call f es) = subst KindIsCounted (sym (rolls-Call f es)) (alone (Call f es) (λ s at. refl) (λ s. refl) (λ s. refl) (sizes_call f es))
by_form (layer.If arms None) = subst KindIsCounted (sym (rolls-If _ None)) (if_part (λ e. e.0) (λ e. e.1) arms None tt)
by_form (layer.If arms (Some b)) = subst KindIsCounted (sym (rolls-If _ (Some b.0))) (if_part (λ e. e.0) (λ e. e.1) arms (Some b.0) b.1)
by_form (layer.While e b) = subst KindIsCounted (sym (rolls-While e b.0)) (while_part e b.0 b.1)
by_form (layer.For None e None b) = subst KindIsCounted (sym (rolls-For None e None b.0)) (for_part None e None b.0 tt tt b.1)
by_form (layer.For (Some f) e None b) = subst KindIsCounted (sym (rolls-For (Some f.0) e None b.0)) (for_part (Some f.0) e None b.0 f.1 tt b.1)
by_form (layer.For None e (Some g) b) = subst KindIsCounted (sym (rolls-For None e (Some g.0) b.0)) (for_part None e (Some g.0) b.0 tt g.1 b.1)
by_form (layer.For (Some f) e (Some g) b) = subst KindIsCounted (sym (rolls-For (Some f.0) e (Some g.0) b.0)) (for_part (Some f.0) e (Some g.0) b.0 f.1 g.1 b.1)
by_form (layer.Return e) = subst KindIsCounted (sym (rolls-Return e)) (alone (Return e) (λ s at. refl) (λ s. refl) (λ s. refl) (sizes_return e))
by_form (layer.Print e) = subst KindIsCounted (sym (rolls-Print e)) (alone (Print e) (λ s at. refl) (λ s. refl) (λ s. refl) (sizes_print e))
by_form (layer.Cobegin blocks) = subst KindIsCounted (sym (rolls-Cobegin _)) (cobegin_part (λ e. e.0) (λ e. e.1) blocks)
by_form (layer.Foreach i l h n b) = subst KindIsCounted (sym (rolls-Foreach i l h n b.0)) (foreach_part i l h n b.0 b.1)

out_roll : (x : layer.Arm-F StmtKind Arm Stmt) → out-Arm (roll-Arm x) ≡ x
out_roll x = search (rules, arm_lemmas)

every : (stmt : Stmt) → IsCounted stmt
every = ind-Stmt KindIsCounted ArmIsCounted IsCounted (λ x y is. subst (λ f. KindIsCounted (roll-StmtKind f)) is (by_form y))
    (λ x y is. subst (λ (f : layer.Arm-F StmtKind Arm Stmt). IsCounted f.body) (is ∙ sym (out_roll x)) y.body.1) (λ x y is. subst (λ f. KindIsCounted f.kind) is y.kind.1)

-- ---- a function and a program

function_part : (p : Program) (prints allocates : List ℕ → Bool) (f : Func) → (end : ℕ) × Counted 0 (most_in_scope (function_sites p prints allocates f)) end (function_sizes f)
function_part p prints allocates f =
    let start = body_site p prints allocates f in
    let n = length f.params in
    let size : length start.scope ≡ n = length-map f.params _ in
    let body = block (λ b. b) every f.body start in
    let same : map (λ (b : Stmt). b) f.body ≡ f.body = map-id f.body in
    let parameters : Counted 0 n (length start.scope) (parameters_of n) = record { reached = omega (arith, size); counted = omega (arith, size); left = omega (arith, size); all_left = omega (arith, size); within = omega (arith, size) } in (
      body.0,
      subst (λ (bs : List Stmt). Counted 0 (most_in_scope (start ∷ flat_map around (sites_list start bs))) body.0 (behind (parameters_of n) (in_row (map sizes_of_stmt bs)))) same
          (moved (most_from (max 0 (length start.scope)) (flat_map around (sites_list start (map (λ b. b) f.body))) ∙ omega (arith, size)) refl (in_order parameters body.1)),
    )

pub program_count : (p : Program) (prints allocates : List ℕ → Bool) → most_in_scope (program_sites p prints allocates) < 2 ^ 64 → (program_sizes p).locals ≡ most_in_scope (program_sites p prints allocates)
program_count p prints allocates small =
    let all = each (λ (f : Func). f) (function_sites p prints allocates) function_sizes most_in_scope refl most_both 0 (function_part p prints allocates) p.funcs in
    let whole = subst (λ (fs : List Func). Counted 0 (most_in_scope (flat_map (function_sites p prints allocates) fs)) 0 (beside (map function_sizes fs))) (map-id p.funcs) all in
    omega (arith, small, whole.reached, whole.counted)
