-- What statements move, list by list; and that it says which classes go between slots and a field.
use Rattle.std.proofs.Common.{◌≡◌, ℕ, suc, ◌==◌, ◌&&◌, true, false, cond, List, [], ◌∷◌, ◌++◌, None, Some, Option, refl, ap, ap₂, sym, ◌∙◌, append_assoc, append-nil}
use Rattle.std.specs.List.{flat_map}
use Rattle.std.proofs.lemmas.List.Concat.{flat_map-append}
use Rattle.lq_tree.specs.declared.plain.PKind.{PKind, Set, Load, Store, Calloc, Call, If', While', Cobegin', Foreach, Print, Return}
use Rattle.lq_tree.specs.declared.plain.PStmt.{PStmt}
use Rattle.lq_tree.specs.declared.plain.PFunc.{PFunc}
use Rattle.lq_tree.specs.declared.plain.Branch.{Branch, out-Branch}
use Rattle.lq_tree.specs.PlainWalk.{inside, within_branch, statements}
use Rattle.lq_classes.specs.Classes.{root}
use Rattle.lq_templates.specs.Classes.{ClassOf}
use Rattle.lq_templates.proofs.Inside.{within_branch-out}
use Rattle.lq_ground.specs.declared.moves.Move.{Move}
use Rattle.lq_ground.specs.Ground.{class_of_root, class_moved, classes_moved}
use Rattle.lq_ground.specs.Moves.{stored_moves, own_moves, each_moves, body_moves, all_moves, moved_at}

each-append : (class_at : ℕ → ℕ) (xs ys : List PStmt) → each_moves class_at (xs ++ ys) ≡ each_moves class_at xs ++ each_moves class_at ys
each-append class_at xs ys = flat_map-append (λ (s : PStmt). own_moves class_at s.kind) xs ys

pub body-append : (class_at : ℕ → ℕ) (xs ys : List PStmt) → body_moves class_at (xs ++ ys) ≡ body_moves class_at xs ++ body_moves class_at ys
body-append class_at xs ys = ap (each_moves class_at) (flat_map-append (λ (s : PStmt). s ∷ inside s.kind) xs ys) ∙ each-append class_at (statements xs) (statements ys)

-- of a branch, whose body the code has as a slice
pub branch_moves : (class_at : ℕ → ℕ) (b : Branch) (x : List PStmt) → x ≡ (out-Branch b).body → body_moves class_at x ≡ each_moves class_at (within_branch b)
branch_moves class_at b x is = ap (body_moves class_at) is ∙ ap (each_moves class_at) (sym (within_branch-out b))

-- of branches
pub branches_move : (class_at : ℕ → ℕ) (blocks : List Branch) → each_moves class_at (flat_map within_branch blocks) ≡ flat_map (λ (b : Branch). each_moves class_at (within_branch b)) blocks
branches_move class_at [] = refl
branches_move class_at (b ∷ blocks) =
    each-append class_at (within_branch b) (flat_map within_branch blocks) ∙ ap (λ (xs : List Move). each_moves class_at (within_branch b) ++ xs) (branches_move class_at blocks)

-- of a statement with one list inside
pub one_list : (class_at : ℕ → ℕ) (kind : PKind) (list : List PStmt) (old whole more : List Move) → inside kind ≡ list
    → more ≡ each_moves class_at list → whole ≡ old ++ more → whole ≡ old ++ each_moves class_at (inside kind)
one_list class_at kind list old whole more is second all = all ∙ ap (λ (xs : List Move). old ++ xs) (second ∙ ap (each_moves class_at) (sym is))

-- and with two
pub two_lists : (class_at : ℕ → ℕ) (kind : PKind) (body other x y : List PStmt) (old half whole : List Move) → inside kind ≡ statements body ++ statements other → x ≡ body → y ≡ other
    → half ≡ old ++ body_moves class_at x → whole ≡ half ++ body_moves class_at y → whole ≡ old ++ each_moves class_at (inside kind)
two_lists class_at kind body other x y old half whole is left right second all =
    one_list class_at kind (statements body ++ statements other) old whole (body_moves class_at x ++ body_moves class_at y) is
    (ap₂ (λ (s t : List PStmt). body_moves class_at s ++ body_moves class_at t) left right ∙ sym (each-append class_at (statements body) (statements other)))
    (all ∙ ap (λ (zs : List Move). zs ++ body_moves class_at y) second ∙ append_assoc old (body_moves class_at x) (body_moves class_at y))

-- ---- which classes they move

stored_moved : (class_at : ℕ → ℕ) (class field base f : ℕ) (o : Option ℕ)
    → cond (base == class && f == field) (class_of_root class_at o) [] ≡ flat_map (moved_at class field) (stored_moves class_at base f o)
stored_moved class_at class field base f None = elim (base == class && f == field) as (λ b. cond b (class_of_root class_at None) [] ≡ []) [ true ↦ refl | false ↦ refl ]
stored_moved class_at class field base f (Some slot) = sym (append-nil (cond (base == class && f == field) (class_at slot ∷ []) []))

own_moved : (class_at : ℕ → ℕ) (class field : ℕ) (kind : PKind) → class_moved class_at class field kind ≡ flat_map (moved_at class field) (own_moves class_at kind)
own_moved class_at class field (Set to e) = refl
own_moved class_at class field (Load to base index f) = sym (append-nil (cond (class_at base == class && f == field) (class_at to ∷ []) []))
own_moved class_at class field (Store base index f e) = stored_moved class_at class field (class_at base) f (root e)
own_moved class_at class field (Calloc to size type) = refl
own_moved class_at class field (Call to function args) = refl
own_moved class_at class field (If' e n body m other) = refl
own_moved class_at class field (While' n head e m body) = refl
own_moved class_at class field (Cobegin' n blocks) = refl
own_moved class_at class field (Foreach index low high step branch) = refl
own_moved class_at class field (Print e) = refl
own_moved class_at class field (Return e) = refl

each_moved : (class_at : ℕ → ℕ) (class field : ℕ) (list : List PStmt) → flat_map (λ (s : PStmt). class_moved class_at class field s.kind) list ≡ flat_map (moved_at class field) (each_moves class_at list)
each_moved class_at class field [] = refl
each_moved class_at class field (s ∷ list) =
    ap₂ (λ (xs ys : List ℕ). xs ++ ys) (own_moved class_at class field s.kind) (each_moved class_at class field list)
    ∙ sym (flat_map-append (moved_at class field) (own_moves class_at s.kind) (each_moves class_at list))

-- all of them
pub all_moved : (class_of : ClassOf) (class field number : ℕ) (funcs : List PFunc) → classes_moved class_of class field number funcs ≡ flat_map (moved_at class field) (all_moves class_of number funcs)
all_moved class_of class field number [] = refl
all_moved class_of class field number (f ∷ funcs) =
    ap₂ (λ (xs ys : List ℕ). xs ++ ys) (each_moved (class_of number) class field (statements f.body)) (all_moved class_of class field (suc number) funcs)
    ∙ sym (flat_map-append (moved_at class field) (body_moves (class_of number) f.body) (all_moves class_of (suc number) funcs))
