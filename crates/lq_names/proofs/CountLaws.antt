-- Folds over a list, one more on.
use Rattle.std.proofs.Common.{◌≡◌, ℕ, ◌+◌, ◌<◌, ◌≤◌, List, ◌∷◌, length, get_or, drop, map, fold, ap, sym, ◌∙◌}
use Rattle.std.proofs.Common.{Option, None, Some, option_map, ℤ, ap₂}
use Rattle.std.proofs.Math.Path.{fun_ext}
use Rattle.std.proofs.lemmas.List.{drop_more, drop_all, length-map}
use Rattle.lq_tree.specs.declared.stmt.Stmt.{Stmt}
use Rattle.lq_tree.specs.declared.stmt.Arm.{Arm, out-Arm}
use Rattle.lq_tree.specs.declared.expr.Expr.{Expr}
use Rattle.lq_tree.specs.declared.expr.CType.{CType}
use Rattle.lq_tree.specs.declared.stmt.StmtKind.{StmtKind, roll-StmtKind, Empty, Block, Local, Set, Store, Call, If, While, For, Return, Print, Cobegin, Foreach}
use Rattle.lq_tree.specs.declared.stmt.StmtKind.TheOpen as layer
use Rattle.lq_tree.specs.declared.stmt.StmtKind.TheVariants.{rolls-Empty, rolls-Block, rolls-Local, rolls-Set, rolls-Store, rolls-Call, rolls-If, rolls-While, rolls-For, rolls-Return, rolls-Print, rolls-Cobegin, rolls-Foreach}
use Rattle.lq_tree.specs.declared.stmt.StmtKind.TheFolds.{map-StmtKind, fold-roll-StmtKind, fold-Stmt, fold-Arm, fold_out-Arm, fold_out-Stmt}
use Rattle.lq_names.specs.declared.counts.Sizes.{Sizes}
use Rattle.lq_names.specs.Counts.{sizes_of, sizes_of_stmt, sizes_step, closed, in_row, beside, behind, branches_of, arms_of, or_nothing, no_sizes, one_local}

pub fold_step : {A B : Type 0} (f : B → B → B) (g : A → B) (total last next : B) (xs : List A) (i : ℕ) (x : A) → i < length xs → x ≡ get_or xs i x → fold f total (map g (drop i xs)) ≡ last
    → next ≡ f total (g x) → fold f next (map g (drop (i + 1) xs)) ≡ last
fold_step f g total last next xs i x lt is so_far at_next =
    ap (λ t. fold f t (map g (drop (i + 1) xs))) at_next
    ∙ ap (λ y. fold f total (map g (y ∷ drop (i + 1) xs))) is
    ∙ ap (λ ys. fold f total (map g ys)) (sym (drop_more xs i x lt))
    ∙ so_far

pub fold_end : {A B : Type 0} (f : B → B → B) (g : A → B) (total last : B) (xs : List A) (i : ℕ) → length xs ≤ i → fold f total (map g (drop i xs)) ≡ last → total ≡ last
fold_end f g total last xs i ge so_far = ap (λ ys. fold f total (map g ys)) (sym (drop_all i xs ge)) ∙ so_far

abbrev stmt_fold : Stmt → Sizes
stmt_fold = fold-Stmt Sizes Sizes Sizes sizes_step (λ arm. arm.body) (λ stmt. stmt.kind)

abbrev arm_fold : Arm → Sizes
arm_fold = fold-Arm Sizes Sizes Sizes sizes_step (λ arm. arm.body) (λ stmt. stmt.kind)

stmt_sizes : (stmt : Stmt) → stmt_fold stmt ≡ sizes_of_stmt stmt
stmt_sizes stmt = fold_out-Stmt Sizes Sizes Sizes sizes_step (λ arm. arm.body) (λ stmt. stmt.kind) stmt

arm_sizes : (arm : Arm) → arm_fold arm ≡ sizes_of_stmt (out-Arm arm).body
arm_sizes arm = fold_out-Arm Sizes Sizes Sizes sizes_step (λ arm. arm.body) (λ stmt. stmt.kind) arm ∙ stmt_sizes (out-Arm arm).body

pub sizes_block : (body : List Stmt) → sizes_of (Block body) ≡ closed (in_row (map sizes_of_stmt body))
sizes_block body = ap sizes_of (sym (rolls-Block body)) ∙ fold-roll-StmtKind Sizes Sizes Sizes sizes_step (λ arm. arm.body) (λ stmt. stmt.kind) (layer.Block body)
    ∙ ap (λ (g : Stmt → Sizes). closed (in_row (map g body))) (fun_ext stmt_sizes)

pub sizes_cobegin : (blocks : List Stmt) → sizes_of (Cobegin blocks) ≡ behind (branches_of (length blocks)) (beside (map sizes_of_stmt blocks))
sizes_cobegin blocks = ap sizes_of (sym (rolls-Cobegin blocks)) ∙ fold-roll-StmtKind Sizes Sizes Sizes sizes_step (λ arm. arm.body) (λ stmt. stmt.kind) (layer.Cobegin blocks)
    ∙ ap (λ (g : Stmt → Sizes). behind (branches_of (length (map g blocks))) (beside (map g blocks))) (fun_ext stmt_sizes)
    ∙ ap (λ n. behind (branches_of n) (beside (map sizes_of_stmt blocks))) (length-map blocks sizes_of_stmt)

pub sizes_if : (arms : List Arm) (other : Option Stmt) → sizes_of (If arms other)
    ≡ behind (arms_of (length arms)) (behind (beside (map (λ (arm : Arm). sizes_of_stmt (out-Arm arm).body) arms)) (closed (or_nothing (option_map sizes_of_stmt other))))
sizes_if arms None = ap sizes_of (sym (rolls-If arms None)) ∙ fold-roll-StmtKind Sizes Sizes Sizes sizes_step (λ arm. arm.body) (λ stmt. stmt.kind) (layer.If arms None)
    ∙ ap (λ (g : Arm → Sizes). behind (arms_of (length (map g arms))) (behind (beside (map g arms)) (closed no_sizes))) (fun_ext arm_sizes)
    ∙ ap (λ n. behind (arms_of n) (behind (beside (map (λ (arm : Arm). sizes_of_stmt (out-Arm arm).body) arms)) (closed no_sizes))) (length-map arms (λ (arm : Arm). sizes_of_stmt (out-Arm arm).body))
sizes_if arms (Some b) = ap sizes_of (sym (rolls-If arms (Some b))) ∙ fold-roll-StmtKind Sizes Sizes Sizes sizes_step (λ arm. arm.body) (λ stmt. stmt.kind) (layer.If arms (Some b))
    ∙ ap (λ (g : Arm → Sizes). behind (arms_of (length (map g arms))) (behind (beside (map g arms)) (closed (stmt_fold b)))) (fun_ext arm_sizes)
    ∙ ap (λ n. behind (arms_of n) (behind (beside (map (λ (arm : Arm). sizes_of_stmt (out-Arm arm).body) arms)) (closed (stmt_fold b)))) (length-map arms (λ (arm : Arm). sizes_of_stmt (out-Arm arm).body))
    ∙ ap (λ x. behind (arms_of (length arms)) (behind (beside (map (λ (arm : Arm). sizes_of_stmt (out-Arm arm).body) arms)) (closed x))) (stmt_sizes b)

-- the sizes of a form of statement
by_layer : (form : layer.StmtKind-F StmtKind Arm Stmt) → sizes_of (roll-StmtKind form) ≡ sizes_step (map-StmtKind _ _ _ _ _ _ sizes_of arm_fold stmt_fold form)
by_layer form = fold-roll-StmtKind Sizes Sizes Sizes sizes_step (λ arm. arm.body) (λ stmt. stmt.kind) form

pub sizes_empty : sizes_of Empty ≡ no_sizes
sizes_empty = ap sizes_of (sym rolls-Empty) ∙ by_layer layer.Empty

pub sizes_local : (t : CType) (x : List ℕ) (e : Option Expr) → sizes_of (Local t x e) ≡ one_local
sizes_local t x e = ap sizes_of (sym (rolls-Local t x e)) ∙ by_layer (layer.Local t x e)

pub sizes_set : (x : List ℕ) (e : Expr) → sizes_of (Set x e) ≡ no_sizes
sizes_set x e = ap sizes_of (sym (rolls-Set x e)) ∙ by_layer (layer.Set x e)

pub sizes_store : (t e : Expr) → sizes_of (Store t e) ≡ no_sizes
sizes_store t e = ap sizes_of (sym (rolls-Store t e)) ∙ by_layer (layer.Store t e)

pub sizes_call : (f : List ℕ) (es : List Expr) → sizes_of (Call f es) ≡ no_sizes
sizes_call f es = ap sizes_of (sym (rolls-Call f es)) ∙ by_layer (layer.Call f es)

pub sizes_return : (e : Option Expr) → sizes_of (Return e) ≡ no_sizes
sizes_return e = ap sizes_of (sym (rolls-Return e)) ∙ by_layer (layer.Return e)

pub sizes_print : (e : Expr) → sizes_of (Print e) ≡ no_sizes
sizes_print e = ap sizes_of (sym (rolls-Print e)) ∙ by_layer (layer.Print e)

pub sizes_while : (e : Expr) (body : Stmt) → sizes_of (While e body) ≡ closed (sizes_of_stmt body)
sizes_while e body = ap sizes_of (sym (rolls-While e body)) ∙ by_layer (layer.While e body) ∙ ap closed (stmt_sizes body)

pub sizes_foreach : (i : List ℕ) (l h : Expr) (n : ℤ) (body : Stmt) → sizes_of (Foreach i l h n body) ≡ closed (behind one_local (sizes_of_stmt body))
sizes_foreach i l h n body = ap sizes_of (sym (rolls-Foreach i l h n body)) ∙ by_layer (layer.Foreach i l h n body) ∙ ap (λ a. closed (behind one_local a)) (stmt_sizes body)

pub sizes_for : (first : Option Stmt) (e : Option Expr) (third : Option Stmt) (body : Stmt) → sizes_of (For first e third body)
    ≡ closed (behind (or_nothing (option_map sizes_of_stmt first)) (behind (closed (or_nothing (option_map sizes_of_stmt third))) (closed (sizes_of_stmt body))))
sizes_for None e None body = ap sizes_of (sym (rolls-For None e None body)) ∙ by_layer (layer.For None e None body) ∙ ap (λ c. closed (behind no_sizes (behind (closed no_sizes) (closed c)))) (stmt_sizes body)
sizes_for (Some a) e None body = ap sizes_of (sym (rolls-For (Some a) e None body)) ∙ by_layer (layer.For (Some a) e None body) ∙ ap₂ (λ x c. closed (behind x (behind (closed no_sizes) (closed c)))) (stmt_sizes a) (stmt_sizes body)
sizes_for None e (Some b) body = ap sizes_of (sym (rolls-For None e (Some b) body)) ∙ by_layer (layer.For None e (Some b) body) ∙ ap₂ (λ y c. closed (behind no_sizes (behind (closed y) (closed c)))) (stmt_sizes b) (stmt_sizes body)
sizes_for (Some a) e (Some b) body =
    ap sizes_of (sym (rolls-For (Some a) e (Some b) body)) ∙ by_layer (layer.For (Some a) e (Some b) body) ∙ ap (λ x. closed (behind x (behind (closed (stmt_fold b)) (closed (stmt_fold body))))) (stmt_sizes a)
    ∙ ap₂ (λ y c. closed (behind (sizes_of_stmt a) (behind (closed y) (closed c)))) (stmt_sizes b) (stmt_sizes body)
