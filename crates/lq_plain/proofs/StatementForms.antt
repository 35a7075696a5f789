-- The plain form of each form of statement. The definitions match on rows; a source is written with boxes and lists.
use Rattle.std.proofs.Common.{◌≡◌, ℕ, ℤ, List, [], ◌∷◌, length, Option, None, Some, refl, ap, sym, ◌∙◌, rules}
use Rattle.std.proofs.Math.Path.{fun_ext}
use denote.Hole.Carrier
use Rattle.lq_tree.specs.declared.place.Place.{Place}
use Rattle.lq_tree.specs.declared.expr.Expr.{Expr}
use Rattle.lq_tree.specs.declared.stmt.Stmt.{Stmt}
use Rattle.lq_tree.specs.declared.stmt.Arm.{Arm, Arm', out-Arm, roll-Arm, the_lemmas as arm_lemmas}
use Rattle.lq_tree.specs.declared.stmt.StmtKind.{Block, If, While, For, Cobegin, Foreach, Row_of-Stmt, end_of-Stmt, more_of-Stmt, Row_of-Arm, end_of-Arm, more_of-Arm, items-the_row-Stmt, items-the_row-Arm, items_hidden-the_row-Stmt-0, items_hidden-the_row-Stmt-2, items_hidden-the_row-Arm-1}
use Rattle.lq_tree.specs.declared.stmt.StmtKind.TheBlock.{hidden-the_row-Stmt-0, hidden-the_row-Stmt-2, hidden-the_row-Arm-1}
use Rattle.lq_tree.specs.declared.plain.PKind.{Cobegin as CobeginP, Foreach as ForeachP}
use Rattle.lq_tree.specs.declared.plain.Slot.{Slot}
use Rattle.lq_tree.specs.declared.plain.Branch.{Branch}
use Rattle.lq_tree.specs.Types.{Number}
use Rattle.lq_plain.specs.Flat.{Env, Made, Valued}
use Rattle.lq_plain.specs.Lists.{one, maybe, guarded, an_arm, all_arms, all_branches, low_end}
use Rattle.lq_plain.specs.Plain.{Behind, behind, fresh, then_holds, flat_of, condition, looped, Branches, branch, knows, plain, plain_row, plain_arms, plain_arm, plain_branches, plain_iteration, plain_all}

-- statements one after another, with the locals in scope behind them
abbrev others : Env → List Stmt → Made → Behind
others env [] m = behind env m
others env (s ∷ body) m = others (record env { scope = (one env s m).scope }) body (one env s m).made

row_items : {n : _} (env : Env) (row : Row_of-Stmt n) (m : Made) → plain_row env row m ≡ others env (items-the_row-Stmt n row) m
row_items env end_of-Stmt m = refl
row_items env (more_of-Stmt at kind rest) m = row_items (record env { scope = (plain env at kind m).scope }) rest (plain env at kind m).made

row_boxed : (env : Env) (b : Stmt) (m : Made) → plain_row env (hidden-the_row-Stmt-2 b) m ≡ one env b m
row_boxed env b m = row_items env (hidden-the_row-Stmt-2 b) m ∙ ap (λ (body : List Stmt). others env body m) (items_hidden-the_row-Stmt-2 b)

others_made : (env : Env) (body : List Stmt) (m : Made) → (others env body m).made ≡ plain_all env body m
others_made env [] m = refl
others_made env (s ∷ body) m = others_made (record env { scope = (one env s m).scope }) body (one env s m).made

-- the arms of an `if`
abbrev arm_listed : Env → Place → Arm → (Made → Made) → Made → Made
arm_listed env at (Arm' e p body) otherwise m = guarded at (flat_of env at e m) (others env (items-the_row-Stmt _ body) (fresh (flat_of env at e m).made.slots)).made otherwise

by_arm : (env : Env) (at : Place) (arm : Arm) (otherwise : Made → Made) (m : Made) → plain_arm env at arm otherwise m ≡ arm_listed env at arm otherwise m
by_arm env at (Arm' e p body) otherwise m = ap (λ (b : Behind). guarded at (flat_of env at e m) b.made otherwise) (row_items env body (fresh (flat_of env at e m).made.slots))

rolled_arm : (env : Env) (at : Place) (e : Expr) (b : Stmt) (otherwise : Made → Made) (m : Made) → arm_listed env at (roll-Arm (record { cond = e; body = b })) otherwise m ≡ an_arm env at e b otherwise m
unfolding roll-Arm denote.Hole.Carrier.roll
rolled_arm env at e b otherwise m = ap (λ (body : List Stmt). guarded at (flat_of env at e m) (others env body (fresh (flat_of env at e m).made.slots)).made otherwise) (items_hidden-the_row-Stmt-2 b)

roll_out : (arm : Arm) → roll-Arm (out-Arm arm) ≡ arm
roll_out arm = search (rules, arm_lemmas)

of_arm : (env : Env) (at : Place) (arm : Arm) (otherwise : Made → Made) (m : Made) → plain_arm env at arm otherwise m ≡ an_arm env at (out-Arm arm).cond (out-Arm arm).body otherwise m
of_arm env at arm otherwise m =
    by_arm env at arm otherwise m ∙ ap (λ (a : Arm). arm_listed env at a otherwise m) (sym (roll_out arm)) ∙ rolled_arm env at (out-Arm arm).cond (out-Arm arm).body otherwise m

arms_items : {n : _} (env : Env) (at : Place) (row : Row_of-Arm n) (otherwise : Made → Made) (m : Made) → plain_arms env at row otherwise m ≡ all_arms env at (items-the_row-Arm n row) otherwise m
arms_items env at end_of-Arm otherwise m = refl
arms_items env at (more_of-Arm arm rest) otherwise m =
    of_arm env at arm (plain_arms env at rest otherwise) m
    ∙ ap (λ (go : Made → Made). an_arm env at (out-Arm arm).cond (out-Arm arm).body go m) (fun_ext (λ k. arms_items env at rest otherwise k))

-- the blocks of a `cobegin`
branches_items : {n : _} (env : Env) (row : Row_of-Stmt n) (slots : List Slot) → plain_branches env row slots ≡ all_branches env (items-the_row-Stmt n row) slots
branches_items env end_of-Stmt slots = refl
branches_items env (more_of-Stmt at kind rest) slots =
    let first = (plain env at kind (fresh slots)).made in
    ap (λ (b : Branches). record { list = branch at first ∷ b.list; slots = b.slots }) (branches_items env rest first.slots)

-- the block of a `foreach`
abbrev iteration_listed : Env → List Stmt → List Slot → Branch × List Slot
iteration_listed env [] slots = (branch (record { line = 1; col = 1 }) (fresh slots), slots)
iteration_listed env (s ∷ body) slots = (branch s.at (one env s (fresh slots)).made, (one env s (fresh slots)).made.slots)

iteration_items : {n : _} (env : Env) (row : Row_of-Stmt n) (slots : List Slot) → plain_iteration env row slots ≡ iteration_listed env (items-the_row-Stmt n row) slots
iteration_items env end_of-Stmt slots = refl
iteration_items env (more_of-Stmt at kind rest) slots = refl

-- the forms
pub plain_block : (env : Env) (at : Place) (body : List Stmt) (m : Made) → plain env at (Block body) m ≡ behind env (plain_all env body m)
plain_block env at body m =
    ap (λ (b : Behind). behind env b.made) (row_items env (hidden-the_row-Stmt-0 body) m)
    ∙ ap (λ (ss : List Stmt). behind env (others env ss m).made) (items_hidden-the_row-Stmt-0 body) ∙ ap (behind env) (others_made env body m)

pub plain_while : (env : Env) (at : Place) (e : Expr) (body : Stmt) (m : Made)
    → plain env at (While e body) m ≡ behind env (looped at (condition env at (Some e) m.slots) (one env body (fresh (condition env at (Some e) m.slots).made.slots)).made m)
plain_while env at e body m =
    let c = condition env at (Some e) m.slots in
    ap (λ (b : Behind). behind env (looped at c b.made m)) (row_boxed env body (fresh c.made.slots))

pub plain_if : (env : Env) (at : Place) (arms : List Arm) (other : Option Stmt) (m : Made) → plain env at (If arms other) m ≡ behind env (all_arms env at arms (λ k. (maybe env other k).made) m)
plain_if env at arms None m =
    let go : Made → Made = λ k. k in
    ap (behind env) (arms_items env at (hidden-the_row-Arm-1 arms) go m ∙ ap (λ (as' : List Arm). all_arms env at as' go m) (items_hidden-the_row-Arm-1 arms))
plain_if env at arms (Some b) m =
    let go : Made → Made = λ k. (one env b k).made in
    ap (λ (f : Made → Made). behind env (plain_arms env at (hidden-the_row-Arm-1 arms) f m)) (fun_ext (λ k. ap (λ (x : Behind). x.made) (row_boxed env b k)))
    ∙ ap (behind env) (arms_items env at (hidden-the_row-Arm-1 arms) go m ∙ ap (λ (as' : List Arm). all_arms env at as' go m) (items_hidden-the_row-Arm-1 arms))

-- a loop whose first part has opened a scope
abbrev pub turned : Env → Place → Option Expr → (third : Env → Made → Behind) → (body : Env → Made → Behind) → Behind → Behind
turned env at e third body opened =
    let inner = record env { scope = opened.scope } in
    let c = condition inner at e opened.made.slots in
    behind env (looped at c (third inner (body inner (fresh c.made.slots)).made).made opened.made)

pub plain_for : (env : Env) (at : Place) (first : Option Stmt) (e : Option Expr) (third : Option Stmt) (body : Stmt) (m : Made)
    → plain env at (For first e third body) m ≡ turned env at e (λ inner. maybe inner third) (λ inner. one inner body) (maybe env first m)
plain_for env at None e None body m =
    ap (λ (f : Env → Made → Behind). turned env at e (λ inner. behind inner) f (behind env m)) (fun_ext (λ inner. fun_ext (λ k. row_boxed inner body k)))
plain_for env at None e (Some c) body m =
    ap (λ (f : Env → Made → Behind). turned env at e (λ inner k. plain_row inner (hidden-the_row-Stmt-2 c) k) f (behind env m)) (fun_ext (λ inner. fun_ext (λ k. row_boxed inner body k)))
    ∙ ap (λ (f : Env → Made → Behind). turned env at e f (λ inner. one inner body) (behind env m)) (fun_ext (λ inner. fun_ext (λ k. row_boxed inner c k)))
plain_for env at (Some a) e None body m =
    ap (λ (f : Env → Made → Behind). turned env at e (λ inner. behind inner) f (plain_row env (hidden-the_row-Stmt-2 a) m)) (fun_ext (λ inner. fun_ext (λ k. row_boxed inner body k)))
    ∙ ap (turned env at e (λ inner. behind inner) (λ inner. one inner body)) (row_boxed env a m)
plain_for env at (Some a) e (Some c) body m =
    ap (λ (f : Env → Made → Behind). turned env at e (λ inner k. plain_row inner (hidden-the_row-Stmt-2 c) k) f (plain_row env (hidden-the_row-Stmt-2 a) m)) (fun_ext (λ inner. fun_ext (λ k. row_boxed inner body k)))
    ∙ ap (λ (f : Env → Made → Behind). turned env at e f (λ inner. one inner body) (plain_row env (hidden-the_row-Stmt-2 a) m)) (fun_ext (λ inner. fun_ext (λ k. row_boxed inner c k)))
    ∙ ap (turned env at e (λ inner. one inner c) (λ inner. one inner body)) (row_boxed env a m)

pub plain_cobegin : (env : Env) (at : Place) (blocks : List Stmt) (m : Made)
    → plain env at (Cobegin blocks) m ≡ behind env (then_holds at (CobeginP (all_branches env blocks m.slots).list) m (all_branches env blocks m.slots).slots)
plain_cobegin env at blocks m =
    ap (λ (b : Branches). behind env (then_holds at (CobeginP b.list) m b.slots))
    (branches_items env (hidden-the_row-Stmt-0 blocks) m.slots ∙ ap (λ (ss : List Stmt). all_branches env ss m.slots) (items_hidden-the_row-Stmt-0 blocks))

-- a `foreach` with these ends, this block and this place of the block
abbrev pub iterated : Env → Place → (slot : ℕ) → (from to : Valued) → ℤ → (at_body : Place) → (body : Made) → Behind
iterated env at slot from to step at_body body = behind env (then_holds at (ForeachP slot from.value to.value step (branch at_body body)) to.made body.slots)

pub plain_foreach : (env : Env) (at : Place) (index : List ℕ) (low high : Expr) (step : ℤ) (body : Stmt) (m : Made)
    → plain env at (Foreach index low high step body) m
    ≡ iterated env at (length m.slots) (low_end env at index low high m) (flat_of env at high (low_end env at index low high m).made) step body.at
    (one (knows env index (length m.slots) Number) body (fresh (flat_of env at high (low_end env at index low high m).made).made.slots)).made
plain_foreach env at index low high step body m =
    let from = low_end env at index low high m in
    let to = flat_of env at high from.made in
    ap (λ (done : Branch × List Slot). behind env (then_holds at (ForeachP (length m.slots) from.value to.value step done.0) to.made done.1))
    (iteration_items (knows env index (length m.slots) Number) (hidden-the_row-Stmt-2 body) to.made.slots
    ∙ ap (λ (ss : List Stmt). iteration_listed (knows env index (length m.slots) Number) ss to.made.slots) (items_hidden-the_row-Stmt-2 body))
