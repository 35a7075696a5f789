-- What the walk over a statement comes to, at each form, from what its parts come to.
use Rattle.std.proofs.Common.{◌≡◌, ℕ, suc, ◌+◌, ◌-◌, ◌<◌, ◌≤◌, ℤ, List, [], ◌∷◌, ◌++◌, length, get_or, drop, Option, None, Some, Result, Ok, Err, refl, ap, sym, ◌∙◌, append_assoc, arith}
use Rattle.std.specs.Prelude.{IfOk}
use Rattle.std.proofs.lemmas.List.{drop_more, drop_all, append-nil}
use Rattle.lq_tree.specs.declared.place.Place.{Place}
use Rattle.lq_tree.specs.declared.expr.Expr.{Expr}
use Rattle.lq_tree.specs.declared.expr.CType.{CType}
use Rattle.lq_tree.specs.declared.stmt.Stmt.{Stmt}
use Rattle.lq_tree.specs.declared.stmt.Arm.{Arm, out-Arm}
use Rattle.lq_tree.specs.declared.stmt.StmtKind.{StmtKind, Empty, Block, Local as Declare, Set, Store, Call, If, While, For, Return, Print, Cobegin, Foreach, Block', If', While', For', Cobegin', Foreach'}
use Rattle.lq_tree.specs.declared.plain.PExpr.{PExpr}
use Rattle.lq_tree.specs.declared.plain.PStmt.{PStmt}
use Rattle.lq_tree.specs.declared.plain.Branch.{Branch}
use Rattle.lq_tree.specs.declared.plain.PKind.{While as WhileP, Cobegin as CobeginP, Foreach as ForeachP}
use Rattle.lq_tree.specs.declared.plain.Slot.{Slot}
use Rattle.lq_tree.specs.Types.{Ty, Number, declared}
use Rattle.lq_tree.specs.Locals.{Local}
use Rattle.lq_plain.specs.declared.arms.Open.{Open}
use Rattle.lq_plain.specs.Flat.{Env, Made, then_stands, Valued, valued}
use Rattle.lq_plain.specs.Plain.{Behind, behind, fresh, then_holds, flat_of, condition, looped, Branches, branch, knows, plain, plain_all}
use Rattle.lq_plain.specs.Lists.{one, maybe, all_arms, all_branches, low_end, seen_behind}
use Rattle.lq_plain.specs.SeenArms.{shut, closed}
use Rattle.lq_plain.proofs.StatementForms.{plain_block, plain_while, plain_if, plain_for, plain_cobegin, plain_foreach, turned}

-- what a statement adds to the scope can be cut off again
more_than : (n h : ℕ) → h ≤ n → suc n - h ≡ suc (n - h)
more_than n h le = omega (arith, le)

cut_local : (l : Local ℕ) (scope : List (Local ℕ)) (h : ℕ) → h ≤ length scope → drop (length (l ∷ scope) - h) (l ∷ scope) ≡ drop (length scope - h) scope
cut_local l scope h le = ap (λ k. drop k (l ∷ scope)) (more_than (length scope) h le)

pub kept : (env : Env) (at : Place) (kind : StmtKind) (m : Made) (h : ℕ) → h ≤ length env.scope → drop (length (plain env at kind m).scope - h) (plain env at kind m).scope ≡ drop (length env.scope - h) env.scope
kept env at Empty m h le = refl
kept env at (Declare t x e) m h le = cut_local (record { name = x; type = declared t; what = length m.slots }) env.scope h le
kept env at (Set x e) m h le = refl
kept env at (Store t e) m h le = refl
kept env at (Call g es) m h le = refl
kept env at (Return None) m h le = refl
kept env at (Return (Some e)) m h le = refl
kept env at (Print e) m h le = refl
kept env at (Block' n b) m h le = refl
kept env at (If' n a o) m h le = refl
kept env at (While' e p b) m h le = refl
kept env at (For' a e t p b) m h le = refl
kept env at (Cobegin' n b) m h le = refl
kept env at (Foreach' i l u n p b) m h le = refl

pub grows : (env : Env) (at : Place) (kind : StmtKind) (m : Made) → length env.scope ≤ length (plain env at kind m).scope
grows env at Empty m = omega arith
grows env at (Declare t x e) m = omega arith
grows env at (Set x e) m = omega arith
grows env at (Store t e) m = omega arith
grows env at (Call g es) m = omega arith
grows env at (Return None) m = omega arith
grows env at (Return (Some e)) m = omega arith
grows env at (Print e) m = omega arith
grows env at (Block' n b) m = omega arith
grows env at (If' n a o) m = omega arith
grows env at (While' e p b) m = omega arith
grows env at (For' a e t p b) m = omega arith
grows env at (Cobegin' n b) m = omega arith
grows env at (Foreach' i l u n p b) m = omega arith

pub all_there : (scope : List (Local ℕ)) → drop (length scope - length scope) scope ≡ scope
all_there scope = let none : length scope - length scope ≡ 0 = omega arith in ap (λ k. drop k scope) none

pub index_off : (l : Local ℕ) (scope : List (Local ℕ)) → drop (length (l ∷ scope) - length scope) (l ∷ scope) ≡ scope
index_off l scope = cut_local l scope (length scope) (omega arith) ∙ all_there scope

module _ (env : Env) (at : Place) (m : Made) where
  -- a statement that leaves the scope as it is
  pub alone : (env' : Env) (at' : Place) (kind kind' : StmtKind) (scope : List (Local ℕ)) (m1 : Made) → env' ≡ env → at' ≡ at → kind ≡ kind' → scope ≡ env.scope → (plain env at kind' m).scope ≡ env.scope
      → m1 ≡ (plain env' at' kind' m).made → seen_behind scope m1 ≡ plain env at kind m
  alone env' at' kind kind' scope m1 env_is at_is is scope_is stays given =
      ap (λ s. seen_behind s m1) (scope_is ∙ sym stays)
      ∙ ap (seen_behind (plain env at kind' m).scope) (given ∙ ap (λ (x : Env). (plain x at' kind' m).made) env_is ∙ ap (λ (p : Place). (plain env p kind' m).made) at_is)
      ∙ ap (λ (k : StmtKind). plain env at k m) (sym is)

  pub at_local : (env' : Env) (at' : Place) (kind : StmtKind) (t : CType) (x : List ℕ) (e : Option Expr) (type : Ty) (to : ℕ) (scope : List (Local ℕ)) (m1 : Made) → env' ≡ env → at' ≡ at → kind ≡ Declare t x e
      → scope ≡ record { name = x; type = type; what = to } ∷ env.scope → type ≡ declared t → to ≡ length m.slots
      → m1 ≡ (plain env' at' (Declare t x e) m).made → seen_behind scope m1 ≡ plain env at kind m
  at_local env' at' kind t x e type to scope m1 env_is at_is is scope_is type_is to_is given =
      ap (λ s. seen_behind s m1) (scope_is ∙ ap (λ ty. record { name = x; type = ty; what = to } ∷ env.scope) type_is ∙ ap (λ n. record { name = x; type = declared t; what = n } ∷ env.scope) to_is)
      ∙ ap (seen_behind (plain env at (Declare t x e) m).scope) (given ∙ ap (λ (y : Env). (plain y at' (Declare t x e) m).made) env_is ∙ ap (λ (p : Place). (plain env p (Declare t x e) m).made) at_is)
      ∙ ap (λ (k : StmtKind). plain env at k m) (sym is)

  pub at_block : (kind : StmtKind) (body ss : List Stmt) (scope : List (Local ℕ)) (m1 : Made) → kind ≡ Block body → ss ≡ body → scope ≡ env.scope → m1 ≡ plain_all env ss m → seen_behind scope m1 ≡ plain env at kind m
  at_block kind body ss scope m1 is same scope_is given =
      ap (λ s. seen_behind s m1) scope_is ∙ ap (behind env) (given ∙ ap (λ (xs : List Stmt). plain_all env xs m) same) ∙ sym (plain_block env at body m) ∙ ap (λ (k : StmtKind). plain env at k m) (sym is)

  pub at_if : (kind : StmtKind) (arms as' : List Arm) (other : Option Stmt) (opens : List Open) (s1 s2 : List (Local ℕ)) (m1 m2 : Made) → kind ≡ If arms other → as' ≡ arms → s1 ≡ env.scope → s2 ≡ s1
      → ((otherwise : Made → Made) → closed at opens (otherwise m1) ≡ all_arms env at as' otherwise m) → m2 ≡ closed at opens (maybe (record env { scope = s1 }) other m1).made
      → seen_behind s2 m2 ≡ plain env at kind m
  at_if kind arms as' other opens s1 s2 m1 m2 is same s1_is s2_is opened m2_is =
      ap (λ s. seen_behind s m2) (s2_is ∙ s1_is)
      ∙ ap (behind env)
      (m2_is ∙ ap (λ s. closed at opens (maybe (record env { scope = s }) other m1).made) s1_is
      ∙ opened (λ k. (maybe env other k).made) ∙ ap (λ (xs : List Arm). all_arms env at xs (λ k. (maybe env other k).made) m) same)
      ∙ sym (plain_if env at arms other m) ∙ ap (λ (k : StmtKind). plain env at k m) (sym is)

  pub at_for : (env' : Env) (at' : Place) (kind : StmtKind) (first : Option Stmt) (e : Option Expr) (third : Option Stmt) (body b : Stmt) (s1 s2 s3 : List (Local ℕ)) (m1 m2 m3 m4 m5 : Made) (v : PExpr) (outer head : List PStmt)
      → kind ≡ For first e third body → b ≡ body → seen_behind s1 m1 ≡ maybe env first m
      → env' ≡ record env { scope = s1 } → at' ≡ at → valued v (record { slots = m2.slots; front = head }) ≡ condition env' at' e m1.slots → outer ≡ m1.front → m2 ≡ fresh m2.slots
      → m3 ≡ (one (record env { scope = s1 }) b m2).made → s2 ≡ s1 → m4 ≡ (maybe (record env { scope = s2 }) third m3).made → s3 ≡ env.scope
      → m5 ≡ then_stands at (WhileP head v m4.front) (record { slots = m4.slots; front = outer }) → seen_behind s3 m5 ≡ plain env at kind m
  at_for env' at' kind first e third body b s1 s2 s3 m1 m2 m3 m4 m5 v outer head is same opened env_is at_is cond_is outer_is m2_is m3_is s2_is m4_is s3_is m5_is =
      let inner = record env { scope = s1 } in
      let last : List PStmt → Made → Behind = λ o x. behind env (then_stands at (WhileP head v x.front) (record { slots = x.slots; front = o })) in
      let turn : Valued → Behind = λ c. behind env (looped at c (maybe inner third (one inner body (fresh c.made.slots)).made).made m1) in
      ap (λ s. seen_behind s m5) s3_is
      ∙ ap (behind env) m5_is
      ∙ ap (λ o. last o m4) outer_is
      ∙ ap (last m1.front)
      (m4_is ∙ ap (λ s. (maybe (record env { scope = s }) third m3).made) s2_is
      ∙ ap (λ (x : Made). (maybe inner third x).made) (m3_is ∙ ap (λ (x : Stmt). (one inner x m2).made) same ∙ ap (λ (x : Made). (one inner body x).made) m2_is))
      ∙ ap turn (cond_is ∙ ap (λ (x : Env). condition x at' e m1.slots) env_is ∙ ap (λ (p : Place). condition inner p e m1.slots) at_is)
      ∙ ap (turned env at e (λ inner'. maybe inner' third) (λ inner'. one inner' body)) opened
      ∙ sym (plain_for env at first e third body m) ∙ ap (λ (k : StmtKind). plain env at k m) (sym is)

  pub at_foreach : (env' : Env) (at' : Place) (kind : StmtKind) (index : List ℕ) (low high : Expr) (step : ℤ) (body b c : Stmt) (scope : List (Local ℕ)) (slot : ℕ) (from to : PExpr) (outer : List PStmt) (m1 m2 m3 : Made)
      → kind ≡ Foreach index low high step body → b ≡ body → c ≡ body → env' ≡ env → at' ≡ at → slot ≡ length m.slots → from ≡ (low_end env' at' index low high m).value
      → valued to (record { slots = m1.slots; front = outer }) ≡ flat_of env' at' high (low_end env' at' index low high m).made → m1 ≡ fresh m1.slots
      → scope ≡ env.scope → m2 ≡ (one (knows env index slot Number) b m1).made
      → m3 ≡ then_stands at (ForeachP slot from to step (branch c.at m2)) (record { slots = m2.slots; front = outer }) → seen_behind scope m3 ≡ plain env at kind m
  at_foreach env' at' kind index low high step body b c scope slot from to outer m1 m2 m3 is same same_too env_is at_is slot_is from_is to_is m1_is scope_is m2_is m3_is =
      let last : ℕ → PExpr → Valued → Place → Made → Behind = λ n f t p x. behind env (then_holds at (ForeachP n f t.value step (branch p x)) t.made x.slots) in
      let whole : Env → Place → Behind = λ x p.
      let f = low_end x p index low high m in
      let t = flat_of x p high f.made in
      last (length m.slots) f.value t body.at (one (knows env index (length m.slots) Number) body (fresh t.made.slots)).made in
      let t' = valued to (record { slots = m1.slots; front = outer }) in
      ap (λ s. seen_behind s m3) scope_is ∙ ap (behind env) m3_is
      ∙ ap (λ (x : Stmt). last slot from t' x.at m2) same_too
      ∙ ap (last slot from t' body.at) (m2_is ∙ ap (λ (x : Stmt). (one (knows env index slot Number) x m1).made) same ∙ ap (λ (x : Made). (one (knows env index slot Number) body x).made) m1_is)
      ∙ ap (λ n. last n from t' body.at (one (knows env index n Number) body (fresh m1.slots)).made) slot_is
      ∙ ap (λ f. last (length m.slots) f t' body.at (one (knows env index (length m.slots) Number) body (fresh m1.slots)).made) from_is
      ∙ ap (λ (t : Valued). last (length m.slots) (low_end env' at' index low high m).value t body.at (one (knows env index (length m.slots) Number) body (fresh t.made.slots)).made) to_is
      ∙ ap (λ (x : Env). whole x at') env_is ∙ ap (whole env) at_is
      ∙ sym (plain_foreach env at index low high step body m) ∙ ap (λ (k : StmtKind). plain env at k m) (sym is)

  pub at_while : (env' : Env) (at' : Place) (e : Expr) (body : Stmt) (m1 m2 m3 m4 m5 : Made) (v : PExpr) (outer head : List PStmt) → outer ≡ m.front → m1 ≡ record { slots = m.slots; front = [] }
      → env' ≡ env → at' ≡ at → valued v m2 ≡ flat_of env' at' e m1 → head ≡ m2.front → m3 ≡ record { slots = m2.slots; front = [] } → m4 ≡ (one env body m3).made
      → m5 ≡ then_stands at (WhileP head v m4.front) (record { slots = m4.slots; front = outer }) → m5 ≡ (plain env at (While e body) m).made
  at_while env' at' e body m1 m2 m3 m4 m5 v outer head outer_is m1_is env_is at_is cond_is head_is m3_is m4_is m5_is =
      let last : List PStmt → List PStmt → Made → Made = λ o h x. then_stands at (WhileP h v x.front) (record { slots = x.slots; front = o }) in
      let turn : Valued → Made = λ c. looped at c (one env body (fresh c.made.slots)).made m in
      m5_is ∙ ap (λ o. last o head m4) outer_is ∙ ap (λ h. last m.front h m4) head_is
      ∙ ap (last m.front m2.front) (m4_is ∙ ap (λ (x : Made). (one env body x).made) m3_is)
      ∙ ap turn (cond_is ∙ ap (λ (x : Env). flat_of x at' e m1) env_is ∙ ap (λ (p : Place). flat_of env p e m1) at_is ∙ ap (flat_of env at e) m1_is)
      ∙ sym (ap (λ (b : Behind). b.made) (plain_while env at e body m))

-- some branches, and then others
abbrev pub beside : List Branch → Branches → Branches
beside list b = record { list = list ++ b.list; slots = b.slots }

module _ (env : Env) where
  pub branch_more : (list : List Branch) (blocks : List Stmt) (i : ℕ) (s : Stmt) (m m1 : Made) (new : Branch) (last : Branches) → i < length blocks → s ≡ get_or blocks i s → m ≡ fresh m.slots
      → beside list (all_branches env (drop i blocks) m.slots) ≡ last → m1 ≡ (one env s m).made → new ≡ branch s.at m1
      → beside (list ++ new ∷ []) (all_branches env (drop (i + 1) blocks) m1.slots) ≡ last
  branch_more list blocks i s m m1 new last lt is empty so_far m1_is new_is =
      let rest = drop (i + 1) blocks in
      let more : Made → Branches = λ x. beside (list ++ branch s.at x ∷ []) (all_branches env rest x.slots) in
      let it = (one env s (fresh m.slots)).made in
      ap (λ b. beside (list ++ b ∷ []) (all_branches env rest m1.slots)) new_is
      ∙ ap more (m1_is ∙ ap (λ (x : Made). (one env s x).made) empty)
      ∙ ap (λ bs. record { list = bs; slots = (all_branches env rest it.slots).slots }) (append_assoc list (branch s.at it ∷ []) (all_branches env rest it.slots).list)
      ∙ ap (λ (y : Stmt). beside list (all_branches env (y ∷ rest) m.slots)) is
      ∙ ap (λ (ys : List Stmt). beside list (all_branches env ys m.slots)) (sym (drop_more blocks i s lt))
      ∙ so_far

  pub branches_end : (list : List Branch) (blocks : List Stmt) (i : ℕ) (slots : List Slot) (last : Branches) → length blocks ≤ i → beside list (all_branches env (drop i blocks) slots) ≡ last → record { list = list; slots = slots } ≡ last
  branches_end list blocks i slots last ge so_far =
      ap (λ bs. record { list = bs; slots = slots }) (sym (append-nil list)) ∙ ap (λ (ys : List Stmt). beside list (all_branches env ys slots)) (sym (drop_all i blocks ge)) ∙ so_far

-- one arm more is begun
closed_push : (at : Place) (opens : List Open) (o : Open) (m : Made) → closed at (opens ++ o ∷ []) m ≡ closed at opens (shut at o m)
closed_push at [] o m = refl
closed_push at (p ∷ opens) o m = ap (shut at p) (closed_push at opens o m)

pub arm_more : (env : Env) (at : Place) (otherwise : Made → Made) (opens : List Open) (arms : List Arm) (i : ℕ) (arm : Arm) (m m1 m2 m3 m4 : Made) (o : Open) (last : Made) → i < length arms → arm ≡ get_or arms i arm
    → closed at opens (all_arms env at (drop i arms) otherwise m) ≡ last
    → valued o.cond m1 ≡ flat_of env at (out-Arm arm).cond m → o.outer ≡ m1.front → m2 ≡ record { slots = m1.slots; front = [] }
    → m3 ≡ (one env (out-Arm arm).body m2).made → o.held ≡ m3.front → m4 ≡ record { slots = m3.slots; front = [] }
    → closed at (opens ++ o ∷ []) (all_arms env at (drop (i + 1) arms) otherwise m4) ≡ last
arm_more env at otherwise opens arms i arm m m1 m2 m3 m4 o last lt is so_far cond_is outer_is m2_is m3_is held_is m4_is =
    let rest = drop (i + 1) arms in
    let go = all_arms env at rest otherwise in
    let shutting : PExpr → List PStmt → List PStmt → Made → Made = λ c h f x. shut at (record { cond = c; held = h; outer = f }) x in
    let from : Valued → Made = λ c.
    let held = (one env (out-Arm arm).body (fresh c.made.slots)).made in shutting c.value held.front c.made.front (go (fresh held.slots)) in
    closed_push at opens o (go m4)
    ∙ ap (closed at opens)
    (ap (λ f. shutting o.cond o.held f (go m4)) outer_is
    ∙ ap (λ h. shutting o.cond h m1.front (go m4)) held_is
    ∙ ap (λ x. shutting o.cond m3.front m1.front (go x)) m4_is
    ∙ ap (λ (x : Made). shutting o.cond x.front m1.front (go (fresh x.slots))) (m3_is ∙ ap (λ (x : Made). (one env (out-Arm arm).body x).made) m2_is)
    ∙ ap from cond_is)
    ∙ ap (λ (a : Arm). closed at opens (all_arms env at (a ∷ rest) otherwise m)) is
    ∙ ap (λ (as' : List Arm). closed at opens (all_arms env at as' otherwise m)) (sym (drop_more arms i arm lt))
    ∙ so_far

pub arms_end : (env : Env) (at : Place) (otherwise : Made → Made) (opens : List Open) (arms : List Arm) (i : ℕ) (m last : Made) → length arms ≤ i → closed at opens (all_arms env at (drop i arms) otherwise m) ≡ last → closed at opens (otherwise m) ≡ last
arms_end env at otherwise opens arms i m last ge so_far = ap (λ (as' : List Arm). closed at opens (all_arms env at as' otherwise m)) (sym (drop_all i arms ge)) ∙ so_far

-- the last arm that is begun is ended
pub arm_ended : (at : Place) (opens rest : List Open) (o : Open) (m last : Made) → closed at opens m ≡ last → opens ≡ rest ++ o ∷ [] → closed at rest (shut at o m) ≡ last
arm_ended at opens rest o m last so_far is = sym (closed_push at rest o m) ∙ ap (λ os. closed at os m) (sym is) ∙ so_far

-- one statement more of a list
pub statement_more : (env : Env) (body : List Stmt) (i : ℕ) (s : Stmt) (m last : Made) → i < length body → s ≡ get_or body i s → plain_all env (drop i body) m ≡ last
    → plain_all (record env { scope = (one env s m).scope }) (drop (i + 1) body) (one env s m).made ≡ last
statement_more env body i s m last lt is so_far =
    ap (λ (y : Stmt). plain_all env (y ∷ drop (i + 1) body) m) is ∙ ap (λ (ys : List Stmt). plain_all env ys m) (sym (drop_more body i s lt)) ∙ so_far

pub statements_end : (env : Env) (body : List Stmt) (i : ℕ) (m last : Made) → length body ≤ i → plain_all env (drop i body) m ≡ last → m ≡ last
statements_end env body i m last ge so_far = ap (λ (ys : List Stmt). plain_all env ys m) (sym (drop_all i body ge)) ∙ so_far

-- what is so where something went well, from two facts
pub both_ok : {X Y : Type 0} (r : Result X Y) (P Q R : X → Type 0) → ((x : X) → P x → Q x → R x) → IfOk r P → IfOk r Q → IfOk r R
both_ok (Ok x) P Q R go p q = go x p q
both_ok (Err e) P Q R go p q = tt

pub return_stays : (env : Env) (at : Place) (value : Option Expr) (m : Made) → (plain env at (Return value) m).scope ≡ env.scope
return_stays env at None m = refl
return_stays env at (Some e) m = refl

pub grows_maybe : (env : Env) (first : Option Stmt) (m : Made) → length env.scope ≤ length (maybe env first m).scope
grows_maybe env None m = omega arith
grows_maybe env (Some b) m = grows env b.at b.kind m

pub kept_maybe : (env : Env) (first : Option Stmt) (m : Made) → drop (length (maybe env first m).scope - length env.scope) (maybe env first m).scope ≡ env.scope
kept_maybe env None m = all_there env.scope
kept_maybe env (Some b) m = kept env b.at b.kind m (length env.scope) (omega arith) ∙ all_there env.scope

-- the blocks of a `cobegin` are all there
pub at_cobegin : (env : Env) (at : Place) (m m1 m2 : Made) (blocks : List Stmt) (list : List Branch) (slots : List Slot) (outer : List PStmt) → m2 ≡ then_stands at (CobeginP list) m1 → m1 ≡ record { slots = slots; front = outer } → outer ≡ m.front
    → record { list = list; slots = slots } ≡ all_branches env blocks m.slots → m2 ≡ (plain env at (Cobegin blocks) m).made
at_cobegin env at m m1 m2 blocks list slots outer m2_is m1_is outer_is all =
    let it : Branches → Made = λ b. then_holds at (CobeginP b.list) m b.slots in
    m2_is ∙ ap (then_stands at (CobeginP list)) m1_is ∙ ap (λ f. then_stands at (CobeginP list) (record { slots = slots; front = f })) outer_is
    ∙ ap it all ∙ sym (ap (λ (b : Behind). b.made) (plain_cobegin env at blocks m))
