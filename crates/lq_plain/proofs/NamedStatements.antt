-- A statement that breaks no name rule and stores to places alone is regular.
use Rattle.std.proofs.Common.{◌≡◌, true, false, List, [], ◌∷◌, ◌++◌, length, map, Option, None, Some, IsTrue, refl, ap, sym, ◌∙◌, subst, rules}
use denote.Hole.Carrier
use Rattle.std.specs.List.{AllByRecursion, flat_map}
use Rattle.std.proofs.lemmas.Bool.{not-false, or_parts}
use Rattle.std.proofs.lemmas.Grind.{flat_map-append}
use Rattle.lq_tree.specs.declared.place.Place.{Place}
use Rattle.lq_tree.specs.declared.expr.Expr.{Expr}
use Rattle.lq_tree.specs.declared.program.Program.{Program}
use Rattle.lq_tree.specs.declared.stmt.Stmt.{Stmt}
use Rattle.lq_tree.specs.declared.stmt.Arm.{Arm, Arm', out-Arm}
use Rattle.lq_tree.specs.declared.stmt.StmtKind.{StmtKind, out-StmtKind, roll-StmtKind, the_lemmas, Empty, Block', Local, Set, Store, Call, If', While', For', Print, Return, Cobegin', Foreach', Row_of-Stmt, end_of-Stmt, more_of-Stmt, Row_of-Arm, end_of-Arm, more_of-Arm, None', Some', Held-StmtKind-If-1, items-the_row-Arm, items_hidden-the_row-Arm-1}
use Rattle.lq_tree.specs.declared.stmt.StmtKind.TheOpen as layer
use Rattle.lq_tree.specs.declared.stmt.StmtKind.TheVariants.{rolls-If}
use Rattle.lq_tree.specs.Types.{Variable, Number, declared, is_in_scope, function_of}
use Rattle.lq_tree.specs.Walk.{Form, condition, values, inside, within_row, within_arms, within_arm, within_held, statements}
use Rattle.lq_names.specs.Scopes.{Site, declare, in_parallel}
use Rattle.lq_names.specs.Rules.{miscounts, gives_nothing}
use Rattle.lq_names.specs.Sites.{Placed, sites, sites_row, sites_each, sites_arms, sites_arm, sites_held, sites_list, after, after_row, after_first, iteration}
use Rattle.lq_names.specs.Faults.{expression_rules, head_site, own_rules, statement_rules, placed_faults, fault_at, some_value, s1, s3, s4, s5, s6, s7, s8, s9, s10}
use Rattle.lq_plain.specs.Places.{stores_to_place}
use Rattle.lq_plain.proofs.Regular.{Takes, IsRegular, IsRegularOption, variables_behind, variables_behind_row, variables_behind_held, IsRegularStatement, AreRegularStatements, AreRegularBlocks, AreRegularArms, IsRegularArm, IsRegularHeld, IsRegularBody}
use Rattle.lq_plain.proofs.NamedTypes.{suits, AreTyped, typed_push, suits_declared, taken}
use Rattle.lq_plain.proofs.NamedExpressions.{first_kept, both_empty, sound}

-- ---- where a statement stands

-- a site of this program, where these variables are in scope, all of written types
record Stands (s : Site) (p : Program) (scope : List Variable) : Type 0 where
  pub in_program : s.program ≡ p
  pub in_scope : s.scope ≡ scope
  pub typed : AreTyped scope

within_parallel : (s : Site) (p : Program) (scope : List Variable) → Stands s p scope → Stands (in_parallel s) p scope
within_parallel s p scope stands = record { in_program = stands.in_program; in_scope = stands.in_scope; typed = stands.typed }

-- behind the declaration of one variable more
pushed : (s : Site) (p : Program) (scope : List Variable) (v : Variable) → suits v.type false ≡ true → Stands s p scope → Stands (record s { scope = s.scope ++ v ∷ [] }) p (scope ++ v ∷ [])
pushed s p scope v suits_it stands = record {
  in_program = stands.in_program;
  in_scope = ap (λ (vs : List Variable). vs ++ v ∷ []) stands.in_scope;
  typed = typed_push scope v stands.typed suits_it;
}

behind : (kind : StmtKind) (s : Site) (p : Program) (scope : List Variable) → Stands s p scope → Stands (after s kind) p (variables_behind scope kind)
behind (Local type name e) s p scope stands = pushed s p scope (record { name = name; type = declared type }) (suits_declared type) stands
behind _ s p scope stands = stands

behind_row : {n : _} (row : Row_of-Stmt n) (s : Site) (p : Program) (scope : List Variable) → Stands s p scope → Stands (after_row s row) p (variables_behind_row scope row)
behind_row end_of-Stmt s p scope stands = stands
behind_row (more_of-Stmt at kind rest) s p scope stands = behind kind s p scope stands

behind_held : (held : Held-StmtKind-If-1) (s : Site) (p : Program) (scope : List Variable) → Stands s p scope → Stands (after_first s held) p (variables_behind_held scope held)
behind_held None' s p scope stands = stands
behind_held (Some' q first) s p scope stands = behind_row first s p scope stands

-- ---- rules that aren't broken

-- no statement of these breaks a rule
abbrev pub AreClean : List Placed → Type 0
AreClean ps = flat_map placed_faults ps ≡ []

pub both_clean : (a b : List Placed) → AreClean (a ++ b) → AreClean a × AreClean b
both_clean a b h = both_empty _ _ (sym (flat_map-append placed_faults a b) ∙ h)

pub none_mapped : {A B : Type 0} (f : A → B) (xs : List A) → map f xs ≡ [] → xs ≡ []
none_mapped f [] h = refl
none_mapped f (x ∷ xs) h = cc

-- what a statement keeps, as far as it is asked for
pub record Kept (s : Site) (form : Form) : Type 0 where
  pub known : s3 s form ≡ false
  pub counts : s6 s form ≡ false
  pub returns : s10 s form ≡ false
  pub expressions : flat_map (expression_rules (head_site s form)) (values form) ≡ []

kept : (s : Site) (at : Place) (kind : StmtKind) → placed_faults (record { site = s; at = at; kind = kind }) ≡ [] → Kept s (out-StmtKind kind)
unfolding placed_faults
kept s at kind h =
    let form = out-StmtKind kind in
    let all = both_empty (own_rules s form) (flat_map (expression_rules (head_site s form)) (values form)) (none_mapped (fault_at at) (statement_rules s form) h) in
    let a = first_kept (s1 form) 1 _ all.0 in
    let b = first_kept (s3 s form) 3 _ a.1 in
    let c = first_kept (s4 s form) 4 _ b.1 in
    let d = first_kept (s5 s form) 5 _ c.1 in
    let e = first_kept (s6 s form) 6 _ d.1 in
    let f = first_kept (s7 s form) 7 _ e.1 in
    let g = first_kept (s8 s form) 8 _ f.1 in
    let h = first_kept (s9 s form) 9 _ g.1 in
    let i = first_kept (s10 s form) 10 _ h.1 in
    record { known = b.0; counts = e.0; returns = i.0; expressions = all.1 }

-- the first of several statements
pub first_clean : (s : Site) (at : Place) (kind : StmtKind) (rest : List Placed) → AreClean (record { site = s; at = at; kind = kind } ∷ rest) → Kept s (out-StmtKind kind) × AreClean rest
first_clean s at kind rest h =
    let all = both_empty (placed_faults (record { site = s; at = at; kind = kind })) (flat_map placed_faults rest) h in
    (kept s at kind all.0, all.1)

-- an expression at its site
regular_at : (s : Site) (p : Program) (scope : List Variable) → Stands s p scope → (e : Expr) → expression_rules s e ≡ [] → IsRegular p scope e
unfolding expression_rules
regular_at s p scope stands e h =
    let typed : AreTyped s.scope = subst AreTyped (sym stands.in_scope) stands.typed in
    subst (λ (vs : List Variable). IsRegular p vs e) stands.in_scope
    (subst (λ (q : Program). IsRegular q s.scope e) stands.in_program (sound s typed e h).0)

-- several
regular_all : (s : Site) (p : Program) (scope : List Variable) → Stands s p scope → (es : List Expr) → flat_map (expression_rules s) es ≡ [] → AllByRecursion (IsRegular p scope) es
regular_all s p scope stands [] h = tt
regular_all s p scope stands (e ∷ es) h =
    let all = both_empty (expression_rules s e) (flat_map (expression_rules s) es) h in
    (regular_at s p scope stands e all.0, regular_all s p scope stands es all.1)

-- an expression that may be missing, as the condition of a `for`
regular_condition : (s : Site) (p : Program) (scope : List Variable) → Stands s p scope → (first : Option Stmt) (e : Option Expr) (third : Option Stmt) (body : Stmt) → Kept s (layer.For first e third body) → IsRegularOption p scope e
regular_condition s p scope stands first None third body k = tt
regular_condition s p scope stands first (Some e) third body k = (regular_all s p scope stands (e ∷ []) k.expressions).0

-- ---- the arms of an `if`, as a list and as a row

abbrev arms_in : StmtKind → List Arm
arms_in (If' n row other) = items-the_row-Arm _ row
arms_in _ = []

roll_out : (kind : StmtKind) → roll-StmtKind (out-StmtKind kind) ≡ kind
roll_out kind = search (rules, the_lemmas)

pub arms_of : (kind : StmtKind) (arms : List Arm) (other : Option Stmt) → out-StmtKind kind ≡ layer.If arms other → arms_in kind ≡ arms
arms_of kind arms other is = ap arms_in (sym (roll_out kind) ∙ ap roll-StmtKind is ∙ rolls-If arms other) ∙ items_hidden-the_row-Arm-1 arms

-- ---- statements

-- each store of these goes to a place
abbrev pub AreStored : List Stmt → Type 0
AreStored ss = AllByRecursion (λ (s : Stmt). IsTrue (stores_to_place s.kind)) ss

both_stored : (a b : List Stmt) → AreStored (a ++ b) → AreStored a × AreStored b
both_stored [] b h = (tt, h)
both_stored (s ∷ a) b h = let all = both_stored a b h.1 in ((h.0, all.0), all.1)

mutual
  unfolding sites sites_row sites_each sites_arms sites_arm sites_held inside within_row within_arms within_arm within_held out-StmtKind out-Arm denote.Hole.Carrier.out

  regular : (kind : StmtKind) (s : Site) (at : Place) (p : Program) (scope : List Variable) → Stands s p scope → AreClean (sites s at kind) → IsTrue (stores_to_place kind) → AreStored (inside kind) → IsRegularStatement p scope kind
  regular Empty s at p scope stands clean here stored = tt
  regular (Block' n body) s at p scope stands clean here stored = regular_row body s p scope stands clean stored
  regular (Local type name None) s at p scope stands clean here stored = tt
  regular (Local type name (Some e)) s at p scope stands clean here stored =
      let k = (first_clean s at (Local type name (Some e)) [] clean).0 in
      (regular_all s p scope stands (e ∷ []) k.expressions).0
  regular (Set name e) s at p scope stands clean here stored =
      let k = (first_clean s at (Set name e) [] clean).0 in (
        subst (λ (vs : List Variable). is_in_scope vs name ≡ true) stands.in_scope (not-false (is_in_scope s.scope name) k.known),
        (regular_all s p scope stands (e ∷ []) k.expressions).0,
      )
  regular (Store into e) s at p scope stands clean here stored =
      let k = (first_clean s at (Store into e) [] clean).0 in
      let all = regular_all s p scope stands (into ∷ e ∷ []) k.expressions in
      (all.0, here, (all.1).0)
  regular (Call f args) s at p scope stands clean here stored =
      let k = (first_clean s at (Call f args) [] clean).0 in
      let found = function_of s.program.funcs f in (
        regular_all s p scope stands args k.expressions,
        subst (λ (q : Program). Takes (function_of q.funcs f) (length args)) stands.in_program
            (taken found (length args) k.known (or_parts (miscounts found (length args)) (some_value (gives_nothing s) (layer.Call f args)) k.counts).0).0,
      )
  regular (If' n arms other) s at p scope stands clean here stored =
      let all = first_clean s at (If' n arms other) (sites_arms s arms ++ sites_held s other) clean in
      let parts = both_clean (sites_arms s arms) (sites_held s other) all.1 in
      let within = both_stored (within_arms arms) (within_held other) stored in
      let conditions : flat_map (expression_rules s) (map condition (items-the_row-Arm _ arms)) ≡ [] =
      ap (λ (all : List Arm). flat_map (expression_rules s) (map condition all)) (arms_of (If' n arms other) _ _ refl) ∙ (all.0).expressions in
      (regular_arms arms s p scope stands conditions parts.0 within.0, regular_held other s p scope stands parts.1 within.1)
  regular (While' e q body) s at p scope stands clean here stored =
      let all = first_clean s at (While' e q body) (sites_row s body) clean in
      ((regular_all s p scope stands (e ∷ []) (all.0).expressions).0, regular_row body s p scope stands all.1 stored)
  regular (For' first e third q body) s at p scope stands clean here stored =
      let inner = after_first s first in
      let in_inner = behind_held first s p scope stands in
      let start = both_clean (sites_held s first) _ clean in
      let all = first_clean inner at (For' first e third q body) (sites_held inner third ++ sites_row inner body) start.1 in
      let parts = both_clean (sites_held inner third) (sites_row inner body) all.1 in
      let within = both_stored (within_held first ++ within_held third) (within_row body) stored in
      let held = both_stored (within_held first) (within_held third) within.0 in (
        regular_held first s p scope stands start.0 held.0,
        regular_condition inner p _ in_inner _ e _ _ all.0,
        regular_held third inner p _ in_inner parts.0 held.1,
        regular_row body inner p _ in_inner parts.1 within.1,
      )
  regular (Print e) s at p scope stands clean here stored =
      let k = (first_clean s at (Print e) [] clean).0 in
      (regular_all s p scope stands (e ∷ []) k.expressions).0
  regular (Return None) s at p scope stands clean here stored = tt
  regular (Return (Some e)) s at p scope stands clean here stored =
      let k = (first_clean s at (Return (Some e)) [] clean).0 in
      (regular_all s p scope stands (e ∷ []) k.expressions).0
  regular (Cobegin' n blocks) s at p scope stands clean here stored = regular_each blocks (in_parallel s) p scope (within_parallel s p scope stands) clean stored
  regular (Foreach' index low high step q body) s at p scope stands clean here stored =
      let all = first_clean s at (Foreach' index low high step q body) (sites_row (iteration s index) body) clean in
      let ends = regular_all (in_parallel s) p scope (within_parallel s p scope stands) (low ∷ high ∷ []) (all.0).expressions in
      let v : Variable = record { name = index; type = Number } in
      let inner = within_parallel (declare s index Number) p (scope ++ v ∷ []) (pushed s p scope v refl stands) in
      (ends.0, (ends.1).0, regular_row body (iteration s index) p (scope ++ v ∷ []) inner all.1 stored)

  -- one after another
  regular_row : {n : _} (row : Row_of-Stmt n) (s : Site) (p : Program) (scope : List Variable) → Stands s p scope → AreClean (sites_row s row) → AreStored (within_row row) → AreRegularStatements p scope row
  regular_row end_of-Stmt s p scope stands clean stored = tt
  regular_row (more_of-Stmt at kind rest) s p scope stands clean stored =
      let parts = both_clean (sites s at kind) (sites_row (after s kind) rest) clean in
      let within = both_stored (inside kind) (within_row rest) stored.1 in (
        regular kind s at p scope stands parts.0 stored.0 within.0,
        regular_row rest (after s kind) p (variables_behind scope kind) (behind kind s p scope stands) parts.1 within.1,
      )

  -- beside each other
  regular_each : {n : _} (row : Row_of-Stmt n) (s : Site) (p : Program) (scope : List Variable) → Stands s p scope → AreClean (sites_each s row) → AreStored (within_row row) → AreRegularBlocks p scope row
  regular_each end_of-Stmt s p scope stands clean stored = tt
  regular_each (more_of-Stmt at kind rest) s p scope stands clean stored =
      let parts = both_clean (sites s at kind) (sites_each s rest) clean in
      let within = both_stored (inside kind) (within_row rest) stored.1 in
      (regular kind s at p scope stands parts.0 stored.0 within.0, regular_each rest s p scope stands parts.1 within.1)

  -- the arms of an `if`
  regular_arms : {n : _} (row : Row_of-Arm n) (s : Site) (p : Program) (scope : List Variable) → Stands s p scope → flat_map (expression_rules s) (map condition (items-the_row-Arm n row)) ≡ []
      → AreClean (sites_arms s row) → AreStored (within_arms row) → AreRegularArms p scope row
  regular_arms end_of-Arm s p scope stands conditions clean stored = tt
  regular_arms (more_of-Arm arm rest) s p scope stands conditions clean stored =
      let all = both_empty (expression_rules s (condition arm)) (flat_map (expression_rules s) (map condition (items-the_row-Arm _ rest))) conditions in
      let parts = both_clean (sites_arm s arm) (sites_arms s rest) clean in
      let within = both_stored (within_arm arm) (within_arms rest) stored in
      (regular_arm arm s p scope stands all.0 parts.0 within.0, regular_arms rest s p scope stands all.1 parts.1 within.1)

  regular_arm : (arm : Arm) (s : Site) (p : Program) (scope : List Variable) → Stands s p scope → expression_rules s (condition arm) ≡ [] → AreClean (sites_arm s arm) → AreStored (within_arm arm) → IsRegularArm p scope arm
  regular_arm (Arm' e q body) s p scope stands kept_condition clean stored = (regular_at s p scope stands e kept_condition, regular_row body s p scope stands clean stored)

  -- a statement that may be missing
  regular_held : (held : Held-StmtKind-If-1) (s : Site) (p : Program) (scope : List Variable) → Stands s p scope → AreClean (sites_held s held) → AreStored (within_held held) → IsRegularHeld p scope held
  regular_held None' s p scope stands clean stored = tt
  regular_held (Some' q body) s p scope stands clean stored = regular_row body s p scope stands clean stored

regular_list : (body : List Stmt) (s : Site) (p : Program) (scope : List Variable) → Stands s p scope → AreClean (sites_list s body) → AreStored (statements body) → IsRegularBody p scope body
regular_list [] s p scope stands clean stored = tt
regular_list (stmt ∷ rest) s p scope stands clean stored =
    let parts = both_clean (sites s stmt.at stmt.kind) (sites_list (after s stmt.kind) rest) clean in
    let within = both_stored (inside stmt.kind) (statements rest) stored.1 in (
      regular stmt.kind s stmt.at p scope stands parts.0 stored.0 within.0,
      regular_list rest (after s stmt.kind) p (variables_behind scope stmt.kind) (behind stmt.kind s p scope stands) parts.1 within.1,
    )

-- the body of a function
pub regular_body : (s : Site) (body : List Stmt) → AreTyped s.scope → AreClean (sites_list s body) → AreStored (statements body) → IsRegularBody s.program s.scope body
regular_body s body typed clean stored = regular_list body s s.program s.scope (record { in_program = refl; in_scope = refl; typed = typed }) clean stored
