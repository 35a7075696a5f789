-- A statement that breaks no name rule assigns in a parallel statement no local that is declared outside it.
use Rattle.std.proofs.Common.{◌≡◌, ℕ, ◌≤◌, Bool, true, false, not, ◌&&◌, List, [], ◌∷◌, ◌++◌, length, drop, map, refl, ap, ◌∙◌, subst, arith, length-append}
use denote.Hole.Carrier
use Rattle.std.specs.List.{flat_map, AllByRecursion}
use Rattle.std.proofs.lemmas.List.{drop-append-le, drop_all}
use Rattle.lq_tree.specs.declared.place.Place.{Place}
use Rattle.lq_tree.specs.declared.program.Func.{Func}
use Rattle.lq_tree.specs.declared.program.Program.{Program}
use Rattle.lq_tree.specs.declared.stmt.Stmt.{Stmt}
use Rattle.lq_tree.specs.declared.stmt.Arm.{Arm, Arm', out-Arm}
use Rattle.lq_tree.specs.declared.stmt.StmtKind.{StmtKind, out-StmtKind, Block', Local, Set, If', While', For', Cobegin', Foreach', Row_of-Stmt, end_of-Stmt, more_of-Stmt, Row_of-Arm, end_of-Arm, more_of-Arm, None', Some', Held-StmtKind-If-1}
use Rattle.lq_tree.specs.Types.{Variable, Number, declared, is_in_scope}
use Rattle.lq_names.specs.declared.fault.Fault.{Fault}
use Rattle.lq_names.specs.declared.effects.Effect.TheVariants.{Prints, Allocates}
use Rattle.lq_names.specs.Broken.{IsBroken}
use Rattle.lq_names.specs.Scopes.{Site, declare, in_parallel}
use Rattle.lq_names.specs.Sites.{sites, sites_row, sites_each, sites_arms, sites_arm, sites_held, sites_list, after, after_row, after_first, iteration}
use Rattle.lq_names.specs.Faults.{Form, fault_at, placed_faults, own_rules, head_site, expression_rules, values, statement_rules, s1, s3, s4, s5, s6, s7, s8, s9, s10, s11}
use Rattle.lq_names.specs.Headers.{start, entry_rules, struct_faults, head_rules, with_name, body_site, parameter, function_faults, program_faults}
use Rattle.lq_plain.proofs.Regular.{variables_behind, variables_behind_row, variables_behind_held}
use Rattle.lq_plain.proofs.Inside.{AssignsInside, AllAssignInside, EachAssignsInside, ArmsAssignInside, ArmAssignsInside, HeldAssignsInside, BodyAssignsInside}
use Rattle.lq_plain.proofs.LeastSets.{least_set}
use Rattle.lq_plain.proofs.NamedExpressions.{first_kept, both_empty}
use Rattle.lq_plain.proofs.NamedStatements.{AreClean, both_clean, none_mapped, first_clean}
use Rattle.lq_plain.proofs.Named.{nothing_in}

-- these variables are declared inside the innermost parallel statement
record Inner (s : Site) (inner : List Variable) : Type 0 where
  is : drop s.outside s.scope ≡ inner
  fits : s.outside ≤ length s.scope

within_parallel : (s : Site) → Inner (in_parallel s) []
within_parallel s = record { is = drop_all (length s.scope) s.scope (omega arith); fits = omega arith }

-- behind the declaration of one variable more
pushed : (s : Site) (inner : List Variable) (v : Variable) → Inner s inner → Inner (record s { scope = s.scope ++ v ∷ [] }) (inner ++ v ∷ [])
pushed s inner v here = record {
  is = drop-append-le s.outside s.scope (v ∷ []) here.fits ∙ ap (λ (vs : List Variable). vs ++ v ∷ []) here.is;
  fits = omega (arith, length-append s.scope (v ∷ []), here.fits);
}

behind : (kind : StmtKind) (s : Site) (inner : List Variable) → Inner s inner → Inner (after s kind) (variables_behind inner kind)
behind (Local type name e) s inner here = pushed s inner (record { name = name; type = declared type }) here
behind _ s inner here = here

behind_row : {n : _} (row : Row_of-Stmt n) (s : Site) (inner : List Variable) → Inner s inner → Inner (after_row s row) (variables_behind_row inner row)
behind_row end_of-Stmt s inner here = here
behind_row (more_of-Stmt at kind rest) s inner here = behind kind s inner here

behind_held : (held : Held-StmtKind-If-1) (s : Site) (inner : List Variable) → Inner s inner → Inner (after_first s held) (variables_behind_held inner held)
behind_held None' s inner here = here
behind_held (Some' q first) s inner here = behind_row first s inner here

-- the rule that asks for it is kept, and the name is known
record Assigned (s : Site) (form : Form) : Type 0 where
  known : s3 s form ≡ false
  inside : s11 s form ≡ false

assigned : (s : Site) (at : Place) (kind : StmtKind) → placed_faults (record { site = s; at = at; kind = kind }) ≡ [] → Assigned s (out-StmtKind kind)
unfolding placed_faults
assigned s at kind h =
    let form = out-StmtKind kind in
    let all = both_empty (own_rules s form) (flat_map (expression_rules (head_site s form)) (values form)) (none_mapped (fault_at at) (statement_rules s form) h) in
    let a = first_kept (s1 form) 1 _ all.0 in
    let b = first_kept (s3 s form) 3 _ a.1 in
    let c = first_kept (s4 s form) 4 _ b.1 in
    let d = first_kept (s5 s form) 5 _ c.1 in
    let e = first_kept (s6 s form) 6 _ d.1 in
    let f = first_kept (s7 s form) 7 _ e.1 in
    let g = first_kept (s8 s form) 8 _ f.1 in
    let h = first_kept (s9 s form) 9 _ g.1 in
    let i = first_kept (s10 s form) 10 _ h.1 in
    let j = first_kept (s11 s form) 11 _ i.1 in
    record { known = b.0; inside = j.0 }

-- in scope, and not declared outside
inside_of : (known inner : Bool) → not known ≡ false → (known && not inner) ≡ false → inner ≡ true
inside_of known true there here = refl
inside_of true false there here = absurd cc
inside_of false false there here = absurd cc

mutual
  unfolding sites sites_row sites_each sites_arms sites_arm sites_held out-StmtKind out-Arm denote.Hole.Carrier.out

  inside : (kind : StmtKind) (s : Site) (at : Place) (inner : List Variable) → Inner s inner → AreClean (sites s at kind) → AssignsInside inner kind
  inside (Set name e) s at inner here clean =
      let kept = assigned s at (Set name e) (both_empty (placed_faults (record { site = s; at = at; kind = Set name e })) [] clean).0 in
      subst (λ (vs : List Variable). is_in_scope vs name ≡ true) here.is (inside_of (is_in_scope s.scope name) (is_in_scope (drop s.outside s.scope) name) kept.known kept.inside)
  inside (Block' n body) s at inner here clean = inside_row body s inner here clean
  inside (If' n arms other) s at inner here clean =
      let all = first_clean s at (If' n arms other) (sites_arms s arms ++ sites_held s other) clean in
      let parts = both_clean (sites_arms s arms) (sites_held s other) all.1 in
      (inside_arms arms s inner here parts.0, inside_held other s inner here parts.1)
  inside (While' e q body) s at inner here clean = inside_row body s inner here (first_clean s at (While' e q body) (sites_row s body) clean).1
  inside (For' first e third q body) s at inner here clean =
      let opened = after_first s first in
      let within = behind_held first s inner here in
      let start = both_clean (sites_held s first) _ clean in
      let all = first_clean opened at (For' first e third q body) (sites_held opened third ++ sites_row opened body) start.1 in
      let parts = both_clean (sites_held opened third) (sites_row opened body) all.1 in
      (inside_held first s inner here start.0, inside_held third opened _ within parts.0, inside_row body opened _ within parts.1)
  inside (Cobegin' n blocks) s at inner here clean = inside_each blocks (in_parallel s) [] (within_parallel s) clean
  inside (Foreach' index low high step q body) s at inner here clean =
      inside_row body (iteration s index) [] (within_parallel (declare s index Number)) (first_clean s at (Foreach' index low high step q body) (sites_row (iteration s index) body) clean).1
  inside _ s at inner here clean = tt

  inside_row : {n : _} (row : Row_of-Stmt n) (s : Site) (inner : List Variable) → Inner s inner → AreClean (sites_row s row) → AllAssignInside inner row
  inside_row end_of-Stmt s inner here clean = tt
  inside_row (more_of-Stmt at kind rest) s inner here clean =
      let parts = both_clean (sites s at kind) (sites_row (after s kind) rest) clean in
      (inside kind s at inner here parts.0, inside_row rest (after s kind) (variables_behind inner kind) (behind kind s inner here) parts.1)

  inside_each : {n : _} (row : Row_of-Stmt n) (s : Site) (inner : List Variable) → Inner s inner → AreClean (sites_each s row) → EachAssignsInside inner row
  inside_each end_of-Stmt s inner here clean = tt
  inside_each (more_of-Stmt at kind rest) s inner here clean =
      let parts = both_clean (sites s at kind) (sites_each s rest) clean in
      (inside kind s at inner here parts.0, inside_each rest s inner here parts.1)

  inside_arms : {n : _} (row : Row_of-Arm n) (s : Site) (inner : List Variable) → Inner s inner → AreClean (sites_arms s row) → ArmsAssignInside inner row
  inside_arms end_of-Arm s inner here clean = tt
  inside_arms (more_of-Arm arm rest) s inner here clean =
      let parts = both_clean (sites_arm s arm) (sites_arms s rest) clean in
      (inside_arm arm s inner here parts.0, inside_arms rest s inner here parts.1)

  inside_arm : (arm : Arm) (s : Site) (inner : List Variable) → Inner s inner → AreClean (sites_arm s arm) → ArmAssignsInside inner arm
  inside_arm (Arm' e q body) s inner here clean = inside_row body s inner here clean

  inside_held : (held : Held-StmtKind-If-1) (s : Site) (inner : List Variable) → Inner s inner → AreClean (sites_held s held) → HeldAssignsInside inner held
  inside_held None' s inner here clean = tt
  inside_held (Some' q body) s inner here clean = inside_row body s inner here clean

inside_list : (body : List Stmt) (s : Site) (inner : List Variable) → Inner s inner → AreClean (sites_list s body) → BodyAssignsInside inner body
inside_list [] s inner here clean = tt
inside_list (stmt ∷ rest) s inner here clean =
    let parts = both_clean (sites s stmt.at stmt.kind) (sites_list (after s stmt.kind) rest) clean in
    (inside stmt.kind s stmt.at inner here parts.0, inside_list rest (after s stmt.kind) (variables_behind inner stmt.kind) (behind stmt.kind s inner here) parts.1)

-- ---- functions

-- at first no parallel statement stands around a body
abbrev pub AssignsWithin : Func → Type 0
AssignsWithin f = BodyAssignsInside (map parameter f.params) f.body

module _ (p : Program) (prints allocates : List ℕ → Bool) where
  functions_inside : (funcs : List Func) (earlier : List (List ℕ)) → function_faults p prints allocates earlier funcs ≡ [] → AllByRecursion AssignsWithin funcs
  functions_inside [] earlier h = tt
  functions_inside (f ∷ rest) earlier h =
      let site = body_site p prints allocates f in
      let next = function_faults p prints allocates (with_name earlier f.name) rest in
      let behind_head = both_empty (map (fault_at f.at) (head_rules p earlier f)) (flat_map placed_faults (sites_list site f.body) ++ next) h in
      let body = both_empty (flat_map placed_faults (sites_list site f.body)) next behind_head.1 in
      (inside_list f.body site (map parameter f.params) (record { is = refl; fits = omega arith }) body.0, functions_inside rest (with_name earlier f.name) body.1)

pub inside_where_named : (p : Program) → ((fault : Fault) → IsBroken p fault → ⊥) → AllByRecursion AssignsWithin p.funcs
inside_where_named p named =
    let printing = least_set p Prints in
    let allocating = least_set p Allocates in
    let funcs = function_faults p printing.0 allocating.0 [] p.funcs in
    let none = nothing_in (program_faults p printing.0 allocating.0)
    (λ fault there. named fault (record { prints = printing.0; allocates = allocating.0; may_print = printing.1; may_allocate = allocating.1; told = there })) in
    let behind_entry = both_empty (map (fault_at start) (entry_rules p)) (struct_faults p [] p.structs ++ funcs) none in
    functions_inside p printing.0 allocating.0 p.funcs [] (both_empty (struct_faults p [] p.structs) funcs behind_entry.1).1
