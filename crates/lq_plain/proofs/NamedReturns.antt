-- A statement that breaks no name rule has no `return` in a parallel statement.
use Rattle.std.proofs.Common.{◌≡◌, ◌∷◌, ◌++◌, [], Bool, true, false, List, refl, subst}
use denote.Hole.Carrier
use Rattle.std.specs.List.{AllByRecursion}
use Rattle.lq_tree.specs.declared.place.Place.{Place}
use Rattle.lq_tree.specs.declared.stmt.Stmt.{Stmt}
use Rattle.lq_tree.specs.declared.stmt.Arm.{Arm, Arm', out-Arm}
use Rattle.lq_tree.specs.declared.stmt.StmtKind.{StmtKind, out-StmtKind, Block', Local, If', While', For', Return, Cobegin', Foreach', Row_of-Stmt, end_of-Stmt, more_of-Stmt, Row_of-Arm, end_of-Arm, more_of-Arm, None', Some', Held-StmtKind-If-1}
use Rattle.lq_names.specs.Scopes.{Site, in_parallel}
use Rattle.lq_names.specs.Sites.{sites, sites_row, sites_each, sites_arms, sites_arm, sites_held, sites_list, after, after_row, after_first, iteration}
use Rattle.lq_plain.proofs.NamedStatements.{AreClean, both_clean, first_clean}
use Rattle.lq_plain.proofs.Outside.{MayReturn, ReturnsOutside, AllReturnOutside, ArmsReturnOutside, ArmReturnsOutside, HeldReturnsOutside}

-- a statement behind another stands in the same parallel statement
beside : (s : Site) (kind : StmtKind) → (after s kind).parallel ≡ s.parallel
beside s (Local type name e) = refl
beside s _ = refl

beside_row : {n : _} (s : Site) (row : Row_of-Stmt n) → (after_row s row).parallel ≡ s.parallel
beside_row s end_of-Stmt = refl
beside_row s (more_of-Stmt at kind rest) = beside s kind

beside_first : (s : Site) (held : Held-StmtKind-If-1) → (after_first s held).parallel ≡ s.parallel
beside_first s None' = refl
beside_first s (Some' q first) = beside_row s first

may_return : (parallel : Bool) → parallel ≡ false → MayReturn parallel
may_return true h = absurd cc
may_return false h = tt

mutual
  unfolding sites sites_row sites_each sites_arms sites_arm sites_held out-StmtKind out-Arm denote.Hole.Carrier.out

  outside : (kind : StmtKind) (s : Site) (at : Place) → AreClean (sites s at kind) → ReturnsOutside s.parallel kind
  outside (Block' n body) s at clean = outside_row body s clean
  outside (If' n arms other) s at clean =
      let all = first_clean s at (If' n arms other) (sites_arms s arms ++ sites_held s other) clean in
      let parts = both_clean (sites_arms s arms) (sites_held s other) all.1 in
      (outside_arms arms s parts.0, outside_held other s parts.1)
  outside (While' e q body) s at clean = outside_row body s (first_clean s at (While' e q body) (sites_row s body) clean).1
  outside (For' first e third q body) s at clean =
      let inner = after_first s first in
      let start = both_clean (sites_held s first) _ clean in
      let all = first_clean inner at (For' first e third q body) (sites_held inner third ++ sites_row inner body) start.1 in
      let parts = both_clean (sites_held inner third) (sites_row inner body) all.1 in (
        outside_held first s start.0,
        subst (λ (parallel : Bool). HeldReturnsOutside parallel third) (beside_first s first) (outside_held third inner parts.0),
        subst (λ (parallel : Bool). AllReturnOutside parallel body) (beside_first s first) (outside_row body inner parts.1),
      )
  outside (Return e) s at clean = may_return s.parallel ((first_clean s at (Return e) [] clean).0).returns
  outside (Cobegin' n blocks) s at clean = outside_each blocks (in_parallel s) clean
  outside (Foreach' index low high step q body) s at clean =
      outside_row body (iteration s index) (first_clean s at (Foreach' index low high step q body) (sites_row (iteration s index) body) clean).1
  outside _ s at clean = tt

  outside_row : {n : _} (row : Row_of-Stmt n) (s : Site) → AreClean (sites_row s row) → AllReturnOutside s.parallel row
  outside_row end_of-Stmt s clean = tt
  outside_row (more_of-Stmt at kind rest) s clean =
      let parts = both_clean (sites s at kind) (sites_row (after s kind) rest) clean in
      (outside kind s at parts.0, subst (λ (parallel : Bool). AllReturnOutside parallel rest) (beside s kind) (outside_row rest (after s kind) parts.1))

  outside_each : {n : _} (row : Row_of-Stmt n) (s : Site) → AreClean (sites_each s row) → AllReturnOutside s.parallel row
  outside_each end_of-Stmt s clean = tt
  outside_each (more_of-Stmt at kind rest) s clean =
      let parts = both_clean (sites s at kind) (sites_each s rest) clean in
      (outside kind s at parts.0, outside_each rest s parts.1)

  outside_arms : {n : _} (row : Row_of-Arm n) (s : Site) → AreClean (sites_arms s row) → ArmsReturnOutside s.parallel row
  outside_arms end_of-Arm s clean = tt
  outside_arms (more_of-Arm arm rest) s clean =
      let parts = both_clean (sites_arm s arm) (sites_arms s rest) clean in
      (outside_arm arm s parts.0, outside_arms rest s parts.1)

  outside_arm : (arm : Arm) (s : Site) → AreClean (sites_arm s arm) → ArmReturnsOutside s.parallel arm
  outside_arm (Arm' e q body) s clean = outside_row body s clean

  outside_held : (held : Held-StmtKind-If-1) (s : Site) → AreClean (sites_held s held) → HeldReturnsOutside s.parallel held
  outside_held None' s clean = tt
  outside_held (Some' q body) s clean = outside_row body s clean

-- the body of a function
pub outside_list : (body : List Stmt) (s : Site) → AreClean (sites_list s body) → AllByRecursion (λ (stmt : Stmt). ReturnsOutside s.parallel stmt.kind) body
outside_list [] s clean = tt
outside_list (stmt ∷ rest) s clean =
    let parts = both_clean (sites s stmt.at stmt.kind) (sites_list (after s stmt.kind) rest) clean in
    (outside stmt.kind s stmt.at parts.0, subst (λ (parallel : Bool). AllByRecursion (λ (stmt : Stmt). ReturnsOutside parallel stmt.kind) rest) (beside s stmt.kind) (outside_list rest (after s stmt.kind) parts.1))
