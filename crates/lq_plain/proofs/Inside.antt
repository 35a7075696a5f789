-- In a parallel statement no local is assigned that is declared outside it; by recursion on the tree.
use Rattle.std.proofs.Common.{◌≡◌, true, List, [], ◌∷◌}
use Rattle.lq_tree.specs.declared.stmt.StmtKind.{StmtKind, Block', Set, If', While', For', Cobegin', Foreach', Row_of-Stmt, end_of-Stmt, more_of-Stmt, Row_of-Arm, end_of-Arm, more_of-Arm, None', Some', Held-StmtKind-If-1}
use Rattle.lq_tree.specs.declared.stmt.Stmt.{Stmt}
use Rattle.lq_tree.specs.declared.stmt.Arm.{Arm, Arm'}
use Rattle.lq_tree.specs.Types.{Variable, is_in_scope}
use Rattle.lq_plain.proofs.Regular.{variables_behind, variables_behind_held}

-- a statement where these variables are declared inside the innermost parallel statement
abbrev mutual
  pub AssignsInside : List Variable → StmtKind → Type 0
  AssignsInside inner (Set name e) = is_in_scope inner name ≡ true
  AssignsInside inner (Block' n body) = AllAssignInside inner body
  AssignsInside inner (If' n arms other) = ArmsAssignInside inner arms × HeldAssignsInside inner other
  AssignsInside inner (While' e q body) = AllAssignInside inner body
  AssignsInside inner (For' first e third q body) =
      HeldAssignsInside inner first × HeldAssignsInside (variables_behind_held inner first) third × AllAssignInside (variables_behind_held inner first) body
  AssignsInside inner (Cobegin' n blocks) = EachAssignsInside [] blocks
  AssignsInside inner (Foreach' index low high step q body) = AllAssignInside [] body
  AssignsInside inner _ = Unit {0}

  -- one statement after another
  pub AllAssignInside : {n : _} → List Variable → Row_of-Stmt n → Type 0
  AllAssignInside inner end_of-Stmt = Unit {0}
  AllAssignInside inner (more_of-Stmt at kind rest) = AssignsInside inner kind × AllAssignInside (variables_behind inner kind) rest

  -- blocks beside each other
  pub EachAssignsInside : {n : _} → List Variable → Row_of-Stmt n → Type 0
  EachAssignsInside inner end_of-Stmt = Unit {0}
  EachAssignsInside inner (more_of-Stmt at kind rest) = AssignsInside inner kind × EachAssignsInside inner rest

  pub ArmsAssignInside : {n : _} → List Variable → Row_of-Arm n → Type 0
  ArmsAssignInside inner end_of-Arm = Unit {0}
  ArmsAssignInside inner (more_of-Arm arm rest) = ArmAssignsInside inner arm × ArmsAssignInside inner rest

  pub ArmAssignsInside : List Variable → Arm → Type 0
  ArmAssignsInside inner (Arm' e q body) = AllAssignInside inner body

  pub HeldAssignsInside : List Variable → Held-StmtKind-If-1 → Type 0
  HeldAssignsInside inner None' = Unit {0}
  HeldAssignsInside inner (Some' q body) = AllAssignInside inner body

-- the body of a function
abbrev pub BodyAssignsInside : List Variable → List Stmt → Type 0
BodyAssignsInside inner [] = Unit {0}
BodyAssignsInside inner (s ∷ body) = AssignsInside inner s.kind × BodyAssignsInside (variables_behind inner s.kind) body
