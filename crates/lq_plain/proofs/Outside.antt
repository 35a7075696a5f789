-- No `return` stands in a parallel statement; by recursion on the tree.
use Rattle.std.proofs.Common.{Bool, true, false}
use Rattle.std.specs.List.{AllByRecursion}
use Rattle.lq_tree.specs.declared.stmt.StmtKind.{StmtKind, Block', If', While', For', Return, Cobegin', Foreach', Row_of-Stmt, end_of-Stmt, more_of-Stmt, Row_of-Arm, end_of-Arm, more_of-Arm, None', Some', Held-StmtKind-If-1}
use Rattle.lq_tree.specs.declared.stmt.Stmt.{Stmt}
use Rattle.lq_tree.specs.declared.stmt.Arm.{Arm, Arm'}
use Rattle.lq_tree.specs.declared.program.Func.{Func}

-- here a function may return
abbrev pub MayReturn : (parallel : Bool) → Type 0
MayReturn true = ⊥
MayReturn false = Unit {0}

-- a statement in a parallel statement or not
abbrev mutual
  pub ReturnsOutside : (parallel : Bool) → StmtKind → Type 0
  ReturnsOutside parallel (Return e) = MayReturn parallel
  ReturnsOutside parallel (Block' n body) = AllReturnOutside parallel body
  ReturnsOutside parallel (If' n arms other) = ArmsReturnOutside parallel arms × HeldReturnsOutside parallel other
  ReturnsOutside parallel (While' e q body) = AllReturnOutside parallel body
  ReturnsOutside parallel (For' first e third q body) = HeldReturnsOutside parallel first × HeldReturnsOutside parallel third × AllReturnOutside parallel body
  ReturnsOutside parallel (Cobegin' n blocks) = AllReturnOutside true blocks
  ReturnsOutside parallel (Foreach' index low high step q body) = AllReturnOutside true body
  ReturnsOutside parallel _ = Unit {0}

  pub AllReturnOutside : {n : _} → Bool → Row_of-Stmt n → Type 0
  AllReturnOutside parallel end_of-Stmt = Unit {0}
  AllReturnOutside parallel (more_of-Stmt at kind rest) = ReturnsOutside parallel kind × AllReturnOutside parallel rest

  pub ArmsReturnOutside : {n : _} → Bool → Row_of-Arm n → Type 0
  ArmsReturnOutside parallel end_of-Arm = Unit {0}
  ArmsReturnOutside parallel (more_of-Arm arm rest) = ArmReturnsOutside parallel arm × ArmsReturnOutside parallel rest

  pub ArmReturnsOutside : Bool → Arm → Type 0
  ArmReturnsOutside parallel (Arm' e q body) = AllReturnOutside parallel body

  pub HeldReturnsOutside : Bool → Held-StmtKind-If-1 → Type 0
  HeldReturnsOutside parallel None' = Unit {0}
  HeldReturnsOutside parallel (Some' q body) = AllReturnOutside parallel body

-- the body of a function
abbrev pub BodyReturnsOutside : Func → Type 0
BodyReturnsOutside f = AllByRecursion (λ (s : Stmt). ReturnsOutside false s.kind) f.body
