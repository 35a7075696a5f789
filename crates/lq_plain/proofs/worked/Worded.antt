-- A plain tree whose nodes are made anew by the words of the plain form.
use Rattle.std.specs.Prelude.{List, [], ◌∷◌, map, Option, None, Some}
use Rattle.lq_tree.specs.declared.plain.PExpr.{PExpr, Num, Null, Slot, Neg, Not, Bin, Shift, IsNull, Neg', Not', Bin', Shift', IsNull', Row_of-PExpr, end_of-PExpr, more_of-PExpr}
use Rattle.lq_tree.specs.declared.plain.PKind.{PKind, Set, Load, Store, Calloc, Call, If, While, Cobegin, If', While', Cobegin', Foreach, Print, Return, Row_of-PStmt, end_of-PStmt, more_of-PStmt, Row_of-Branch, end_of-Branch, more_of-Branch}
use Rattle.lq_tree.specs.declared.plain.PStmt.{PStmt}
use Rattle.lq_tree.specs.declared.plain.Branch.{Branch, Branch', roll-Branch}
use Rattle.lq_tree.specs.declared.plain.PFunc.{PFunc}

-- expressions
abbrev mutual
  pub worded_expr : PExpr → PExpr
  worded_expr (Num n) = Num n
  worded_expr Null = Null
  worded_expr (Slot n) = Slot n
  worded_expr (Neg' p e) = Neg (worded_row e)
  worded_expr (Not' p e) = Not (worded_row e)
  worded_expr (Bin' op p a q b) = Bin op (worded_row a) (worded_row b)
  worded_expr (Shift' p a q n) = Shift (worded_row a) (worded_row n)
  worded_expr (IsNull' p e) = IsNull (worded_row e)

  -- the one expression of a box
  pub worded_row : {n : _} → Row_of-PExpr n → PExpr
  worded_row end_of-PExpr = Null
  worded_row (more_of-PExpr e rest) = worded_expr e

abbrev pub worded_option : Option PExpr → Option PExpr
worded_option None = None
worded_option (Some e) = Some (worded_expr e)

-- statements
abbrev mutual
  pub worded_kind : PKind → PKind
  worded_kind (Set to e) = Set to (worded_expr e)
  worded_kind (Load to base index field) = Load to base (worded_expr index) field
  worded_kind (Store base index field e) = Store base (worded_expr index) field (worded_expr e)
  worded_kind (Calloc to count type) = Calloc to (worded_expr count) type
  worded_kind (Call to function args) = Call to function (map worded_expr args)
  worded_kind (If' e n body m other) = If (worded_expr e) (worded_list body) (worded_list other)
  worded_kind (While' n head e m body) = While (worded_list head) (worded_expr e) (worded_list body)
  worded_kind (Cobegin' n blocks) = Cobegin (worded_branches blocks)
  worded_kind (Foreach index low high step branch) = Foreach index (worded_expr low) (worded_expr high) step (worded_branch branch)
  worded_kind (Print e) = Print (worded_expr e)
  worded_kind (Return e) = Return (worded_option e)

  pub worded_list : {n : _} → Row_of-PStmt n → List PStmt
  worded_list end_of-PStmt = []
  worded_list (more_of-PStmt at kind rest) = record { at = at; kind = worded_kind kind } ∷ worded_list rest

  pub worded_branch : Branch → Branch
  worded_branch (Branch' at n body) = roll-Branch (record { at = at; body = worded_list body })

  pub worded_branches : {n : _} → Row_of-Branch n → List Branch
  worded_branches end_of-Branch = []
  worded_branches (more_of-Branch branch rest) = worded_branch branch ∷ worded_branches rest

abbrev pub worded_all : List PStmt → List PStmt
worded_all [] = []
worded_all (s ∷ body) = record { at = s.at; kind = worded_kind s.kind } ∷ worded_all body

-- a function, but for its statements as it is
abbrev pub worded : PFunc → PFunc
worded f = record f { body = worded_all f.body }
