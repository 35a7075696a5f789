-- How many nodes a plain expression has and how deep it is, and how much the statements of a list come to, form by form.
use Rattle.std.proofs.Common.{◌≡◌, ℕ, suc, ◌+◌, ◌≤◌, max, List, [], ◌∷◌, ◌++◌, length, refl, ap, ap₂, ◌∙◌, arith}
use Rattle.std.specs.List.{AllByRecursion}
use Rattle.std.proofs.lemmas.List.{length-append}
use Rattle.lq_tree.specs.declared.expr.BinOp.{BinOp}
use Rattle.lq_tree.specs.declared.plain.PExpr.{PExpr, Neg, Not, Bin, Shift, IsNull, Row_of-PExpr, end_of-PExpr, more_of-PExpr, items-the_row-PExpr, items_hidden-the_row-PExpr-0}
use Rattle.lq_tree.specs.declared.plain.PExpr.TheBlock.{hidden-the_row-PExpr-0}
use Rattle.lq_tree.specs.declared.plain.PStmt.{PStmt}
use Rattle.lq_tree.specs.PlainShape.{depth, row_depth}
use Rattle.lq_tree.specs.PlainWalk.{nodes, nodes_row, values}

-- ---- expressions

-- how many nodes an expression has
abbrev pub size : PExpr → ℕ
size e = length (nodes e)

-- several expressions
abbrev pub sizes : List PExpr → ℕ
sizes [] = 0
sizes (e ∷ es) = size e + sizes es

-- the deepest of several
abbrev depths : List PExpr → ℕ
depths [] = 0
depths (e ∷ es) = max (depth e) (depths es)

size_items : {n : _} (row : Row_of-PExpr n) → length (nodes_row row) ≡ sizes (items-the_row-PExpr n row)
size_items end_of-PExpr = refl
size_items (more_of-PExpr e rest) = length-append (nodes e) (nodes_row rest) ∙ ap (λ n. size e + n) (size_items rest)

depth_items : {n : _} (row : Row_of-PExpr n) → row_depth row ≡ depths (items-the_row-PExpr n row)
depth_items end_of-PExpr = refl
depth_items (more_of-PExpr e rest) = ap (max (depth e)) (depth_items rest)

size_boxed : (e : PExpr) → length (nodes_row (hidden-the_row-PExpr-0 e)) ≡ size e
size_boxed e = let is : length (nodes_row (hidden-the_row-PExpr-0 e)) ≡ size e + 0 = size_items (hidden-the_row-PExpr-0 e) ∙ ap sizes (items_hidden-the_row-PExpr-0 e) in omega (arith, is)

depth_boxed : (e : PExpr) → row_depth (hidden-the_row-PExpr-0 e) ≡ depth e
depth_boxed e = let is : row_depth (hidden-the_row-PExpr-0 e) ≡ max (depth e) 0 = depth_items (hidden-the_row-PExpr-0 e) ∙ ap depths (items_hidden-the_row-PExpr-0 e) in omega (arith, is)

size_two : (a b : PExpr) → length (nodes_row (hidden-the_row-PExpr-0 a) ++ nodes_row (hidden-the_row-PExpr-0 b)) ≡ size a + size b
size_two a b = length-append (nodes_row (hidden-the_row-PExpr-0 a)) (nodes_row (hidden-the_row-PExpr-0 b)) ∙ ap₂ (λ x y. x + y) (size_boxed a) (size_boxed b)

pub size_neg : (a : PExpr) → size (Neg a) ≡ suc (size a)
size_neg a = ap suc (size_boxed a)

pub size_not : (a : PExpr) → size (Not a) ≡ suc (size a)
size_not a = ap suc (size_boxed a)

pub size_null : (a : PExpr) → size (IsNull a) ≡ suc (size a)
size_null a = ap suc (size_boxed a)

pub size_bin : (op : BinOp) (a b : PExpr) → size (Bin op a b) ≡ suc (size a + size b)
size_bin op a b = ap suc (size_two a b)

pub size_shift : (a b : PExpr) → size (Shift a b) ≡ suc (size a + size b)
size_shift a b = ap suc (size_two a b)

pub depth_neg : (a : PExpr) → depth (Neg a) ≡ suc (depth a)
depth_neg a = ap suc (depth_boxed a)

pub depth_not : (a : PExpr) → depth (Not a) ≡ suc (depth a)
depth_not a = ap suc (depth_boxed a)

pub depth_null : (a : PExpr) → depth (IsNull a) ≡ suc (depth a)
depth_null a = ap suc (depth_boxed a)

pub depth_bin : (op : BinOp) (a b : PExpr) → depth (Bin op a b) ≡ suc (max (depth a) (depth b))
depth_bin op a b = ap₂ (λ x y. suc (max x y)) (depth_boxed a) (depth_boxed b)

pub depth_shift : (a b : PExpr) → depth (Shift a b) ≡ suc (max (depth a) (depth b))
depth_shift a b = ap₂ (λ x y. suc (max x y)) (depth_boxed a) (depth_boxed b)

-- ---- lists of statements, none of which is looked into

-- how many these statements and the nodes of their expressions are
abbrev pub heft : List PStmt → ℕ
heft [] = 0
heft (s ∷ ss) = suc (sizes (values s.kind) + heft ss)

-- no expression of these statements is deeper than is allowed
abbrev pub AreShallow : List PStmt → Type 0
AreShallow ss = AllByRecursion (λ (s : PStmt). AllByRecursion (λ e. depth e ≤ 600) (values s.kind)) ss

pub heft-append : (a b : List PStmt) → heft (a ++ b) ≡ heft a + heft b
heft-append [] b = omega arith
heft-append (s ∷ a) b = let more = heft-append a b in omega (arith, more)

pub shallow-append : (a b : List PStmt) → AreShallow a → AreShallow b → AreShallow (a ++ b)
shallow-append [] b x y = y
shallow-append (s ∷ a) b x y = (x.0, shallow-append a b x.1 y)
