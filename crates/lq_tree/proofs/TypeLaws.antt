-- The type of each form of expression whose type comes from its parts, from the types of these. The definitions match
-- on rows; a source is written with boxes and lists.
use Rattle.std.proofs.Common.{◌≡◌, ℕ, suc, List, [], ◌∷◌, length, refl, ap, ◌∙◌}
use Rattle.lq_tree.specs.declared.expr.BinOp.{BinOp}
use Rattle.lq_tree.specs.declared.expr.Expr.{Expr, Bin, Index, Deref, Arrow, Dot, Call, Row_of-Expr, end_of-Expr, more_of-Expr, items-the_row-Expr, items_hidden-the_row-Expr-0, items_hidden-the_row-Expr-1}
use Rattle.lq_tree.specs.declared.expr.Expr.TheBlock.{hidden-the_row-Expr-0, hidden-the_row-Expr-1}
use Rattle.lq_tree.specs.declared.program.Program.{Program}
use Rattle.lq_tree.specs.Lookup.{function_of}
use Rattle.lq_tree.specs.Types.{Ty, Unknown, Variable, expression_type, row_type, count_row, combined, element_of, dotted, called}

-- the type of the first of several expressions
abbrev first_type : Program → List Variable → List Expr → Ty
first_type p scope [] = Unknown
first_type p scope (e ∷ es) = expression_type p scope e

-- a row has the type of its first expression
row_type-items : {n : _} (p : Program) (scope : List Variable) (row : Row_of-Expr n) → row_type p scope row ≡ first_type p scope (items-the_row-Expr n row)
row_type-items p scope end_of-Expr = refl
row_type-items p scope (more_of-Expr e rest) = refl

-- the row of a box has the type of what the box holds
row_type-boxed : (p : Program) (scope : List Variable) (e : Expr) → row_type p scope (hidden-the_row-Expr-0 e) ≡ expression_type p scope e
row_type-boxed p scope e = row_type-items p scope (hidden-the_row-Expr-0 e) ∙ ap (first_type p scope) (items_hidden-the_row-Expr-0 e)

-- a row has as many expressions as its list
count_row-items : {n : _} (row : Row_of-Expr n) → count_row row ≡ length (items-the_row-Expr n row)
count_row-items end_of-Expr = refl
count_row-items (more_of-Expr e rest) = ap (λ n. suc n) (count_row-items rest)

-- the type of each form
pub type_of_bin : (p : Program) (scope : List Variable) (op : BinOp) (a b : Expr) → expression_type p scope (Bin op a b) ≡ combined op (expression_type p scope a) (expression_type p scope b)
type_of_bin p scope op a b = simp row_type-boxed

-- the index gives nothing to the type, so the equation names it
pub type_of_index : (p : Program) (scope : List Variable) (e a i : Expr) → e ≡ Index a i → expression_type p scope e ≡ element_of (expression_type p scope a)
type_of_index p scope e a i is = ap (expression_type p scope) is ∙ ap element_of (row_type-boxed p scope a)

pub type_of_deref : (p : Program) (scope : List Variable) (a : Expr) → expression_type p scope (Deref a) ≡ element_of (expression_type p scope a)
type_of_deref p scope a = ap element_of (row_type-boxed p scope a)

pub type_of_arrow : (p : Program) (scope : List Variable) (a : Expr) (field : List ℕ) → expression_type p scope (Arrow a field) ≡ dotted p (element_of (expression_type p scope a)) field
type_of_arrow p scope a field = ap (λ (t : Ty). dotted p (element_of t) field) (row_type-boxed p scope a)

pub type_of_dot : (p : Program) (scope : List Variable) (a : Expr) (field : List ℕ) → expression_type p scope (Dot a field) ≡ dotted p (expression_type p scope a) field
type_of_dot p scope a field = ap (λ (t : Ty). dotted p t field) (row_type-boxed p scope a)

pub type_of_call : (p : Program) (scope : List Variable) (f : List ℕ) (args : List Expr) → expression_type p scope (Call f args) ≡ called (function_of p.funcs f) (length args)
type_of_call p scope f args =
    ap (called (function_of p.funcs f)) (count_row-items (hidden-the_row-Expr-1 args) ∙ ap (λ (es : List Expr). length es) (items_hidden-the_row-Expr-1 args))
