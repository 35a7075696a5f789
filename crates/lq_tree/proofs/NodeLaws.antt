-- The nodes of each form of expression.
use Rattle.std.proofs.Common.{◌≡◌, ℕ, ℤ, List, [], ◌∷◌, ◌++◌, refl, ap, sym, ◌∙◌, append_assoc}
use Rattle.lq_tree.specs.declared.expr.BinOp.{BinOp}
use Rattle.lq_tree.specs.declared.expr.CType.{CType}
use Rattle.lq_tree.specs.declared.expr.Expr.{Expr, Num, Var, Neg, Not, Bin, Index, Deref, Arrow, Dot, Call, Calloc, Neg', Not', Bin', Index', Deref', Arrow', Dot', Call', Calloc', Row_of-Expr, end_of-Expr, more_of-Expr, items-the_row-Expr, items_hidden-the_row-Expr-0, items_hidden-the_row-Expr-1}
use Rattle.lq_tree.specs.Walk.{nodes, nodes_row}

-- the nodes of several expressions
abbrev pub nodes_all : List Expr → List Expr
nodes_all [] = []
nodes_all (e ∷ es) = nodes e ++ nodes_all es

nodes_listed : (n : _) (row : Row_of-Expr n) → nodes_row row ≡ nodes_all (items-the_row-Expr n row)
unfolding nodes nodes_row
nodes_listed _ end_of-Expr = refl
nodes_listed _ (more_of-Expr e rest) = ap (λ ns. nodes e ++ ns) (nodes_listed _ rest)

-- the parts of a node
abbrev parts : Expr → List Expr
parts (Num n) = []
parts (Var name) = []
parts (Neg' p a) = items-the_row-Expr _ a
parts (Not' p a) = items-the_row-Expr _ a
parts (Bin' op p a q b) = items-the_row-Expr _ a ++ items-the_row-Expr _ b
parts (Index' p a q b) = items-the_row-Expr _ a ++ items-the_row-Expr _ b
parts (Deref' p a) = items-the_row-Expr _ a
parts (Arrow' p a field) = items-the_row-Expr _ a
parts (Dot' p a field) = items-the_row-Expr _ a
parts (Call' f n args) = items-the_row-Expr _ args
parts (Calloc' p a type) = items-the_row-Expr _ a

nodes_all_append : (es ds : List Expr) → nodes_all (es ++ ds) ≡ nodes_all es ++ nodes_all ds
nodes_all_append [] ds = refl
nodes_all_append (e ∷ es) ds = ap (λ ns. nodes e ++ ns) (nodes_all_append es ds) ∙ sym (append_assoc (nodes e) (nodes_all es) (nodes_all ds))

two : (n m : _) (a : Row_of-Expr n) (b : Row_of-Expr m) → nodes_row a ++ nodes_row b ≡ nodes_all (items-the_row-Expr n a ++ items-the_row-Expr m b)
two n m a b = rw (nodes_all_append, nodes_listed n a, nodes_listed m b)

nodes_are : (e : Expr) → nodes e ≡ e ∷ nodes_all (parts e)
unfolding nodes
nodes_are (Num n) = refl
nodes_are (Var name) = refl
nodes_are (Neg' p a) = ap (λ ns. Neg' p a ∷ ns) (nodes_listed _ a)
nodes_are (Not' p a) = ap (λ ns. Not' p a ∷ ns) (nodes_listed _ a)
nodes_are (Bin' op p a q b) = ap (λ ns. Bin' op p a q b ∷ ns) (two _ _ a b)
nodes_are (Index' p a q b) = ap (λ ns. Index' p a q b ∷ ns) (two _ _ a b)
nodes_are (Deref' p a) = ap (λ ns. Deref' p a ∷ ns) (nodes_listed _ a)
nodes_are (Arrow' p a field) = ap (λ ns. Arrow' p a field ∷ ns) (nodes_listed _ a)
nodes_are (Dot' p a field) = ap (λ ns. Dot' p a field ∷ ns) (nodes_listed _ a)
nodes_are (Call' f n args) = ap (λ ns. Call' f n args ∷ ns) (nodes_listed _ args)
nodes_are (Calloc' p a type) = ap (λ ns. Calloc' p a type ∷ ns) (nodes_listed _ a)

both : (x y : List Expr) (a b : Expr) → x ≡ a ∷ [] → y ≡ b ∷ [] → x ++ y ≡ a ∷ b ∷ []
both x y a b e f = ap (λ (es : List Expr). es ++ y) e ∙ ap (λ (es : List Expr). (a ∷ []) ++ es) f

of_parts : (e : Expr) (es : List Expr) → parts e ≡ es → nodes e ≡ e ∷ nodes_all es
of_parts e es is = nodes_are e ∙ ap (λ ns. e ∷ nodes_all ns) is

pub nodes_num : (n : ℤ) → nodes (Num n) ≡ Num n ∷ []
nodes_num n = of_parts (Num n) [] refl

pub nodes_var : (name : List ℕ) → nodes (Var name) ≡ Var name ∷ []
nodes_var name = of_parts (Var name) [] refl

pub nodes_neg : (a : Expr) → nodes (Neg a) ≡ Neg a ∷ nodes_all (a ∷ [])
nodes_neg a = of_parts (Neg a) (a ∷ []) (items_hidden-the_row-Expr-0 a)

pub nodes_not : (a : Expr) → nodes (Not a) ≡ Not a ∷ nodes_all (a ∷ [])
nodes_not a = of_parts (Not a) (a ∷ []) (items_hidden-the_row-Expr-0 a)

pub nodes_bin : (op : BinOp) (a b : Expr) → nodes (Bin op a b) ≡ Bin op a b ∷ nodes_all (a ∷ b ∷ [])
nodes_bin op a b = of_parts (Bin op a b) (a ∷ b ∷ []) (both _ _ a b (items_hidden-the_row-Expr-0 a) (items_hidden-the_row-Expr-0 b))

pub nodes_index : (a i : Expr) → nodes (Index a i) ≡ Index a i ∷ nodes_all (a ∷ i ∷ [])
nodes_index a i = of_parts (Index a i) (a ∷ i ∷ []) (both _ _ a i (items_hidden-the_row-Expr-0 a) (items_hidden-the_row-Expr-0 i))

pub nodes_deref : (a : Expr) → nodes (Deref a) ≡ Deref a ∷ nodes_all (a ∷ [])
nodes_deref a = of_parts (Deref a) (a ∷ []) (items_hidden-the_row-Expr-0 a)

pub nodes_arrow : (a : Expr) (field : List ℕ) → nodes (Arrow a field) ≡ Arrow a field ∷ nodes_all (a ∷ [])
nodes_arrow a field = of_parts (Arrow a field) (a ∷ []) (items_hidden-the_row-Expr-0 a)

pub nodes_dot : (a : Expr) (field : List ℕ) → nodes (Dot a field) ≡ Dot a field ∷ nodes_all (a ∷ [])
nodes_dot a field = of_parts (Dot a field) (a ∷ []) (items_hidden-the_row-Expr-0 a)

pub nodes_call : (f : List ℕ) (args : List Expr) → nodes (Call f args) ≡ Call f args ∷ nodes_all args
nodes_call f args = of_parts (Call f args) args (items_hidden-the_row-Expr-1 args)

pub nodes_calloc : (a : Expr) (type : CType) → nodes (Calloc a type) ≡ Calloc a type ∷ nodes_all (a ∷ [])
nodes_calloc a type = of_parts (Calloc a type) (a ∷ []) (items_hidden-the_row-Expr-0 a)
