-- Which slots the expressions of the plain form read.
use Rattle.std.proofs.Common.{◌≡◌, ℕ, Bool, true, false, cond, List, ◌++◌, refl, sym, ap, ap₂, ◌∙◌, subst, append-nil}
use Rattle.std.specs.List.{flat_map}
use Rattle.std.proofs.lemmas.List.Concat.{flat_map-append}
use Rattle.lq_tree.specs.declared.expr.BinOp.{BinOp}
use Rattle.lq_tree.specs.declared.expr.BinOp.TheVariants.{Add, Sub, Eq, Ne}
use Rattle.lq_tree.specs.declared.plain.PExpr.{PExpr, Num, Neg, Not, Bin, Shift, IsNull, Row_of-PExpr, end_of-PExpr, more_of-PExpr, items-the_row-PExpr, items_hidden-the_row-PExpr-0}
use Rattle.lq_tree.specs.declared.plain.PExpr.TheBlock.{hidden-the_row-PExpr-0}
use Rattle.lq_tree.specs.Types.{Ty, is_pointer}
use Rattle.lq_tree.specs.PlainWalk.{nodes, nodes_row, slot_read, slots_read}
use Rattle.lq_plain.specs.Flat.{operator, is_true}
use Rattle.lq_plain.proofs.SlotSets.{Within, both_within, last_within}

nodes_row-items : {n : _} (row : Row_of-PExpr n) → nodes_row row ≡ flat_map nodes (items-the_row-PExpr n row)
nodes_row-items end_of-PExpr = refl
nodes_row-items (more_of-PExpr e rest) = ap (λ (list : List PExpr). nodes e ++ list) (nodes_row-items rest)

boxed : (e : PExpr) → nodes_row (hidden-the_row-PExpr-0 e) ≡ nodes e
boxed e = nodes_row-items (hidden-the_row-PExpr-0 e) ∙ ap (flat_map nodes) (items_hidden-the_row-PExpr-0 e) ∙ append-nil (nodes e)

-- the slots of these nodes
abbrev read_in : List PExpr → List ℕ
read_in list = flat_map slot_read list

pub read-neg : (e : PExpr) → slots_read (Neg e) ≡ slots_read e
read-neg e = ap read_in (boxed e)

pub read-not : (e : PExpr) → slots_read (Not e) ≡ slots_read e
read-not e = ap read_in (boxed e)

read-null : (e : PExpr) → slots_read (IsNull e) ≡ slots_read e
read-null e = ap read_in (boxed e)

read-bin : (op : BinOp) (a b : PExpr) → slots_read (Bin op a b) ≡ slots_read a ++ slots_read b
read-bin op a b = ap₂ (λ (xs ys : List PExpr). read_in (xs ++ ys)) (boxed a) (boxed b) ∙ flat_map-append slot_read (nodes a) (nodes b)

read-shift : (a b : PExpr) → slots_read (Shift a b) ≡ slots_read a ++ slots_read b
read-shift a b = ap₂ (λ (xs ys : List PExpr). read_in (xs ++ ys)) (boxed a) (boxed b) ∙ flat_map-append slot_read (nodes a) (nodes b)

one_of : (zs : List ℕ) (x y : PExpr) (b : Bool) → Within (slots_read x) zs → Within (slots_read y) zs → Within (slots_read (cond b x y)) zs
one_of zs x y true holds fails = holds
one_of zs x y false holds fails = fails

as_read : (xs ys zs : List ℕ) → xs ≡ ys → Within ys zs → Within xs zs
as_read xs ys zs e all = subst (λ list. Within list zs) (sym e) all

module _ (zs : List ℕ) (a b : PExpr) (first : Within (slots_read a) zs) (second : Within (slots_read b) zs) where
  both_read : Within (slots_read a ++ slots_read b) zs
  both_read = both_within (slots_read a) (slots_read b) zs first second

  -- an operator reads what its operands read
  pub operator_within : (left right : Ty) (op : BinOp) → Within (slots_read (operator left right op a b)) zs
  operator_within left right Add = one_of zs (Shift a b) (Bin Add a b) (is_pointer left) (as_read _ _ zs (read-shift a b) both_read) (as_read _ _ zs (read-bin Add a b) both_read)
  operator_within left right Sub =
      one_of zs (Shift a (Neg b)) (Bin Sub a b) (is_pointer left)
      (as_read _ _ zs (read-shift a (Neg b) ∙ ap (λ list. slots_read a ++ list) (read-neg b)) both_read) (as_read _ _ zs (read-bin Sub a b) both_read)
  operator_within left right Eq =
      one_of zs (IsNull a) _ (is_pointer left) (as_read _ _ zs (read-null a) first)
      (one_of zs (IsNull b) (Bin Eq a b) (is_pointer right) (as_read _ _ zs (read-null b) second) (as_read _ _ zs (read-bin Eq a b) both_read))
  operator_within left right Ne =
      one_of zs (Not (IsNull a)) _ (is_pointer left) (as_read _ _ zs (read-not (IsNull a) ∙ read-null a) first)
      (one_of zs (Not (IsNull b)) (Bin Ne a b) (is_pointer right) (as_read _ _ zs (read-not (IsNull b) ∙ read-null b) second) (as_read _ _ zs (read-bin Ne a b) both_read))
  operator_within left right op = as_read _ _ zs (read-bin op a b) both_read

-- a test of truth reads what is tested
pub true_within : (zs : List ℕ) (e : PExpr) → Within (slots_read e) zs → Within (slots_read (is_true e)) zs
true_within zs e all = as_read _ _ zs (read-bin Ne e (Num _)) (last_within (slots_read e) zs all)
