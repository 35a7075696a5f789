-- What takes a number: an operator, the statements of a walk, a function.
use Rattle.std.proofs.Common.{◌≡◌, ℕ, suc, ℤ, pos, ◌+◌, ◌-◌, ◌<◌, Bool, true, false, ◌||◌, List, [], ◌∷◌, ◌++◌, filter, if◌then◌else◌, map, None, Some, append_assoc, arith, refl, ap, sym, ◌∙◌}
use denote.Hole.Carrier
use Rattle.std.specs.Ordering.{int_eq}
use Rattle.std.specs.List.{list_any, flat_map}
use Rattle.std.proofs.lemmas.List.Folds.{list_any-append}
use Rattle.lq_tree.specs.declared.expr.BinOp.TheVariants.{Mul, Div, Rem}
use Rattle.lq_tree.specs.declared.expr.Expr.{Expr, Num, Bin, Bin', Row_of-Expr, end_of-Expr, more_of-Expr, items-the_row-Expr, items_hidden-the_row-Expr-0}
use Rattle.lq_tree.specs.declared.stmt.Arm.{Arm}
use Rattle.lq_tree.specs.declared.stmt.Stmt.{Stmt}
use Rattle.lq_tree.specs.declared.stmt.StmtKind.{StmtKind, out-StmtKind, Empty, Block', Local, Set, Store, Call, Return, Print, If', While', For', Cobegin', Foreach'}
use Rattle.lq_tree.specs.declared.stmt.StmtKind.TheOpen as layer
use Rattle.lq_tree.specs.declared.program.Func.{Func}
use Rattle.lq_tree.specs.Walk.{Form, condition, nodes, values, some_value, statements, expressions}
use Rattle.lq_names.specs.Scopes.{Site}
use Rattle.lq_names.specs.Sites.{Placed, sites_list}
use Rattle.lq_names.proofs.AnyLaws.{or_false}
use Rattle.lq_names.proofs.SiteWalk.{walked_list}
use Rattle.lq_plain.specs.Factors.{is_literal, takes, function_takes, numbers_from}

-- ---- operators

abbrev literal_in : ℤ → List Expr → Bool
literal_in n (Num z ∷ rest) = int_eq z n
literal_in n _ = false

listed : (n : ℤ) (m : _) (row : Row_of-Expr m) → is_literal n row ≡ literal_in n (items-the_row-Expr m row)
listed n _ end_of-Expr = refl
listed n _ (more_of-Expr (Num z) rest) = refl
listed n _ (more_of-Expr _ rest) = refl

listed_one : (n : ℤ) (es : List Expr) (e : Expr) → es ≡ e ∷ [] → literal_in n es ≡ is_literal n (more_of-Expr e end_of-Expr)
listed_one n es e is = ap (literal_in n) is ∙ sym (listed n _ (more_of-Expr e end_of-Expr))

listed_two : (n : ℤ) (es ds : List Expr) (a b : Expr) → es ≡ a ∷ [] → ds ≡ b ∷ [] → (literal_in n es || literal_in n ds) ≡ (is_literal n (more_of-Expr a end_of-Expr) || is_literal n (more_of-Expr b end_of-Expr))
listed_two n es ds a b is too = ap (λ x. x || literal_in n ds) (listed_one n es a is) ∙ ap (λ x. is_literal n (more_of-Expr a end_of-Expr) || x) (listed_one n ds b too)

-- the same test, where boxes are read as lists
abbrev in_lists : ℤ → Expr → Bool
in_lists n (Bin' Mul p a q b) = literal_in n (items-the_row-Expr _ a) || literal_in n (items-the_row-Expr _ b)
in_lists n (Bin' Div p a q b) = literal_in n (items-the_row-Expr _ b)
in_lists n (Bin' Rem p a q b) = literal_in n (items-the_row-Expr _ b)
in_lists n _ = false

by_lists : (n : ℤ) (e : Expr) → takes n e ≡ in_lists n e
by_lists n (Bin' Mul p a q b) = ap (λ x. x || is_literal n b) (listed n _ a) ∙ ap (λ x. literal_in n (items-the_row-Expr _ a) || x) (listed n _ b)
by_lists n (Bin' Div p a q b) = listed n _ b
by_lists n (Bin' Rem p a q b) = listed n _ b
by_lists n _ = refl

pub takes_mul : (n : ℤ) (a b : Expr) → takes n (Bin Mul a b) ≡ (is_literal n (more_of-Expr a end_of-Expr) || is_literal n (more_of-Expr b end_of-Expr))
takes_mul n a b = by_lists n (Bin Mul a b) ∙ listed_two n _ _ a b (items_hidden-the_row-Expr-0 a) (items_hidden-the_row-Expr-0 b)

pub takes_div : (n : ℤ) (a b : Expr) → takes n (Bin Div a b) ≡ is_literal n (more_of-Expr b end_of-Expr)
takes_div n a b = by_lists n (Bin Div a b) ∙ listed_one n _ b (items_hidden-the_row-Expr-0 b)

pub takes_rem : (n : ℤ) (a b : Expr) → takes n (Bin Rem a b) ≡ is_literal n (more_of-Expr b end_of-Expr)
takes_rem n a b = by_lists n (Bin Rem a b) ∙ listed_one n _ b (items_hidden-the_row-Expr-0 b)

-- ---- statements

-- an expression that stands in a statement itself takes the number
abbrev pub kind_takes : ℤ → StmtKind → Bool
kind_takes n kind = some_value (λ (e : Expr). list_any (takes n) (nodes e)) (out-StmtKind kind)

abbrev pub placed_takes : ℤ → Placed → Bool
placed_takes n p = kind_takes n p.kind

any_flat : {A B : Type 0} (test : B → Bool) (f : A → List B) (xs : List A) → list_any test (flat_map f xs) ≡ list_any (λ x. list_any test (f x)) xs
any_flat test f [] = refl
any_flat test f (x ∷ xs) = list_any-append test (f x) (flat_map f xs) ∙ ap (λ b. list_any test (f x) || b) (any_flat test f xs)

any_condition : (test : Expr → Bool) (arms : List Arm) → list_any test (map condition arms) ≡ list_any (λ (arm : Arm). test (condition arm)) arms
any_condition test [] = refl
any_condition test (arm ∷ arms) = ap (λ b. test (condition arm) || b) (any_condition test arms)

any_value : (test : Expr → Bool) (form : Form) → list_any test (values form) ≡ some_value test form
any_value test (layer.Local type name (Some e)) = or_false (test e)
any_value test (layer.Set name e) = or_false (test e)
any_value test (layer.Store target e) = ap (λ b. test target || b) (or_false (test e))
any_value test (layer.Call f args) = refl
any_value test (layer.If arms other) = any_condition test arms
any_value test (layer.While e body) = or_false (test e)
any_value test (layer.For first (Some e) third body) = or_false (test e)
any_value test (layer.Return (Some e)) = or_false (test e)
any_value test (layer.Print e) = or_false (test e)
any_value test (layer.Foreach index low high step body) = ap (λ b. test low || b) (or_false (test high))
any_value test _ = refl

any_form : (test : Expr → Bool) (body : List Stmt) → list_any (λ (s : Stmt). list_any test (values (out-StmtKind s.kind))) body ≡ list_any (λ (s : Stmt). some_value test (out-StmtKind s.kind)) body
any_form test [] = refl
any_form test (s ∷ body) = ap (λ b. b || list_any (λ (s : Stmt). list_any test (values (out-StmtKind s.kind))) body) (any_value test (out-StmtKind s.kind)) ∙ ap (λ b. some_value test (out-StmtKind s.kind) || b) (any_form test body)

-- the nodes of a body, by its statements
by_statements : (n : ℤ) (body : List Stmt) → list_any (takes n) (flat_map nodes (expressions body)) ≡ list_any (λ (s : Stmt). kind_takes n s.kind) (statements body)
by_statements n body =
    let test = λ (e : Expr). list_any (takes n) (nodes e) in
    any_flat (takes n) nodes (expressions body) ∙ any_flat test (λ (s : Stmt). values (out-StmtKind s.kind)) (statements body) ∙ any_form test (statements body)

abbrev nowhere : Site
nowhere = record {
  program = record { structs = []; funcs = [] };
  prints = λ name. false;
  allocates = λ name. false;
  returns = None;
  scope = [];
  outside = 0;
  parallel = false;
}

-- a function takes what its statements do at whatever site
pub body_takes : (n : ℤ) (f : Func) (found : Bool) → ((s : Site) → found ≡ list_any (placed_takes n) (sites_list s f.body)) → found ≡ function_takes n f
unfolding out-StmtKind denote.Hole.Carrier.out
body_takes n f found at = at nowhere ∙ walked_list (kind_takes n) (elim [
  | Empty ↦ λ e. cc
  | Local _ _ _ ↦ λ e. cc
  | Set _ _ ↦ λ e. cc
  | Store _ _ ↦ λ e. cc
  | Call _ _ ↦ λ e. cc
  | If' _ _ _ ↦ λ e. cc
  | While' _ _ _ ↦ λ e. cc
  | For' _ _ _ _ _ ↦ λ e. cc
  | Return _ ↦ λ e. cc
  | Print _ ↦ λ e. cc
  | Foreach' _ _ _ _ _ _ ↦ λ e. cc
  | Block' _ _ ↦ λ e. refl
  | Cobegin' _ _ ↦ λ e. refl
]) f.body nowhere ∙ sym (by_statements n f.body)

-- ---- numbers

pub one_number : (n : ℕ) → n < 65 → numbers_from n (65 - n) ≡ pos n ∷ numbers_from (n + 1) (65 - (n + 1))
one_number n lt =
    let more : 65 - n ≡ suc (65 - (n + 1)) = omega arith in
    let next : suc n ≡ n + 1 = omega arith in
    ap (numbers_from n) more ∙ ap (λ m. pos n ∷ numbers_from m (65 - (n + 1))) next

at_step : (kept : Bool) (x : ℤ) (found next rest : List ℤ) → next ≡ (if kept then found ++ (x ∷ []) else found) → next ++ rest ≡ found ++ (if kept then x ∷ rest else rest)
at_step true x found next rest is = ap (λ ns. ns ++ rest) is ∙ append_assoc found (x ∷ []) rest
at_step false x found next rest is = ap (λ ns. ns ++ rest) is

-- one number further: it is kept where the test passes
pub number_more : (test : ℤ → Bool) (n : ℕ) → n < 65 → (found next last : List ℤ) → found ++ filter test (numbers_from n (65 - n)) ≡ last → next ≡ (if test (pos n) then found ++ (pos n ∷ []) else found)
    → next ++ filter test (numbers_from (n + 1) (65 - (n + 1))) ≡ last
number_more test n lt found next last so_far at_next =
    let rest = filter test (numbers_from (n + 1) (65 - (n + 1))) in
    at_step (test (pos n)) (pos n) found next rest at_next ∙ ap (λ ns. found ++ filter test ns) (sym (one_number n lt)) ∙ so_far
