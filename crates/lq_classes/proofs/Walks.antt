-- The walks over plain expressions and statements, by the parts that the code sees.
use Rattle.std.proofs.Common.{◌≡◌, ℕ, suc, ◌+◌, ◌<◌, List, [], ◌∷◌, ◌++◌, Option, None, Some, length, get_or, take, drop, drop-cons, add-one, refl, ap, ap₂, sym, ◌∙◌, append_assoc, slice_get}
use Rattle.std.specs.List.{flat_map}
use Rattle.std.proofs.lemmas.List.Concat.{flat_map-append}
use Rattle.std.proofs.lemmas.List.{flat_map_more, take_more}
use Rattle.lq_tree.specs.declared.place.Place.{Place}
use Rattle.lq_tree.specs.declared.plain.PExpr.{PExpr, Num, Null, Slot, Shift, Neg', Not', Bin', Shift', IsNull', Row_of-PExpr, end_of-PExpr, more_of-PExpr, items-the_row-PExpr, items_hidden-the_row-PExpr-0}
use Rattle.lq_tree.specs.declared.plain.PKind.{PKind, If, While, Cobegin, Row_of-PStmt, end_of-PStmt, more_of-PStmt, items-the_row-PStmt, items_hidden-the_row-PStmt-0, Row_of-Branch, end_of-Branch, more_of-Branch, items-the_row-Branch, items_hidden-the_row-Branch-1}
use Rattle.lq_tree.specs.declared.plain.PKind.TheBlock.{hidden-the_row-PStmt-0, hidden-the_row-Branch-1}
use Rattle.lq_tree.specs.declared.plain.PStmt.{PStmt}
use Rattle.lq_tree.specs.declared.plain.Branch.{Branch, out-Branch, roll-Branch, rolls-Branch', roll-out-Branch}
use Rattle.lq_tree.specs.declared.plain.PFunc.{PFunc}
use Rattle.lq_tree.specs.declared.plain.PProgram.{PProgram}
use Rattle.lq_tree.specs.PlainWalk.{statement, inside, within_row, within_branch, within_branches, statements}
use Rattle.lq_classes.specs.declared.links.Link.{Link}
use Rattle.lq_classes.specs.Classes.{root, row_root}
use Rattle.lq_classes.specs.Links.{passed_from, passed_to, own_links, each_links, kind_links, body_links, links_from}

-- ---- expressions

first_root : List PExpr → Option ℕ
first_root [] = None
first_root (e ∷ es) = root e

row_root-items : (n : _) (row : Row_of-PExpr n) → row_root row ≡ first_root (items-the_row-PExpr n row)
unfolding first_root
row_root-items _ end_of-PExpr = refl
row_root-items _ (more_of-PExpr e rest) = refl

-- the root of a form, by its parts
root_parts : PExpr → Option ℕ
unfolding first_root
root_parts (Slot n) = Some n
root_parts (Shift' p a q n) = first_root (items-the_row-PExpr _ a)
root_parts _ = None

root_are : (e : PExpr) → root e ≡ root_parts e
unfolding root_parts
root_are (Num n) = refl
root_are Null = refl
root_are (Slot n) = refl
root_are (Neg' p a) = refl
root_are (Not' p a) = refl
root_are (Bin' op p a q b) = refl
root_are (Shift' p a q n) = row_root-items _ a
root_are (IsNull' p a) = refl

pub root-shift : (a e : PExpr) → root (Shift a e) ≡ root a
unfolding root_parts first_root
root-shift a e = root_are (Shift a e) ∙ ap first_root (items_hidden-the_row-PExpr-0 a)

-- ---- statements

within_row-items : {n : _} (row : Row_of-PStmt n) → within_row row ≡ statements (items-the_row-PStmt n row)
within_row-items end_of-PStmt = refl
within_row-items (more_of-PStmt at kind rest) = ap (λ (list : List PStmt). statement at kind ∷ (inside kind ++ list)) (within_row-items rest)

within_row-list : (body : List PStmt) → within_row (hidden-the_row-PStmt-0 body) ≡ statements body
within_row-list body = within_row-items (hidden-the_row-PStmt-0 body) ∙ ap statements (items_hidden-the_row-PStmt-0 body)

pub inside-if : (e : PExpr) (body other : List PStmt) → inside (If e body other) ≡ statements body ++ statements other
inside-if e body other = ap₂ (λ (xs ys : List PStmt). xs ++ ys) (within_row-list body) (within_row-list other)

pub inside-while : (head : List PStmt) (e : PExpr) (body : List PStmt) → inside (While head e body) ≡ statements head ++ statements body
inside-while head e body = ap₂ (λ (xs ys : List PStmt). xs ++ ys) (within_row-list head) (within_row-list body)

within_branches-items : {n : _} (row : Row_of-Branch n) → within_branches row ≡ flat_map within_branch (items-the_row-Branch n row)
within_branches-items end_of-Branch = refl
within_branches-items (more_of-Branch b rest) = ap (λ (list : List PStmt). within_branch b ++ list) (within_branches-items rest)

pub inside-cobegin : (blocks : List Branch) → inside (Cobegin blocks) ≡ flat_map within_branch blocks
inside-cobegin blocks = within_branches-items (hidden-the_row-Branch-1 blocks) ∙ ap (λ (list : List Branch). flat_map within_branch list) (items_hidden-the_row-Branch-1 blocks)

-- ---- what they say

pub each_links-append : (p : PProgram) (func : ℕ) (xs ys : List PStmt) → each_links p func (xs ++ ys) ≡ each_links p func xs ++ each_links p func ys
each_links-append p func xs ys = flat_map-append (λ (s : PStmt). own_links p func s.kind) xs ys

pub body_links-append : (p : PProgram) (func : ℕ) (xs ys : List PStmt) → body_links p func (xs ++ ys) ≡ body_links p func xs ++ body_links p func ys
body_links-append p func xs ys = ap (each_links p func) (flat_map-append (λ (s : PStmt). s ∷ inside s.kind) xs ys) ∙ each_links-append p func (statements xs) (statements ys)

within_branch-list : (at : Place) (body : List PStmt) → within_branch (roll-Branch (record { at = at; body = body })) ≡ statements body
within_branch-list at body = ap within_branch (rolls-Branch' (record { at = at; body = body })) ∙ within_row-list body

within_branch-out : (b : Branch) → within_branch b ≡ statements (out-Branch b).body
within_branch-out b = ap within_branch (sym (roll-out-Branch b)) ∙ within_branch-list (out-Branch b).at (out-Branch b).body

-- of a branch, whose body the code has as a slice
pub branch_says : (p : PProgram) (func : ℕ) (b : Branch) (x : List PStmt) → x ≡ (out-Branch b).body → body_links p func x ≡ each_links p func (within_branch b)
branch_says p func b x is = ap (body_links p func) is ∙ ap (each_links p func) (sym (within_branch-out b))

-- of branches
pub branches_say : (p : PProgram) (func : ℕ) (blocks : List Branch) → each_links p func (flat_map within_branch blocks) ≡ flat_map (λ (b : Branch). each_links p func (within_branch b)) blocks
branches_say p func [] = refl
branches_say p func (b ∷ blocks) =
    each_links-append p func (within_branch b) (flat_map within_branch blocks) ∙ ap (λ (xs : List Link). each_links p func (within_branch b) ++ xs) (branches_say p func blocks)

-- of a statement with one list inside
pub one_list : (p : PProgram) (func : ℕ) (kind : PKind) (list : List PStmt) (old own whole more : List Link) → inside kind ≡ list
    → own ≡ old ++ own_links p func kind → more ≡ each_links p func list → whole ≡ own ++ more → whole ≡ old ++ kind_links p func kind
one_list p func kind list old own whole more is first second all =
    all ∙ ap₂ (λ (xs ys : List Link). xs ++ ys) first (second ∙ ap (each_links p func) (sym is)) ∙ append_assoc old (own_links p func kind) (each_links p func (inside kind))

-- and with two
pub two_lists : (p : PProgram) (func : ℕ) (kind : PKind) (body other x y : List PStmt) (old own half whole : List Link) → inside kind ≡ statements body ++ statements other → x ≡ body → y ≡ other
    → own ≡ old ++ own_links p func kind → half ≡ own ++ body_links p func x → whole ≡ half ++ body_links p func y → whole ≡ old ++ kind_links p func kind
two_lists p func kind body other x y old own half whole is left right first second all =
    one_list p func kind (statements body ++ statements other) old own whole (body_links p func x ++ body_links p func y) is first
    (ap₂ (λ (s t : List PStmt). body_links p func s ++ body_links p func t) left right ∙ sym (each_links-append p func (statements body) (statements other)))
    (all ∙ ap (λ (zs : List Link). zs ++ body_links p func y) second ∙ append_assoc own (body_links p func x) (body_links p func y))

-- one element more of a list that is gone through
pub pieces_more : {A B : Type 0} (f : A → List B) (old before after : List B) (xs : List A) (i : ℕ) (x : A) → i < length xs → x ≡ get_or xs i x
    → before ≡ old ++ flat_map f (take i xs) → after ≡ before ++ f x → after ≡ old ++ flat_map f (take (i + 1) xs)
pieces_more f old before after xs i x within is first all =
    all ∙ ap (λ zs. zs ++ f x) first ∙ flat_map_more f old (take i xs) x ∙ ap (λ zs. old ++ flat_map f (take i xs ++ zs ∷ [])) is ∙ ap (λ zs. old ++ flat_map f zs) (sym (take_more xs i x within))

-- one parameter more
pub passed_more : (func callee i : ℕ) (args : List PExpr) (o : Option PExpr) (old before after : List Link) → slice_get args i ≡ o
    → before ≡ old ++ passed_to func callee i args → after ≡ before ++ passed_from func callee i o → after ≡ old ++ passed_to func callee (i + 1) args
passed_more func callee i args o old before after is first all =
    all ∙ ap₂ (λ (xs ys : List Link). xs ++ ys) first (ap (passed_from func callee i) (sym is))
    ∙ append_assoc old (passed_to func callee i args) (passed_from func callee i (slice_get args i)) ∙ ap (λ n. old ++ passed_to func callee n args) (sym (add-one i))

-- one function more
pub links_more : (p : PProgram) (func : ℕ) (funcs : List PFunc) (f : PFunc) (before after all : List Link) → func < length funcs → f ≡ get_or funcs func f
    → before ++ links_from p func (drop func funcs) ≡ all → after ≡ before ++ body_links p func f.body → after ++ links_from p (func + 1) (drop (func + 1) funcs) ≡ all
links_more p func funcs f before after all within is first more =
    let e : drop func funcs ≡ f ∷ drop (func + 1) funcs = rw (add-one) (drop-cons funcs func f within ∙ ap (λ g. g ∷ drop (suc func) funcs) (sym is)) in
    ap (λ xs. xs ++ links_from p (func + 1) (drop (func + 1) funcs)) more ∙ append_assoc before (body_links p func f.body) (links_from p (func + 1) (drop (func + 1) funcs))
    ∙ ap (λ n. before ++ (body_links p func f.body ++ links_from p n (drop (func + 1) funcs))) (add-one func) ∙ ap (λ fs. before ++ links_from p func fs) (sym e) ∙ first
