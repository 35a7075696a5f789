-- The walks over plain statements that hold lists, by their lists.
use Rattle.std.proofs.Common.{◌≡◌, ℕ, List, [], ◌∷◌, ◌++◌, refl, ap, ap₂, ◌∙◌, append-nil}
use Rattle.std.specs.List.{flat_map}
use Rattle.std.proofs.lemmas.List.Concat.{flat_map-append}
use Rattle.lq_tree.specs.declared.place.Place.{Place}
use Rattle.lq_tree.specs.declared.plain.PExpr.{PExpr}
use Rattle.lq_tree.specs.declared.plain.PKind.{PKind, If, While, Cobegin, Row_of-PStmt, end_of-PStmt, more_of-PStmt, items-the_row-PStmt, items_hidden-the_row-PStmt-0, Row_of-Branch, end_of-Branch, more_of-Branch, items-the_row-Branch, items_hidden-the_row-Branch-1}
use Rattle.lq_tree.specs.declared.plain.PKind.TheBlock.{hidden-the_row-PStmt-0, hidden-the_row-Branch-1}
use Rattle.lq_tree.specs.declared.plain.PStmt.{PStmt}
use Rattle.lq_tree.specs.declared.plain.Branch.{Branch, roll-Branch, rolls-Branch'}
use Rattle.lq_tree.specs.PlainWalk.{statement, inside, within_row, within_branch, within_branches, statements, slots_read}
use Rattle.lq_tree.specs.PlainScopes.{Reading, read, closed, scoped, scoped_row, scoped_branch, scoped_branches}

-- ---- reading, over lists

abbrev pub scoped_list : List ℕ → List PStmt → Reading → Reading
scoped_list o [] r = r
scoped_list o (s ∷ body) r = scoped_list o body (scoped o s.kind r)

pub scoped_list-append : (o : List ℕ) (first rest : List PStmt) (r : Reading) → scoped_list o (first ++ rest) r ≡ scoped_list o rest (scoped_list o first r)
scoped_list-append o [] rest r = refl
scoped_list-append o (s ∷ first) rest r = scoped_list-append o first rest (scoped o s.kind r)

scoped_row-items : {n : _} (o : List ℕ) (row : Row_of-PStmt n) (r : Reading) → scoped_row o row r ≡ scoped_list o (items-the_row-PStmt n row) r
scoped_row-items o end_of-PStmt r = refl
scoped_row-items o (more_of-PStmt at kind rest) r = scoped_row-items o rest (scoped o kind r)

scoped_row-list : (o : List ℕ) (body : List PStmt) (r : Reading) → scoped_row o (hidden-the_row-PStmt-0 body) r ≡ scoped_list o body r
scoped_row-list o body r = scoped_row-items o (hidden-the_row-PStmt-0 body) r ∙ ap (λ (list : List PStmt). scoped_list o list r) (items_hidden-the_row-PStmt-0 body)

-- behind the first list of an If
abbrev pub behind_first : List ℕ → PExpr → List PStmt → Reading → Reading
behind_first o e body r = closed r (scoped_list o body (read (slots_read e) r))

pub scoped-if : (o : List ℕ) (e : PExpr) (body other : List PStmt) (r : Reading) → scoped o (If e body other) r ≡ closed r (scoped_list o other (behind_first o e body r))
scoped-if o e body other r =
    ap (λ (x : Reading). closed r (scoped_row o (hidden-the_row-PStmt-0 other) (closed r x))) (scoped_row-list o body (read (slots_read e) r))
    ∙ ap (closed r) (scoped_row-list o other (behind_first o e body r))

-- behind the test of a While
abbrev pub behind_test : List ℕ → List PStmt → PExpr → Reading → Reading
behind_test o head e r = read (slots_read e) (scoped_list o head r)

pub scoped-while : (o : List ℕ) (head : List PStmt) (e : PExpr) (body : List PStmt) (r : Reading) → scoped o (While head e body) r ≡ closed r (scoped_list o body (closed r (behind_test o head e r)))
scoped-while o head e body r =
    ap (λ (x : Reading). closed r (scoped_row o (hidden-the_row-PStmt-0 body) (closed r (read (slots_read e) x)))) (scoped_row-list o head r)
    ∙ ap (closed r) (scoped_row-list o body (closed r (behind_test o head e r)))

pub scoped_branch-list : (at : Place) (body : List PStmt) (r : Reading) → scoped_branch (roll-Branch (record { at = at; body = body })) r ≡ closed r (scoped_list r.assigned body r)
scoped_branch-list at body r =
    ap (λ b. scoped_branch b r) (rolls-Branch' (record { at = at; body = body })) ∙ ap (closed r) (scoped_row-list r.assigned body r)

-- one branch after another
abbrev pub scoped_each : List Branch → Reading → Reading
scoped_each [] r = r
scoped_each (b ∷ blocks) r = scoped_each blocks (scoped_branch b r)

scoped_branches-items : {n : _} (row : Row_of-Branch n) (r : Reading) → scoped_branches row r ≡ scoped_each (items-the_row-Branch n row) r
scoped_branches-items end_of-Branch r = refl
scoped_branches-items (more_of-Branch b rest) r = scoped_branches-items rest (scoped_branch b r)

pub scoped-cobegin : (o : List ℕ) (blocks : List Branch) (r : Reading) → scoped o (Cobegin blocks) r ≡ scoped_each blocks r
scoped-cobegin o blocks r = scoped_branches-items (hidden-the_row-Branch-1 blocks) r ∙ ap (λ (list : List Branch). scoped_each list r) (items_hidden-the_row-Branch-1 blocks)

-- ---- statements at any depth, over lists

within_row-items : {n : _} (row : Row_of-PStmt n) → within_row row ≡ statements (items-the_row-PStmt n row)
within_row-items end_of-PStmt = refl
within_row-items (more_of-PStmt at kind rest) = ap (λ (list : List PStmt). statement at kind ∷ (inside kind ++ list)) (within_row-items rest)

pub within_row-list : (body : List PStmt) → within_row (hidden-the_row-PStmt-0 body) ≡ statements body
within_row-list body = within_row-items (hidden-the_row-PStmt-0 body) ∙ ap statements (items_hidden-the_row-PStmt-0 body)

pub within_branch-list : (at : Place) (body : List PStmt) → within_branch (roll-Branch (record { at = at; body = body })) ≡ statements body
within_branch-list at body = ap within_branch (rolls-Branch' (record { at = at; body = body })) ∙ within_row-list body

pub inside-if : (e : PExpr) (body other : List PStmt) → inside (If e body other) ≡ statements body ++ statements other
inside-if e body other = ap₂ (λ (xs ys : List PStmt). xs ++ ys) (within_row-list body) (within_row-list other)

pub inside-while : (head : List PStmt) (e : PExpr) (body : List PStmt) → inside (While head e body) ≡ statements head ++ statements body
inside-while head e body = ap₂ (λ (xs ys : List PStmt). xs ++ ys) (within_row-list head) (within_row-list body)

-- of branches beside each other
abbrev pub within_each : List Branch → List PStmt
within_each blocks = flat_map within_branch blocks

within_branches-items : {n : _} (row : Row_of-Branch n) → within_branches row ≡ within_each (items-the_row-Branch n row)
within_branches-items end_of-Branch = refl
within_branches-items (more_of-Branch b rest) = ap (λ (list : List PStmt). within_branch b ++ list) (within_branches-items rest)

pub inside-cobegin : (blocks : List Branch) → inside (Cobegin blocks) ≡ within_each blocks
inside-cobegin blocks = within_branches-items (hidden-the_row-Branch-1 blocks) ∙ ap within_each (items_hidden-the_row-Branch-1 blocks)

-- ---- what the statements of a list have

-- of statements
abbrev pub each_of : (PKind → List ℕ) → List PStmt → List ℕ
each_of f list = flat_map (λ (s : PStmt). f s.kind) list

-- of statements and of those inside them
abbrev pub gathered : (PKind → List ℕ) → List PStmt → List ℕ
gathered f body = each_of f (statements body)

pub each_of-append : (f : PKind → List ℕ) (xs ys : List PStmt) → each_of f (xs ++ ys) ≡ each_of f xs ++ each_of f ys
each_of-append f xs ys = flat_map-append (λ (s : PStmt). f s.kind) xs ys

pub statements-append : (xs ys : List PStmt) → statements (xs ++ ys) ≡ statements xs ++ statements ys
statements-append xs ys = flat_map-append (λ (s : PStmt). s ∷ inside s.kind) xs ys

pub gathered-append : (f : PKind → List ℕ) (xs ys : List PStmt) → gathered f (xs ++ ys) ≡ gathered f xs ++ gathered f ys
gathered-append f xs ys = ap (each_of f) (statements-append xs ys) ∙ each_of-append f (statements xs) (statements ys)

pub gathered-one : (f : PKind → List ℕ) (at : Place) (kind : PKind) → gathered f (statement at kind ∷ []) ≡ f kind ++ each_of f (inside kind)
gathered-one f at kind = ap (λ (list : List PStmt). f kind ++ each_of f list) (append-nil (inside kind))

-- of one statement with two lists
pub gathered-two : (f : PKind → List ℕ) (at : Place) (kind : PKind) (first second : List PStmt) → f kind ≡ [] → inside kind ≡ statements first ++ statements second
    → gathered f (statement at kind ∷ []) ≡ gathered f first ++ gathered f second
gathered-two f at kind first second none parts =
    gathered-one f at kind ∙ ap₂ (λ (xs : List ℕ) (list : List PStmt). xs ++ each_of f list) none parts ∙ each_of-append f (statements first) (statements second)
