-- The walk over a function's text, by the lists that the code sees.
use Rattle.std.proofs.Common.{◌≡◌, ℕ, ◌+◌, ◌<◌, List, [], ◌∷◌, ◌++◌, length, get_or, take, map, refl, ap, sym, ◌∙◌}
use Rattle.std.proofs.lemmas.List.{map-append, take_more}
use Rattle.lq_tree.specs.declared.place.Place.{Place}
use Rattle.lq_tree.specs.declared.plain.PExpr.{PExpr}
use Rattle.lq_tree.specs.declared.plain.PKind.{PKind, If, While, Cobegin, Row_of-PStmt, end_of-PStmt, more_of-PStmt, items-the_row-PStmt, items_hidden-the_row-PStmt-0, Row_of-Branch, end_of-Branch, more_of-Branch, items-the_row-Branch, items_hidden-the_row-Branch-1}
use Rattle.lq_tree.specs.declared.plain.PKind.TheBlock.{hidden-the_row-PStmt-0, hidden-the_row-Branch-1}
use Rattle.lq_tree.specs.declared.plain.PStmt.{PStmt}
use Rattle.lq_tree.specs.declared.plain.Branch.{Branch, out-Branch, roll-Branch, rolls-Branch', roll-out-Branch}
use Rattle.lq_tree.specs.PlainWalk.{statements}
use Rattle.lq_templates.specs.declared.reading.Point.{Point}
use Rattle.lq_templates.specs.declared.reading.Point.TheVariants.{Inner}
use Rattle.lq_templates.specs.declared.reading.Reading.{Reading as Read}
use Rattle.lq_templates.specs.Reading.{point, reading, with_points, inner_point, walked_blocks}
use Rattle.lq_templates.specs.Spots.{Spot, inner_scope, Walk, spot_at, passed, closed, walked, walked_row, walked_branch, walked_branches, walked_all}
use Rattle.lq_templates.specs.Touches.{each_touches, body_touches}
use Rattle.lq_templates.proofs.Inside.{within_row-list}

-- ---- lists

walked_row-items : {n : _} (row : Row_of-PStmt n) (w : Walk) → walked_row row w ≡ walked_all (items-the_row-PStmt n row) w
walked_row-items end_of-PStmt w = refl
walked_row-items (more_of-PStmt at kind rest) w = walked_row-items rest (walked kind w)

walked_row-list : (body : List PStmt) (w : Walk) → walked_row (hidden-the_row-PStmt-0 body) w ≡ walked_all body w
walked_row-list body w = walked_row-items (hidden-the_row-PStmt-0 body) w ∙ ap (λ (list : List PStmt). walked_all list w) (items_hidden-the_row-PStmt-0 body)

-- a list, behind which the scope is as it was
abbrev pub listed : List PStmt → Walk → Walk
listed body w = closed w (walked_all body w)

-- a statement that may be a spot, before its lists
abbrev pub begun : PKind → Walk → Walk
begun kind w = passed (spot_at w.scope kind) w

pub walked-if : (e : PExpr) (body other : List PStmt) (w : Walk) → walked (If e body other) w ≡ listed other (listed body (begun (If e body other) w))
walked-if e body other w =
    let start = begun (If e body other) w in
    ap (λ v. closed w (walked_row (hidden-the_row-PStmt-0 other) (closed w v))) (walked_row-list body start) ∙ ap (closed w) (walked_row-list other (listed body start))

pub walked-while : (head : List PStmt) (e : PExpr) (body : List PStmt) (w : Walk) → walked (While head e body) w ≡ listed body (listed head (begun (While head e body) w))
walked-while head e body w =
    let start = begun (While head e body) w in
    ap (λ v. closed w (walked_row (hidden-the_row-PStmt-0 body) (closed w v))) (walked_row-list head start) ∙ ap (closed w) (walked_row-list body (listed head start))

walked_branches-items : {n : _} (row : Row_of-Branch n) (w : Walk) → walked_branches row w ≡ walked_blocks (items-the_row-Branch n row) w
walked_branches-items end_of-Branch w = refl
walked_branches-items (more_of-Branch b rest) w = walked_branches-items rest (walked_branch b w)

pub walked-cobegin : (blocks : List Branch) (w : Walk) → walked (Cobegin blocks) w ≡ walked_blocks blocks w
walked-cobegin blocks w = walked_branches-items (hidden-the_row-Branch-1 blocks) w ∙ ap (λ (list : List Branch). walked_blocks list w) (items_hidden-the_row-Branch-1 blocks)

-- the spot of a branch
abbrev pub branch_spot : Place → List PStmt → (scope : List ℕ) → List Spot
branch_spot at body scope = inner_scope at (statements body) scope ∷ []

walked_branch-list : (at : Place) (body : List PStmt) (w : Walk) → walked_branch (roll-Branch (record { at = at; body = body })) w ≡ listed body (passed (branch_spot at body w.scope) w)
walked_branch-list at body w =
    ap (λ b. walked_branch b w) (rolls-Branch' (record { at = at; body = body }))
    ∙ ap (λ (list : List PStmt). closed w (walked_row (hidden-the_row-PStmt-0 body) (passed (inner_scope at list w.scope ∷ []) w))) (within_row-list body)
    ∙ ap (closed w) (walked_row-list body (passed (branch_spot at body w.scope) w))

pub walked_branch-out : (b : Branch) (w : Walk) → walked_branch b w ≡ listed (out-Branch b).body (passed (branch_spot (out-Branch b).at (out-Branch b).body w.scope) w)
walked_branch-out b w = ap (λ x. walked_branch x w) (sym (roll-out-Branch b)) ∙ walked_branch-list (out-Branch b).at (out-Branch b).body w

inner_point-list : (class_at : ℕ → ℕ) (scope : List ℕ) (at : Place) (body : List PStmt) → inner_point class_at scope (roll-Branch (record { at = at; body = body })) ≡ Inner at (body_touches class_at body) scope ∷ []
inner_point-list class_at scope at body =
    ap (inner_point class_at scope) (rolls-Branch' (record { at = at; body = body })) ∙ ap (λ (list : List PStmt). Inner at (each_touches class_at list) scope ∷ []) (within_row-list body)

pub inner_point-out : (class_at : ℕ → ℕ) (scope : List ℕ) (b : Branch) → inner_point class_at scope b ≡ Inner (out-Branch b).at (body_touches class_at (out-Branch b).body) scope ∷ []
inner_point-out class_at scope b = ap (inner_point class_at scope) (sym (roll-out-Branch b)) ∙ inner_point-list class_at scope (out-Branch b).at (out-Branch b).body

-- ---- one statement and one branch more

walked_all-append : (xs ys : List PStmt) (w : Walk) → walked_all (xs ++ ys) w ≡ walked_all ys (walked_all xs w)
walked_all-append [] ys w = refl
walked_all-append (s ∷ xs) ys w = walked_all-append xs ys (walked s.kind w)

walked_blocks-append : (xs ys : List Branch) (w : Walk) → walked_blocks (xs ++ ys) w ≡ walked_blocks ys (walked_blocks xs w)
walked_blocks-append [] ys w = refl
walked_blocks-append (b ∷ xs) ys w = walked_blocks-append xs ys (walked_branch b w)

pub all_more : (list : List PStmt) (i : ℕ) (s : PStmt) (w : Walk) → i < length list → s ≡ get_or list i s → walked s.kind (walked_all (take i list) w) ≡ walked_all (take (i + 1) list) w
all_more list i s w within is =
    sym (walked_all-append (take i list) (s ∷ []) w) ∙ ap (λ (x : PStmt). walked_all (take i list ++ x ∷ []) w) is ∙ ap (λ (xs : List PStmt). walked_all xs w) (sym (take_more list i s within))

pub blocks_more : (list : List Branch) (i : ℕ) (b : Branch) (w : Walk) → i < length list → b ≡ get_or list i b → walked_branch b (walked_blocks (take i list) w) ≡ walked_blocks (take (i + 1) list) w
blocks_more list i b w within is =
    sym (walked_blocks-append (take i list) (b ∷ []) w) ∙ ap (λ (x : Branch). walked_blocks (take i list ++ x ∷ []) w) is ∙ ap (λ (xs : List Branch). walked_blocks xs w) (sym (take_more list i b within))

-- ---- what the code keeps of it

reading_same : {a b s t : List ℕ} {ps qs : List Point} → a ≡ b → s ≡ t → ps ≡ qs
    → (let r : Read = record { assigned = a; scope = s; points = ps } in let q : Read = record { assigned = b; scope = t; points = qs } in r ≡ q)
reading_same x y z = λ i. record { assigned = x i; scope = y i; points = z i }

-- spots are passed
pub passes : (class_at : ℕ → ℕ) (w : Walk) (spots : List Spot) → with_points (map (point class_at) spots) (reading class_at w) ≡ reading class_at (passed spots w)
passes class_at w spots = reading_same refl refl (sym (map-append (point class_at) w.spots spots))

-- a statement that may be a spot begins
pub begins : (class_at : ℕ → ℕ) (kind : PKind) (w : Walk) (old new : Read) → old ≡ reading class_at w → new ≡ with_points (map (point class_at) (spot_at old.scope kind)) old → new ≡ reading class_at (begun kind w)
begins class_at kind w old new is passed = passed ∙ ap (λ (r : Read). with_points (map (point class_at) (spot_at r.scope kind)) r) is ∙ passes class_at w (spot_at w.scope kind)

-- a branch begins
pub begins_branch : (class_at : ℕ → ℕ) (b : Branch) (w : Walk) (old new : Read) → old ≡ reading class_at w → new ≡ with_points (inner_point class_at old.scope b) old
    → new ≡ reading class_at (passed (branch_spot (out-Branch b).at (out-Branch b).body w.scope) w)
begins_branch class_at b w old new is passed =
    passed ∙ ap (λ (r : Read). with_points (inner_point class_at r.scope b) r) is
    ∙ ap (λ (ps : List Point). with_points ps (reading class_at w)) (inner_point-out class_at w.scope b) ∙ passes class_at w (branch_spot (out-Branch b).at (out-Branch b).body w.scope)
