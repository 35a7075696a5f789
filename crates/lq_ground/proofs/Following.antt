-- A walk that follows the text of a function follows it at each statement, in each list and each branch. The lists are those that
-- the code sees.
use Rattle.std.proofs.Common.{◌≡◌, ℕ, ◌+◌, ◌<◌, List, [], ◌∷◌, ◌++◌, length, get_or, take, drop, refl, ap, sym, subst, ◌∙◌, append_assoc}
use Rattle.std.proofs.lemmas.List.{take-append-drop}
use Rattle.lq_tree.specs.declared.place.Place.{Place}
use Rattle.lq_tree.specs.declared.plain.PExpr.{PExpr}
use Rattle.lq_tree.specs.declared.plain.PKind.{PKind, If, While, Cobegin, Row_of-PStmt, end_of-PStmt, more_of-PStmt, items-the_row-PStmt, items_hidden-the_row-PStmt-0}
use Rattle.lq_tree.specs.declared.plain.PKind.TheBlock.{hidden-the_row-PStmt-0}
use Rattle.lq_tree.specs.declared.plain.PStmt.{PStmt}
use Rattle.lq_tree.specs.declared.plain.Branch.{Branch, out-Branch, roll-Branch, rolls-Branch', roll-out-Branch}
use Rattle.lq_templates.specs.Reading.{walked_blocks}
use Rattle.lq_templates.specs.Spots.{Spot, inner_scope, Walk, passed, closed, walked, walked_row, walked_branch, walked_all}
use Rattle.lq_templates.proofs.Inside.{within_row-list}
use Rattle.lq_templates.proofs.ReadingLemmas.{begun, branch_spot, listed, walked-if, walked-while, walked-cobegin, walked_branch-out, all_more, blocks_more}
use Rattle.lq_ground.specs.Ground.{Ground, in_first, in_second, in_branch}
use Rattle.lq_ground.specs.Standing.{Follows}
use Rattle.lq_ground.proofs.WalksOn.{Extends, itself, further, walked_on, walked_branch_on}

-- ---- where the walk stands, by lists

row-items : {n : _} (row : Row_of-PStmt n) (w : Walk) → walked_row row w ≡ walked_all (items-the_row-PStmt n row) w
row-items end_of-PStmt w = refl
row-items (more_of-PStmt at kind rest) w = row-items rest (walked kind w)

row-list : (body : List PStmt) (w : Walk) → walked_row (hidden-the_row-PStmt-0 body) w ≡ walked_all body w
row-list body w = row-items (hidden-the_row-PStmt-0 body) w ∙ ap (λ (list : List PStmt). walked_all list w) (items_hidden-the_row-PStmt-0 body)

-- in the second list of a statement
pub in_second-list : (kind : PKind) (first : List PStmt) (w : Walk) → in_second kind (hidden-the_row-PStmt-0 first) w ≡ listed first (in_first kind w)
in_second-list kind first w = ap (closed w) (row-list first (in_first kind w))

in_branch-list : (at : Place) (body : List PStmt) (w : Walk) → in_branch (roll-Branch (record { at = at; body = body })) w ≡ passed (branch_spot at body w.scope) w
in_branch-list at body w =
    ap (λ b. in_branch b w) (rolls-Branch' (record { at = at; body = body })) ∙ ap (λ (list : List PStmt). passed (inner_scope at list w.scope ∷ []) w) (within_row-list body)

pub in_branch-out : (b : Branch) (w : Walk) → in_branch b w ≡ passed (branch_spot (out-Branch b).at (out-Branch b).body w.scope) w
in_branch-out b w = ap (λ x. in_branch x w) (sym (roll-out-Branch b)) ∙ in_branch-list (out-Branch b).at (out-Branch b).body w

-- behind a branch
pub walked_branch-list : (b : Branch) (w : Walk) → walked_branch b w ≡ listed (out-Branch b).body (in_branch b w)
walked_branch-list b w = walked_branch-out b w ∙ ap (listed (out-Branch b).body) (sym (in_branch-out b w))

-- ---- what was passed earlier

pub earlier : (g : Ground) (v w : Walk) → Extends v.spots w.spots → Follows g w → Follows g v
earlier g v w longer follows = record {
  later = longer.more ++ follows.later;
  whole = sym (append_assoc v.spots longer.more follows.later) ∙ ap (λ (spots : List Spot). spots ++ follows.later) (sym longer.split) ∙ follows.whole;
}

all_on : (list : List PStmt) (w : Walk) → Extends w.spots (walked_all list w).spots
all_on [] w = itself w.spots
all_on (s ∷ list) w = further w.spots (walked s.kind w).spots (walked_all list (walked s.kind w)).spots (walked_on s.kind w) (all_on list (walked s.kind w))

blocks_on : (blocks : List Branch) (w : Walk) → Extends w.spots (walked_blocks blocks w).spots
blocks_on [] w = itself w.spots
blocks_on (b ∷ blocks) w = further w.spots (walked_branch b w).spots (walked_blocks blocks (walked_branch b w)).spots (walked_branch_on b w) (blocks_on blocks (walked_branch b w))

all-append : (xs ys : List PStmt) (w : Walk) → walked_all (xs ++ ys) w ≡ walked_all ys (walked_all xs w)
all-append [] ys w = refl
all-append (s ∷ xs) ys w = all-append xs ys (walked s.kind w)

blocks-append : (xs ys : List Branch) (w : Walk) → walked_blocks (xs ++ ys) w ≡ walked_blocks ys (walked_blocks xs w)
blocks-append [] ys w = refl
blocks-append (b ∷ xs) ys w = blocks-append xs ys (walked_branch b w)

module _ (g : Ground) where
  all_front : (list : List PStmt) (i : ℕ) (w : Walk) → Follows g (walked_all list w) → Follows g (walked_all (take i list) w)
  all_front list i w follows =
      earlier g (walked_all (take i list) w) (walked_all (drop i list) (walked_all (take i list) w)) (all_on (drop i list) (walked_all (take i list) w))
      (subst (Follows g) (ap (λ (xs : List PStmt). walked_all xs w) (sym (take-append-drop i list)) ∙ all-append (take i list) (drop i list) w) follows)

  blocks_front : (blocks : List Branch) (i : ℕ) (w : Walk) → Follows g (walked_blocks blocks w) → Follows g (walked_blocks (take i blocks) w)
  blocks_front blocks i w follows =
      earlier g (walked_blocks (take i blocks) w) (walked_blocks (drop i blocks) (walked_blocks (take i blocks) w)) (blocks_on (drop i blocks) (walked_blocks (take i blocks) w))
      (subst (Follows g) (ap (λ (xs : List Branch). walked_blocks xs w) (sym (take-append-drop i blocks)) ∙ blocks-append (take i blocks) (drop i blocks) w) follows)

  -- a statement of a list
  pub at_statement : (list : List PStmt) (i : ℕ) (s : PStmt) (w : Walk) → i < length list → s ≡ get_or list i s → Follows g (walked_all list w) → Follows g (walked s.kind (walked_all (take i list) w))
  at_statement list i s w low is follows = subst (Follows g) (sym (all_more list i s w low is)) (all_front list (i + 1) w follows)

  -- a branch beside others
  pub at_branch : (blocks : List Branch) (i : ℕ) (b : Branch) (w : Walk) → i < length blocks → b ≡ get_or blocks i b → Follows g (walked_blocks blocks w) → Follows g (walked_branch b (walked_blocks (take i blocks) w))
  at_branch blocks i b w low is follows = subst (Follows g) (sym (blocks_more blocks i b w low is)) (blocks_front blocks (i + 1) w follows)

  -- the list of a branch, and its spot
  pub inside_branch : (b : Branch) (w : Walk) → Follows g (walked_branch b w) → Follows g (walked_all (out-Branch b).body (in_branch b w))
  inside_branch b w follows =
      let end : Follows g (listed (out-Branch b).body (in_branch b w)) = subst (Follows g) (walked_branch-list b w) follows in record { later = end.later; whole = end.whole }

  pub before_branch : (b : Branch) (w : Walk) → Follows g (walked_branch b w) → Follows g (in_branch b w)
  before_branch b w follows = earlier g (in_branch b w) (walked_all (out-Branch b).body (in_branch b w)) (all_on (out-Branch b).body (in_branch b w)) (inside_branch b w follows)

  -- the lists of an If
  pub inside_other : (e : PExpr) (body other : List PStmt) (w : Walk) → Follows g (walked (If e body other) w) → Follows g (walked_all other (listed body (in_first (If e body other) w)))
  inside_other e body other w follows =
      let end : Follows g (listed other (listed body (begun (If e body other) w))) = subst (Follows g) (walked-if e body other w) follows in record { later = end.later; whole = end.whole }

  pub inside_body : (e : PExpr) (body other : List PStmt) (w : Walk) → Follows g (walked (If e body other) w) → Follows g (walked_all body (in_first (If e body other) w))
  inside_body e body other w follows =
      let half = earlier g (listed body (begun (If e body other) w)) (walked_all other (listed body (begun (If e body other) w))) (all_on other (listed body (begun (If e body other) w))) (inside_other e body other w follows) in
      record { later = half.later; whole = half.whole }

  -- those of a While
  pub inside_turn : (head : List PStmt) (e : PExpr) (body : List PStmt) (w : Walk) → Follows g (walked (While head e body) w) → Follows g (walked_all body (listed head (in_first (While head e body) w)))
  inside_turn head e body w follows =
      let end : Follows g (listed body (listed head (begun (While head e body) w))) = subst (Follows g) (walked-while head e body w) follows in record { later = end.later; whole = end.whole }

  pub inside_head : (head : List PStmt) (e : PExpr) (body : List PStmt) (w : Walk) → Follows g (walked (While head e body) w) → Follows g (walked_all head (in_first (While head e body) w))
  inside_head head e body w follows =
      let half = earlier g (listed head (begun (While head e body) w)) (walked_all body (listed head (begun (While head e body) w))) (all_on body (listed head (begun (While head e body) w))) (inside_turn head e body w follows) in
      record { later = half.later; whole = half.whole }

  -- the blocks of a Cobegin
  pub inside_blocks : (blocks : List Branch) (w : Walk) → Follows g (walked (Cobegin blocks) w) → Follows g (walked_blocks blocks w)
  inside_blocks blocks w follows = subst (Follows g) (walked-cobegin blocks w) follows
