-- A walk only passes more points of the text.
use Rattle.std.proofs.Common.{◌≡◌, List, [], ◌∷◌, ◌++◌, refl, sym, ap, ◌∙◌, append-nil, append_assoc}
use Rattle.lq_tree.specs.declared.plain.PKind.{PKind, Set, Load, Store, Calloc, Call, If', While', Cobegin', Foreach, Print, Return, Row_of-PStmt, end_of-PStmt, more_of-PStmt, Row_of-Branch, end_of-Branch, more_of-Branch}
use Rattle.lq_tree.specs.declared.plain.Branch.{Branch, Branch'}
use Rattle.lq_tree.specs.PlainWalk.{within_row}
use Rattle.lq_templates.specs.Spots.{Spot, inner_scope, Walk, spot_at, passed, closed, with_index, walked, walked_row, walked_branch, walked_branches}

-- the second list is the first and more
pub record Extends (before after : List Spot) : Type 0 where
  pub more : List Spot
  pub split : after ≡ before ++ more

pub itself : (spots : List Spot) → Extends spots spots
itself spots = record { more = []; split = sym (append-nil spots) }

pub further : (a b c : List Spot) → Extends a b → Extends b c → Extends a c
further a b c h k = record { more = h.more ++ k.more; split = k.split ∙ ap (λ l. l ++ k.more) h.split ∙ append_assoc a h.more k.more }

pub by_passing : (spots : List Spot) (w : Walk) → Extends w.spots (passed spots w).spots
by_passing spots w = record { more = spots; split = refl }

mutual
  pub walked_on : (kind : PKind) (w : Walk) → Extends w.spots (walked kind w).spots
  walked_on (If' e n body m other) w =
      let begun = passed (spot_at w.scope (If' e n body m other)) w in
      let first = closed w (walked_row body begun) in
      further w.spots first.spots (walked_row other first).spots (further w.spots begun.spots first.spots (by_passing (spot_at w.scope (If' e n body m other)) w) (walked_row_on body begun)) (walked_row_on other first)
  walked_on (While' n head e m body) w =
      let begun = passed (spot_at w.scope (While' n head e m body)) w in
      let tested = closed w (walked_row head begun) in
      further w.spots tested.spots (walked_row body tested).spots (further w.spots begun.spots tested.spots (by_passing (spot_at w.scope (While' n head e m body)) w) (walked_row_on head begun)) (walked_row_on body tested)
  walked_on (Cobegin' n blocks) w = walked_branches_on blocks w
  walked_on (Foreach index low high step branch) w = walked_branch_on branch (with_index index w)
  walked_on (Set to e) w = itself w.spots
  walked_on (Load to base index field) w = itself w.spots
  walked_on (Store base index field e) w = itself w.spots
  walked_on (Calloc to count type) w = itself w.spots
  walked_on (Call to function args) w = itself w.spots
  walked_on (Print e) w = itself w.spots
  walked_on (Return e) w = itself w.spots

  pub walked_row_on : {n : _} (row : Row_of-PStmt n) (w : Walk) → Extends w.spots (walked_row row w).spots
  walked_row_on end_of-PStmt w = itself w.spots
  walked_row_on (more_of-PStmt at kind rest) w =
      further w.spots (walked kind w).spots (walked_row rest (walked kind w)).spots (walked_on kind w) (walked_row_on rest (walked kind w))

  pub walked_branch_on : (branch : Branch) (w : Walk) → Extends w.spots (walked_branch branch w).spots
  walked_branch_on (Branch' at n body) w =
      let begun = passed (inner_scope at (within_row body) w.scope ∷ []) w in
      further w.spots begun.spots (walked_row body begun).spots (by_passing (inner_scope at (within_row body) w.scope ∷ []) w) (walked_row_on body begun)

  pub walked_branches_on : {n : _} (row : Row_of-Branch n) (w : Walk) → Extends w.spots (walked_branches row w).spots
  walked_branches_on end_of-Branch w = itself w.spots
  walked_branches_on (more_of-Branch branch rest) w =
      further w.spots (walked_branch branch w).spots (walked_branches rest (walked_branch branch w)).spots (walked_branch_on branch w) (walked_branches_on rest (walked_branch branch w))
