-- The rows of goals, those within the bounds.
use Rattle.std.proofs.Common.{◌≡◌, ℕ, ◌-◌, zero, suc, ◌<◌, Bool, true, false, List, [], ◌∷◌, ◌++◌, length, get_or, slice_get, Some, sym, ap, ◌∙◌, arith, subst}
use Rattle.std.specs.Prelude.{◌&&◌, IsTrue, Contains}
use Rattle.std.specs.List.{list_all, flat_map, filter_map}
use Rattle.std.proofs.lemmas.Bool.{false≢true}
use Rattle.std.proofs.lemmas.List.Elements.{Contains-append_left, Contains-append_right}
use Rattle.lq_linear.specs.Form.{Linear}
use Rattle.lq_linear.specs.Row.{Inequality}
use Rattle.lq_linear.specs.Collect.{as_row}
use Rattle.lq_templates.specs.declared.condition.Given.{Given}
use Rattle.lq_templates.specs.declared.condition.Given.TheVariants.{Fixed, Of}
use Rattle.lq_templates.specs.declared.condition.Assign.{Assign}
use Rattle.lq_templates.specs.Conditions.{filled, rows_at, IsPart, none, kept, left, IsWithin}
use Rattle.lq_fixpoint.specs.Goals.{bounded_of}
use Rattle.lq_fixpoint.proofs.Parts.{part_append, part_filter_map, part_at}
use Rattle.lq_fixpoint.proofs.GoalLemmas.{later_in}
use Rattle.lq_fixpoint.proofs.ThinLemmas.{got_rows}

-- ---- where rows were dropped

in_both : {X : Type 0} (y : X) (part whole : List X) (x : X) → (Contains part x → Contains whole x) → Contains (y ∷ part) x → Contains (y ∷ whole) x
in_both y part whole x f h = at h.0 h.1 h.2 where
  at : (k : ℕ) → k < length (y ∷ part) → get_or (y ∷ part) k x ≡ x → Contains (y ∷ whole) x
  at zero l e = (0, omega arith, e)
  at (suc k) l e = later_in y whole x (f (k, omega arith, e))

part_in : {X : Type 0} {part whole : List X} → IsPart part whole → (x : X) → Contains part x → Contains whole x
part_in none x h = h
part_in (kept {x = y} {part = part} {whole = whole} p) x h = in_both y part whole x (λ c. part_in p x c) h
part_in (left {x = y} {whole = whole} p) x h = later_in y whole x (part_in p x h)

one_part : (given : Given) (a b : Assign) → IsWithin b a → IsPart (bounded_of b given) (bounded_of a given)
one_part (Fixed item) a b w = none
one_part (Of template values) a b w = part_filter_map (λ row. as_row (filled values row)) (part_at b.rows a.rows w (template - 1))

all_part : (goals : List Given) (a b : Assign) → IsWithin b a → IsPart (flat_map (bounded_of b) goals) (flat_map (bounded_of a) goals)
all_part [] a b w = none
all_part (given ∷ goals) a b w = part_append (one_part given a b w) (all_part goals a b w)

-- ---- one goal after another

both_true : (a b : Bool) → IsTrue (a && b) → IsTrue b
both_true true b h = h
both_true false b h = absurd (false≢true h)

pub later_true : {X : Type 0} (test : X → Bool) (all rest : List X) (first : X) → all ≡ first ∷ rest → IsTrue (list_all test all) → IsTrue (list_all test rest)
later_true test all rest first e h = both_true (test first) (list_all test rest) (subst (λ l. IsTrue (list_all test l)) e h)

module _ (index : List Inequality) (goals rest : List Given) (first : Given) (a : Assign) (e : goals ≡ first ∷ rest)
    (all : (row : Inequality) → Contains (flat_map (bounded_of a) goals) row → Contains index row) where
  all_split : (row : Inequality) → Contains (bounded_of a first ++ flat_map (bounded_of a) rest) row → Contains index row
  all_split row h = all row (subst (λ l. Contains (flat_map (bounded_of a) l) row) (sym e) h)

  pub first_bounded : (row : Inequality) → Contains (bounded_of a first) row → Contains index row
  first_bounded row h = all_split row (Contains-append_left (bounded_of a first) (flat_map (bounded_of a) rest) row h)

  -- the other goals, where rows were dropped since
  pub rest_bounded : (b : Assign) → IsWithin b a → (row : Inequality) → Contains (flat_map (bounded_of b) rest) row → Contains index row
  rest_bounded b w row h =
      all_split row (Contains-append_right (bounded_of a first) (flat_map (bounded_of a) rest) row (part_in (all_part rest a b w) row h))

-- ---- the rows of one template

pub goal_bounded : (template place : ℕ) (values slice : List Linear) (given : Given) (assign : Assign) (rows same_rows : List Inequality) → place ≡ template - 1 → slice ≡ values
    → given ≡ Of template values → Some rows ≡ slice_get assign.rows place → same_rows ≡ rows
    → (row : Inequality) → Contains (filter_map (λ r. as_row (filled slice r)) same_rows) row → Contains (bounded_of assign given) row
goal_bounded template place values slice given assign rows same_rows at same is found are row h =
    let there : rows_at assign template ≡ rows = ap (λ n. get_or assign.rows n []) (sym at) ∙ got_rows assign.rows place [] rows found in
    subst (λ g. Contains (bounded_of assign g) row) (sym is)
    (subst (λ l. Contains (filter_map (λ r. as_row (filled values r)) l) row) (are ∙ sym there)
    (subst (λ l. Contains (filter_map (λ r. as_row (filled l r)) same_rows) row) same h))
