-- How the least fault grows.
use Rattle.std.proofs.Common.{◌≡◌, ℕ, Bool, true, false, cond, List, [], ◌∷◌, ◌++◌, map, Option, refl, ap, sym, ◌∙◌}
use Rattle.std.specs.List.{flat_map}
use Rattle.std.proofs.lemmas.List.{map-append}
use Rattle.std.proofs.lemmas.List.Sums.{fold-append}
use Rattle.std.proofs.lemmas.Grind.{flat_map-append}
use Rattle.lq_tree.specs.declared.place.Place.{Place}
use Rattle.lq_tree.specs.declared.stmt.StmtKind.{out-StmtKind}
use Rattle.lq_names.specs.declared.fault.Fault.{Fault}
use Rattle.lq_names.specs.Sites.{Placed}
use Rattle.lq_names.specs.Faults.{broken, fault_at, lesser, least, noted, noted_if, gathered, placed_faults, statement_rules}

pub least_append : (found : Option Fault) (a b : List Fault) → least found (a ++ b) ≡ least (least found a) b
unfolding least
least_append found a b = fold-append lesser found a b

pub noted_none : (at : Place) (found : Option Fault) → noted at found (broken []) ≡ found
unfolding noted least broken
noted_none at found = refl

by_test : (at : Place) (found : Option Fault) (b : Bool) (rule : ℕ) (rules : List ℕ) → noted at found (cond b (rule ∷ rules) rules) ≡ noted at (noted_if at found b rule) rules
unfolding noted noted_if least
by_test at found true rule rules = refl
by_test at found false rule rules = refl

pub noted_broken : (at : Place) (found : Option Fault) (b : Bool) (rule : ℕ) (rules : List (Bool × ℕ)) → noted at found (broken ((b, rule) ∷ rules)) ≡ noted at (noted_if at found b rule) (broken rules)
unfolding broken
noted_broken at found b rule rules = by_test at found b rule (broken rules)

pub noted_append : (at : Place) (found : Option Fault) (a b : List ℕ) → noted at found (a ++ b) ≡ noted at (noted at found a) b
unfolding noted
noted_append at found a b = ap (least found) (map-append (fault_at at) a b) ∙ least_append found (map (fault_at at) a) (map (fault_at at) b)

pub gathered_none : (found : Option Fault) → gathered found [] ≡ found
unfolding gathered least
gathered_none found = refl

pub gathered_append : (found : Option Fault) (a b : List Placed) → gathered found (a ++ b) ≡ gathered (gathered found a) b
unfolding gathered
gathered_append found a b = ap (least found) (flat_map-append placed_faults a b) ∙ least_append found (flat_map placed_faults a) (flat_map placed_faults b)

pub gathered_more : (found : Option Fault) (p : Placed) (rest : List Placed) → gathered found (p ∷ rest) ≡ gathered (noted p.at found (statement_rules p.site (out-StmtKind p.kind))) rest
unfolding gathered noted placed_faults
gathered_more found p rest = least_append found (map (fault_at p.at) (statement_rules p.site (out-StmtKind p.kind))) (flat_map placed_faults rest)

-- one step of a chain of notes
pub step : (at : Place) (found : Option Fault) (rule : ℕ) (rules : List (Bool × ℕ)) {next : Option Fault} {b test : Bool} → next ≡ noted_if at found b rule → b ≡ test
    → noted at found (broken ((test, rule) ∷ rules)) ≡ noted at next (broken rules)
step at found rule rules {next} {b} {test} e is =
    noted_broken at found test rule rules ∙ ap (λ (t : Bool). noted at (noted_if at found t rule) (broken rules)) (sym is) ∙ ap (λ (f : Option Fault). noted at f (broken rules)) (sym e)

pub noted_nothing : (at : Place) (found : Option Fault) → noted at found [] ≡ found
unfolding noted least
noted_nothing at found = refl
