-- A goal is derived exactly where the row is that it is collected to.
use Rattle.std.proofs.Common.{◌≡◌, ℕ, ℤ, pos, ◌*ℤ◌, Bool, true, false, List, Option, None, Some, sym, ap, ◌∙◌, subst}
use Rattle.std.specs.Prelude.{MatchBool, ◌≤ℤ◌}
use Rattle.lq_linear.specs.Terms.{AreAlike, times}
use Rattle.lq_linear.specs.Row.{Inequality}
use Rattle.lq_linear.specs.Collect.{collected, as_row}
use Rattle.lq_linear.specs.Item.{rows}
use Rattle.lq_linear.specs.Derivation.{floor, Part, Combination, combined, IsConsequence, IsContradiction, Derives}
use Rattle.lq_linear.specs.declared.item.Item.{Item}
use Rattle.lq_linear.proofs.TermsLemmas.{coefficient-times}
use Rattle.lq_symbolic.proofs.Collected.{collected_alike, row_if, if_row}
use Rattle.lq_templates.specs.Conditions.{IsDerived}

match_right : (A B C : Type 0) → (B → C) → (test : Bool) → MatchBool test A B → MatchBool test A C
match_right A B C f true h = h
match_right A B C f false h = f h

times_alike : (z : ℤ) (a b : List (ℕ × ℤ)) → AreAlike a b → AreAlike (times z a) (times z b)
times_alike z a b h s = coefficient-times z a s ∙ ap (λ y. z *ℤ y) (h s) ∙ sym (coefficient-times z b s)

follows_same : (all : List Inequality) (parts : List Part) (divisor : ℕ) (a b : Inequality) → AreAlike a.terms b.terms → a.most ≡ b.most
    → IsConsequence all parts divisor a → IsConsequence all parts divisor b
follows_same all parts divisor a b h e k = record {
  alike = λ s. k.alike s ∙ times_alike (pos divisor) a.terms b.terms h s;
  most = subst (λ z. floor (combined all parts).most divisor ≤ℤ z) e k.most;
}

-- goals that are alike
pub derives_same : (M : List ℕ) (facts : List Item) (a b : Inequality) → AreAlike a.terms b.terms → a.most ≡ b.most → Derives M facts a → Derives M facts b
derives_same M facts a b h e d =
    let c : Combination = d.0 in (
      c,
      d.1,
      match_right (IsContradiction (rows facts) c.parts × (c.divisor ≡ 1)) (IsConsequence (rows facts) c.parts c.divisor a)
          (IsConsequence (rows facts) c.parts c.divisor b) (follows_same (rows facts) c.parts c.divisor a b h e) c.void d.2,
    )

some_same : (a b : Inequality) → ◌≡◌ {A = Option Inequality} (Some a) (Some b) → a ≡ b
some_same a b e = cc

-- the row that a goal is collected to
made_of : (goal made : Inequality) → as_row goal ≡ Some made → record { terms = collected goal.terms; most = goal.most } ≡ made
made_of goal made e = some_same (record { terms = collected goal.terms; most = goal.most }) made (sym (if_row goal (row_if goal made e)) ∙ e)

made_alike : (goal made : Inequality) → as_row goal ≡ Some made → AreAlike made.terms goal.terms
made_alike goal made e = subst (λ (row : Inequality). AreAlike row.terms goal.terms) (made_of goal made e) (collected_alike goal.terms)

made_most : (goal made : Inequality) → as_row goal ≡ Some made → goal.most ≡ made.most
made_most goal made e = ap (λ (row : Inequality). row.most) (made_of goal made e)

pub goal_if_made : (M : List ℕ) (facts : List Item) (goal made : Inequality) → as_row goal ≡ Some made → Derives M facts made → IsDerived M facts goal
goal_if_made M facts goal made e d = record {
  bounded = row_if goal made e;
  derived = derives_same M facts made goal (made_alike goal made e) (sym (made_most goal made e)) d;
}

pub made_if_goal : (M : List ℕ) (facts : List Item) (goal made : Inequality) → as_row goal ≡ Some made → IsDerived M facts goal → Derives M facts made
made_if_goal M facts goal made e d = derives_same M facts goal made (λ s. sym (made_alike goal made e s)) (made_most goal made e) d.derived

-- a goal that passes the bounds isn't derived
pub none_made : (M : List ℕ) (facts : List Item) (goal : Inequality) → as_row goal ≡ None → IsDerived M facts goal → ⊥
none_made M facts goal e d =
    let found = if_row goal d.bounded in
    let both : ◌≡◌ {A = Option Inequality} None (Some (record { terms = collected goal.terms; most = goal.most })) = sym e ∙ found in
    cc
