-- Comparisons. docs/CHECKING.md, "Qualifier text".
use Rattle.std.specs.Prelude.{◌≡◌, ℕ, ◌≤◌, Bool, true, false, not, List, ◌++◌, codes, length}
use Rattle.lq_quals.specs.declared.comparison.Relation.{Relation}
use Rattle.lq_quals.specs.declared.comparison.Relation.TheVariants.{AtMost, Less, AtLeast, More, Equal}
use Rattle.lq_quals.specs.declared.comparison.Comparison.{Comparison}
use Rattle.lq_quals.specs.declared.term.Addend.{Addend}
use Rattle.lq_quals.specs.Side.{IsSide}

-- how a relation is spelled
abbrev pub relation_text : Relation → List ℕ
relation_text AtMost = codes "<="
relation_text Less = codes "<"
relation_text AtLeast = codes ">="
relation_text More = codes ">"
relation_text Equal = codes "=="

-- `A >= B` and `A > B` say `B <= A` and `B < A`
abbrev pub is_reversed : Relation → Bool
is_reversed AtLeast = true
is_reversed More = true
is_reversed _ = false

-- the two sides aren't equal
abbrev pub is_strict : Relation → Bool
is_strict Less = true
is_strict More = true
is_strict _ = false

-- two sides around a relation; the addends are those of the one less those of the other, in the order of the text
pub record IsComparison (text : List ℕ) (c : Comparison) : Type 0 where
  pub left : List ℕ
  pub right : List ℕ
  pub first : List Addend
  pub later : List Addend
  pub spelled : text ≡ left ++ (relation_text c.relation ++ right)
  pub left_side : IsSide (is_reversed c.relation) left first
  pub right_side : IsSide (not (is_reversed c.relation)) right later
  pub joined : c.addends ≡ first ++ later

-- the text begins with the relation, and with no longer one
pub record IsLongest (text : List ℕ) (relation : Relation) (rest : List ℕ) : Type 0 where
  pub joined : text ≡ relation_text relation ++ rest
  pub longest : (other : Relation) (left : List ℕ) → text ≡ relation_text other ++ left → length (relation_text other) ≤ length (relation_text relation)
