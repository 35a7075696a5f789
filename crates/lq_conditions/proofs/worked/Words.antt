-- Short words for forms, facts and conditions.
use Rattle.std.specs.Prelude.{ℕ, Bool, List, [], ◌∷◌, Option, None, Some, ℤ, pos}
use Rattle.lq_linear.specs.Terms.{Term}
use Rattle.lq_linear.specs.Form.{Linear}
use Rattle.lq_linear.specs.declared.divisor.Divisor.{Divisor}
use Rattle.lq_linear.specs.declared.item.Item.{Item}
use Rattle.lq_linear.specs.declared.item.Item.TheVariants.{Holds, Division, Remainder}
use Rattle.lq_meaning.proofs.worked.SourceWords.{at}
use Rattle.lq_templates.specs.declared.condition.Given.{Given}
use Rattle.lq_templates.specs.declared.condition.Given.TheVariants.{Fixed, Of}
use Rattle.lq_templates.specs.declared.condition.Rule.{Rule}
use Rattle.lq_templates.specs.declared.condition.Rule.TheVariants.{Pair}
use Rattle.lq_templates.specs.declared.condition.Condition.{Condition}
use Rattle.lq_templates.specs.Conditions.{site, asks, absurdity}
use Rattle.lq_symbolic.specs.Value.{divisor_of}

-- forms
abbrev pub sum : List Term → ℤ → Linear
sum terms constant = record { terms = terms; constant = constant }

abbrev pub sym : ℕ → Linear
sym n = sum ((n, pos 1) ∷ []) (pos 0)

abbrev pub num : ℕ → Linear
num n = sum [] (pos n)

-- facts and goals
abbrev pub row : List Term → ℤ → Given
row terms most = Fixed (Holds (record { terms = terms; most = most }))

abbrev pub rows : (template : ℕ) → List Linear → Given
rows template values = Of template values

abbrev pub with_divisor : (Divisor → Item) → Option Divisor → Given
with_divisor item None = absurdity
with_divisor item (Some d) = Fixed (item d)

abbrev pub division : (quotient : ℕ) → Linear → (divisor : ℤ) → Given
division quotient dividend divisor = with_divisor (Division quotient dividend) (divisor_of (Some divisor))

abbrev pub remainder : (rest : ℕ) → Linear → (divisor : ℤ) → Given
remainder rest dividend divisor = with_divisor (Remainder rest dividend) (divisor_of (Some divisor))

-- conditions
abbrev pub goal : Rule → (line col : ℕ) → List Given → Given → Condition
goal rule line col facts given = asks rule (site (at line col)) facts given

abbrev pub pair :
    (line col first_line first_col second_line second_col class : ℕ) → (first second : Bool) → (field other : ℕ) → List Given → Condition
pair line col first_line first_col second_line second_col class first second field other facts =
    asks Pair
    (record { at = at line col; first = at first_line first_col; second = at second_line second_col; class = class; kinds = (first, second); fields = (field, other) })
    facts absurdity
