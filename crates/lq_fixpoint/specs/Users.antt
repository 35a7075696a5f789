-- Which conditions stand on a template. Helpers of private functions.
use Rattle.std.specs.Prelude.{◌≡◌, ℕ, ◌+◌, ◌-◌, ◌<◌, List, [], ◌∷◌, ◌++◌, Some, length, slice_get, slice_set, slice_index_or, Contains}
use Rattle.std.specs.List.{AllByRecursion}
use Rattle.lq_templates.specs.declared.condition.Given.{Given}
use Rattle.lq_templates.specs.declared.condition.Given.TheVariants.{Fixed, Of}
use Rattle.lq_templates.specs.declared.condition.Condition.{Condition}

-- a number is among those of the template on which a fact stands
abbrev pub IsListed : (users : List (List ℕ)) → (number : ℕ) → Given → Type 0
IsListed users number (Fixed item) = Unit {0}
IsListed users number (Of template values) = template - 1 < length users → Contains (slice_index_or users (template - 1) []) number

-- a fact stands on the template with this place
abbrev pub StandsOn : (place : ℕ) → Given → Type 0
StandsOn place (Fixed item) = ⊥
StandsOn place (Of template values) = place ≡ template - 1

-- for each template the numbers of the conditions among whose facts it is
pub record AreUsers (list : List Condition) (users : List (List ℕ)) : Type 0 where
  pub listed : (number : ℕ) (c : Condition) → slice_get list number ≡ Some c → AllByRecursion (IsListed users number) c.facts
  pub only : (place number : ℕ) → Contains (slice_index_or users place []) number → (c : Condition) × (given : Given) × (slice_get list number ≡ Some c) × Contains c.facts given × StandsOn place given

-- with a number at the template of a fact
abbrev pub with_user : (number : ℕ) → (users : List (List ℕ)) → Given → List (List ℕ)
with_user number users (Fixed item) = users
with_user number users (Of template values) = slice_set users (template - 1) (slice_index_or users (template - 1) [] ++ number ∷ [])

-- with a number at the templates of facts
abbrev pub with_users : (number : ℕ) → (users : List (List ℕ)) → List Given → List (List ℕ)
with_users number users [] = users
with_users number users (given ∷ facts) = with_users number (with_user number users given) facts

-- with the numbers of conditions from this one on
abbrev pub with_all : (number : ℕ) → (users : List (List ℕ)) → List Condition → List (List ℕ)
with_all number users [] = users
with_all number users (c ∷ list) = with_all (number + 1) (with_users number users c.facts) list
