-- The rows that the lines of a proof file claim (docs/PROOF-FILE.md, "Rows").
use Rattle.std.specs.Prelude.{ℕ, ◌==◌, suc, ◌-◌, ◌<◌, ◌≤◌, ℤ, if◌then◌else◌, List, [], ◌∷◌, map, length, slice_index_or}
use Rattle.std.specs.List.{AllByRecursion, flat_map}
use Rattle.lq_text.specs.declared.atom.Atom.{Atom}
use Rattle.lq_text.specs.declared.order.Term.{Term}
use Rattle.lq_linear.specs.Terms.{Ascends}
use Rattle.lq_linear.specs.Row.{Inequality}
use Rattle.lq_cert.specs.declared.line.Line.{Line}
use Rattle.lq_cert.specs.declared.line.Line.TheVariants.{Version, Row}
use Rattle.lq_templates.specs.declared.template.Named.{Named}
use Rattle.lq_templates.specs.declared.template.Template.{Template}
use Rattle.lq_templates.specs.declared.condition.Assign.{Assign}
use Rattle.lq_templates.specs.Conditions.{rows_at}
use Rattle.lq_instances.specs.Instances.{is_name}

-- the number of the name that an atom is, from 0; the number of all names where it is none of them
abbrev pub number_among : List Named → Atom → ℕ
number_among [] atom = 0
number_among (name ∷ names) atom = if is_name [] atom name then 0 else suc (number_among names atom)

-- a row over atoms as one over names
abbrev pub row_over : List Named → List Term → (most : ℤ) → Inequality
row_over names terms most = record { terms = map (λ (term : Term). (number_among names term.atom, term.coefficient)) terms; most = most }

-- its atoms are names, and stand in the order of the names
pub record IsOver (names : List Named) (row : Inequality) : Type 0 where
  pub named : AllByRecursion (λ term. term.0 < length names) row.terms
  pub ordered : Ascends row.terms

-- the row that a line claims for the template with this number and these names
abbrev pub claimed : (number : ℕ) → List Named → Line → List Inequality
claimed number names (Row template terms most) = if template == number then row_over names terms most ∷ [] else []
claimed number names line = []

-- the rows that lines claim for the templates from this number on
abbrev pub claimed_from : (number : ℕ) → List Template → List Line → List (List Inequality)
claimed_from number [] lines = []
claimed_from number (t ∷ templates) lines = flat_map (claimed number t.names) lines ∷ claimed_from (suc number) templates lines

-- the rows that lines claim for each template, in the order of the lines
abbrev pub assign_of : List Template → List Line → Assign
assign_of templates lines = record { rows = claimed_from 1 templates lines }

-- the names of the template with this number, from 1
abbrev pub names_at : List Template → (number : ℕ) → List Named
names_at templates number = slice_index_or (map (λ (t : Template). t.names) templates) (number - 1) []

-- directly behind this line a row of the template with this number may stand: rows come first, and ascend by their template
abbrev pub MayHaveRow : Line → (template : ℕ) → Type 0
MayHaveRow (Version version) template = Unit {0}
MayHaveRow (Row earlier terms most) template = earlier ≤ template
MayHaveRow line template = ⊥

-- a line claims a row: the template is there and has these names, and fewer than 256 rows so far
pub record IsClaim (templates : List Template) (so_far : Assign) (template : ℕ) (terms : List Term) (most : ℤ) : Type 0 where
  pub there : template ≤ length templates
  pub over : IsOver (names_at templates template) (row_over (names_at templates template) terms most)
  pub few : length (rows_at so_far template) < 256
