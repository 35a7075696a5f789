-- Instances without a test of the rows that come of qualifiers. What stands here is cited by a law alone.
use Rattle.std.specs.Prelude.{◌≡◌, List, [], ◌∷◌}
use Rattle.std.specs.List.{AllByRecursion, flat_map}
use Rattle.lq_linear.specs.Row.{Inequality}
use Rattle.lq_quals.specs.declared.qualifier.Qualifier.{Qualifier}
use Rattle.lq_quals.specs.declared.quals.Quals.{Quals}
use Rattle.lq_quals.specs.Qualifier.{rows_of}
use Rattle.lq_templates.specs.declared.template.Named.{Named}
use Rattle.lq_templates.specs.declared.template.Template.{Template}
use Rattle.lq_templates.specs.Rows.{same_row}
use Rattle.lq_instances.specs.Instances.{once, row_choices, stated_rows}

-- two names are the same part of what one text names
abbrev pub AreSame : Named → Named → Type 0
AreSame n m = (n.part ≡ m.part) × (n.text ≡ m.text)

-- each name stands once
abbrev pub AreDistinct : List Named → Type 0
AreDistinct [] = Unit {0}
AreDistinct (n ∷ names) = AllByRecursion (λ later. ¬ AreSame n later) names × AreDistinct names

-- the instances of a template, whether or not what is stated is a row
abbrev pub stated_instances : Template → Quals → List Inequality
stated_instances t quals =
    once same_row (flat_map (λ (q : Qualifier). flat_map (stated_rows quals.atoms t (rows_of q)) (row_choices quals.atoms t (rows_of q))) quals.list)
