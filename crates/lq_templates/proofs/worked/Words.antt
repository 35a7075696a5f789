-- Short words for classes and templates.
use Prim.Native.String.{String}
use Rattle.std.specs.Prelude.{ℕ, ◌==◌, true, false, ◌&&◌, if◌then◌else◌, List, [], ◌∷◌, codes}
use Rattle.std.specs.List.{flat_map}
use Rattle.lq_meaning.proofs.worked.SourceWords.{at}
use Rattle.lq_templates.specs.declared.template.NamePart.TheVariants as part
use Rattle.lq_templates.specs.declared.template.Named.{Named}
use Rattle.lq_templates.specs.declared.template.TemplateKind.TheVariants as kind
use Rattle.lq_templates.specs.declared.template.Template.{Template}
use Rattle.lq_templates.specs.Classes.{ClassOf}
use Rattle.lq_templates.specs.Names.{element}
use Rattle.lq_templates.specs.Templates.{template}

-- the classes of variables, each a function, a slot and a class
abbrev pub classes : List (ℕ × ℕ × ℕ) → ClassOf
classes [] function slot = 0
classes (v ∷ rest) function slot = if v.0 == function && v.1 == slot then v.2 else classes rest function slot

-- names
abbrev pub number : String → List Named
number text = record { text = codes text; part = part.Value; changed = false } ∷ []

abbrev pub pointer : String → List Named
pointer text = record { text = codes text; part = part.Off; changed = false } ∷ record { text = codes text; part = part.Len; changed = false } ∷ []

abbrev pub changed_number : String → List Named
changed_number text = record { text = codes text; part = part.Value; changed = true } ∷ []

abbrev pub changed_pointer : String → List Named
changed_pointer text = record { text = codes text; part = part.Off; changed = true } ∷ record { text = codes text; part = part.Len; changed = true } ∷ []

abbrev pub names : List (List Named) → List Named
names parts = flat_map (λ each. each) parts

-- templates
abbrev pub records : (class : ℕ) → List (List Named) → Template
records class parts = template (kind.Rec class) (names parts)

abbrev pub before : (function : ℕ) → List (List Named) → Template
before function parts = template (kind.Pre function) (names parts)

abbrev pub after : (function : ℕ) → List (List Named) → Template
after function parts = template (kind.Post function) (names parts)

abbrev pub joined : List (List Named) → Template
joined parts = template kind.Join (names parts)

abbrev pub looped : List (List Named) → Template
looped parts = template kind.Loop (names parts)

abbrev pub reads : (scope line col class field : ℕ) → List (List Named) → Template
reads scope line col class field parts =
    template (kind.Effect (record { scope = scope; at = at line col }) class field false) (element ∷ names parts)

abbrev pub writes : (scope line col class field : ℕ) → List (List Named) → Template
writes scope line col class field parts =
    template (kind.Effect (record { scope = scope; at = at line col }) class field true) (element ∷ names parts)
