-- The list of a program's templates as it grows, and how many scopes have come.
use Rattle.std.specs.Prelude.{ℕ, suc, Bool, false, if◌then◌else◌, List, [], ◌∷◌, ◌++◌, map}
use Rattle.std.specs.List.{flat_map}
use Rattle.lq_tree.specs.declared.place.Place.{Place}
use Rattle.lq_tree.specs.declared.plain.PFunc.{PFunc}
use Rattle.lq_tree.specs.declared.plain.PProgram.{PProgram}
use Rattle.lq_tree.specs.declared.plain.Slot.{Slot}
use Rattle.lq_tree.specs.PlainScopes.{is_among}
use Rattle.lq_templates.specs.declared.listing.Listing.{Listing}
use Rattle.lq_templates.specs.declared.makers.Makers.{Makers}
use Rattle.lq_templates.specs.declared.reading.Point.{Point}
use Rattle.lq_templates.specs.declared.reading.Point.TheVariants.{Join, Loop, Inner}
use Rattle.lq_templates.specs.declared.template.ScopeRef.{ScopeRef}
use Rattle.lq_templates.specs.declared.template.Template.{Template}
use Rattle.lq_templates.specs.declared.template.TemplateKind.TheVariants as kind
use Rattle.lq_templates.specs.declared.touches.Touch.{Touch}
use Rattle.lq_templates.specs.Classes.{ClassOf}
use Rattle.lq_templates.specs.Names.{marked, local_names, element}
use Rattle.lq_templates.specs.Reading.{point}
use Rattle.lq_templates.specs.Spots.{params_of, spots}
use Rattle.lq_templates.specs.Templates.{template, effect_of, Env, border_templates}
use Rattle.lq_templates.specs.Touches.{body_touches, touches_make}

-- the template of an access in a scope, if this makes it
abbrev pub effect : List Slot → ScopeRef → (done : List Touch) → (in_scope : ℕ → Bool) → Makers → List Template
effect slots scope done in_scope m =
    if touches_make (marked m.functions) m.access done then template (effect_of scope m.access) (element ∷ local_names slots (is_among []) in_scope) ∷ [] else []

-- the effect templates of a scope
abbrev pub effects : List Slot → ScopeRef → (done : List Touch) → (in_scope : ℕ → Bool) → List Makers → List Template
effects slots scope done in_scope makers = flat_map (effect slots scope done in_scope) makers

-- templates are listed
abbrev pub with_templates : List Template → Listing → Listing
with_templates templates l = record l { templates = l.templates ++ templates }

-- a scope at a place, in which this is done
abbrev pub with_scope : List Slot → List Makers → Place → (done : List Touch) → (scope : List ℕ) → Listing → Listing
with_scope slots makers at done scope l =
    record { scopes = suc l.scopes; templates = l.templates ++ effects slots (record { scope = l.scopes; at = at }) done (is_among scope) makers }

-- a point of the text
abbrev pub with_point : List Slot → List Makers → Point → Listing → Listing
with_point slots makers (Join changed scope) l = with_templates (template kind.Join (local_names slots (is_among changed) (is_among scope)) ∷ []) l
with_point slots makers (Loop changed scope) l = with_templates (template kind.Loop (local_names slots (is_among changed) (is_among scope)) ∷ []) l
with_point slots makers (Inner at done scope) l = with_scope slots makers at done scope l

-- points of the text
abbrev pub with_points : List Slot → List Makers → List Point → Listing → Listing
with_points slots makers [] l = l
with_points slots makers (p ∷ points) l = with_points slots makers points (with_point slots makers p l)

-- where the templates of a function are listed, whatever functions access
abbrev pub any_env : PProgram → ClassOf → (number : ℕ) → PFunc → Env
any_env p class_of number f = record { program = p; class_of = class_of; by = λ _ _. false; number = number; func = f }

-- the pre and the post template of a function, which take no account of accesses
abbrev pub borders : PProgram → ClassOf → (number : ℕ) → PFunc → List Template
borders p class_of number f = border_templates (any_env p class_of number f)

-- a function
abbrev pub with_function : PProgram → ClassOf → List Makers → (number : ℕ) → PFunc → Listing → Listing
with_function p class_of makers number f l =
    with_points f.slots makers (map (point (class_of number)) (spots f))
    (with_scope f.slots makers f.at (body_touches (class_of number) f.body) (params_of f) (with_templates (borders p class_of number f) l))

-- the functions from this number on
abbrev pub with_functions : PProgram → ClassOf → List Makers → (number : ℕ) → List PFunc → Listing → Listing
with_functions p class_of makers number [] l = l
with_functions p class_of makers number (f ∷ funcs) l = with_functions p class_of makers (suc number) funcs (with_function p class_of makers number f l)
