-- The least fault over the expressions that stand in a statement.
use Rattle.std.proofs.Common.{◌≡◌, ℕ, ◌+◌, ◌<◌, ◌≤◌, List, [], ◌∷◌, length, get_or, drop, map, Option, ap, sym, ◌∙◌}
use Rattle.std.specs.List.{flat_map}
use Rattle.std.proofs.lemmas.List.{append-nil, drop_more, drop_all}
use Rattle.lq_tree.specs.declared.place.Place.{Place}
use Rattle.lq_tree.specs.declared.expr.Expr.{Expr}
use Rattle.lq_tree.specs.declared.stmt.Arm.{Arm}
use Rattle.lq_names.specs.declared.fault.Fault.{Fault}
use Rattle.lq_names.specs.Scopes.{Site}
use Rattle.lq_names.specs.Faults.{Form, condition, expression_rules, head_site, noted, own_rules, statement_rules, values}
use Rattle.lq_names.proofs.LeastLaws.{noted_append, noted_nothing}

pub one_value : (s : Site) (at : Place) (found : Option Fault) (e : Expr) → noted at found (flat_map (expression_rules s) (e ∷ [])) ≡ noted at found (expression_rules s e)
one_value s at found e = ap (noted at found) (append-nil (expression_rules s e))

pub two_values : (s : Site) (at : Place) (found : Option Fault) (e d : Expr) → noted at found (flat_map (expression_rules s) (e ∷ d ∷ [])) ≡ noted at (noted at found (expression_rules s e)) (expression_rules s d)
two_values s at found e d = noted_append at found (expression_rules s e) (flat_map (expression_rules s) (d ∷ [])) ∙ one_value s at (noted at found (expression_rules s e)) d

-- own rules first, and then those in the expressions
pub itself : (s head : Site) (at : Place) (found first last : Option Fault) (form : Form) → head ≡ head_site s form → first ≡ noted at found (own_rules s form)
    → last ≡ noted at first (flat_map (expression_rules head) (values form)) → last ≡ noted at found (statement_rules s form)
itself s head at found first last form is at_first at_last =
    at_last ∙ ap (λ (h : Site). noted at first (flat_map (expression_rules h) (values form))) is
    ∙ ap (λ (o : Option Fault). noted at o (flat_map (expression_rules (head_site s form)) (values form))) at_first
    ∙ sym (noted_append at found (own_rules s form) (flat_map (expression_rules (head_site s form)) (values form)))

-- a walk over conditions, one more on; `last` is what all give
pub condition_more : (s : Site) (at : Place) (found last next : Option Fault) (arms : List Arm) (i : ℕ) (x : Arm) → i < length arms → x ≡ get_or arms i x
    → noted at found (flat_map (expression_rules s) (map condition (drop i arms))) ≡ last
    → next ≡ noted at found (expression_rules s (condition x)) → noted at next (flat_map (expression_rules s) (map condition (drop (i + 1) arms))) ≡ last
condition_more s at found last next arms i x lt is so_far at_next =
    ap (λ (o : Option Fault). noted at o (flat_map (expression_rules s) (map condition (drop (i + 1) arms)))) at_next
    ∙ sym (noted_append at found (expression_rules s (condition x)) (flat_map (expression_rules s) (map condition (drop (i + 1) arms))))
    ∙ ap (λ (y : Arm). noted at found (flat_map (expression_rules s) (map condition (y ∷ drop (i + 1) arms)))) is
    ∙ ap (λ (ys : List Arm). noted at found (flat_map (expression_rules s) (map condition ys))) (sym (drop_more arms i x lt))
    ∙ so_far

pub conditions_end : (s : Site) (at : Place) (found last : Option Fault) (arms : List Arm) (i : ℕ) → length arms ≤ i
    → noted at found (flat_map (expression_rules s) (map condition (drop i arms))) ≡ last → found ≡ last
conditions_end s at found last arms i ge so_far =
    sym (noted_nothing at found) ∙ ap (λ (ys : List Arm). noted at found (flat_map (expression_rules s) (map condition ys))) (sym (drop_all i arms ge)) ∙ so_far
