-- The least fault over structs and functions.
use Rattle.std.proofs.Common.{◌≡◌, ℕ, ◌+◌, ◌<◌, ◌≤◌, Bool, List, [], ◌∷◌, ◌++◌, length, get_or, drop, map, Option, None, refl, ap, sym, ◌∙◌}
use Rattle.std.specs.List.{flat_map}
use Rattle.std.proofs.lemmas.List.{drop_more, drop_all}
use Rattle.lq_tree.specs.declared.program.Program.{Program}
use Rattle.lq_tree.specs.declared.program.StructDef.{StructDef}
use Rattle.lq_tree.specs.declared.program.Func.{Func}
use Rattle.lq_names.specs.declared.fault.Fault.{Fault}
use Rattle.lq_names.specs.Sites.{sites_list}
use Rattle.lq_names.specs.Faults.{least, noted, gathered, fault_at, placed_faults}
use Rattle.lq_names.specs.Headers.{start, entry_rules, struct_rules, head_rules, with_name, struct_faults, function_faults, body_site, program_faults}
use Rattle.lq_names.proofs.LeastLaws.{least_append}

pub least_nothing : (found : Option Fault) → least found [] ≡ found
unfolding least
least_nothing found = refl

module _ (p : Program) (earlier next : List (List ℕ)) (found last : Option Fault) (i : ℕ) where
  pub struct_more : (heard : Option Fault) (xs : List StructDef) (x : StructDef) → i < length xs → x ≡ get_or xs i x → least found (struct_faults p earlier (drop i xs)) ≡ last
      → heard ≡ noted x.at found (struct_rules p earlier x) → next ≡ with_name earlier x.name → least heard (struct_faults p next (drop (i + 1) xs)) ≡ last
  unfolding noted
  struct_more heard xs x lt is so_far at_head more =
      let rest = drop (i + 1) xs in
      ap (λ (n : List (List ℕ)). least heard (struct_faults p n rest)) more
      ∙ ap (λ (o : Option Fault). least o (struct_faults p (with_name earlier x.name) rest)) at_head
      ∙ sym (least_append found (map (fault_at x.at) (struct_rules p earlier x)) (struct_faults p (with_name earlier x.name) rest))
      ∙ ap (λ (y : StructDef). least found (struct_faults p earlier (y ∷ rest))) is
      ∙ ap (λ (ys : List StructDef). least found (struct_faults p earlier ys)) (sym (drop_more xs i x lt))
      ∙ so_far

  pub struct_end : (xs : List StructDef) → length xs ≤ i → least found (struct_faults p earlier (drop i xs)) ≡ last → found ≡ last
  struct_end xs ge so_far = sym (least_nothing found) ∙ ap (λ (ys : List StructDef). least found (struct_faults p earlier ys)) (sym (drop_all i xs ge)) ∙ so_far

  module _ (prints allocates : List ℕ → Bool) where
    pub function_more : (heard seen : Option Fault) (xs : List Func) (x : Func) → i < length xs → x ≡ get_or xs i x → least found (function_faults p prints allocates earlier (drop i xs)) ≡ last
        → heard ≡ noted x.at found (head_rules p earlier x) → seen ≡ gathered heard (sites_list (body_site p prints allocates x) x.body)
        → next ≡ with_name earlier x.name → least seen (function_faults p prints allocates next (drop (i + 1) xs)) ≡ last
    unfolding noted gathered
    function_more heard seen xs x lt is so_far at_head at_body more =
        let rest = drop (i + 1) xs in
        let body = flat_map placed_faults (sites_list (body_site p prints allocates x) x.body) in
        let after = function_faults p prints allocates (with_name earlier x.name) rest in
        ap (λ (n : List (List ℕ)). least seen (function_faults p prints allocates n rest)) more
        ∙ ap (λ (o : Option Fault). least o after) at_body
        ∙ sym (least_append heard body after)
        ∙ ap (λ (o : Option Fault). least o (body ++ after)) at_head
        ∙ sym (least_append found (map (fault_at x.at) (head_rules p earlier x)) (body ++ after))
        ∙ ap (λ (y : Func). least found (function_faults p prints allocates earlier (y ∷ rest))) is
        ∙ ap (λ (ys : List Func). least found (function_faults p prints allocates earlier ys)) (sym (drop_more xs i x lt))
        ∙ so_far

    pub function_end : (xs : List Func) → length xs ≤ i → least found (function_faults p prints allocates earlier (drop i xs)) ≡ last → found ≡ last
    function_end xs ge so_far = sym (least_nothing found) ∙ ap (λ (ys : List Func). least found (function_faults p prints allocates earlier ys)) (sym (drop_all i xs ge)) ∙ so_far

pub whole : (p : Program) (prints allocates : List ℕ → Bool) (first second third : Option Fault) → first ≡ noted start None (entry_rules p) → second ≡ least first (struct_faults p [] p.structs)
    → third ≡ least second (function_faults p prints allocates [] p.funcs) → third ≡ least None (program_faults p prints allocates)
unfolding noted
whole p prints allocates first second third at_first at_second at_third =
    let entry = map (fault_at start) (entry_rules p) in
    let structs = struct_faults p [] p.structs in
    let funcs = function_faults p prints allocates [] p.funcs in
    at_third ∙ ap (λ (o : Option Fault). least o funcs) (at_second ∙ ap (λ (o : Option Fault). least o structs) at_first)
    ∙ ap (λ (o : Option Fault). least o funcs) refl
    ∙ sym (least_append (least None entry) structs funcs)
    ∙ sym (least_append None entry (structs ++ funcs))

pub item_of : {A : Type 0} (xs ys : List A) (i : ℕ) (x : A) → xs ≡ ys → x ≡ get_or xs i x → x ≡ get_or ys i x
item_of xs ys i x same is = is ∙ ap (λ zs. get_or zs i x) same
