-- What the name rules leave of the heads of structs and functions.
use Rattle.std.proofs.Common.{◌≡◌, ℕ, zero, suc, Bool, true, false, cond, not, ◌||◌, List, [], ◌∷◌, ◌++◌, map, find, Option, None, Some, refl, ap, ◌∙◌, subst, inl, inr}
use Rattle.std.specs.Prelude.{option_and_then}
use Rattle.std.specs.List.{AllByRecursion, list_any, flat_map, slice_get}
use Rattle.std.proofs.lemmas.Bool.{cases_Bool, cond_both, and_from, and_parts, or_parts, or_left, or_right, or_from, not-false, not-true, not_from_false}
use Rattle.std.proofs.lemmas.List.Folds.{list_any-append}
use Rattle.lq_tree.specs.declared.expr.CType.{CType}
use Rattle.lq_tree.specs.declared.program.Func.{Func}
use Rattle.lq_tree.specs.declared.program.Param.{Param}
use Rattle.lq_tree.specs.declared.program.Program.{Program}
use Rattle.lq_tree.specs.declared.program.StructDef.{StructDef}
use Rattle.lq_tree.specs.Formed.{are_different}
use Rattle.lq_tree.specs.Lookup.{same, struct_of, function_of, field_among}
use Rattle.lq_tree.specs.PlainTypes.{is_value, is_slot_type}
use Rattle.lq_tree.specs.Types.{declared, type_of_field, result_of, is_known}
use Rattle.lq_names.specs.Faults.{fault_at, placed_faults}
use Rattle.lq_names.specs.Headers.{has_twins, is_unknown, is_bare, some_type, struct_rules, head_rules, with_name, struct_faults, body_site, function_faults}
use Rattle.lq_names.specs.Seen.{is_among}
use Rattle.lq_names.specs.Sites.{sites_list}
use Rattle.lq_plain.proofs.NamedExpressions.{first_kept, both_empty}
use Rattle.lq_plain.proofs.NamedStatements.{none_mapped, AreClean}
use Rattle.lq_plain.proofs.SlotTypes.{same_is, same_self, is_known_type}
use Rattle.lq_plain.proofs.FitTypes.{Facts}
use Rattle.lq_plain.proofs.FitPlain.{value_declared, known_declared, slot_declared}

-- ---- different names

-- each of these names is neither among the earlier ones nor twice
abbrev AreNew : (earlier : List (List ℕ)) → List (List ℕ) → Type 0
AreNew earlier [] = Unit {0}
AreNew earlier (name ∷ names) = (is_among earlier name ≡ false) × AreNew (with_name earlier name) names

kept_among : (earlier : List (List ℕ)) (name x : List ℕ) → is_among earlier x ≡ true → is_among (with_name earlier name) x ≡ true
kept_among earlier name x h =
    cond_both (is_among earlier name) earlier (earlier ++ name ∷ []) (λ names. is_among names x ≡ true) (λ _. h)
    (λ _. list_any-append (λ other. same x other) earlier (name ∷ []) ∙ or_left _ (same x name || false) h)

now_among : (earlier : List (List ℕ)) (name : List ℕ) → is_among (with_name earlier name) name ≡ true
now_among earlier name =
    cond_both (is_among earlier name) earlier (earlier ++ name ∷ []) (λ names. is_among names name ≡ true) (λ h. h)
    (λ _. list_any-append (λ other. same name other) earlier (name ∷ []) ∙ or_right (is_among earlier name) _ (or_left _ false (same_self name)))

differ : (earlier : List (List ℕ)) (x name : List ℕ) → is_among earlier x ≡ true → is_among earlier name ≡ false → same x name ≡ false
differ earlier x name there new = elim (cases_Bool (same x name)) [
  | inl is ↦ let both : is_among earlier x ≡ false = ap (is_among earlier) (same_is x name is) ∙ new in absurd cc
  | inr isnt ↦ isnt
]

none_same : (earlier names : List (List ℕ)) (x : List ℕ) → is_among earlier x ≡ true → AreNew earlier names → list_any (same x) names ≡ false
none_same earlier [] x there new = refl
none_same earlier (name ∷ names) x there new = or_from _ _ (differ earlier x name there new.0) (none_same (with_name earlier name) names x (kept_among earlier name x there) new.1)

all_different : (earlier names : List (List ℕ)) → AreNew earlier names → are_different same names ≡ true
all_different earlier [] new = refl
all_different earlier (name ∷ names) new = and_from _ _ (not_from_false _ (none_same (with_name earlier name) names name (now_among earlier name) new.1)) (all_different (with_name earlier name) names new.1)

names_mapped : (x : List ℕ) (fields : List Param) → list_any (same x) (map (λ (q : Param). q.name) fields) ≡ list_any (λ (q : Param). same x q.name) fields
names_mapped x [] = refl
names_mapped x (q ∷ fields) = ap (λ b. same x q.name || b) (names_mapped x fields)

-- fields of different names
pub fields_differ : (fields : List Param) → has_twins fields ≡ false → are_different same (map (λ (q : Param). q.name) fields) ≡ true
fields_differ [] h = refl
fields_differ (q ∷ fields) h =
    let parts = or_parts (list_any (λ (r : Param). same q.name r.name) fields) (has_twins fields) h in
    and_from _ _ (not_from_false _ (names_mapped q.name fields ∙ parts.0)) (fields_differ fields parts.1)

-- a function is that of its name, where names are different
pub own_function : (funcs : List Func) (number : ℕ) (f : Func) → are_different same (map (λ (g : Func). g.name) funcs) ≡ true → slice_get funcs number ≡ Some f → function_of funcs f.name ≡ Some f
own_function [] number f different there = absurd cc
own_function (g ∷ funcs) zero f different there =
    let is : g ≡ f = the_same there in
    ap (λ b. cond b (Some g) (function_of funcs f.name)) (ap (λ (h : Func). same h.name f.name) is ∙ same_self f.name) ∙ there where
      the_same : Some g ≡ Some f → g ≡ f
      the_same is = cc
own_function (g ∷ funcs) (suc n) f different there =
    let parts = and_parts (not (list_any (same g.name) (map (λ (h : Func). h.name) funcs))) (are_different same (map (λ (h : Func). h.name) funcs)) different in
    ap (λ b. cond b (Some g) (function_of funcs f.name)) (another funcs n f (not-true _ parts.0) there) ∙ own_function funcs n f parts.1 there where
      another : (rest : List Func) (n : ℕ) (f : Func) → list_any (same g.name) (map (λ (h : Func). h.name) rest) ≡ false → slice_get rest n ≡ Some f → same g.name f.name ≡ false
      another [] n f none there = absurd cc
      another (h ∷ rest) zero f none there =
          let parts = or_parts (same g.name h.name) _ none in
          ap (same g.name) (by_name there) ∙ parts.0 where
            by_name : Some h ≡ Some f → f.name ≡ h.name
            by_name is = cc
      another (h ∷ rest) (suc n) f none there = another rest n f (or_parts (same g.name h.name) _ none).1 there

-- ---- written types of fields, parameters and results

-- the type is that of a value, and its struct is known
pub record IsGiven (p : Program) (type : CType) : Type 0 where
  pub known : is_known p type.base ≡ true
  pub worthy : is_value (declared type) ≡ true

pub given_slot : (p : Program) (type : CType) → IsGiven p type → is_slot_type p.structs type ≡ true
given_slot p type g = slot_declared p type g.known g.worthy

pub given_known : (p : Program) (type : CType) → IsGiven p type → is_known_type p (declared type) ≡ true
given_known p type g = known_declared p type g.known g.worthy

a_type : (p : Program) (type : CType) → is_unknown p type ≡ false → is_bare type ≡ false → IsGiven p type
a_type p type unknown bare = record { known = not-false (is_known p type.base) unknown; worthy = value_declared type bare }

abbrev pub AreGiven : Program → List Param → Type 0
AreGiven p params = AllByRecursion (λ (q : Param). IsGiven p q.ctype) params

types : (p : Program) (params : List Param) → list_any (λ (q : Param). is_unknown p q.ctype) params ≡ false → list_any (λ (q : Param). is_bare q.ctype) params ≡ false → AreGiven p params
types p [] unknown bare = tt
types p (q ∷ params) unknown bare =
    let a = or_parts (is_unknown p q.ctype) _ unknown in
    let b = or_parts (is_bare q.ctype) _ bare in
    (a_type p q.ctype a.0 b.0, types p params a.1 b.1)

abbrev pub IsResultGiven : Program → Option CType → Type 0
IsResultGiven p None = Unit {0}
IsResultGiven p (Some type) = IsGiven p type

head_types : (p : Program) (result : Option CType) (params : List Param) → some_type (is_unknown p) result params ≡ false → some_type is_bare result params ≡ false → IsResultGiven p result × AreGiven p params
head_types p None params unknown bare = (tt, types p params unknown bare)
head_types p (Some type) params unknown bare =
    let a = or_parts (is_unknown p type) _ unknown in
    let b = or_parts (is_bare type) _ bare in
    (a_type p type a.0 b.0, types p params a.1 b.1)

-- ---- structs

pub record StructFit (p : Program) (d : StructDef) : Type 0 where
  pub names : has_twins d.fields ≡ false
  pub types : AreGiven p d.fields

structs_fit : (p : Program) (structs : List StructDef) (earlier : List (List ℕ)) → struct_faults p earlier structs ≡ [] → AreNew earlier (map (λ (d : StructDef). d.name) structs) × AllByRecursion (StructFit p) structs
structs_fit p [] earlier h = (tt, tt)
structs_fit p (d ∷ rest) earlier h =
    let all = both_empty (map (fault_at d.at) (struct_rules p earlier d)) (struct_faults p (with_name earlier d.name) rest) h in
    let a = first_kept (is_among earlier d.name || has_twins d.fields) 2 _ (none_mapped (fault_at d.at) (struct_rules p earlier d) all.0) in
    let b = first_kept (some_type (is_unknown p) None d.fields) 3 _ a.1 in
    let c = first_kept (some_type is_bare None d.fields) 7 _ b.1 in
    let names = or_parts (is_among earlier d.name) (has_twins d.fields) a.0 in
    let others = structs_fit p rest (with_name earlier d.name) all.1 in
    ((names.0, others.0), (record { names = names.1; types = types p d.fields b.0 c.0 }, others.1))

-- ---- functions

pub record FunctionFit (p : Program) (prints allocates : List ℕ → Bool) (f : Func) : Type 0 where
  pub result : IsResultGiven p f.result
  pub params : AreGiven p f.params
  pub body : AreClean (sites_list (body_site p prints allocates f) f.body)

functions_fit : (p : Program) (prints allocates : List ℕ → Bool) (funcs : List Func) (earlier : List (List ℕ)) → function_faults p prints allocates earlier funcs ≡ []
    → AreNew earlier (map (λ (f : Func). f.name) funcs) × AllByRecursion (FunctionFit p prints allocates) funcs
functions_fit p prints allocates [] earlier h = (tt, tt)
functions_fit p prints allocates (f ∷ rest) earlier h =
    let next = function_faults p prints allocates (with_name earlier f.name) rest in
    let placed = flat_map placed_faults (sites_list (body_site p prints allocates f) f.body) in
    let all = both_empty (map (fault_at f.at) (head_rules p earlier f)) (placed ++ next) h in
    let body = both_empty placed next all.1 in
    let a = first_kept (is_among earlier f.name) 2 _ (none_mapped (fault_at f.at) (head_rules p earlier f) all.0) in
    let b = first_kept (some_type (is_unknown p) f.result f.params) 3 _ a.1 in
    let c = first_kept (has_twins f.params) 4 _ b.1 in
    let d = first_kept (some_type is_bare f.result f.params) 7 _ c.1 in
    let given = head_types p f.result f.params b.0 d.0 in
    let others = functions_fit p prints allocates rest (with_name earlier f.name) body.1 in
    ((a.0, others.0), (record { result = given.0; params = given.1; body = body.0 }, others.1))

-- ---- the whole program

-- what is found is one of the list
found_one : {X : Type 0} (P : X → Type 0) (test : X → Bool) (xs : List X) → AllByRecursion P xs → (x : X) → find test xs ≡ Some x → P x
found_one P test [] all x is = absurd cc
found_one P test (y ∷ ys) all x is = at (test y) is (found_one P test ys all.1 x) where
  at : (b : Bool) → cond b (Some y) (find test ys) ≡ Some x → (find test ys ≡ Some x → P x) → P x
  at true is later = subst P (the_same is) all.0 where
    the_same : Some y ≡ Some x → y ≡ x
    the_same is = cc
  at false is later = later is

pub record HeadsFit (p : Program) (prints allocates : List ℕ → Bool) : Type 0 where
  pub struct_names : are_different same (map (λ (d : StructDef). d.name) p.structs) ≡ true
  pub func_names : are_different same (map (λ (f : Func). f.name) p.funcs) ≡ true
  pub structs : AllByRecursion (StructFit p) p.structs
  pub funcs : AllByRecursion (FunctionFit p prints allocates) p.funcs

pub heads_fit : (p : Program) (prints allocates : List ℕ → Bool) → struct_faults p [] p.structs ≡ [] → function_faults p prints allocates [] p.funcs ≡ [] → HeadsFit p prints allocates
heads_fit p prints allocates h k =
    let structs = structs_fit p p.structs [] h in
    let funcs = functions_fit p prints allocates p.funcs [] k in
    record { struct_names = all_different [] (map (λ (d : StructDef). d.name) p.structs) structs.0; func_names = all_different [] (map (λ (f : Func). f.name) p.funcs) funcs.0; structs = structs.1; funcs = funcs.1 }

field_known : (p : Program) (found : Option StructDef) (field : List ℕ) → ((d : StructDef) → found ≡ Some d → StructFit p d) → is_known_type p (type_of_field (option_and_then (λ (d : StructDef). field_among d.fields field) found)) ≡ true
field_known p None field fit = refl
field_known p (Some d) field fit = by_field (field_among d.fields field) (λ q is. found_one (λ (r : Param). IsGiven p r.ctype) (λ (r : Param). same r.name field) d.fields (fit d refl).types q is) where
  by_field : (found : Option Param) → ((q : Param) → found ≡ Some q → IsGiven p q.ctype) → is_known_type p (type_of_field found) ≡ true
  by_field None given = refl
  by_field (Some q) given = given_known p q.ctype (given q refl)

result_known : (p : Program) (result : Option CType) → IsResultGiven p result → is_known_type p (result_of result) ≡ true
result_known p None given = refl
result_known p (Some type) given = given_known p type given

params_worthy : (p : Program) (params : List Param) → AreGiven p params → AllByRecursion (λ (q : Param). is_value (declared q.ctype) ≡ true) params
params_worthy p [] given = tt
params_worthy p (q ∷ params) given = ((given.0).worthy, params_worthy p params given.1)

module _ (p : Program) (prints allocates : List ℕ → Bool) (heads : HeadsFit p prints allocates) where
  found_fit : (name : List ℕ) (f : Func) → function_of p.funcs name ≡ Some f → FunctionFit p prints allocates f
  found_fit name f is = found_one (FunctionFit p prints allocates) (λ (g : Func). same g.name name) p.funcs heads.funcs f is

  pub program_facts : Facts p
  program_facts = record {
    fields = λ struct field. field_known p (struct_of p.structs struct) field (λ d is. found_one (StructFit p) (λ (e : StructDef). same e.name struct) p.structs heads.structs d is);
    results = λ name f is. result_known p f.result (found_fit name f is).result;
    params = λ name f is. params_worthy p f.params (found_fit name f is).params;
  }
