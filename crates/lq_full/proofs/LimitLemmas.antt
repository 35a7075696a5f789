-- The limits that a full assignment passes.
use Rattle.std.proofs.Common.{◌≡◌, ℕ, zero, suc, ◌<◌, ◌≤◌, max, Bool, true, false, cond, List, [], ◌∷◌, map, length, get_or, nat_lt, Result, Ok, Err, refl, ap, sym, ◌∙◌, subst, inl, inr, arith}
use Rattle.std.specs.List.{AllByRecursion}
use Rattle.std.proofs.lemmas.Bool.{ltb-true, ltb-false}
use Rattle.lq_tree.specs.declared.limit.Limit.{Limit}
use Rattle.lq_tree.specs.declared.limit.Quantity.{Quantity}
use Rattle.lq_tree.specs.declared.limit.Quantity.TheVariants.{Facts}
use Rattle.lq_tree.specs.Limit.{row_of, passed, checked}
use Rattle.lq_linear.specs.Row.{Inequality}
use Rattle.lq_quals.specs.declared.quals.Quals.{Quals}
use Rattle.lq_templates.specs.declared.condition.Condition.{Condition}
use Rattle.lq_templates.specs.declared.condition.Assign.{Assign}
use Rattle.lq_templates.specs.declared.template.Template.{Template}
use Rattle.lq_instances.specs.declared.fault.TemplateFault.{TemplateFault}
use Rattle.lq_instances.specs.declared.fault.TemplateFault.TheVariants as template
use Rattle.lq_instances.specs.Instances.{instances}
use Rattle.lq_instances.specs.Faults as rows
use Rattle.lq_full.specs.declared.fault.ConditionsFault.TheVariants.{Limit as Passes}
use Rattle.lq_full.specs.Full.{full, most_facts}
use Rattle.lq_full.specs.Faults.{fault_of, HasFewRows, Tells}

-- where one of some lists is long, not all are short
pub not_few : {X : Type 0} (list : X → List Inequality) (xs : List X) (i : ℕ) (x : X) → i < length xs → x ≡ get_or xs i x → 256 < length (list x)
    → AllByRecursion (λ rows. length rows ≤ 256) (map list xs) → ⊥
not_few list [] i x inside is many few = omega arith
not_few list (first ∷ rest) zero x inside is many few = omega (arith, few.0, subst (λ y. 256 < length (list y)) is many)
not_few list (first ∷ rest) (suc i) x inside is many few = not_few list rest i x (omega arith) is many few.1

-- a template whose instances aren't given tells why the assignment isn't
pub rows_told : (quals : Quals) (templates : List Template) (i : ℕ) (t : Template) (list : List Condition) → i < length templates → t ≡ get_or templates i t
    → (fault : TemplateFault) → rows.Tells fault (instances t quals) → Tells (fault_of fault) (full quals templates) list
rows_told quals templates i t list inside is (template.Limit limit) tells =
    inl (record { told = tells.0; many = not_few (λ u. instances u quals) templates i t inside is tells.1 })
rows_told quals templates i t list inside is template.NoMemory tells = tt

-- what a test of a quantity with this outcome gives
abbrev tested : Quantity → ℕ → Bool → Result (Unit {0}) Limit
tested q found test = cond test (Err (passed q found)) (Ok tt)

-- the limit that is told
abbrev told_by : Limit → Result (Unit {0}) Limit → Limit
told_by other (Ok done) = other
told_by other (Err limit) = limit

-- a test that tells a limit has found more, and tells that
passed_by : (q : Quantity) (found : ℕ) (limit : Limit) → checked q found ≡ Err limit → ((row_of q).allowed < found) × (passed q found ≡ limit)
passed_by q found limit = by_test (nat_lt (row_of q).allowed found) refl where
  by_test : (test : Bool) → nat_lt (row_of q).allowed found ≡ test → tested q found test ≡ Err limit → ((row_of q).allowed < found) × (passed q found ≡ limit)
  by_test true is e = (ltb-true _ _ is, ap (told_by limit) e)
  by_test false is e = absurd cc

-- a test that tells none has found no more
pub few_found : (found : ℕ) (done : Unit {0}) → checked Facts found ≡ Ok done → found ≤ 512
few_found found done = by_test (nat_lt 512 found) refl where
  by_test : (test : Bool) → nat_lt 512 found ≡ test → tested Facts found test ≡ Ok done → found ≤ 512
  by_test true is e = absurd cc
  by_test false is e = ltb-false _ _ is

-- too many facts are told where no template has too many rows
pub facts_told : (assign : Assign) (list : List Condition) (found : ℕ) (limit : Limit) → found ≡ max 512 (most_facts assign list) → HasFewRows assign
    → checked Facts found ≡ Err limit → Tells (Passes limit) assign list
facts_told assign list found limit is few e =
    let p = passed_by Facts found limit e in
    let more : 512 < found = p.0 in
    let same : found ≡ most_facts assign list = omega (arith, is, more) in
    inr (record { told = sym p.1 ∙ ap (passed Facts) same; few = few; many = omega (arith, same, more) })
