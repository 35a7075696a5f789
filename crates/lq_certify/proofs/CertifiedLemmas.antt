-- Certificates are found for what is derived, and for nothing else.
use Rattle.std.proofs.Common.{◌≡◌, ℕ, zero, suc, ◌+◌, ◌<◌, List, [], ◌∷◌, ◌++◌, take, drop, length, get_or, Option, None, Some, refl, sym, ap, subst, ◌∙◌, append_assoc, arith}
use Rattle.std.specs.Prelude.{MatchOption}
use Rattle.std.specs.List.{AllByRecursion, AllZip}
use Rattle.std.proofs.lemmas.List.{take_more}
use Rattle.lq_linear.specs.Row.{Inequality}
use Rattle.lq_linear.specs.Certificate.{Certificate}
use Rattle.lq_linear.specs.Derivation.{Derives}
use Rattle.lq_linear.specs.declared.item.Item.{Item}
use Rattle.lq_templates.specs.Conditions.{facts_of, goals_of, IsMet}
use Rattle.lq_templates.specs.declared.condition.Assign.{Assign}
use Rattle.lq_templates.specs.declared.condition.Condition.{Condition}
use Rattle.lq_fixpoint.specs.Goals.{AreRowsOf}
use Rattle.lq_fixpoint.proofs.GoalLemmas.{rows_derived, goals_derived}
use Rattle.lq_certify.specs.declared.certified.Failure.TheVariants.{Unmet}
use Rattle.lq_certify.specs.Certified.{IsFound, IsCertified, TellsUnmet}

-- ---- the goals of a condition

-- each goal with a certificate is derived
found_derived : (M : List ℕ) (facts : List Item) (goals : List Inequality) (certificates : List Certificate) → AllZip (IsFound M facts) goals certificates
    → AllByRecursion (Derives M facts) goals
found_derived M facts [] [] found = tt
found_derived M facts [] (certificate ∷ certificates) found = absurd found
found_derived M facts (goal ∷ goals) [] found = absurd found
found_derived M facts (goal ∷ goals) (certificate ∷ certificates) found =
    ((certificate.goal, found.0.first.0.0, found.0.first.0.1), found_derived M facts goals certificates found.1)

-- one certificate more
pub one_found : (M : List ℕ) (facts : List Item) (goals rest later : List Inequality) (goal : Inequality) (certificates : List Certificate) (certificate : Certificate) → rest ≡ goal ∷ later
    → ((more : List Certificate) → AllZip (IsFound M facts) rest more → AllZip (IsFound M facts) goals (certificates ++ more)) → IsFound M facts goal certificate
    → (more : List Certificate) → AllZip (IsFound M facts) later more → AllZip (IsFound M facts) goals ((certificates ++ certificate ∷ []) ++ more)
one_found M facts goals rest later goal certificates certificate is all one more found =
    subst (AllZip (IsFound M facts) goals) (sym (append_assoc certificates (certificate ∷ []) more))
    (all (certificate ∷ more) (subst (λ (l : List Inequality). AllZip (IsFound M facts) l (certificate ∷ more)) (sym is) (one, found)))

-- a condition with certificates is met
certified_met : (M : List ℕ) (assign : Assign) (c : Condition) (certificates : List Certificate) → IsCertified M assign c certificates → IsMet M assign c
certified_met M assign c certificates h =
    goals_derived M (facts_of assign c) (goals_of assign c) h.rows h.collected (found_derived M (facts_of assign c) h.rows certificates h.found)

-- what is found for the goals of a condition, by their rows
pub certified_by : (M : List ℕ) (assign : Assign) (c : Condition) (rows : List Inequality) (found : Option (List Certificate)) → AreRowsOf (goals_of assign c) (Some rows)
    → MatchOption found (¬ AllByRecursion (Derives M (facts_of assign c)) rows) (AllZip (IsFound M (facts_of assign c)) rows)
    → MatchOption found (¬ IsMet M assign c) (IsCertified M assign c)
certified_by M assign c rows None collected fails = λ met. fails (rows_derived M (facts_of assign c) (goals_of assign c) rows collected met)
certified_by M assign c rows (Some certificates) collected found = record { rows = rows; collected = collected; found = found }

-- ---- conditions

-- conditions with certificates are met
pub all_met : (M : List ℕ) (assign : Assign) (list : List Condition) (all : List (List Certificate)) → AllZip (IsCertified M assign) list all → AllByRecursion (IsMet M assign) list
all_met M assign [] [] h = tt
all_met M assign [] (certificates ∷ all) h = absurd h
all_met M assign (c ∷ list) [] h = absurd h
all_met M assign (c ∷ list) (certificates ∷ all) h = (certified_met M assign c certificates h.0, all_met M assign list all h.1)

-- one condition more
zip_push : {A B : Type 0} (R : A → B → Type 0) (xs : List A) (ys : List B) (x : A) (y : B) → AllZip R xs ys → R x y → AllZip R (xs ++ x ∷ []) (ys ++ y ∷ [])
zip_push R [] [] x y h r = (r, tt)
zip_push R [] (b ∷ ys) x y h r = absurd h
zip_push R (a ∷ xs) [] x y h r = absurd h
zip_push R (a ∷ xs) (b ∷ ys) x y h r = (h.0, zip_push R xs ys x y h.1 r)

pub one_certified : (M : List ℕ) (assign : Assign) (list : List Condition) (all : List (List Certificate)) (at : ℕ) (c : Condition) (certificates : List Certificate) → at < length list → c ≡ get_or list at c
    → AllZip (IsCertified M assign) (take at list) all → IsCertified M assign c certificates → AllZip (IsCertified M assign) (take (at + 1) list) (all ++ certificates ∷ [])
one_certified M assign list all at c certificates within is h one =
    subst (λ (l : List Condition). AllZip (IsCertified M assign) l (all ++ certificates ∷ [])) (sym (take_more list at c within ∙ ap (λ d. take at list ++ d ∷ []) (sym is)))
    (zip_push (IsCertified M assign) (take at list) all c certificates h one)

-- a list in front of an element, the element, and the rest
parted : {X : Type 0} (xs : List X) (at : ℕ) (d : X) → at < length xs → xs ≡ take at xs ++ get_or xs at d ∷ drop (suc at) xs
parted [] at d within = absurd (omega arith)
parted (x ∷ xs) zero d within = refl
parted (x ∷ xs) (suc at) d within = ap (λ l. x ∷ l) (parted xs at d (omega arith))

-- behind conditions with certificates, one that isn't met is the first
pub first_unmet : (M : List ℕ) (assign : Assign) (list : List Condition) (all : List (List Certificate)) (at : ℕ) (c : Condition) → at < length list → c ≡ get_or list at c
    → AllZip (IsCertified M assign) (take at list) all → ¬ IsMet M assign c → TellsUnmet M assign list (Unmet c.site c.rule)
first_unmet M assign list all at c within is h fails = (
  c,
  record {
    before = take at list;
    after = drop (suc at) list;
    there = parted list at c within ∙ ap (λ d. take at list ++ d ∷ drop (suc at) list) (sym is);
    met_before = all_met M assign (take at list) all h;
    fails = fails;
  },
  refl,
  refl,
)
