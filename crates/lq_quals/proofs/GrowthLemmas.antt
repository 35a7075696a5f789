-- Atoms only grow, and rows stay good over more of them.
use Rattle.std.proofs.Common.{◌≡◌, ℕ, zero, suc, ◌+◌, ◌<◌, ◌≤◌, Bool, true, false, cond, ◌||◌, ◌&&◌, List, [], ◌∷◌, ◌++◌, length, ℤ, refl, sym, ap, subst, ◌∙◌, arith, append_assoc, append-nil, length-append}
use Rattle.std.specs.Prelude.{slice_get}
use Rattle.std.specs.List.{AllByRecursion}
use Rattle.lq_linear.specs.Row.{Inequality}
use Rattle.lq_text.proofs.Lists.{all_joined, all_weaker}
use Rattle.lq_text.specs.declared.atom.Atom.{Atom}
use Rattle.lq_quals.specs.declared.term.Addend.{Addend}
use Rattle.lq_quals.specs.declared.comparison.Relation.{Relation}
use Rattle.lq_quals.specs.declared.comparison.Relation.TheVariants.{AtMost, Less, AtLeast, More, Equal}
use Rattle.lq_quals.specs.declared.comparison.Comparison.{Comparison}
use Rattle.lq_quals.specs.declared.qualifier.Qualifier.{Qualifier}
use Rattle.lq_quals.specs.declared.qualifier.Qualifier.TheVariants as qualifier
use Rattle.lq_quals.specs.declared.qualifier.Kind.{Kind}
use Rattle.lq_quals.specs.declared.qualifier.Kind.TheVariants as kind
use Rattle.lq_quals.specs.declared.quals.Quals.{Quals}
use Rattle.lq_quals.specs.Term.{signed}
use Rattle.lq_quals.specs.Collect.{coefficient_of, stays, numbered, terms_of}
use Rattle.lq_quals.specs.Qualifier.{row_of, qualifier_of, rows_of, is_kind_at, has_kind, AreTogether, IsGoodRow, IsGood}
use Rattle.lq_quals.specs.Quals.{atoms_with, ReadsLine, ReadsLines, IsQualsText}
use Rattle.lq_quals.proofs.NumberingLemmas.{numbers}
use Rattle.lq_quals.specs.Quals.ReadsLine.{skipped, comparison}
use Rattle.lq_quals.specs.Quals.ReadsLines.{none, more}

-- ---- atoms

-- the later atoms are those before and more behind them
pub record Grows (atoms later : List Atom) : Type 0 where
  pub added : List Atom
  pub joined : later ≡ atoms ++ added

pub grows_none : (atoms : List Atom) → Grows atoms atoms
grows_none atoms = record { added = []; joined = sym (append-nil atoms) }

pub grows_more : {a b c : List Atom} → Grows a b → Grows b c → Grows a c
grows_more {a} g h = record { added = g.added ++ h.added; joined = h.joined ∙ ap (λ l. l ++ h.added) g.joined ∙ append_assoc a g.added h.added }

pub numbered_grows : (all : List Addend) (atoms : List Atom) (addends : List Addend) → Grows atoms (numbered all atoms addends)
numbered_grows all atoms addends = let n = numbers all atoms addends in record { added = n.added; joined = n.joined }

line_grows : {before after : Quals} {line : List ℕ} → ReadsLine before line after → Grows before.atoms after.atoms
line_grows {before} (skipped h) = grows_none before.atoms
line_grows {before} (comparison {c} s out p good) = numbered_grows c.addends before.atoms c.addends

pub lines_grow : {before after : Quals} {lines : List (List ℕ)} → ReadsLines before lines after → Grows before.atoms after.atoms
lines_grow {before} none = grows_none before.atoms
lines_grow (more h p) = grows_more (line_grows h) (lines_grow p)

-- ---- rows

-- the symbols are below n
abbrev pub Below : ℕ → List (ℕ × ℤ) → Type 0
Below n terms = AllByRecursion (λ term. term.0 < n) terms

below_put : (b : Bool) (n : ℕ) (term : ℕ × ℤ) (terms : List (ℕ × ℤ)) → term.0 < n → Below n terms → Below n (cond b (term ∷ terms) terms)
below_put true n term terms h k = (h, k)
below_put false n term terms h k = k

pub terms_below : (negated : Bool) (addends : List Addend) (n first : ℕ) (atoms : List Atom) → first + length atoms ≤ n → Below n (terms_of negated addends first atoms)
terms_below negated addends n first [] h = tt
terms_below negated addends n first (atom ∷ atoms) h =
    below_put (stays addends atom) n (first, signed negated (coefficient_of atom addends)) (terms_of negated addends (first + 1) atoms) (omega arith) (terms_below negated addends n (first + 1) atoms (omega arith))

pub get_grown : (atoms added : List Atom) (k : ℕ) → k < length atoms → slice_get (atoms ++ added) k ≡ slice_get atoms k
get_grown [] added k h = absurd (omega arith)
get_grown (atom ∷ atoms) added zero h = refl
get_grown (atom ∷ atoms) added (suc k) h = get_grown atoms added k (omega arith)

kinds_grown : (kind : Kind) (atoms added : List Atom) (terms : List (ℕ × ℤ)) → Below (length atoms) terms → has_kind kind (atoms ++ added) terms ≡ has_kind kind atoms terms
kinds_grown kind atoms added [] h = refl
kinds_grown kind atoms added (term ∷ terms) h =
    ap (λ o. is_kind_at kind o || has_kind kind (atoms ++ added) terms) (get_grown atoms added term.0 h.0)
    ∙ ap (λ b. is_kind_at kind (slice_get atoms term.0) || b) (kinds_grown kind atoms added terms h.1)

together_grown : (atoms added : List Atom) (terms : List (ℕ × ℤ)) → Below (length atoms) terms → AreTogether atoms terms → AreTogether (atoms ++ added) terms
together_grown atoms added terms h t =
    let element = kinds_grown kind.Element atoms added terms h in
    let field = kinds_grown kind.Field atoms added terms h in
    let local = kinds_grown kind.Local atoms added terms h in
    let returned = kinds_grown kind.Returned atoms added terms h in
    record {
      one_kind = ap (λ b. b && (has_kind kind.Element (atoms ++ added) terms || (has_kind kind.Local (atoms ++ added) terms || has_kind kind.Returned (atoms ++ added) terms))) field
          ∙ ap (λ b. has_kind kind.Field atoms terms && (b || (has_kind kind.Local (atoms ++ added) terms || has_kind kind.Returned (atoms ++ added) terms))) element
          ∙ ap (λ b. has_kind kind.Field atoms terms && (has_kind kind.Element atoms terms || (b || has_kind kind.Returned (atoms ++ added) terms))) local
          ∙ ap (λ b. has_kind kind.Field atoms terms && (has_kind kind.Element atoms terms || (has_kind kind.Local atoms terms || b))) returned
          ∙ t.one_kind;
      apart = ap (λ b. b && has_kind kind.Returned (atoms ++ added) terms) element ∙ ap (λ b. has_kind kind.Element atoms terms && b) returned ∙ t.apart;
    }

-- a row that is good over atoms, all of them there
pub record StandsOver (atoms : List Atom) (row : Inequality) : Type 0 where
  pub good : IsGoodRow atoms row
  pub below : Below (length atoms) row.terms

row_grown : (atoms added : List Atom) (row : Inequality) → StandsOver atoms row → StandsOver (atoms ++ added) row
row_grown atoms added row s = record {
  good = record {
    are_terms = s.good.are_terms;
    within = s.good.within;
    some = s.good.some;
    together = together_grown atoms added row.terms s.below s.good.together;
  };
  below = all_weaker _ _ (λ term h. omega (arith, length-append atoms added, h)) row.terms s.below;
}

-- all rows of qualifiers are such
abbrev AllStand : List Atom → List Qualifier → Type 0
AllStand atoms list = AllByRecursion (λ each. AllByRecursion (StandsOver atoms) (rows_of each)) list

all_grown : {atoms later : List Atom} → Grows atoms later → (list : List Qualifier) → AllStand atoms list → AllStand later list
all_grown {atoms} {later} g list h =
    subst (λ l. AllStand l list) (sym g.joined)
    (all_weaker _ _ (λ each k. all_weaker _ _ (row_grown atoms g.added) (rows_of each) k) list h)

row_stands : (negated : Bool) (c : Comparison) (atoms : List Atom) → IsGoodRow atoms (row_of negated c atoms) → StandsOver atoms (row_of negated c atoms)
row_stands negated c atoms h = record { good = h; below = terms_below negated c.addends (length atoms) 0 atoms (omega arith) }

rows_stand : (relation : Relation) (addends : List Addend) (atoms : List Atom) → IsGood (record { relation = relation; addends = addends }) atoms → AllByRecursion (StandsOver atoms) (rows_of (qualifier_of (record { relation = relation; addends = addends }) atoms))
rows_stand AtMost addends atoms h = (row_stands false (record { relation = AtMost; addends = addends }) atoms h.0, tt)
rows_stand Less addends atoms h = (row_stands false (record { relation = Less; addends = addends }) atoms h.0, tt)
rows_stand AtLeast addends atoms h = (row_stands false (record { relation = AtLeast; addends = addends }) atoms h.0, tt)
rows_stand More addends atoms h = (row_stands false (record { relation = More; addends = addends }) atoms h.0, tt)
rows_stand Equal addends atoms h = (row_stands false (record { relation = Equal; addends = addends }) atoms h.0, (row_stands true (record { relation = Equal; addends = addends }) atoms h.1.0, tt))

line_stands : {before after : Quals} {line : List ℕ} → ReadsLine before line after → AllStand before.atoms before.list → AllStand after.atoms after.list
line_stands (skipped h) s = s
line_stands {before} (comparison {c} t out p good) s =
    let atoms = atoms_with before.atoms c in
    all_joined _ before.list (qualifier_of c atoms ∷ []) (all_grown (numbered_grows c.addends before.atoms c.addends) before.list s) (rows_stand c.relation c.addends atoms good, tt)

lines_stand : {before after : Quals} {lines : List (List ℕ)} → ReadsLines before lines after → AllStand before.atoms before.list → AllStand after.atoms after.list
lines_stand none s = s
lines_stand (more h p) s = lines_stand p (line_stands h s)

pub bounded_rows : (text : List ℕ) (quals : Quals) → IsQualsText text quals → AllByRecursion (λ each. AllByRecursion (IsGoodRow quals.atoms) (rows_of each)) quals.list
bounded_rows text quals p = all_weaker _ _ (λ each k. all_weaker _ _ (λ row s. s.good) (rows_of each) k) quals.list (lines_stand p tt)
