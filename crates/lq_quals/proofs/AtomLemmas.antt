-- The atoms of a text have names, and each stands once.
use Rattle.std.proofs.Common.{◌≡◌, ◌≢◌, ℕ, zero, suc, List, [], ◌∷◌, Some, refl, sym, ap, ◌∙◌}
use Rattle.std.specs.Prelude.{slice_get}
use Rattle.std.specs.List.{AllByRecursion}
use Rattle.lq_text.specs.Atom.{IsAtom}
use Rattle.lq_text.specs.declared.atom.Atom.{Atom}
use Rattle.lq_quals.specs.declared.quals.Quals.{Quals}
use Rattle.lq_quals.specs.Quals.{ReadsLine, ReadsLines, IsQualsText}
use Rattle.lq_quals.specs.Quals.ReadsLine.{skipped, comparison}
use Rattle.lq_quals.specs.Quals.ReadsLines.{none, more}
use Rattle.lq_quals.proofs.NumberingLemmas.{Distinct, numbers, numbered_are_atoms}
use Rattle.lq_quals.proofs.BackLemmas.{comparison_has}

line_named : {before after : Quals} {line : List ℕ} → ReadsLine before line after → AllByRecursion IsAtom before.atoms → AllByRecursion IsAtom after.atoms
line_named (skipped h) are = are
line_named {before} (comparison {c} s out read good) are = numbered_are_atoms c.addends before.atoms c.addends are (comparison_has read)

lines_named : {before after : Quals} {lines : List (List ℕ)} → ReadsLines before lines after → AllByRecursion IsAtom before.atoms → AllByRecursion IsAtom after.atoms
lines_named none are = are
lines_named (more first later) are = lines_named later (line_named first are)

named_at : (atoms : List Atom) (k : ℕ) (atom : Atom) → AllByRecursion IsAtom atoms → slice_get atoms k ≡ Some atom → IsAtom atom
named_at [] k atom are at = absurd cc
named_at (first ∷ atoms) zero atom are at = let e : first ≡ atom = cc in rw (← e) are.0
named_at (first ∷ atoms) (suc k) atom are at = named_at atoms k atom are.1 at

pub atoms_named : (text : List ℕ) (quals : Quals) (k : ℕ) (atom : Atom) → IsQualsText text quals → slice_get quals.atoms k ≡ Some atom → IsAtom atom
atoms_named text quals k atom reads at = named_at quals.atoms k atom (lines_named reads tt) at

line_distinct : {before after : Quals} {line : List ℕ} → ReadsLine before line after → Distinct before.atoms → Distinct after.atoms
line_distinct (skipped h) d = d
line_distinct {before} (comparison {c} s out read good) d = (numbers c.addends before.atoms c.addends).distinct d

lines_distinct : {before after : Quals} {lines : List (List ℕ)} → ReadsLines before lines after → Distinct before.atoms → Distinct after.atoms
lines_distinct none d = d
lines_distinct (more first later) d = lines_distinct later (line_distinct first d)

-- one that differs from each of these is none of them
not_at : (first : Atom) (atoms : List Atom) (k : ℕ) → AllByRecursion (λ later. first ≢ later) atoms → slice_get atoms k ≡ Some first → ⊥
not_at first [] k others at = cc
not_at first (atom ∷ atoms) zero others at = others.0 (let e : atom ≡ first = cc in sym e)
not_at first (atom ∷ atoms) (suc k) others at = not_at first atoms k others.1 at

distinct_at : (atoms : List Atom) (i j : ℕ) (atom : Atom) → Distinct atoms → slice_get atoms i ≡ Some atom → slice_get atoms j ≡ Some atom → i ≡ j
distinct_at [] i j atom d at at' = absurd cc
distinct_at (first ∷ atoms) zero zero atom d at at' = refl
distinct_at (first ∷ atoms) zero (suc j) atom d at at' = let e : first ≡ atom = cc in absurd (not_at first atoms j d.0 (at' ∙ ap (λ a. Some a) (sym e)))
distinct_at (first ∷ atoms) (suc i) zero atom d at at' = let e : first ≡ atom = cc in absurd (not_at first atoms i d.0 (at ∙ ap (λ a. Some a) (sym e)))
distinct_at (first ∷ atoms) (suc i) (suc j) atom d at at' = ap suc (distinct_at atoms i j atom d.1 at at')

pub atoms_once : (text : List ℕ) (quals : Quals) (i j : ℕ) (atom : Atom) → IsQualsText text quals → slice_get quals.atoms i ≡ Some atom → slice_get quals.atoms j ≡ Some atom → i ≡ j
atoms_once text quals i j atom reads at at' = distinct_at quals.atoms i j atom (lines_distinct reads tt) at at'
