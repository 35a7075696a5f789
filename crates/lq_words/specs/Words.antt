-- A part as words: a cell may be read where the part has a unit of it, and written where it has all.
use Rattle.std.specs.Prelude.{◌↔◌, ℕ, ◌<◌, List, slice_index, refl}
use Rattle.std.proofs.Common.{sym, ap, subst, ◌∙◌}
use Rattle.lq_words.specs.Part.{Holding, HasUnit, HasAll, KeepsUnits}

-- a cell that may be written, which may be read too
abbrev pub MayWrite : Holding → ℕ → Type 0
MayWrite part cell = HasUnit part cell × HasAll part cell

-- the laws that words are to meet: what stays stays on
pub keeps_itself : (p : Holding) → KeepsUnits p p
keeps_itself p = ((refl, refl), refl)

pub keeps_on : (p q r : Holding) → KeepsUnits p q → KeepsUnits q r → KeepsUnits p r
keeps_on p q r first second = ((second.0.0 ∙ first.0.0, second.0.1 ∙ first.0.1), second.1 ∙ first.1)

-- the same cells may be read and written
pub keeps_reads : (p q : Holding) (cell : ℕ) → KeepsUnits p q → HasUnit p cell ↔ HasUnit q cell
keeps_reads p q cell keeps =
    let has : List ℕ → Type 0 = λ units. 0 < slice_index units cell in
    (subst has (sym keeps.1), subst has keeps.1)

pub keeps_writes : (p q : Holding) (cell : ℕ) → KeepsUnits p q → MayWrite p cell ↔ MayWrite q cell
keeps_writes p q cell keeps =
    let units = ap (λ (us : List ℕ). slice_index us cell) keeps.1 in
    let both = keeps_reads p q cell keeps in
    ((λ may. (both.0 may.0, units ∙ may.1 ∙ sym keeps.0.1)), (λ may. (both.1 may.0, sym units ∙ may.1 ∙ keeps.0.1)))
