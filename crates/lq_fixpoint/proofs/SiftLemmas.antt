-- Sifted lists.
use Rattle.std.proofs.Common.{◌≡◌, ◌≤◌, List, [], ◌∷◌, ◌++◌, length, subst, sym, ap, ◌∙◌, append_assoc, arith}
use Rattle.std.proofs.lemmas.List.{append-nil}
use Rattle.std.specs.List.{AllByRecursion}
use Rattle.lq_templates.specs.Conditions.{IsPart, none, kept, left}
use Rattle.lq_fixpoint.specs.Sifting.{IsSifted, nothing, stays, goes}
use Rattle.lq_fixpoint.proofs.Parts.{part_long}

-- ---- one element more, at the end

pub sifted_stays : {X : Type 0} (P : X → Type 0) (x : X) {whole part : List X} → P x → IsSifted P whole part → IsSifted P (whole ++ x ∷ []) (part ++ x ∷ [])
sifted_stays P x p nothing = stays p nothing
sifted_stays P x p (stays q s) = stays q (sifted_stays P x p s)
sifted_stays P x p (goes q s) = goes q (sifted_stays P x p s)

pub sifted_goes : {X : Type 0} (P : X → Type 0) (x : X) {whole part : List X} → (P x → ⊥) → IsSifted P whole part → IsSifted P (whole ++ x ∷ []) part
sifted_goes P x p nothing = goes p nothing
sifted_goes P x p (stays q s) = stays q (sifted_goes P x p s)
sifted_goes P x p (goes q s) = goes q (sifted_goes P x p s)

-- ---- what is left

pub sifted_part : {X : Type 0} (P : X → Type 0) {whole part : List X} → IsSifted P whole part → IsPart part whole
sifted_part P nothing = none
sifted_part P (stays p s) = kept (sifted_part P s)
sifted_part P (goes p s) = left (sifted_part P s)

pub sifted_all : {X : Type 0} (P : X → Type 0) {whole part : List X} → IsSifted P whole part → AllByRecursion P part
sifted_all P nothing = tt
sifted_all P (stays p s) = (p, sifted_all P s)
sifted_all P (goes p s) = sifted_all P s

-- a part of which it holds throughout is a part of what is left
pub sifted_keeps : {X : Type 0} (P : X → Type 0) {whole part other : List X} → IsSifted P whole part → IsPart other whole → AllByRecursion P other → IsPart other part
sifted_keeps P nothing none h = none
sifted_keeps P (stays p s) (kept q) h = kept (sifted_keeps P s q h.1)
sifted_keeps P (stays p s) (left q) h = left (sifted_keeps P s q h)
sifted_keeps P (goes p s) (kept q) h = absurd (p h.0)
sifted_keeps P (goes p s) (left q) h = sifted_keeps P s q h

-- where nothing was left out, it holds throughout
pub sifted_whole : {X : Type 0} (P : X → Type 0) (whole part : List X) → IsSifted P whole part → length whole ≤ length part → AllByRecursion P whole
sifted_whole P whole part s long = subst (AllByRecursion P) (part_long (sifted_part P s) long) (sifted_all P s)

-- ---- one element after another

-- the first of the rest stays
pub sift_stays : {X : Type 0} (P : X → Type 0) (whole rest later sifted grown : List X) (x y : X) → rest ≡ x ∷ later → y ≡ x → grown ≡ sifted ++ y ∷ [] → P x
    → ((part : List X) → IsSifted P rest part → IsSifted P whole (sifted ++ part)) → (part : List X) → IsSifted P later part → IsSifted P whole (grown ++ part)
sift_stays P whole rest later sifted grown x y e f g p h part s =
    subst (IsSifted P whole) (sym (append_assoc sifted (x ∷ []) part) ∙ ap (λ l. l ++ part) (sym (g ∙ ap (λ z. sifted ++ z ∷ []) f)))
    (h (x ∷ part) (subst (λ l. IsSifted P l (x ∷ part)) (sym e) (stays p s)))

-- it goes
pub sift_goes : {X : Type 0} (P : X → Type 0) (whole rest later sifted : List X) (x : X) → rest ≡ x ∷ later → (P x → ⊥)
    → ((part : List X) → IsSifted P rest part → IsSifted P whole (sifted ++ part)) → (part : List X) → IsSifted P later part → IsSifted P whole (sifted ++ part)
sift_goes P whole rest later sifted x e p h part s = h part (subst (λ l. IsSifted P l part) (sym e) (goes p s))

-- nothing is left
pub sift_end : {X : Type 0} (P : X → Type 0) (whole rest sifted : List X) → length rest ≡ 0
    → ((part : List X) → IsSifted P rest part → IsSifted P whole (sifted ++ part)) → IsSifted P whole sifted
sift_end P whole [] sifted e h = subst (IsSifted P whole) (append-nil sifted) (h [] nothing)
sift_end P whole (x ∷ rest) sifted e h = absurd (omega arith)
