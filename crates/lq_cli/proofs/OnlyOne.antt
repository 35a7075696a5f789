-- Tables of at most one answer, put together from their rows.
use Rattle.std.proofs.Common.{◌≡◌, ◌⊎◌, inl, inr, ⊎_elim, ℕ, List, sym, ◌∙◌, subst}
use Rattle.lq_cli.specs.Laws.{AtMostOne}

abbrev pub Rows : Type 1
Rows = ℕ → List ℕ → Type 0

-- one answer
abbrev pub Line : ℕ → List ℕ → Rows
Line n l status bytes = (status ≡ n) × (bytes ≡ l)

-- the answers where a fact holds
abbrev pub When : Type 0 → Rows → Rows
When P R status bytes = P × R status bytes

-- the answers to something of which a fact holds
abbrev pub Among : {X : Type 0} → (X → Type 0) → (X → Rows) → Rows
Among {X} Is R status bytes = (x : X) × Is x × R x status bytes

-- the answers of one table or another
abbrev pub Either : Rows → Rows → Rows
Either L R status bytes = L status bytes ⊎ R status bytes

-- no answer
abbrev pub Never : Rows
Never status bytes = ⊥

pub one_line : (n : ℕ) (l : List ℕ) → AtMostOne (Line n l)
one_line n l s t b c p q = (p.0 ∙ sym q.0, p.1 ∙ sym q.1)

pub one_never : AtMostOne Never
one_never s t b c p q = absurd p

pub one_when : {P : Type 0} {R : Rows} → (P → AtMostOne R) → AtMostOne (When P R)
one_when one s t b c p q = one p.0 s t b c p.1 q.1

pub one_among : {X : Type 0} {Is : X → Type 0} {R : X → Rows} → ((x y : X) → Is x → Is y → x ≡ y) → ((x : X) → Is x → AtMostOne (R x)) → AtMostOne (Among Is R)
one_among {R = R} unique one s t b c p q = one p.0 p.1 s t b c p.2 (subst (λ x. R x t c) (unique q.0 p.0 q.1 p.1) q.2)

pub one_either : {L R : Rows} → AtMostOne L → AtMostOne R → ((s t : ℕ) (b c : List ℕ) → L s b → R t c → ⊥) → AtMostOne (Either L R)
one_either left right apart s t b c (inl p) (inl q) = left s t b c p q
one_either left right apart s t b c (inl p) (inr q) = absurd (apart s t b c p q)
one_either left right apart s t b c (inr p) (inl q) = absurd (apart t s c b q p)
one_either left right apart s t b c (inr p) (inr q) = right s t b c p q

pub one_within : {A B : Rows} → ((s : ℕ) (b : List ℕ) → A s b → B s b) → AtMostOne B → AtMostOne A
one_within within one s t b c p q = one s t b c (within s b p) (within t c q)
