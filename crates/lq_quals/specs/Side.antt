-- Sides of a comparison. docs/CHECKING.md, "Qualifier text".
use Rattle.std.specs.Prelude.{ℕ, Bool, not, List, [], ◌∷◌, ◌++◌, codes}
use Rattle.lq_quals.specs.declared.term.Addend.{Addend}
use Rattle.lq_quals.specs.Term.{IsTerm}

-- any number of terms, each behind its sign, and what they add, all of it negated or not
pub data AreMore (negated : Bool) : List ℕ → List Addend → Type 0 where
  none : AreMore negated [] []
  plus : {text rest : List ℕ} {first : Addend} {later : List Addend} → IsTerm negated text first → AreMore negated rest later → AreMore negated (codes "+" ++ (text ++ rest)) (first ∷ later)
  minus : {text rest : List ℕ} {first : Addend} {later : List Addend} → IsTerm (not negated) text first → AreMore negated rest later → AreMore negated (codes "-" ++ (text ++ rest)) (first ∷ later)

-- a side is a term, with `-` before it or not, and more behind it
pub data IsSide (negated : Bool) : List ℕ → List Addend → Type 0 where
  plain : {text rest : List ℕ} {first : Addend} {later : List Addend} → IsTerm negated text first → AreMore negated rest later → IsSide negated (text ++ rest) (first ∷ later)
  opposite : {text rest : List ℕ} {first : Addend} {later : List Addend} → IsTerm (not negated) text first → AreMore negated rest later → IsSide negated (codes "-" ++ (text ++ rest)) (first ∷ later)
