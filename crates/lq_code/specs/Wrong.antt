-- Where bytes that are no code go wrong (docs/CODE.md, "Bytes").
use Rattle.std.specs.Prelude.{◌≡◌, ℕ, List, ◌∷◌, ◌++◌, length}
use Rattle.std.specs.List.{concat}
use Rattle.lq_code.specs.declared.code.Code.{Code}
use Rattle.lq_code.specs.Spelled.{Field, fields, Spells}

-- some code begins with these fields
pub record Begins (front : List Field) : Type 0 where
  pub code : Code
  pub others : List Field
  pub parts : fields code ≡ front ++ others

-- no code that begins with these fields has a next field with which the bytes go on
abbrev pub IsStuck : (front : List Field) → (rest : List ℕ) → Type 0
IsStuck front rest =
    (code : Code) (next : Field) (others : List Field) (more : List ℕ) → fields code ≡ front ++ next ∷ others → rest ≡ next ++ more → ⊥

-- the bytes spell no code: up to a byte they are the first fields of some code, and with no code they go on
pub record GoesWrong (bytes : List ℕ) (at : ℕ) : Type 0 where
  pub front : List Field
  pub rest : List ℕ
  pub parts : bytes ≡ concat front ++ rest
  pub place : length (concat front) ≡ at
  pub begins : Begins front
  pub stuck : IsStuck front rest
  pub unspelled : (code : Code) → Spells bytes code → ⊥
