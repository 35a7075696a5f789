-- Bytes cut before the first of a kind.
use Rattle.std.specs.Prelude.{◌≡◌, ℕ, Bool, true, false, ◌||◌, ◌==◌, List, [], ◌∷◌, ◌++◌}
use Rattle.std.specs.List.{AllByRecursion}

-- `*`
abbrev pub is_times : ℕ → Bool
is_times byte = byte == 42

-- `+` or `-`
abbrev pub is_sign : ℕ → Bool
is_sign byte = byte == 43 || byte == 45

-- `<`, `>` or `=`, with which a relation begins
abbrev pub is_relation_byte : ℕ → Bool
is_relation_byte byte = byte == 60 || (byte == 62 || byte == 61)

-- there are no bytes, or the first passes the test
abbrev pub Begins : (ℕ → Bool) → List ℕ → Type 0
Begins test [] = Unit {0}
Begins test (byte ∷ bytes) = test byte ≡ true

-- the bytes are cut before the first that passes the test, or at their end
pub record IsCut (test : ℕ → Bool) (bytes front back : List ℕ) : Type 0 where
  pub joined : bytes ≡ front ++ back
  pub clear : AllByRecursion (λ byte. test byte ≡ false) front
  pub begins : Begins test back
