-- Where a text has no tokens. docs/LANGUAGE.md, "Tokens".
use Rattle.std.specs.Prelude.{◌≡◌, ℕ, ◌<◌, ◌≤◌, ◌⊎◌, false, List, length, drop, slice_index, ⊤}
use Rattle.lq_lexer.specs.declared.lexing.LexFault.{LexFault}
use Rattle.lq_lexer.specs.declared.lexing.LexFault.TheVariants.{At, NoMemory}
use Rattle.lq_lexer.specs.declared.token.Token.{Token}
use Rattle.lq_lexer.specs.declared.token.TokenKind.{TokenKind}
use Rattle.lq_lexer.specs.Bytes.{is_source_byte}
use Rattle.lq_lexer.specs.Tokens.{BeginsWithBlank, BeginsWithToken, Reads}

-- the text goes on, but neither with a blank nor with a token
pub record IsStuck (text : List ℕ) : Type 0 where
  pub goes_on : 0 < length text
  pub no_blank : (blank rest : List ℕ) → ¬ BeginsWithBlank text blank rest
  pub no_token : (kind : TokenKind) (word rest : List ℕ) → ¬ BeginsWithToken text kind word rest

-- up to this byte blanks and tokens lead, and none begins there
abbrev pub IsStuckAt : List ℕ → ℕ → Type 0
IsStuckAt text at = IsStuck (drop at text) × ((tokens : List Token) × Reads 0 text tokens (drop at text))

-- this byte is none that a source may hold
abbrev pub IsForeignAt : List ℕ → ℕ → Type 0
IsForeignAt text at = (at < length text) × (is_source_byte (slice_index text at) ≡ false)

-- a lexical fault stands at this byte
abbrev pub IsFault : List ℕ → ℕ → Type 0
IsFault text at = IsForeignAt text at ⊎ IsStuckAt text at

-- of the faults this one has the least byte
pub record IsFirstFault (text : List ℕ) (at : ℕ) : Type 0 where
  pub fault : IsFault text at
  pub least : (other : ℕ) → IsFault text other → at ≤ other

-- P holds of the byte that the fault names; nothing is said where memory ran out
abbrev pub IfAt : LexFault → (ℕ → Type 0) → Type 0
IfAt (At at) P = P at
IfAt NoMemory P = ⊤
