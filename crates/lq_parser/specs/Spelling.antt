-- The tree that the tokens of a text spell, and where they spell none. docs/LANGUAGE.md, "Grammar".
use Rattle.std.specs.Prelude.{◌≡◌, ℕ, List, [], ◌∷◌, ◌++◌, length, All, ⊤}
use Rattle.lq_tree.specs.declared.program.Program.{Program}
use Rattle.lq_lexer.specs.declared.token.Token.{Token}
use Rattle.lq_lexer.specs.declared.token.TokenKind.TheVariants.{Annotation as AnnotationToken}
use Rattle.lq_parser.specs.declared.lexeme.Lexeme.{Lexeme}
use Rattle.lq_parser.specs.declared.spelling.ParseFault.{ParseFault}
use Rattle.lq_parser.specs.declared.spelling.ParseFault.TheVariants.{Annotation, Syntax}
use Rattle.lq_parser.specs.Source.{lexeme_of, lexemes_of}
use Rattle.lq_parser.specs.Programs.{IsProgram}

-- the tokens of the text spell the tree
abbrev pub Spells : List ℕ → List Token → Program → Type 0
Spells text tokens tree = IsProgram (lexemes_of text tokens) tree

-- no token is a word of an annotation
abbrev pub HasNoAnnotation : List Token → Type 0
HasNoAnnotation tokens = All (λ token. ¬ (token.kind ≡ AnnotationToken)) tokens

-- the first word of an annotation stands at this byte
abbrev pub IsFirstAnnotation : List Token → ℕ → Type 0
IsFirstAnnotation tokens at =
    (front rest : List Token) × (token : Token) × (tokens ≡ front ++ (token ∷ rest)) × HasNoAnnotation front × (token.kind ≡ AnnotationToken) × (at ≡ token.start)

-- some tree is spelled by lexemes that begin so
abbrev pub IsViable : List Lexeme → Type 0
IsViable front = (more : List Lexeme) × (tree : Program) × IsProgram (front ++ more) tree

-- the first byte of a token of the text, or the length of the text where no token is left
abbrev pub byte_of : List ℕ → List Token → ℕ
byte_of text [] = length text
byte_of text (token ∷ rest) = token.start

-- the rest begins with a token that no continuation mends, or there is none and no tree is spelled
abbrev pub IsDead : List ℕ → List Lexeme → List Token → Type 0
IsDead text front [] = (tree : Program) → ¬ IsProgram front tree
IsDead text front (token ∷ rest) = ¬ IsViable (front ++ (lexeme_of text token ∷ []))

-- the fault place: up to it a tree can be spelled, and not with the token there
pub record IsFaultPlace (text : List ℕ) (tokens : List Token) (at : ℕ) : Type 0 where
  pub front : List Token
  pub rest : List Token
  pub split : tokens ≡ front ++ rest
  pub viable : IsViable (lexemes_of text front)
  pub dead : IsDead text (lexemes_of text front) rest
  pub place : at ≡ byte_of text rest

-- P holds of the byte that the fault names, where it is of this kind
abbrev pub IfAnnotation : (ℕ → Type 0) → ParseFault → Type 0
IfAnnotation P (Annotation at) = P at
IfAnnotation P fault = ⊤

abbrev pub IfSyntax : (ℕ → Type 0) → ParseFault → Type 0
IfSyntax P (Syntax at) = P at
IfSyntax P fault = ⊤
