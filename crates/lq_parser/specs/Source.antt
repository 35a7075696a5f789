-- The lexemes of a source. docs/LANGUAGE.md, "Tokens" and "Places".
use Rattle.std.specs.Prelude.{ℕ, pos, Option, None, Some, List, [], ◌∷◌, map, take, codes}
use Rattle.std.specs.Map.{lookup}
use Rattle.std.specs.Str.{bytes_eq}
use Rattle.lq_text.specs.Numeral.{place_value}
use Rattle.lq_tree.specs.declared.place.Place.{Place}
use Rattle.lq_tree.specs.Place.{line_of, column_of}
use Rattle.lq_lexer.specs.declared.token.Token.{Token}
use Rattle.lq_lexer.specs.declared.token.TokenKind.{TokenKind}
use Rattle.lq_lexer.specs.declared.token.TokenKind.TheVariants.{Name as NameToken, Number as NumberToken, Sign as SignToken, Keyword as KeywordToken}
use Rattle.lq_lexer.specs.Tokens.{text_of}
use Rattle.lq_parser.specs.declared.lexeme.Lexeme.{Lexeme}
use Rattle.lq_parser.specs.declared.lexeme.Symbol.{Symbol}
use Rattle.lq_parser.specs.declared.lexeme.Symbol.TheVariants.{Name, Number, Sign as SignSymbol, Keyword as KeywordSymbol, Reserved}
use Rattle.lq_parser.specs.declared.lexeme.Sign.{Sign}
use Rattle.lq_parser.specs.declared.lexeme.Sign.TheVariants.{LeftParen, RightParen, LeftBrace, RightBrace, LeftBracket, RightBracket, Semicolon, Comma, Dot, Arrow, Plus, Minus, Star, Slash, Percent, Less, LessEqual, Greater, GreaterEqual, EqualEqual, NotEqual, Equal, AndAnd, OrOr, Not, PlusPlus, MinusMinus, PlusEqual, MinusEqual, StarEqual}
use Rattle.lq_parser.specs.declared.lexeme.Keyword.{Keyword}
use Rattle.lq_parser.specs.declared.lexeme.Keyword.TheVariants.{Int, Struct, Void, If, Else, While, For, Return, Print, Calloc, Sizeof, Cobegin, Foreach}

-- the signs and how they are written
abbrev pub signs : List (List ℕ × Sign)
signs =
    (codes "(", LeftParen)
    ∷ (codes ")", RightParen)
    ∷ (codes "{", LeftBrace)
    ∷ (codes "}", RightBrace)
    ∷ (codes "[", LeftBracket)
    ∷ (codes "]", RightBracket)
    ∷ (codes ";", Semicolon)
    ∷ (codes ",", Comma)
    ∷ (codes ".", Dot)
    ∷ (codes "->", Arrow)
    ∷ (codes "+", Plus)
    ∷ (codes "-", Minus)
    ∷ (codes "*", Star)
    ∷ (codes "/", Slash)
    ∷ (codes "%", Percent)
    ∷ (codes "<", Less)
    ∷ (codes "<=", LessEqual)
    ∷ (codes ">", Greater)
    ∷ (codes ">=", GreaterEqual)
    ∷ (codes "==", EqualEqual)
    ∷ (codes "!=", NotEqual)
    ∷ (codes "=", Equal)
    ∷ (codes "&&", AndAnd)
    ∷ (codes "||", OrOr)
    ∷ (codes "!", Not)
    ∷ (codes "++", PlusPlus)
    ∷ (codes "--", MinusMinus)
    ∷ (codes "+=", PlusEqual)
    ∷ (codes "-=", MinusEqual)
    ∷ (codes "*=", StarEqual)
    ∷ []

-- the keywords and how they are written
abbrev pub keywords : List (List ℕ × Keyword)
keywords =
    (codes "int", Int)
    ∷ (codes "struct", Struct)
    ∷ (codes "void", Void)
    ∷ (codes "if", If)
    ∷ (codes "else", Else)
    ∷ (codes "while", While)
    ∷ (codes "for", For)
    ∷ (codes "return", Return)
    ∷ (codes "print", Print)
    ∷ (codes "calloc", Calloc)
    ∷ (codes "sizeof", Sizeof)
    ∷ (codes "cobegin", Cobegin)
    ∷ (codes "foreach", Foreach)
    ∷ []

-- a sign and a keyword as the grammar sees it
abbrev pub sign_symbol : Option Sign → Symbol
sign_symbol (Some sign) = SignSymbol sign
sign_symbol None = Reserved

abbrev pub keyword_symbol : Option Keyword → Symbol
keyword_symbol (Some keyword) = KeywordSymbol keyword
keyword_symbol None = Reserved

-- a token of this kind and text as the grammar sees it: words of annotations and words that no rule uses are no symbol of a rule
abbrev pub symbol_of : TokenKind → List ℕ → Symbol
symbol_of NameToken text = Name text
symbol_of NumberToken text = Number (pos (place_value text))
symbol_of SignToken text = sign_symbol (lookup (bytes_eq text) signs)
symbol_of KeywordToken text = keyword_symbol (lookup (bytes_eq text) keywords)
symbol_of kind text = Reserved

-- the place of a byte of a text
abbrev pub place_at : List ℕ → ℕ → Place
place_at text byte = record { line = line_of (take byte text); col = column_of (take byte text) }

-- a token of a text as the grammar sees it, and all of them
abbrev pub lexeme_of : List ℕ → Token → Lexeme
lexeme_of text token = record { symbol = symbol_of token.kind (text_of text token); at = place_at text token.start }

abbrev pub lexemes_of : List ℕ → List Token → List Lexeme
lexemes_of text tokens = map (lexeme_of text) tokens
