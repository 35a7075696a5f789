-- What may follow the parts of expressions and statements.
use Rattle.std.proofs.Common.{sym, ap, ◌∙◌, arith, inl, inr}
use Rattle.std.specs.Prelude.{◌≡◌, ◌<◌, ◌≤◌, ℕ, Bool, true, false, Option, Some}
use Rattle.lq_tree.specs.declared.place.Place.{Place}
use Rattle.lq_tree.specs.declared.expr.BinOp.{BinOp}
use Rattle.lq_parser.specs.declared.lexeme.Lexeme.{Lexeme}
use Rattle.lq_parser.specs.declared.lexeme.Sign.{Sign}
use Rattle.lq_parser.specs.declared.lexeme.Sign.TheVariants.{LeftParen, LeftBracket, Dot, Arrow, RightParen, Semicolon, Comma, Equal}
use Rattle.lq_parser.specs.Lexemes.{sign_at, operator, looseness}
use Rattle.lq_parser.specs.Outcome.{Ends, EndsPart, IsEqual, binds, binds_as, binds_sign}
use Rattle.lq_parser.proofs.Apart.{signs}

-- a lexeme of this make is first
abbrev pub Heads : (Place → Lexeme) → Option Lexeme → Type 0
Heads make next = (at : Place) × (next ≡ Some (make at))

-- a sign ends an expression just where it binds more loosely
pub ends_sign : {n : ℕ} {next : Option Lexeme} {s : Sign} {at : Place} → next ≡ Some (sign_at s at) → Ends n next → binds_sign s ≤ n → ⊥
ends_sign {n = n} {next = next} {s = s} e ends low = let b : binds next ≡ binds_sign s = ap binds e in omega arith

pub sign_ends : {n : ℕ} {next : Option Lexeme} {s : Sign} {at : Place} → next ≡ Some (sign_at s at) → n < binds_sign s → Ends n next
sign_ends {n = n} {next = next} {s = s} e high = let b : binds next ≡ binds_sign s = ap binds e in omega arith

-- an operator binds as its sign
pub binds_operator : (s : Sign) (op : BinOp) → operator s ≡ Some op → binds_sign s ≡ looseness op
binds_operator LeftParen op e = absurd cc
binds_operator LeftBracket op e = absurd cc
binds_operator Arrow op e = absurd cc
binds_operator Dot op e = absurd cc
binds_operator s op e = ap binds_as e

pub semicolon_ends : {next : Option Lexeme} → Heads (sign_at Semicolon) next → Ends 6 next
semicolon_ends b = sign_ends b.1 (omega arith)

pub paren_ends : {next : Option Lexeme} → Heads (sign_at RightParen) next → Ends 6 next
paren_ends b = sign_ends b.1 (omega arith)

pub comma_ends : {next : Option Lexeme} → Heads (sign_at Comma) next → Ends 6 next
comma_ends b = sign_ends b.1 (omega arith)

-- what ends a part ends an expression
pub part_ends : (next : Option Lexeme) → EndsPart next → Ends 6 next
part_ends next (at, inl e) = semicolon_ends (at, e)
part_ends next (at, inr e) = paren_ends (at, e)

-- what ends an expression of all operators ends a tighter one
pub ends_tighter : (next : Option Lexeme) → Ends 6 next → Ends 0 next
ends_tighter next h = omega arith

pub equal_ends : (next : Option Lexeme) → IsEqual next → Ends 0 next
equal_ends next b = sign_ends b.1 (omega arith)

-- what ends a part is no other sign
abbrev pub closes : Option Sign → Bool
closes (Some Semicolon) = true
closes (Some RightParen) = true
closes _ = false

pub part_not : {s : Sign} {at : Place} (next : Option Lexeme) → closes (Some s) ≡ false → EndsPart next → next ≡ Some (sign_at s at) → ⊥
part_not next h (at, inl e) q = cc (ap closes (signs (sym e ∙ q)), h)
part_not next h (at, inr e) q = cc (ap closes (signs (sym e ∙ q)), h)
