-- Lexemes spell at most one type, where what follows it may.
use Rattle.std.proofs.Common.{sym, ap, ◌∙◌, refl}
use Rattle.std.specs.Prelude.{◌≡◌, ℕ, suc, Bool, true, false, Option, Some, List, ◌++◌}
use Rattle.std.proofs.lemmas.List.{append_assoc}
use Rattle.lq_tree.specs.declared.expr.Base.{Base}
use Rattle.lq_tree.specs.declared.expr.Base.TheVariants.{Struct}
use Rattle.lq_tree.specs.declared.expr.CType.{CType}
use Rattle.lq_parser.specs.declared.lexeme.Lexeme.{Lexeme}
use Rattle.lq_parser.specs.declared.lexeme.Symbol.{Symbol}
use Rattle.lq_parser.specs.declared.lexeme.Symbol.TheVariants.{Keyword as KeywordSymbol}
use Rattle.lq_parser.specs.declared.lexeme.Keyword.TheVariants.{Int as IntWord, Struct as StructWord}
use Rattle.lq_parser.specs.Lexemes.{first}
use Rattle.lq_parser.specs.Types.{IsBase, int, struct, AreStars, none, star, IsType, type}
use Rattle.lq_parser.specs.Outcome.{NoStar}
use Rattle.lq_parser.proofs.Apart.{symbol_of, tails, same_text, symbols}

pub both : {A B C : Type 0} (f : A → B → C) {a a' : A} {b b' : B} → a ≡ a' → b ≡ b' → f a b ≡ f a' b'
both f p q = cc

-- two parts one behind the other, and what follows them
pub shift : (a b r a' b' r' : List Lexeme) → (a ++ b) ++ r ≡ (a' ++ b') ++ r' → a ++ (b ++ r) ≡ a' ++ (b' ++ r')
shift a b r a' b' r' e = sym (append_assoc a b r) ∙ e ∙ append_assoc a' b' r'

-- a test tells two lexemes apart
pub differs : (test : Option Lexeme → Bool) {a b : Option Lexeme} → a ≡ b → test a ≡ true → test b ≡ false → ⊥
differs test e h k = clash (sym h ∙ ap test e ∙ k)
  where
    clash : true ≡ false → ⊥
    clash q = cc

-- what a type begins with
abbrev pub begins_type_symbol : Option Symbol → Bool
begins_type_symbol (Some (KeywordSymbol IntWord)) = true
begins_type_symbol (Some (KeywordSymbol StructWord)) = true
begins_type_symbol _ = false

abbrev pub begins_type : Option Lexeme → Bool
begins_type next = begins_type_symbol (symbol_of next)

base_first : {u : List Lexeme} {b : Base} → IsBase u b → (r : List Lexeme) → begins_type (first (u ++ r)) ≡ true
base_first int r = refl
base_first struct r = refl

pub type_first : {u : List Lexeme} {t : CType} → IsType u t → (r : List Lexeme) → begins_type (first (u ++ r)) ≡ true
type_first (type {b = b} {s = s} x y h) r = ap (λ w. begins_type (first w)) (append_assoc b s r) ∙ base_first x (s ++ r)

one_base : {u u' : List Lexeme} {v v' : Base} → IsBase u v → IsBase u' v' → (r r' : List Lexeme) → u ++ r ≡ u' ++ r' → (v ≡ v') × (r ≡ r')
one_base int int r r' e = (refl, tails e)
one_base struct struct r r' e = (ap Struct (same_text (tails e)), tails (tails e))
one_base int struct r r' e = absurd (cc (symbols (ap first e)))
one_base struct int r r' e = absurd (cc (symbols (ap first e)))

one_stars : {u u' : List Lexeme} {v v' : ℕ} → AreStars u v → AreStars u' v' → (r r' : List Lexeme) → NoStar (first r) → NoStar (first r') → u ++ r ≡ u' ++ r' → (v ≡ v') × (r ≡ r')
one_stars none none r r' f f' e = (refl, e)
one_stars (star s) (star s') r r' f f' e = let h = one_stars s s' r r' f f' (tails e) in (ap suc h.0, h.1)
one_stars none (star {at = at} s') r r' f f' e = absurd (f at (ap first e))
one_stars (star {at = at} s) none r r' f f' e = absurd (f' at (sym (ap first e)))

pub one_type : {u u' : List Lexeme} {v v' : CType} → IsType u v → IsType u' v' → (r r' : List Lexeme) → NoStar (first r) → NoStar (first r') → u ++ r ≡ u' ++ r' → (v ≡ v') × (r ≡ r')
one_type (type {b = b} {s = s} x y h) (type {b = b'} {s = s'} x' y' h') r r' f f' e =
    let p = one_base x x' (s ++ r) (s' ++ r') (shift b s r b' s' r' e) in
    let q = one_stars y y' r r' f f' p.1 in
    (both (λ base n. record { base = base; stars = n }) p.0 q.0, q.1)
