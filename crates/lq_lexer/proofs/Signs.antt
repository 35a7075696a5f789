-- What a text that begins with a sign begins with.
use Rattle.std.proofs.Common.{◌≡◌, ℕ, Bool, true, false, cond, List, length, min, take, sym, ap, ◌∙◌}
use Rattle.std.proofs.lemmas.Bool.{cond-true, cond-false}
use Rattle.std.proofs.lemmas.List.{take_min}
use Rattle.lq_lexer.specs.declared.token.TokenKind.TheVariants.{Sign}
use Rattle.lq_lexer.specs.declared.scan.Piece.TheVariants.{Spelled, Nothing}
use Rattle.lq_text.specs.Word.{is_among}
use Rattle.lq_lexer.specs.Sign.{signs}
use Rattle.lq_lexer.specs.Scan.{sign_piece}

among-take_min : (text : List ℕ) (n : ℕ) (b : Bool) → n ≡ min 2 (length text) → is_among signs (take n text) ≡ b → is_among signs (take 2 text) ≡ b
among-take_min text n b e h = sym (ap (is_among signs) (ap (λ (k : ℕ). take k text) e ∙ take_min 2 text)) ∙ h

pub one_byte_sign : (text : List ℕ) (n : ℕ) → n ≡ min 2 (length text) → is_among signs (take n text) ≡ false → is_among signs (take 1 text) ≡ true → Spelled Sign 1 ≡ sign_piece text
one_byte_sign text n e two one =
    sym (cond-false (is_among signs (take 2 text)) (Spelled Sign (length (take 2 text))) (cond (is_among signs (take 1 text)) (Spelled Sign 1) Nothing) (among-take_min text n false e two)
    ∙ cond-true (is_among signs (take 1 text)) (Spelled Sign 1) Nothing one)

pub no_sign : (text : List ℕ) (n : ℕ) → n ≡ min 2 (length text) → is_among signs (take n text) ≡ false → is_among signs (take 1 text) ≡ false → Nothing ≡ sign_piece text
no_sign text n e two one =
    sym (cond-false (is_among signs (take 2 text)) (Spelled Sign (length (take 2 text))) (cond (is_among signs (take 1 text)) (Spelled Sign 1) Nothing) (among-take_min text n false e two)
    ∙ cond-false (is_among signs (take 1 text)) (Spelled Sign 1) Nothing one)
