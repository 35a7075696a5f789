use Rattle.std.proofs.Common.{rules, w64, ◌≡◌, ◌∷◌, ap, ◌∙◌}
use Rattle.std.specs.Int.RustNames.{FitsSigned}
use Rattle.std.proofs.lemmas.Int.{to_z-of_z}
use Rattle.lq_parser.specs.declared.lexeme.Lexeme.{Lexeme}
use Rattle.lq_parser.specs.declared.lexeme.Symbol.{Symbol}
use Rattle.lq_parser.proofs.terminals.eat_number.Goals as goal

with_symbol : (l : Lexeme) (s : Symbol) → l.symbol ≡ s → l ≡ record { symbol = s; at = l.at }
with_symbol l s e = ap (λ s. record { symbol = s; at = l.at }) e

pub returns-in-Number-clause-some : goal.returns-in-Number-clause-some
returns-in-Number-clause-some c =
    let fits : FitsSigned w64 c.in-Number.value = search rules in
    let split : c.args.lexemes.now ≡ c.in_ok-found.found.now ∷ c.in_ok-found.rest.now = search rules in
    rw (to_z-of_z w64 c.in-Number.value fits) (c.in_ok-found.found.now.at, split ∙ ap (λ l. l ∷ c.in_ok-found.rest.now) (with_symbol _ _ c.in-Number.is))
