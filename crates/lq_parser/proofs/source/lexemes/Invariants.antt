use Rattle.std.proofs.Common.{◌≡◌, ℕ, ◌<◌, ◌≤◌, length, take, get_or}
use Rattle.lq_lexer.specs.declared.token.Token.{Token}
use Rattle.lq_parser.specs.Source.{place_at, lexemes_of}
use Rattle.lq_parser.proofs.source.lexemes.Given as goal

-- the place of a byte before all tokens that are left, and the lexemes of the tokens so far
abbrev pub invariant-loop-token : goal.invariant-loop-token
invariant-loop-token l = record {
  place : l.at ≡ place_at l.text l.from;
  before : (k : ℕ) (d : Token) → l.token-index ≤ k → k < length l.tokens → l.from ≤ (get_or l.tokens k d).start;
  so_far : l.lexemes.items ≡ lexemes_of l.text (take l.token-index l.tokens);
}
