use Rattle.std.proofs.Common.{◌≡◌, ℕ, min, List, [], subst, sym, ap, ◌∙◌, arith}
use Rattle.lq_lexer.specs.declared.lexing.LexFault.{LexFault}
use Rattle.lq_lexer.specs.declared.lexing.LexFault.TheVariants.{At}
use Rattle.lq_lexer.specs.Bytes.{is_source_byte}
use Rattle.lq_lexer.specs.Faults.{IsFirstFault, IsStuckAt, IfAt}
use Rattle.std.specs.List.{prefix_len}
use Rattle.lq_lexer.specs.Tokens.{Tokens}
use Rattle.lq_lexer.proofs.Sameness.{foreign_fault, stuck_fault, all_source, tokens_no_first_fault, first_fault_inside}
use Rattle.lq_lexer.proofs.Spans.{all_spans, all_spelled, all_apart}
use Rattle.lq_lexer.proofs.lexing.lex.Goals as goal
use Rattle.lq_lexer.proofs.lexing.lex.Goals.{Then-source_len-text, Else-source_len-text, After-min}

-- a byte that no source holds, in a comment
foreign : (c : Then-source_len-text) → IsFirstFault c.args.text.now c.source_len-source_len.result
foreign c =
    subst (IsFirstFault c.args.text.now) (sym c.source_len-source_len.ensures) (foreign_fault c.args.text.now c.in-Ok.tokens.items c.in-Ok.ensures.read (omega (arith, c.source_len-source_len.ensures)))

pub returns-then-source_len-text-clause-fault : goal.returns-then-source_len-text-clause-fault
returns-then-source_len-text-clause-fault c = foreign (goal.at.returns-then-source_len-text-clause-fault c).Then-source_len-text

pub returns-then-source_len-text-clause-read : goal.returns-then-source_len-text-clause-read
returns-then-source_len-text-clause-read c tokens h =
    absurd (tokens_no_first_fault c.args.text.now tokens c.source_len-source_len.result h (foreign (goal.at.returns-then-source_len-text-clause-read c).Then-source_len-text))

-- tokens
found : (c : Else-source_len-text) → Tokens c.args.text.now c.in-Ok.tokens.items
found c = record { source = all_source c.args.text.now (omega (arith, c.source_len-source_len.ensures)); whole = c.in-Ok.ensures.read }

pub returns-else-source_len-text-clause-tokens : goal.returns-else-source_len-text-clause-tokens
returns-else-source_len-text-clause-tokens c = found c

pub returns-else-source_len-text-clause-refused : goal.returns-else-source_len-text-clause-refused
returns-else-source_len-text-clause-refused c at h = absurd (tokens_no_first_fault c.args.text.now c.in-Ok.tokens.items at (found c) h)

pub returns-else-source_len-text-clause-spans : goal.returns-else-source_len-text-clause-spans
returns-else-source_len-text-clause-spans c = all_spans c.args.text.now c.in-Ok.tokens.items [] c.in-Ok.ensures.read

pub returns-else-source_len-text-clause-apart : goal.returns-else-source_len-text-clause-apart
returns-else-source_len-text-clause-apart c = all_apart c.args.text.now c.in-Ok.tokens.items [] c.in-Ok.ensures.read

pub returns-else-source_len-text-clause-spelled : goal.returns-else-source_len-text-clause-spelled
returns-else-source_len-text-clause-spelled c = all_spelled c.args.text.now c.in-Ok.tokens.items [] c.in-Ok.ensures.read

-- a byte at which nothing begins, or one before it that no source holds
least : (text : List ℕ) (fault : LexFault) (at source found : ℕ) → IfAt fault (IsStuckAt text) → fault ≡ At at → source ≡ prefix_len is_source_byte text → found ≡ min at source → IsFirstFault text found
least text fault at source found stuck is by_len by_min =
    let there : IsStuckAt text at = subst (λ (f : LexFault). IfAt f (IsStuckAt text)) is stuck in
    subst (IsFirstFault text) (sym (by_min ∙ ap (min at) by_len)) (stuck_fault text at there)

first : (c : After-min) → IsFirstFault c.args.text.now c.min.result
first c = least c.args.text.now c.in-Err-At.field-0 c.in-Err-At.at c.source_len-source_len.result c.min.result c.in-Err-At.ensures.stuck c.in-Err-At.field-0-is c.source_len-source_len.ensures c.min.ensures

pub returns-in-Err-At-clause-fault : goal.returns-in-Err-At-clause-fault
returns-in-Err-At-clause-fault c = first c

pub returns-in-Err-At-clause-read : goal.returns-in-Err-At-clause-read
returns-in-Err-At-clause-read c tokens h = absurd (tokens_no_first_fault c.args.text.now tokens c.min.result h (first c))

pub returns-in-Err-At-clause-inside : goal.returns-in-Err-At-clause-inside
returns-in-Err-At-clause-inside c = first_fault_inside c.args.text.now c.min.result (first c)
