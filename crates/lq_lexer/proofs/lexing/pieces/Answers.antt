use Rattle.std.proofs.Common.{◌+◌, ◌<◌, ◌≤◌, ◌∷◌, [], ◌++◌, length, sym, subst, arith, rules}
use Rattle.lq_lexer.proofs.Reading.{Continues, blank_more, token_more, read_so_far, read_all, stuck_from}
use Rattle.lq_lexer.proofs.lexing.pieces.Goals as goal
use Rattle.lq_lexer.proofs.lexing.pieces.Goals.{In-Blank, In-Spelled}

-- after a blank
blank_here : (c : In-Blank) → (0 < c.in-Blank.len) × (c.loop-at.at + c.in-Blank.len ≤ length c.args.text.now) × Continues c.args.text.now (c.loop-at.at + c.in-Blank.len) c.loop-at.tokens.items
blank_here c = blank_more c.args.text.now c.loop-at.at c.in-Blank.len c.loop-at.tokens.items (omega arith) c.in-Blank.ensures c.loop-at.invariant.1

pub overflow_add-at : goal.overflow_add-at
overflow_add-at c = let fits : c.loop-at.at + c.in-Blank.len ≤ length c.args.text.now = (blank_here c).1 in search rules

pub loop-at-smaller-in-Blank : goal.loop-at-smaller-in-Blank
loop-at-smaller-in-Blank c = let m = blank_here (goal.at.loop-at-smaller-in-Blank c).In-Blank in omega (arith, m.0, m.1)

pub loop-at-preserved-in-Blank : goal.loop-at-preserved-in-Blank
loop-at-preserved-in-Blank c = let m = blank_here c in (m.1, m.2)

-- after a token
token_here : (c : In-Spelled) → (0 < c.in-Spelled.len) × (c.loop-at.at + c.in-Spelled.len ≤ length c.args.text.now) × Continues c.args.text.now (c.loop-at.at + c.in-Spelled.len) (c.loop-at.tokens.items ++ record { start = c.loop-at.at; end = c.loop-at.at + c.in-Spelled.len; kind = c.in-Spelled.kind } ∷ [])
token_here c = token_more c.args.text.now c.loop-at.at c.in-Spelled.len c.in-Spelled.kind c.loop-at.tokens.items (omega arith) c.in-Spelled.ensures c.loop-at.invariant.1

pub overflow_add-end : goal.overflow_add-end
overflow_add-end c = let fits : c.loop-at.at + c.in-Spelled.len ≤ length c.args.text.now = (token_here c).1 in search rules

pub loop-at-smaller : goal.loop-at-smaller
loop-at-smaller c = let m = token_here (goal.at.loop-at-smaller c).In-Spelled in omega (arith, m.0, m.1)

pub loop-at-preserved : goal.loop-at-preserved
loop-at-preserved c =
    let m = token_here (goal.at.loop-at-preserved c).In-Spelled in
    (m.1, subst (Continues c.args.text.now (c.loop-at.at + c.in-Spelled.len)) (sym c.in_ok-push-in-Spelled.ensures.items) m.2)

pub returns-in-Nothing-clause-stuck : goal.returns-in-Nothing-clause-stuck
returns-in-Nothing-clause-stuck c = (stuck_from c.args.text.now c.loop-at.at (omega arith) c.in-Nothing.ensures, (c.loop-at.tokens.items, read_so_far c.args.text.now c.loop-at.at c.loop-at.tokens.items c.loop-at.invariant.1))

pub returns-clause-read : goal.returns-clause-read
returns-clause-read c = read_all c.args.text.now c.loop-at.at c.loop-at.tokens.items (omega arith) c.loop-at.invariant.1
