-- A call on the same lexemes goes to a rule of a lower rank.
use Rattle.std.proofs.Common.{length, ◌*◌, ◌+◌, ◌<◌, ◌∷◌}
use Rattle.lq_parser.specs.Statements.{IsBlock, IsStatement}
use Rattle.lq_parser.specs.Outcome.{Anything, NoElse}
use Rattle.lq_parser.proofs.Leads.{Leads}
use Rattle.lq_parser.proofs.StatementRules.{BlockRest}
use Rattle.lq_tree.specs.declared.place.Place.{Place}
use Rattle.lq_parser.specs.declared.lexeme.Keyword.TheVariants.{Cobegin as CobeginWord, If as IfWord}
use Rattle.lq_parser.specs.Lexemes.{word_at}
use Rattle.lq_parser.proofs.IfRules.{BranchesRest, Elses}
use Rattle.lq_parser.proofs.statements.+statements.Given as goal

abbrev pub decreases-block : goal.decreases-block
decreases-block l = 32 * length l.lexemes.now

-- what is left, with the statements so far, leads to the whole
abbrev pub invariant-block-loop-after : goal.invariant-block-loop-after
invariant-block-loop-after l = record {
  whole : Leads IsBlock Anything l.fn.lexemes (BlockRest l.statements) l.rest;
  shorter : length l.rest < length l.fn.lexemes;
}

abbrev pub decreases-block-loop-after : goal.decreases-block-loop-after
decreases-block-loop-after l = length l.rest

abbrev pub decreases-statement : goal.decreases-statement
decreases-statement l = 32 * length l.lexemes.now + 5

abbrev pub decreases-kind : goal.decreases-kind
decreases-kind l = 32 * length l.lexemes.now + 4

abbrev pub decreases-body : goal.decreases-body
decreases-body l = 32 * length l.lexemes.now + 3

abbrev pub decreases-body_of : goal.decreases-body_of
decreases-body_of l = 32 * length l.lexemes.now + 4

abbrev pub decreases-guarded : goal.decreases-guarded
decreases-guarded l = 32 * length l.lexemes.now

abbrev pub decreases-conditional : goal.decreases-conditional
decreases-conditional l = 32 * length l.lexemes.now + 1

-- what is left, with the arms so far, leads to the whole
abbrev pub invariant-conditional-loop-after : goal.invariant-conditional-loop-after
invariant-conditional-loop-after l = record {
  whole : (at : Place) → Leads (λ ls k. IsStatement (word_at IfWord at ∷ ls) k) NoElse l.fn.lexemes (Elses l.arms) l.rest;
  shorter : length l.rest < length l.fn.lexemes;
}

abbrev pub decreases-conditional-loop-after : goal.decreases-conditional-loop-after
decreases-conditional-loop-after l = length l.rest

abbrev pub decreases-for_loop : goal.decreases-for_loop
decreases-for_loop l = 32 * length l.lexemes.now

abbrev pub decreases-for_behind_first : goal.decreases-for_behind_first
decreases-for_behind_first l = 32 * length l.lexemes.now

abbrev pub decreases-for_behind_condition : goal.decreases-for_behind_condition
decreases-for_behind_condition l = 32 * length l.lexemes.now

abbrev pub decreases-for_behind_head : goal.decreases-for_behind_head
decreases-for_behind_head l = 32 * length l.lexemes.now + 5

abbrev pub decreases-branch : goal.decreases-branch
decreases-branch l = 32 * length l.lexemes.now + 2

abbrev pub decreases-cobegin : goal.decreases-cobegin
decreases-cobegin l = 32 * length l.lexemes.now

-- what is left, with the branches so far, leads to the whole
abbrev pub invariant-cobegin-loop-after : goal.invariant-cobegin-loop-after
invariant-cobegin-loop-after l = record {
  whole : (at : Place) → Leads (λ ls k. IsStatement (word_at CobeginWord at ∷ ls) k) NoElse l.fn.lexemes (BranchesRest l.branches) l.rest;
  shorter : length l.rest < length l.fn.lexemes;
}

abbrev pub decreases-cobegin-loop-after : goal.decreases-cobegin-loop-after
decreases-cobegin-loop-after l = length l.rest

abbrev pub decreases-foreach : goal.decreases-foreach
decreases-foreach l = 32 * length l.lexemes.now

abbrev pub decreases-foreach_behind_index : goal.decreases-foreach_behind_index
decreases-foreach_behind_index l = 32 * length l.lexemes.now

abbrev pub decreases-foreach_behind_bounds : goal.decreases-foreach_behind_bounds
decreases-foreach_behind_bounds l = 32 * length l.lexemes.now
