-- The plain form of the programs of sources.Most, and what they mean.
use Rattle.std.proofs.Common.{◌≡◌, ℕ, pos, List, [], ◌∷◌, Option, Some, refl, ap}
use Rattle.lq_tree.specs.declared.plain.PKind.{Foreach, Return}
use Rattle.lq_tree.specs.declared.plain.PStmt.{PStmt}
use Rattle.lq_tree.specs.declared.plain.PFunc.{PFunc}
use Rattle.lq_tree.specs.declared.plain.PProgram.{PProgram}
use Rattle.lq_meaning.specs.Entry.{start}
use Rattle.lq_meaning.specs.Ending.{Trap, Outcome}
use Rattle.lq_meaning.specs.Control.{Came, go_on, unless_returned, joined, returned, ended}
use Rattle.lq_meaning.specs.PlainMeaning.{Slots, sequential, called, context, exec_all}
use Rattle.lq_meaning.proofs.worked.SourceWords.{int}
use Rattle.lq_meaning.proofs.worked.PlainWords.{num, stmt, branch, named, func, program}
use Rattle.lq_meaning.proofs.worked.sources.Most.{second_spent, spent_outcome, range_outcome}

-- the statements behind the `foreach`
abbrev behind : List PStmt
behind = stmt 3 3 (Return (Some (num 0))) ∷ []

-- `main` with such a `foreach`, whose block stands in this column
abbrev foreach_main : (step high col : ℕ) → PFunc
foreach_main step high col =
    func 1 1 (Some (int 0)) "main" 0 (named "i" (int 0) ∷ []) (stmt 2 3 (Foreach 0 (num 0) (num high) (pos step) (branch 2 col [])) ∷ behind)

-- goes on from the iterations
abbrev then_behind : PProgram → Came (Option Trap) → Outcome
then_behind p came = ended (go_on (go_on (go_on came (joined {L = Slots} (pos 0 ∷ []))) (unless_returned (exec_all (context p 1) behind))) returned)

abbrev pub most : PProgram
most = program [] (foreach_main 1 1048576 27 ∷ []) 0 []

most-spent : sequential 1 100 most [] ≡ spent_outcome
unfolding called
most-spent = ap (then_behind most) (second_spent 1048574 (pos 0) 1 _ (start 100) _ refl refl)

abbrev pub too_many : PProgram
too_many = program [] (foreach_main 1 1048577 27 ∷ []) 0 []

too_many-range : sequential 1 100 too_many [] ≡ range_outcome
unfolding called
too_many-range = refl

abbrev pub most_by_two : PProgram
most_by_two = program [] (foreach_main 2 2097152 30 ∷ []) 0 []

most_by_two-spent : sequential 1 100 most_by_two [] ≡ spent_outcome
unfolding called
most_by_two-spent = ap (then_behind most_by_two) (second_spent 1048574 (pos 0) 2 _ (start 100) _ refl refl)

abbrev pub too_many_by_two : PProgram
too_many_by_two = program [] (foreach_main 2 2097153 30 ∷ []) 0 []

too_many_by_two-range : sequential 1 100 too_many_by_two [] ≡ range_outcome
unfolding called
too_many_by_two-range = refl
