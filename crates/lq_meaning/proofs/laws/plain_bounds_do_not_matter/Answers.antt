use Rattle.lq_meaning.proofs.Turns.{any_two, turn_by_turn}
use Rattle.lq_meaning.proofs.PlainTurns.{test_counts, with_bounds}
use Rattle.lq_meaning.proofs.laws.plain_bounds_do_not_matter.Goals as goal

pub returns-clause-any_two : goal.returns-clause-any_two
returns-clause-any_two c = any_two

pub returns-clause-turn_by_turn : goal.returns-clause-turn_by_turn
returns-clause-turn_by_turn c = turn_by_turn

pub returns-clause-tests : goal.returns-clause-tests
returns-clause-tests c context calls = test_counts context calls

pub returns-clause-statements : goal.returns-clause-statements
returns-clause-statements c context calls = with_bounds context calls
