use Rattle.lq_cli.proofs.CleanRuns.{quiet_answer, in_order_answer}
use Rattle.lq_cli.proofs.SeqRuns.{is_ruled}
use Rattle.lq_cli.proofs.laws.clean_replays_run_in_order.Goals as goal

pub returns-clause-no_race : goal.returns-clause-no_race
returns-clause-no_race c words s tells asked tree given asks status bytes a =
    quiet_answer c.tokens_are_one.ensures c.tree_is_one.ensures c.one_list.ensures c.one_value.ensures c.clean_sources_run_alike.ensures.spelled words s tells asked tree given asks status bytes a

pub returns-clause-in_order : goal.returns-clause-in_order
returns-clause-in_order c words s tells none asked tree given picked asks are status bytes a =
    in_order_answer c.clean_sources_run_alike.ensures.spelled c.one_answer.ensures words s tells none asked tree given picked asks are
    (is_ruled c.stores_go_to_places.ensures tree (record { text = asks.source.text; within = asks.source.file.within; reads = asks.source.reads }) asked.fuel asked.words given c.meanings_have_rules.ensures)
    status bytes a
