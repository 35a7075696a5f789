use Rattle.lq_cli.proofs.Decided.{Laws}
use Rattle.lq_cli.proofs.OneAnswer.{one_answer, or_fault}
use Rattle.lq_cli.proofs.laws.one_answer.Goals as goal

pub returns : goal.returns
returns c =
    let laws : Laws = record {
      tokens_are_one = c.tokens_are_one.ensures;
      lexical_one = c.fault_is_one.ensures;
      lexical_alone = c.tokens_or_fault_alone.ensures;
      tree_is_one = c.tree_is_one.ensures;
      syntax_none = c.fault_is_one-2.ensures.none;
      syntax_one = c.fault_is_one-2.ensures.one;
      names_one = c.one_least_fault.ensures;
      one_list = c.one_list.ensures;
      no_bad_line = c.one_fault.ensures.none;
      one_bad_line = c.one_fault.ensures.one;
    } in
    record {
      one = λ words s tells none. one_answer laws s tells none c.one_value.ensures words;
      fault = λ words s name failed status bytes a. or_fault s name failed words status bytes a;
    }
