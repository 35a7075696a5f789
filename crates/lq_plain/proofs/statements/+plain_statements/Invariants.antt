use Rattle.std.proofs.Common.{◌≡◌, ◌≤◌, ◌-◌, [], length, drop}
use Rattle.lq_plain.specs.Flat.{Made}
use Rattle.lq_plain.specs.Lists.{all_arms, all_branches}
use Rattle.lq_plain.specs.Plain.{plain_all}
use Rattle.lq_plain.specs.SeenArms.{closed}
use Rattle.lq_plain.specs.SeenMade.{made_of}
use Rattle.lq_plain.specs.Sites.{env_in}
use Rattle.lq_plain.proofs.StatementCases.{beside}
use Rattle.lq_plain.proofs.statements.+plain_statements.Given as goal

abbrev pub invariant-block-loop-stmt : goal.invariant-block-loop-stmt
invariant-block-loop-stmt l = record {
  within : l.height ≤ length l.scope;
  kept : drop (length l.scope - l.height) l.scope ≡ l.fn.scope;
  so_far : plain_all (env_in l.frame l.scope) (drop l.stmt-index l.body) (made_of l.made) ≡ plain_all (env_in l.frame l.fn.scope) l.body (made_of l.fn.made);
}

abbrev pub invariant-open_arms-loop-arm : goal.invariant-open_arms-loop-arm
invariant-open_arms-loop-arm l = record {
  same : l.scope ≡ l.fn.scope;
  so_far : (otherwise : Made → Made) → closed l.at l.opens (all_arms (env_in l.frame l.fn.scope) l.at (drop l.arm-index l.arms) otherwise (made_of l.made)) ≡ all_arms (env_in l.frame l.fn.scope) l.at l.arms otherwise (made_of l.fn.made);
}

abbrev pub invariant-cobegin-loop-stmt : goal.invariant-cobegin-loop-stmt
invariant-cobegin-loop-stmt l = record {
  same : l.scope ≡ l.fn.scope;
  empty : l.made.front ≡ [];
  so_far : beside l.branches (all_branches (env_in l.frame l.fn.scope) (drop l.stmt-index l.blocks) l.made.slots) ≡ all_branches (env_in l.frame l.fn.scope) l.blocks l.fn.made.slots;
}
