use Rattle.std.proofs.Common.{◌≡◌, ◌&&◌, drop}
use Rattle.lq_templates.specs.Lives.{all_live}
use Rattle.lq_templates.proofs.lives.+living.Given as goal

abbrev pub invariant-list_lives-loop-stmt : goal.invariant-list_lives-loop-stmt
invariant-list_lives-loop-stmt l = (l.so_far && all_live (drop l.stmt-index l.list)) ≡ all_live l.list
