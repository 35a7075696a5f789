use Rattle.std.proofs.Common.{◌≡◌, ℕ, drop}
use Rattle.lq_ground.specs.Ground.{is_pre}
use Rattle.lq_ground.specs.Noted.{first_of, noted}
use Rattle.lq_ground.specs.Numbers.{first_where}
use Rattle.lq_ground.proofs.numbers.pre_numbers.Given as goal

abbrev pub invariant-loop-template : goal.invariant-loop-template
invariant-loop-template l = (func : ℕ) → first_of (noted l.table func) (first_where (is_pre func) l.number (drop l.template-index l.templates)) ≡ first_where (is_pre func) 1 l.templates
