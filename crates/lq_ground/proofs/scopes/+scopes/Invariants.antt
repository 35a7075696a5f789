use Rattle.std.proofs.Common.{◌≡◌, take}
use Rattle.lq_templates.specs.Reading.{walked_blocks}
use Rattle.lq_templates.specs.Spots.{Walk, walked_all}
use Rattle.lq_templates.specs.Templates.{count_scopes}
use Rattle.lq_ground.proofs.scopes.+scopes.Given as goal

abbrev pub invariant-count_list-loop-statement : goal.invariant-count_list-loop-statement
invariant-count_list-loop-statement l = (w : Walk) → l.fn.scopes ≡ count_scopes w.spots → l.so_far ≡ count_scopes (walked_all (take l.statement-index l.list) w).spots

abbrev pub invariant-count_branches-loop-branch : goal.invariant-count_branches-loop-branch
invariant-count_branches-loop-branch l = (w : Walk) → l.fn.scopes ≡ count_scopes w.spots → l.so_far ≡ count_scopes (walked_blocks (take l.branch-index l.blocks) w).spots
