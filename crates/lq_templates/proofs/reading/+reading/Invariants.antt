use Rattle.std.proofs.Common.{◌≡◌, take}
use Rattle.lq_templates.specs.Classes.{class_in}
use Rattle.lq_templates.specs.Reading.{reading, walked_blocks}
use Rattle.lq_templates.specs.Spots.{Walk, walked_all}
use Rattle.lq_templates.proofs.reading.+reading.Given as goal

abbrev pub invariant-read_list-loop-statement : goal.invariant-read_list-loop-statement
invariant-read_list-loop-statement l = (w : Walk) → l.fn.reading ≡ reading (class_in l.classes l.func) w → l.reading ≡ reading (class_in l.classes l.func) (walked_all (take l.statement-index l.list) w)

abbrev pub invariant-read_branches-loop-branch : goal.invariant-read_branches-loop-branch
invariant-read_branches-loop-branch l = (w : Walk) → l.fn.reading ≡ reading (class_in l.classes l.func) w → l.reading ≡ reading (class_in l.classes l.func) (walked_blocks (take l.branch-index l.blocks) w)
