-- Why the full assignment isn't given (docs/COMMANDS.md, "Limits").
use Rattle.std.specs.Prelude.{◌≡◌, ◌<◌, ◌≤◌, ◌⊎◌, length, List}
use Rattle.std.specs.List.{AllByRecursion}
use Rattle.lq_tree.specs.declared.limit.Limit.{Limit}
use Rattle.lq_tree.specs.declared.limit.Quantity.TheVariants.{Instances, Facts}
use Rattle.lq_tree.specs.Limit.{passed}
use Rattle.lq_templates.specs.declared.condition.Condition.{Condition}
use Rattle.lq_templates.specs.declared.condition.Assign.{Assign}
use Rattle.lq_instances.specs.declared.fault.TemplateFault.{TemplateFault}
use Rattle.lq_instances.specs.declared.fault.TemplateFault.TheVariants as template
use Rattle.lq_full.specs.declared.fault.ConditionsFault.{ConditionsFault}
use Rattle.lq_full.specs.declared.fault.ConditionsFault.TheVariants.{Limit as Passes, NoMemory}
use Rattle.lq_full.specs.Full.{most_facts}

-- what is told where the instances of a template aren't given
abbrev pub fault_of : TemplateFault → ConditionsFault
fault_of (template.Limit limit) = Passes limit
fault_of template.NoMemory = NoMemory

-- each template has at most 256 rows
abbrev pub HasFewRows : Assign → Type 0
HasFewRows assign = AllByRecursion (λ rows. length rows ≤ 256) assign.rows

-- some template has more, which is told as 257
pub record TellsInstances (limit : Limit) (assign : Assign) : Type 0 where
  pub told : limit ≡ passed Instances 257
  pub many : ¬ HasFewRows assign

-- none has more, but some condition has more than 512 facts: the most that one has is told
pub record TellsFacts (limit : Limit) (assign : Assign) (list : List Condition) : Type 0 where
  pub told : limit ≡ passed Facts (most_facts assign list)
  pub few : HasFewRows assign
  pub many : 512 < most_facts assign list

-- a fault tells which limit the full assignment passes first, or that memory ran out
abbrev pub Tells : ConditionsFault → (full : Assign) → List Condition → Type 0
Tells (Passes limit) full list = TellsInstances limit full ⊎ TellsFacts limit full list
Tells NoMemory full list = Unit {0}
