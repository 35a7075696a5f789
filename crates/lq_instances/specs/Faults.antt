-- Why instances were not given.
use Rattle.std.specs.Prelude.{◌≡◌, ◌<◌, length, List}
use Rattle.lq_tree.specs.Limit.{passed}
use Rattle.lq_tree.specs.declared.limit.Quantity.TheVariants.{Instances}
use Rattle.lq_linear.specs.Row.{Inequality}
use Rattle.lq_instances.specs.declared.fault.TemplateFault.{TemplateFault}
use Rattle.lq_instances.specs.declared.fault.TemplateFault.TheVariants.{Limit, NoMemory}

-- a fault tells that there are more than 256 rows, or that memory ran out
abbrev pub Tells : TemplateFault → List Inequality → Type 0
Tells (Limit limit) rows = (limit ≡ passed Instances 257) × (256 < length rows)
Tells NoMemory rows = Unit {0}
