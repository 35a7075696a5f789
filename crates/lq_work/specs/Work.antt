-- What a workload consists of (docs/COMMANDS.md, "Workloads").
use Rattle.std.specs.Prelude.{ℕ, List}
use Rattle.lq_work.specs.declared.work.Kind.{Kind}
use Rattle.lq_work.specs.declared.work.Kind.TheVariants.{Sort, Stride}
use Rattle.lq_work.specs.declared.work.Work.{Work}
use Rattle.lq_work.specs.Texts.{sort_source, sort_quals, stride_source, stride_quals}
use Rattle.lq_work.specs.Numbers.{numbers}

-- the source of each kind
abbrev pub source_of : Kind → List ℕ
source_of Sort = sort_source
source_of Stride = stride_source

-- the qualifiers of each kind
abbrev pub quals_of : Kind → List ℕ
quals_of Sort = sort_quals
quals_of Stride = stride_quals

-- the workload of a kind with n numbers
abbrev pub workload : Kind → (n : ℕ) → Work
workload kind n = record { source = source_of kind; quals = quals_of kind; input = numbers n }
