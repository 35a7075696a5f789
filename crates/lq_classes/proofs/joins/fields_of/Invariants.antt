use Rattle.std.proofs.Common.{ℕ, ◌^◌, ◌<◌, ◌≤◌, get_or}
use Rattle.std.proofs.Common.{◌≡◌}
use Rattle.lq_classes.specs.declared.var.Var.{Var}
use Rattle.lq_classes.specs.declared.links.Link.TheVariants.{Access}
use Rattle.lq_classes.proofs.joins.fields_of.Given as goal

abbrev pub invariant-loop-link : goal.invariant-loop-link
invariant-loop-link l =
    record {
      enough : (k : ℕ) → k < l.link-index → (base : Var) (field : ℕ) (value : Var) → get_or l.links k (Access base field value) ≡ Access base field value → field < l.fields;
      few : l.fields ≤ 2 ^ 32;
    }
