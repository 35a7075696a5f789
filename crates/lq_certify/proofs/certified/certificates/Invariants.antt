use Rattle.std.proofs.Common.{List, ◌++◌, length, reverse}
use Rattle.std.specs.Prelude.{Contains}
use Rattle.std.specs.List.{AllByRecursion, AllZip}
use Rattle.lq_linear.specs.Row.{Inequality}
use Rattle.lq_linear.specs.Certificate.{Certificate}
use Rattle.lq_linear.specs.Derivation.{Derives}
use Rattle.lq_certify.specs.Certified.{IsFound}
use Rattle.lq_certify.proofs.certified.certificates.Given as goal

abbrev pub invariant-loop-goal : goal.invariant-loop-goal
invariant-loop-goal l = record {
  found : (more : List Certificate) → AllZip (IsFound l.index.multipliers (reverse l.index.items)) l.rest more
      → AllZip (IsFound l.index.multipliers (reverse l.index.items)) l.goals (l.certs ++ more);
  derived : AllByRecursion (Derives l.index.multipliers (reverse l.index.items)) l.goals → AllByRecursion (Derives l.index.multipliers (reverse l.index.items)) l.rest;
  there : (goal : Inequality) → Contains l.rest goal → Contains l.index.goals goal;
}

abbrev pub decreases-loop-goal : goal.decreases-loop-goal
decreases-loop-goal l = length l.rest
