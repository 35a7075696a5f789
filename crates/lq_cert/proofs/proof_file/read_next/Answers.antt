use Rattle.std.proofs.Common.{◌<◌, arith}
use Rattle.lq_cert.specs.Line.{fact_count}
use Rattle.lq_cert.specs.ProofFile.{most_facts}
use Rattle.lq_cert.proofs.FileLemmas.{too_many}
use Rattle.lq_cert.proofs.proof_file.read_next.Goals as goal

pub returns-then-fact_count-most_facts : goal.returns-then-fact_count-most_facts
returns-then-fact_count-most_facts c =
    let read = rw c.in-Some.is at c.in_ok-line.ensures in
    let many : most_facts c.args.lines.now < fact_count c.in-Some.line = omega (arith, c.fact_count.ensures, c.most_facts.ensures, c.if-fact_count-most_facts.true) in
    too_many _ _ c.in-Some.line read.0 read.1 many
