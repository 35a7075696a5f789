-- The clauses of `put` give those of the trait.
use Rattle.std.proofs.Common.{arith}
use Rattle.lq_shelf.proofs.Pieces.{AppendsPrefix-written}
use Rattle.lq_shelf.proofs.writer_sink.WriterSinkSink.TheImpl.Goals as goal

pub put-tells : goal.put-tells
put-tells g c = record {
  ok = c.ensures.ok;
  ok_count = c.ensures.ok_count;
  empty = c.ensures.empty;
  prefix = AppendsPrefix-written c.result c.args.self.now.written c.new.self.now.written c.args.bytes.now c.ensures.ok c.ensures.failed;
  failed_rose = λ failed. let counted = rw failed at c.ensures.failed_count in omega arith;
  no_memory = λ memory. absurd (c.ensures.no_memory memory);
  no_memory_count = λ memory. absurd (c.ensures.no_memory memory);
  never_falls = c.ensures.never_falls;
}
