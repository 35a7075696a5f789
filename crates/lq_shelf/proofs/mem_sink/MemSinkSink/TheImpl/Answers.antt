-- The clauses of `put` give those of the trait.
use Rattle.std.proofs.Common.{Some, rules}
use Rattle.lq_shelf.proofs.Pieces.{AppendsPrefix-put}
use Rattle.lq_shelf.proofs.mem_sink.MemSinkSink.TheImpl.Goals as goal

pub put-tells : goal.put-tells
put-tells c = record {
  ok = search rules;
  ok_count = search rules;
  empty = c.ensures.empty;
  prefix = AppendsPrefix-put c.result (Some c.args.self.now.written) (Some c.new.self.now.written) c.args.bytes.now (search rules) (search rules) (search rules);
  failed_rose = search rules;
  no_memory = search rules;
  no_memory_count = search rules;
  never_falls = c.ensures.never_falls;
}
