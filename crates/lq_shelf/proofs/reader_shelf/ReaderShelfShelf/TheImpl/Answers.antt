-- The clauses of `fetch` give those of the trait.
use Rattle.std.proofs.Common.{ap, arith}
use Rattle.std.proofs.lemmas.Result.{on_ok_weaker}
use Rattle.lq_shelf.proofs.reader_shelf.ReaderShelfShelf.TheImpl.Goals as goal

pub fetch-tells : goal.fetch-tells
fetch-tells g c = record {
  first = c.ensures.first;
  within = c.ensures.within;
  unchanged = λ other. ap (λ opener. g.O.Opener.holding opener other) c.ensures.same_opener;
  failed_rose = λ failed. let counted = ap (λ s. s.faults) (c.ensures.failed failed) in omega arith;
  failed_here = λ failed. ap (λ s. s.failed_name) (c.ensures.failed failed);
  ok_count = on_ok_weaker c.result (λ same. ap (λ s. s.faults) same) c.ensures.ok;
  ok_name = on_ok_weaker c.result (λ same. ap (λ s. s.failed_name) same) c.ensures.ok;
  no_memory_count = λ memory. ap (λ s. s.faults) (c.ensures.no_memory memory);
  no_memory_name = λ memory. ap (λ s. s.failed_name) (c.ensures.no_memory memory);
  never_falls = c.ensures.never_falls;
}
