use Rattle.std.proofs.Common.{ap, ◌∙◌}
use Rattle.lq_cert.specs.Reading.{texts_of}
use Rattle.lq_cert.proofs.ReadingLemmas.{result_read}
use Rattle.lq_cert.proofs.reading.read_line.Goals as goal

pub returns : goal.returns
returns c =
    result_read c.read_words.result c.args.text.now _ (ap texts_of c.deref.ensures.value ∙ c.in_ok-words.ensures) c.read_words.ensures
