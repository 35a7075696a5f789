use Rattle.lq_meaning.proofs.Cells.{lies-memory_of, word_at-memory_of}
use Rattle.lq_meaning.proofs.laws.words_stand_in_cells.Goals as goal

pub returns : goal.returns
returns c = record { lies = lies-memory_of; word = word_at-memory_of }
