use Rattle.std.proofs.Common.{◌≡◌, ◌≤◌, ℕ, Fits, w32, arith, rules}
use Rattle.lq_meaning.proofs.heap.Heap.take_words.Goals as goal

-- a number within one that fits a word of 32 bits fits it
fits_within : (size bound left : ℕ) → Fits w32 left → size ≤ bound → bound ≡ left → Fits w32 size
fits_within size bound left fits within same = omega arith

pub overflow_cast-size : goal.overflow_cast-size
overflow_cast-size c = fits_within _ _ c.args.self.now.left (search rules) c.if-size-from.false c.from-3.ensures
