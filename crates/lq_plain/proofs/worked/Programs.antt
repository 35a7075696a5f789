-- The plain form of the larger worked programs. Each theorem speaks of all functions of a program.
use Rattle.std.proofs.Common.{◌≡◌, refl}
use Rattle.std.specs.Prelude.{map}
use Rattle.lq_meaning.proofs.worked.sources.Squares.{squares}
use Rattle.lq_meaning.proofs.worked.plain.Squares.{squares as plain_squares}
use Rattle.lq_meaning.proofs.worked.sources.Halves.{halves, overlap}
use Rattle.lq_meaning.proofs.worked.plain.Halves.{halves as plain_halves, overlap as plain_overlap}
use Rattle.lq_meaning.proofs.worked.sources.Strided.{strided}
use Rattle.lq_meaning.proofs.worked.plain.Strided.{strided as plain_strided}
use Rattle.lq_meaning.proofs.worked.sources.MiddleOverflow.{middle_overflow, two_faults, nested_faults, divided, stray_beside}
use Rattle.lq_meaning.proofs.worked.plain.MiddleOverflow.{middle_overflow as plain_middle_overflow, two_faults as plain_two_faults, nested_faults as plain_nested_faults, divided as plain_divided, stray_beside as plain_stray_beside}
use Rattle.lq_meaning.proofs.worked.sources.Vector.{vector}
use Rattle.lq_meaning.proofs.worked.plain.Vector.{vector as plain_vector}
use Rattle.lq_meaning.proofs.worked.sources.Indirect.{indirect}
use Rattle.lq_meaning.proofs.worked.plain.Indirect.{indirect as plain_indirect}
use Rattle.lq_meaning.proofs.worked.sources.Endless.{endless}
use Rattle.lq_meaning.proofs.worked.plain.Endless.{endless as plain_endless}
use Rattle.lq_meaning.proofs.worked.sources.TwoStores.{two_stores, three_stores, nested_stores}
use Rattle.lq_meaning.proofs.worked.plain.TwoStores.{two_stores as plain_two_stores, three_stores as plain_three_stores, nested_stores as plain_nested_stores}
use Rattle.lq_meaning.proofs.worked.sources.EmptyForeach.{empty_foreach}
use Rattle.lq_meaning.proofs.worked.plain.EmptyForeach.{empty_foreach as plain_empty_foreach}
use Rattle.lq_meaning.proofs.worked.sources.Depth.{deeper}
use Rattle.lq_meaning.proofs.worked.plain.Depth.{deeper as plain_deeper}
use Rattle.lq_meaning.proofs.worked.sources.Sort.{sort}
use Rattle.lq_meaning.proofs.worked.plain.Sort.{sort as plain_sort}
use Rattle.lq_plain.specs.Plain.{plain_func}
use Rattle.lq_plain.proofs.worked.Worded.{worded}

squares-form : map (plain_func squares) squares.funcs ≡ map worded plain_squares.funcs
squares-form = refl

halves-form : map (plain_func halves) halves.funcs ≡ map worded plain_halves.funcs
halves-form = refl

overlap-form : map (plain_func overlap) overlap.funcs ≡ map worded plain_overlap.funcs
overlap-form = refl

strided-form : map (plain_func strided) strided.funcs ≡ map worded plain_strided.funcs
strided-form = refl

middle_overflow-form : map (plain_func middle_overflow) middle_overflow.funcs ≡ map worded plain_middle_overflow.funcs
middle_overflow-form = refl

two_faults-form : map (plain_func two_faults) two_faults.funcs ≡ map worded plain_two_faults.funcs
two_faults-form = refl

nested_faults-form : map (plain_func nested_faults) nested_faults.funcs ≡ map worded plain_nested_faults.funcs
nested_faults-form = refl

divided-form : map (plain_func divided) divided.funcs ≡ map worded plain_divided.funcs
divided-form = refl

stray_beside-form : map (plain_func stray_beside) stray_beside.funcs ≡ map worded plain_stray_beside.funcs
stray_beside-form = refl

vector-form : map (plain_func vector) vector.funcs ≡ map worded plain_vector.funcs
vector-form = refl

indirect-form : map (plain_func indirect) indirect.funcs ≡ map worded plain_indirect.funcs
indirect-form = refl

endless-form : map (plain_func endless) endless.funcs ≡ map worded plain_endless.funcs
endless-form = refl

two_stores-form : map (plain_func two_stores) two_stores.funcs ≡ map worded plain_two_stores.funcs
two_stores-form = refl

three_stores-form : map (plain_func three_stores) three_stores.funcs ≡ map worded plain_three_stores.funcs
three_stores-form = refl

nested_stores-form : map (plain_func nested_stores) nested_stores.funcs ≡ map worded plain_nested_stores.funcs
nested_stores-form = refl

empty_foreach-form : map (plain_func empty_foreach) empty_foreach.funcs ≡ map worded plain_empty_foreach.funcs
empty_foreach-form = refl

deeper-form : map (plain_func deeper) deeper.funcs ≡ map worded plain_deeper.funcs
deeper-form = refl

sort-form : map (plain_func sort) sort.funcs ≡ map worded plain_sort.funcs
sort-form = refl
