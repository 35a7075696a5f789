use Rattle.std.proofs.Common.{◌≤◌, length, reverse, sym, ap, subst, arith}
use Rattle.std.proofs.lemmas.List.{length-reverse}
use Rattle.std.specs.List.{AllByRecursion}
use Rattle.lq_linear.specs.Item.{dividend_row}
use Rattle.lq_validity.specs.Narrow.{AreWeighed, IsPool, KeepsContradictions}
use Rattle.lq_validity.specs.Spare.{LeavesFor}
use Rattle.lq_validity.proofs.MarkLemmas.{rows_bound}
use Rattle.lq_validity.proofs.KnownLemmas.{multipliers_ascend}
use Rattle.lq_validity.proofs.SpareLemmas.{left_consequences, left_contradictions}
use Rattle.lq_validity.proofs.index.Parts.of.Goals as goal

pub known_of-requires-clause-dividends : goal.known_of-requires-clause-dividends
known_of-requires-clause-dividends c =
    subst (λ a. AllByRecursion (λ item. LeavesFor a c.args.left.now (dividend_row item)) c.args.items.now) (sym c.as_slice-2.ensures.value) c.requires.dividends

pub keep_contradictions-requires-clause-few : goal.keep_contradictions-requires-clause-few
keep_contradictions-requires-clause-few c =
    let items = c.args.items.now in
    let known = c.in_ok-known.ensures in
    omega (arith, known.left.count, known.known.marked.count, rows_bound (reverse items), length-reverse items, c.requires.few, ap length c.as_slice-5.ensures.value)

pub returns-clause-right : goal.returns-clause-right
returns-clause-right c =
    let m = c.args.multipliers.now in
    let all = c.args.fetched.items in
    let known = c.in_ok-known.known in
    let told = c.in_ok-known.ensures in
    let voids = c.in_ok-voids.voids.items in
    let inside : length known.marks.items ≤ length all = omega (arith, told.known.marked.count, ap length c.requires.fetched) in
    record {
      few = c.requires.few;
      multipliers = c.requires.multipliers;
      fetched = c.requires.fetched;
      weighed = subst (AreWeighed c.in_ok-sums.sums.items) c.as_slice.ensures.value c.in_ok-sums.ensures;
      known = told.known;
      left = left_contradictions m (multipliers_ascend m c.requires.multipliers) all known.marks.items c.args.left.now known.left.items inside told.left c.requires.none;
      pool = subst (λ a. IsPool m known.left.items a known.pool.multiples.items known.pool.table) c.as_slice-2.ensures.value told.pool;
      voids = subst (λ a. KeepsContradictions m known.left.items voids a) c.as_slice-4.ensures.value (subst (λ k. KeepsContradictions m k voids c.as_slice-4.result.now) c.as_slice-5.ensures.value c.in_ok-voids.ensures);
    }

pub returns-clause-serving : goal.returns-clause-serving
returns-clause-serving c = λ wanted h.
    let m = c.args.multipliers.now in
    let all = c.args.fetched.items in
    let known = c.in_ok-known.known in
    let told = c.in_ok-known.ensures in
    let inside : length known.marks.items ≤ length all = omega (arith, told.known.marked.count, ap length c.requires.fetched) in
    left_consequences m (multipliers_ascend m c.requires.multipliers) all known.marks.items c.args.left.now known.left.items inside told.left wanted h
