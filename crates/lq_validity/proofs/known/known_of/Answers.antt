use Rattle.std.proofs.Common.{◌≡◌, ◌+◌, ◌*◌, ◌≤◌, map, append-nil, length-append, [], ◌∷◌, ◌++◌, length, take, reverse, sym, ap, ◌∙◌, subst, arith, length-take}
use Rattle.std.proofs.lemmas.List.{take_more, reverse-append, length-reverse}
use Rattle.std.specs.Prelude.{◌↔◌, true}
use Rattle.lq_linear.specs.Item.{rows, dividend_row}
use Rattle.lq_linear.proofs.Collecting.{all_at}
use Rattle.lq_linear.specs.Derivation.{IsFact, FollowsDirectly}
use Rattle.lq_linear.specs.declared.combination.TheConstants.{WIDTH}
use Rattle.lq_validity.specs.Marks.{IsMarked, AreBoth}
use Rattle.lq_validity.specs.Families.{WithFew, FindsFirst}
use Rattle.lq_validity.specs.Derives.{divisions, AreExacts, division_count}
use Rattle.lq_validity.specs.Known.{IsKnown, noted}
use Rattle.lq_validity.specs.Sum.{sum_of}
use Rattle.lq_validity.specs.Narrow.{IsPool}
use Rattle.lq_validity.specs.Pool.{HasMultiples}
use Rattle.lq_validity.specs.Spare.{LeavesFor}
use Rattle.lq_validity.proofs.MarkLemmas.{marks_more, rows_bound, rows_few}
use Rattle.lq_validity.proofs.KnownLemmas.{exact_tells, entered_more, divisions_few}
use Rattle.lq_validity.proofs.FrontLemmas.{front_rows, front_short, front_weighed, sums_long, front_pool, old_mark}
use Rattle.lq_validity.proofs.NarrowedLemmas.{narrowed_direct}
use Rattle.lq_validity.proofs.SpareLemmas.{left_consequences, left_before}
use Rattle.lq_validity.proofs.known.known_of.Goals as goal

pub both_marked-requires : goal.both_marked-requires
both_marked-requires c =
    let before = reverse (take c.loop-place.place c.args.items.now) in
    omega (arith, c.loop-place.invariant.known.marked.count, rows_bound before, length-reverse (take c.loop-place.place c.args.items.now), length-take c.loop-place.place c.args.items.now, ap length c.as_slice-facts.ensures.value, c.requires.few)

pub exact_of-requires-clause-marks : goal.exact_of-requires-clause-marks
exact_of-requires-clause-marks c =
    let before = reverse (take c.loop-place.place c.args.items.now) in
    omega (arith, c.in_ok-current.ensures.count, c.loop-place.invariant.known.marked.count, rows_bound before, length-reverse (take c.loop-place.place c.args.items.now), length-take c.loop-place.place c.args.items.now, ap length c.as_slice-facts.ensures.value, ap length c.as_slice-used.ensures.value, c.requires.few)

pub note-requires-clause-few : goal.note-requires-clause-few
note-requires-clause-few c =
    let before = reverse (take c.loop-place.place c.args.items.now) in
    omega (arith, c.loop-place.invariant.count, divisions_few before, length-reverse (take c.loop-place.place c.args.items.now), length-take c.loop-place.place c.args.items.now)

pub loop-place-preserved : goal.loop-place-preserved
loop-place-preserved c =
    let items = c.args.items.now in
    let multipliers = c.args.multipliers.now in
    let i = c.loop-place.place in
    let item = c.index-items-place.result in
    let before = reverse (take i items) in
    let marks = c.loop-place.marks.items in
    let current = c.in_ok-current.current.items in
    let left = c.args.left.now in
    let found = c.in_ok-found.found in
    let known = c.loop-place.invariant.known in
    let next : reverse (take (i + 1) items) ≡ item ∷ before = ap reverse (take_more items i item c.loop-place-test.true ∙ ap (λ x. take i items ++ x ∷ []) (sym c.index-items-place.is)) ∙ reverse-append (take i items) (item ∷ []) in
    let both : AreBoth marks left current = subst (λ k. AreBoth k left current) c.as_slice-facts.ensures.value c.in_ok-current.ensures in
    let leaves : LeavesFor (rows before) left (dividend_row item) = left_before items i c.args.fetched.now left (dividend_row item) c.requires.rows (subst (λ x. LeavesFor c.args.fetched.now left (dividend_row x)) (sym c.index-items-place.is) (all_at (λ x. LeavesFor c.args.fetched.now left (dividend_row x)) items i item c.loop-place-test.true c.requires.dividends)) in
    let keeps = left_consequences multipliers c.requires.ascending (rows before) marks left current (omega (arith, known.marked.count)) both (dividend_row item) leaves in
    let finds_left : FindsFirst (WithFew multipliers (IsMarked current) (rows before) (dividend_row item) true (WIDTH + 1)) found
    = subst (λ m. FindsFirst (WithFew multipliers (IsMarked m) (rows before) (dividend_row item) true (WIDTH + 1)) found) c.as_slice-used.ensures.value c.in_ok-found.ensures in
    let finds : FindsFirst (WithFew multipliers (IsMarked marks) (rows before) (dividend_row item) true (WIDTH + 1)) found
    = narrowed_direct multipliers (rows before) (dividend_row item) marks current keeps found finds_left in
    let tells : (c.is_some.result ≡ true) ↔ FollowsDirectly multipliers (IsFact multipliers before) (rows before) (dividend_row item)
    = subst (λ b. (b ≡ true) ↔ FollowsDirectly multipliers (IsFact multipliers before) (rows before) (dividend_row item)) (sym c.is_some.ensures) (exact_tells multipliers before item marks known.marked found finds) in
    let notes = c.in_ok-divisions.ensures in
    let entered : AreExacts multipliers (item ∷ before) c.note.new.exacts
    = subst (AreExacts multipliers (item ∷ before)) (sym (notes.1 ∙ ap (λ n. noted item found n c.loop-place.exacts) c.loop-place.invariant.count)) (entered_more multipliers before item marks known.marked found finds c.loop-place.exacts known.entered) in
    let more : AreBoth c.mark_item.new.marks.items left c.in_ok-next.next.items = subst (λ k. AreBoth k left c.in_ok-next.next.items) c.as_slice-more_facts.ensures.value c.in_ok-next.ensures in
    record {
      known = subst (λ l. IsKnown multipliers l c.mark_item.new.marks.items c.note.new.exacts) (sym next)
          (record { marked = marks_more multipliers before item c.is_some.result marks c.mark_item.new.marks.items known.marked c.in_ok-mark_item.ensures tells; entered = entered });
      near = c.in_ok-put_facts.ensures.near;
      has = c.in_ok-put_facts.ensures.has;
      there = λ part m u. c.in_ok-put_facts.ensures.there part m (subst (λ k. IsMarked k part.1) (sym c.as_slice-more.ensures.value) ((more.right part.1).1 u));
      count = notes.0 ∙ ap (λ n. n + division_count item) c.loop-place.invariant.count ∙ ap divisions (sym next);
    }

pub slice_bounds-before-end-in-loop-place : goal.slice_bounds-before-end-in-loop-place
slice_bounds-before-end-in-loop-place c =
    omega (arith, length-take c.len-count.result c.args.fetched.now, front_short c.args.items.now c.loop-place.place c.len-count.result c.args.fetched.now c.requires.rows (c.len-count.ensures ∙ sym c.as_slice-facts.ensures.len ∙ ap length c.as_slice-facts.ensures.value ∙ c.loop-place.invariant.known.marked.count))

pub slice_bounds-before-end-in-loop-place-2 : goal.slice_bounds-before-end-in-loop-place-2
slice_bounds-before-end-in-loop-place-2 c =
    omega (arith, length-take c.len-count.result c.args.sums.now, sums_long c.args.sums.now c.args.fetched.now c.requires.weighed, front_short c.args.items.now c.loop-place.place c.len-count.result c.args.fetched.now c.requires.rows (c.len-count.ensures ∙ sym c.as_slice-facts.ensures.len ∙ ap length c.as_slice-facts.ensures.value ∙ c.loop-place.invariant.known.marked.count))

pub exact_of-requires-clause-rows : goal.exact_of-requires-clause-rows
exact_of-requires-clause-rows c =
    front_rows c.args.items.now c.loop-place.place c.len-count.result c.args.fetched.now c.requires.rows (c.len-count.ensures ∙ sym c.as_slice-facts.ensures.len ∙ ap length c.as_slice-facts.ensures.value ∙ c.loop-place.invariant.known.marked.count)

pub exact_of-requires-clause-weighed : goal.exact_of-requires-clause-weighed
exact_of-requires-clause-weighed c = front_weighed c.len-count.result c.args.sums.now c.args.fetched.now c.requires.weighed

pub exact_of-requires-clause-pool : goal.exact_of-requires-clause-pool
exact_of-requires-clause-pool c =
    let marks = c.loop-place.marks.items in
    let left = c.args.left.now in
    let current = c.in_ok-current.current.items in
    let both : AreBoth marks left current = subst (λ k. AreBoth k left current) c.as_slice-facts.ensures.value c.in_ok-current.ensures in
    let short = front_short c.args.items.now c.loop-place.place c.len-count.result c.args.fetched.now c.requires.rows (c.len-count.ensures ∙ sym c.as_slice-facts.ensures.len ∙ ap length c.as_slice-facts.ensures.value ∙ c.loop-place.invariant.known.marked.count) in
    subst (λ k. IsPool c.args.multipliers.now k (take c.len-count.result c.args.fetched.now) c.loop-place.pool.multiples.items c.loop-place.pool.table) (sym c.as_slice-used.ensures.value)
    (front_pool c.args.multipliers.now current c.args.sums.now c.args.fetched.now c.loop-place.pool.multiples.items c.loop-place.pool.table c.len-count.result (c.len-count.ensures ∙ sym c.as_slice-facts.ensures.len ∙ ap length c.as_slice-facts.ensures.value ∙ sym both.count) short c.requires.weighed
    c.loop-place.invariant.near c.loop-place.invariant.has (λ part m u. c.loop-place.invariant.there part m ((both.right part.1).0 u)))

pub both_marked-requires-in-loop-place : goal.both_marked-requires-in-loop-place
both_marked-requires-in-loop-place c =
    let a = c.in_ok-mark_item.ensures in
    let old = c.loop-place.marks.items in
    let before = reverse (take c.loop-place.place c.args.items.now) in
    let count : length c.as_slice-more_facts.result.now ≡ length old + length a.added = ap length (c.as_slice-more_facts.ensures.value ∙ a.joined) ∙ length-append old a.added in
    let small : length a.added ≤ 3 = omega (arith, a.count, rows_few c.index-items-place.result) in
    let before_small : length old ≤ 3 * length c.args.items.now
    = omega (arith, c.loop-place.invariant.known.marked.count, rows_bound before, length-reverse (take c.loop-place.place c.args.items.now), length-take c.loop-place.place c.args.items.now) in
    omega (arith, count, small, before_small, c.requires.few)

pub put_facts-requires-clause-few : goal.put_facts-requires-clause-few
put_facts-requires-clause-few c =
    let a = c.in_ok-mark_item.ensures in
    let old = c.loop-place.marks.items in
    let before = reverse (take c.loop-place.place c.args.items.now) in
    let count : length c.as_slice-more.result.now ≡ length old + length a.added
    = ap length c.as_slice-more.ensures.value ∙ c.in_ok-next.ensures.count ∙ ap length (c.as_slice-more_facts.ensures.value ∙ a.joined) ∙ length-append old a.added in
    let small : length a.added ≤ 3 = omega (arith, a.count, rows_few c.index-items-place.result) in
    let before_small : length old ≤ 3 * length c.args.items.now
    = omega (arith, c.loop-place.invariant.known.marked.count, rows_bound before, length-reverse (take c.loop-place.place c.args.items.now), length-take c.loop-place.place c.args.items.now) in
    omega (arith, count, small, before_small, c.requires.few)

pub put_facts-requires-clause-there : goal.put_facts-requires-clause-there
put_facts-requires-clause-there c = λ part i m.
    let left = c.args.left.now in
    let more : AreBoth c.mark_item.new.marks.items left c.in_ok-next.next.items = subst (λ k. AreBoth k left c.in_ok-next.next.items) c.as_slice-more_facts.ensures.value c.in_ok-next.ensures in
    let marked = (more.right part.1).0 (subst (λ k. IsMarked k part.1) c.as_slice-more.ensures.value m.0) in
    let e : c.len-count.result ≡ length c.loop-place.marks.items = c.len-count.ensures ∙ sym c.as_slice-facts.ensures.len ∙ ap length c.as_slice-facts.ensures.value in
    let early : part.1 ≤ length c.loop-place.marks.items = omega (arith, e, m.1) in
    c.loop-place.invariant.there part i (old_mark c.index-items-place.result c.is_some.result c.loop-place.marks.items c.mark_item.new.marks.items c.in_ok-mark_item.ensures part.1 marked.0 early, marked.1)

pub returns-clause-left : goal.returns-clause-left
returns-clause-left c = subst (λ k. AreBoth k c.args.left.now c.in_ok-both.both.items) c.as_slice-all_facts.ensures.value c.in_ok-both.ensures

pub returns-clause-pool : goal.returns-clause-pool
returns-clause-pool c =
    let both : AreBoth c.loop-place.marks.items c.args.left.now c.in_ok-both.both.items = subst (λ k. AreBoth k c.args.left.now c.in_ok-both.both.items) c.as_slice-all_facts.ensures.value c.in_ok-both.ensures in
    record {
      near = c.loop-place.invariant.near;
      has = c.loop-place.invariant.has;
      more = [];
      there = subst (λ s. HasMultiples c.args.multipliers.now (IsMarked c.in_ok-both.both.items) s c.loop-place.pool.multiples.items) (c.requires.weighed.same ∙ sym (append-nil (map sum_of c.args.fetched.now)))
          (λ part m u. c.loop-place.invariant.there part m ((both.right part.1).0 u));
      marked = omega (arith, both.count, front_short c.args.items.now c.loop-place.place (length c.loop-place.marks.items) c.args.fetched.now c.requires.rows c.loop-place.invariant.known.marked.count);
    }

pub both_marked-requires-2 : goal.both_marked-requires-2
both_marked-requires-2 c =
    let before = reverse (take c.loop-place.place c.args.items.now) in
    omega (arith, c.loop-place.invariant.known.marked.count, rows_bound before, length-reverse (take c.loop-place.place c.args.items.now), length-take c.loop-place.place c.args.items.now, ap length c.as_slice-all_facts.ensures.value, c.requires.few)
