use Rattle.std.proofs.Common.{◌≡◌, ◌+◌, ◌∙◌, sym, arith, drop, Some}
use Rattle.std.specs.Str.{bytes_eq}
use Rattle.std.specs.Map.{lookup}
use Rattle.std.proofs.lemmas.Bool.{cond-true, cond-false}
use Rattle.lq_parser.proofs.SourceText.{lookup_more, bytes_eq_turned, entries_of}
use Rattle.lq_parser.proofs.source.entry_of.Goals as goal

pub returns-then-eq : goal.returns-then-eq
returns-then-eq g c =
    let test = bytes_eq c.args.text.now in
    let more = lookup_more test c.args.table.now c.loop-entry.entry-index c.entry-item.result (omega arith) in
    let same : test c.entry-item.result.0.now ≡ c.eq.result = bytes_eq_turned c.entry-item.result.0.now c.args.text.now c.eq.result c.eq.ensures in
    let found = cond-true (test c.entry-item.result.0.now) (Some c.entry-item.result.1) (lookup test (entries_of (drop (c.loop-entry.entry-index + 1) c.args.table.now))) (same ∙ c.if-eq.true) in
    sym (sym c.loop-entry.invariant ∙ rw (← c.entry-item.is) at more ∙ found)

pub loop-entry-preserved : goal.loop-entry-preserved
loop-entry-preserved g c =
    let test = bytes_eq c.args.text.now in
    let more = lookup_more test c.args.table.now c.loop-entry.entry-index c.entry-item.result (omega arith) in
    let same : test c.entry-item.result.0.now ≡ c.eq.result = bytes_eq_turned c.entry-item.result.0.now c.args.text.now c.eq.result c.eq.ensures in
    let passed = cond-false (test c.entry-item.result.0.now) (Some c.entry-item.result.1) (lookup test (entries_of (drop (c.loop-entry.entry-index + 1) c.args.table.now))) (same ∙ c.if-eq.false) in
    sym passed ∙ sym (rw (← c.entry-item.is) at more) ∙ c.loop-entry.invariant
