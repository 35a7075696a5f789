use Rattle.std.proofs.Common.{refl, sym, ◌∙◌}
use Rattle.std.proofs.lemmas.Bool.{true≢false}
use Rattle.lq_quals.proofs.SpacingLemmas.{torn_is, torn_here, all_whole}
use Rattle.lq_quals.proofs.spacing.is_torn.Goals as goal

pub returns-then-are_joined : goal.returns-then-are_joined
returns-then-are_joined c =
    let torn = torn_here c.args.line.now c.loop-byte.rest.now c.loop-byte.last c.in-Some.byte.now c.in-Some.later.now c.loop-byte.parted c.loop-byte.invariant c.in-Some.ensures.cases.0 (sym c.is_blank.ensures ∙ c.if-is_blank.false) c.if-parted.true (sym c.are_joined.ensures ∙ c.if-are_joined.true) in
    (λ _. torn_is c.args.line.now torn, λ _. refl)

pub returns : goal.returns
returns c =
    let whole = all_whole c.args.line.now c.loop-byte.rest.now c.loop-byte.last c.loop-byte.parted c.loop-byte.invariant c.in_default.ensures.cases in
    (λ odd. absurd (true≢false (sym odd)), λ torn. absurd (whole torn))
