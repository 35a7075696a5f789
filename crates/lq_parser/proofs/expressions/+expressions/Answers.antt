use Rattle.lq_parser.proofs.Onward.{err_by, ok_by}
use Rattle.lq_parser.proofs.ExpressionRules.{allocates, allocates_count, allocates_open, allocates_type, begins_suc, calls_on, calls_stop, chains, chains_stop, complete_closed, ends_chain, ends_tail, fails_closed, fails_element, fails_first, fails_member, fails_next, fails_primary, fails_right, fails_through, goes_first, goes_first_stop, goes_on, goes_on_stop, joins, joins_left, joins_stop, lacks_suc, leads_allocated, leads_closed, leads_ended, leads_member, leads_minus, leads_named, leads_none, leads_not, leads_number, leads_parens, leads_postfix, leads_primary, leads_star, leads_through, tails_element, tails_element_stop, tightest, tightest_stop, variable_on}
use Rattle.lq_parser.specs.declared.lexeme.Sign.TheVariants.{RightParen}
use Rattle.std.proofs.Common.{arith, rules, suc, sym, w64, ◌-◌, ◌≡◌}
use Rattle.std.specs.Int.RustNames.{FitsSigned}
use Rattle.std.proofs.lemmas.Int.{to_z-of_z}
use Rattle.std.proofs.lemmas.Result.{err_from_is_err_and}
use Rattle.lq_parser.proofs.Leads.{done_one, fails_makes, fails_one, leads_makes, leads_one, stuck_one}
use Rattle.lq_parser.proofs.Exits.{missing, passes}
use Rattle.lq_parser.proofs.Cuts.{done_under, fails_under}
use Rattle.lq_parser.proofs.expressions.+expressions.Goals as goal

-- ---- closed

pub closed-returns-in_err-inside-clause-stops : goal.closed-returns-in_err-inside-clause-stops
closed-returns-in_err-inside-clause-stops t c =
    let p = err_from_is_err_and c.from_residual.result c.from_residual.ensures.1 in
    rw (p.1, p.2) (passes c.in_err-inside.field-0.0 (c.in_err-inside.ensures.stops) (λ end f. fails_closed c.args.bracket c.requires f))

pub closed-returns-in_err-rest-clause-stops : goal.closed-returns-in_err-rest-clause-stops
closed-returns-in_err-rest-clause-stops t c =
    let p = err_from_is_err_and c.from_residual-in_err-rest.result c.from_residual-in_err-rest.ensures.1 in
    rw (p.1, p.2) (missing c.in_err-rest.field-0.0 c.in_err-rest.ensures.missing (λ lacks. (leads_closed c.args.bracket c.requires c.in_ok-inside.ensures.done).fails _ (fails_makes (fails_one lacks))))

pub closed-returns-clause-done : goal.closed-returns-clause-done
closed-returns-clause-done t c = (leads_closed c.args.bracket c.requires c.in_ok-inside.ensures.done).done _ _ (leads_makes (done_one c.in_ok-rest.ensures.found))

-- ---- binary

pub binary-returns-then-loosest-eq0-clause-done : goal.binary-returns-then-loosest-eq0-clause-done
binary-returns-then-loosest-eq0-clause-done t c = ok_by (λ p d. tightest (sym c.if-loosest-eq0.true) d) c.unary.result c.unary.ensures.done

pub binary-returns-then-loosest-eq0-clause-stops : goal.binary-returns-then-loosest-eq0-clause-stops
binary-returns-then-loosest-eq0-clause-stops t c = err_by (λ stop s. passes stop s (λ end f. tightest_stop (sym c.if-loosest-eq0.true) f)) c.unary.result c.unary.ensures.stops

pub binary-returns-in_err-left-clause-stops : goal.binary-returns-in_err-left-clause-stops
binary-returns-in_err-left-clause-stops t c =
    let e : suc (c.args.loosest - 1) ≡ c.args.loosest = omega arith in
    let p = err_from_is_err_and c.from_residual.result c.from_residual.ensures.1 in
    rw (p.1, p.2) (passes c.in_err-left.field-0.0 (c.in_err-left.ensures.stops) (λ end f. joins_left e f))

pub binary-returns-clause-done : goal.binary-returns-clause-done
binary-returns-clause-done t c =
    let e : suc (c.args.loosest - 1) ≡ c.args.loosest = omega arith in
    ok_by (λ p d. joins e c.in_ok-left.ensures.done d) c.chain.result c.chain.ensures.done

pub binary-returns-clause-stops : goal.binary-returns-clause-stops
binary-returns-clause-stops t c =
    let e : suc (c.args.loosest - 1) ≡ c.args.loosest = omega arith in
    err_by (λ stop s. passes stop s (λ end f. joins_stop e c.in_ok-left.ensures.done f)) c.chain.result c.chain.ensures.stops

-- ---- chain

pub chain-returns-in_default-clause-done : goal.chain-returns-in_default-clause-done
chain-returns-in_default-clause-done t c = ends_chain (lacks_suc _ c.in_default.ensures.none)

pub chain-returns-in_err-right-clause-stops : goal.chain-returns-in_err-right-clause-stops
chain-returns-in_err-right-clause-stops t c =
    let p = err_from_is_err_and c.from_residual.result c.from_residual.ensures.1 in
    rw (p.1, p.2) (passes c.in_err-right.field-0.0 (c.in_err-right.ensures.stops) (λ end f. fails_right (begins_suc c.in-Some.ensures.some) f))

pub chain-returns-clause-done : goal.chain-returns-clause-done
chain-returns-clause-done t c = ok_by (λ p d. chains (begins_suc c.in-Some.ensures.some) c.in_ok-right.ensures.done c.in_ok-joined.ensures d) c.chain.result c.chain.ensures.done

pub chain-returns-clause-stops : goal.chain-returns-clause-stops
chain-returns-clause-stops t c = err_by (λ stop s. passes stop s (λ end f. chains_stop (begins_suc c.in-Some.ensures.some) c.in_ok-right.ensures.done c.in_ok-joined.ensures f)) c.chain.result c.chain.ensures.stops

-- ---- postfix

pub postfix-returns-in_err-primary-clause-stops : goal.postfix-returns-in_err-primary-clause-stops
postfix-returns-in_err-primary-clause-stops t c =
    let p = err_from_is_err_and c.from_residual.result c.from_residual.ensures.1 in
    rw (p.1, p.2) (passes c.in_err-primary.field-0.0 (c.in_err-primary.ensures.stops) (λ end f. fails_primary f))

pub postfix-returns-clause-done : goal.postfix-returns-clause-done
postfix-returns-clause-done t c = ok_by (λ p d. (leads_primary c.in_ok-primary.ensures.done).done _ _ d) c.tail.result c.tail.ensures.done

pub postfix-returns-clause-stops : goal.postfix-returns-clause-stops
postfix-returns-clause-stops t c = err_by (λ stop s. passes stop s (λ end f. (leads_primary c.in_ok-primary.ensures.done).fails _ f)) c.tail.result c.tail.ensures.stops

-- ---- calloc

pub calloc-returns-in_err-rest-clause-stops : goal.calloc-returns-in_err-rest-clause-stops
calloc-returns-in_err-rest-clause-stops t c =
    let p = err_from_is_err_and c.from_residual.result c.from_residual.ensures.1 in
    rw (p.1, p.2) (λ at. missing c.in_err-rest.field-0.0 c.in_err-rest.ensures.missing (λ lacks. allocates_open lacks))

pub calloc-returns-in_err-count-clause-stops : goal.calloc-returns-in_err-count-clause-stops
calloc-returns-in_err-count-clause-stops t c =
    let p = err_from_is_err_and c.from_residual-in_err-count.result c.from_residual-in_err-count.ensures.1 in
    rw (p.1, p.2) (λ at. passes c.in_err-count.field-0.0 (c.in_err-count.ensures.stops) (λ end f. allocates_count c.in_ok-rest.ensures.found f))

pub calloc-returns-in_err-ctype-clause-stops : goal.calloc-returns-in_err-ctype-clause-stops
calloc-returns-in_err-ctype-clause-stops t c =
    let p = err_from_is_err_and c.from_residual-in_err-ctype.result c.from_residual-in_err-ctype.ensures.1 in
    rw (p.1, p.2) (λ at. passes c.in_err-ctype.field-0.0 (c.in_err-ctype.ensures.stops) (λ end f. allocates_type c.in_ok-rest.ensures.found c.in_ok-count.ensures.done f))

pub calloc-returns-clause-done : goal.calloc-returns-clause-done
calloc-returns-clause-done t c = λ at. allocates c.in_ok-rest.ensures.found c.in_ok-count.ensures.done c.in_ok-ctype.ensures.done c.in_ok-allocation.ensures

-- ---- arguments

pub arguments-returns-in-Some-clause-done : goal.arguments-returns-in-Some-clause-done
arguments-returns-in-Some-clause-done t c = rw c.new.ensures ((leads_none c.in-Some.ensures.some).done _ _ (leads_makes (done_one c.in-Some.ensures.some)))

pub arguments-returns-in_err-first-clause-stops : goal.arguments-returns-in_err-first-clause-stops
arguments-returns-in_err-first-clause-stops t c =
    let p = err_from_is_err_and c.from_residual.result c.from_residual.ensures.1 in
    rw (p.1, p.2) (passes c.in_err-first.field-0.0 (c.in_err-first.ensures.stops) (λ end f. fails_first c.in_default.ensures.none f))

pub arguments-returns-clause-done : goal.arguments-returns-clause-done
arguments-returns-clause-done t c = ok_by (λ p d. goes_first c.in_default.ensures.none c.in_ok-first.ensures.done c.in_ok-single.ensures d) c.more_arguments.result c.more_arguments.ensures.done

pub arguments-returns-clause-stops : goal.arguments-returns-clause-stops
arguments-returns-clause-stops t c = err_by (λ stop s. passes stop s (λ end f. goes_first_stop c.in_default.ensures.none c.in_ok-first.ensures.done c.in_ok-single.ensures f)) c.more_arguments.result c.more_arguments.ensures.stops

-- ---- more_arguments

pub more_arguments-returns-in_err-rest-clause-stops : goal.more_arguments-returns-in_err-rest-clause-stops
more_arguments-returns-in_err-rest-clause-stops t c =
    let p = err_from_is_err_and c.from_residual.result c.from_residual.ensures.1 in
    rw (p.1, p.2) (missing c.in_err-rest.field-0.0 c.in_err-rest.ensures.missing (λ lacks. (leads_ended c.in_default.ensures.none).fails _ (fails_makes (fails_one lacks))))

pub more_arguments-returns-in_default-clause-done : goal.more_arguments-returns-in_default-clause-done
more_arguments-returns-in_default-clause-done t c = (leads_ended c.in_default.ensures.none).done _ _ (leads_makes (done_one c.in_ok-rest.ensures.found))

pub more_arguments-returns-in_err-next-clause-stops : goal.more_arguments-returns-in_err-next-clause-stops
more_arguments-returns-in_err-next-clause-stops t c =
    let p = err_from_is_err_and c.from_residual-in_err-next.result c.from_residual-in_err-next.ensures.1 in
    rw (p.1, p.2) (passes c.in_err-next.field-0.0 (c.in_err-next.ensures.stops) (λ end f. fails_next c.args.read c.in-Some.ensures.some f))

pub more_arguments-returns-clause-done : goal.more_arguments-returns-clause-done
more_arguments-returns-clause-done t c = ok_by (λ p d. goes_on c.args.read c.in-Some.ensures.some c.in_ok-next.ensures.done c.in_ok-longer.ensures d) c.more_arguments.result c.more_arguments.ensures.done

pub more_arguments-returns-clause-stops : goal.more_arguments-returns-clause-stops
more_arguments-returns-clause-stops t c = err_by (λ stop s. passes stop s (λ end f. goes_on_stop c.args.read c.in-Some.ensures.some c.in_ok-next.ensures.done c.in_ok-longer.ensures f)) c.more_arguments.result c.more_arguments.ensures.stops

-- ---- named

pub named-returns-in_default-clause-done : goal.named-returns-in_default-clause-done
named-returns-in_default-clause-done t c = λ at. variable_on c.in_default.ensures.none c.in_ok-variable.ensures

pub named-returns-in_err-arguments-clause-stops : goal.named-returns-in_err-arguments-clause-stops
named-returns-in_err-arguments-clause-stops t c =
    let p = err_from_is_err_and c.from_residual-in_err-arguments.result c.from_residual-in_err-arguments.ensures.1 in
    rw (p.1, p.2) (λ at. passes c.in_err-arguments.field-0.0 (c.in_err-arguments.ensures.stops) (λ end f. calls_stop c.in-Some.ensures.some f))

pub named-returns-clause-done : goal.named-returns-clause-done
named-returns-clause-done t c = λ at. calls_on c.in-Some.ensures.some c.in_ok-arguments.ensures.done c.in_ok-call.ensures

-- ---- unary

pub unary-returns-in_err-operand-clause-stops : goal.unary-returns-in_err-operand-clause-stops
unary-returns-in_err-operand-clause-stops t c =
    let p = err_from_is_err_and c.from_residual.result c.from_residual.ensures.1 in
    rw (p.1, p.2) (passes c.in_err-operand.field-0.0 (c.in_err-operand.ensures.stops) (λ end f. (leads_minus c.in-Some.ensures.some).fails _ (fails_makes f)))

pub unary-returns-in-Some-clause-done : goal.unary-returns-in-Some-clause-done
unary-returns-in-Some-clause-done t c = rw c.in_ok-negative.ensures ((leads_minus c.in-Some.ensures.some).done _ _ (leads_makes c.in_ok-operand.ensures.done))

pub unary-returns-in_err-operand-2-clause-stops : goal.unary-returns-in_err-operand-2-clause-stops
unary-returns-in_err-operand-2-clause-stops t c =
    let p = err_from_is_err_and c.from_residual-in_err-operand-2.result c.from_residual-in_err-operand-2.ensures.1 in
    rw (p.1, p.2) (passes c.in_err-operand-2.field-0.0 (c.in_err-operand-2.ensures.stops) (λ end f. (leads_not c.in-Some-eat_sign.ensures.some).fails _ (fails_makes f)))

pub unary-returns-in-Some-eat_sign-clause-done : goal.unary-returns-in-Some-eat_sign-clause-done
unary-returns-in-Some-eat_sign-clause-done t c = rw c.in_ok-inverse.ensures ((leads_not c.in-Some-eat_sign.ensures.some).done _ _ (leads_makes c.in_ok-operand-2.ensures.done))

pub unary-returns-in_err-operand-3-clause-stops : goal.unary-returns-in_err-operand-3-clause-stops
unary-returns-in_err-operand-3-clause-stops t c =
    let p = err_from_is_err_and c.from_residual-in_err-operand-3.result c.from_residual-in_err-operand-3.ensures.1 in
    rw (p.1, p.2) (passes c.in_err-operand-3.field-0.0 (c.in_err-operand-3.ensures.stops) (λ end f. (leads_star c.in-Some-eat_sign-2.ensures.some).fails _ (fails_makes f)))

pub unary-returns-in-Some-eat_sign-2-clause-done : goal.unary-returns-in-Some-eat_sign-2-clause-done
unary-returns-in-Some-eat_sign-2-clause-done t c = rw c.in_ok-target.ensures ((leads_star c.in-Some-eat_sign-2.ensures.some).done _ _ (leads_makes c.in_ok-operand-3.ensures.done))

pub unary-returns-clause-done : goal.unary-returns-clause-done
unary-returns-clause-done t c = ok_by (λ p d. (leads_postfix c.in_default.ensures.none c.in_default-eat_sign.ensures.none c.in_default-eat_sign-2.ensures.none).done _ _ d) c.postfix.result c.postfix.ensures.done

pub unary-returns-clause-stops : goal.unary-returns-clause-stops
unary-returns-clause-stops t c = err_by (λ stop s. passes stop s (λ end f. (leads_postfix c.in_default.ensures.none c.in_default-eat_sign.ensures.none c.in_default-eat_sign-2.ensures.none).fails _ f)) c.postfix.result c.postfix.ensures.stops

-- ---- tail

pub tail-returns-in_err-index-clause-stops : goal.tail-returns-in_err-index-clause-stops
tail-returns-in_err-index-clause-stops t c =
    let p = err_from_is_err_and c.from_residual.result c.from_residual.ensures.1 in
    rw (p.1, p.2) (passes c.in_err-index.field-0.0 (c.in_err-index.ensures.stops) (λ end f. fails_element c.in-Some.ensures.some f))

pub tail-returns-in-Some-clause-done : goal.tail-returns-in-Some-clause-done
tail-returns-in-Some-clause-done t c = ok_by (λ p d. tails_element c.in-Some.ensures.some c.in_ok-index.ensures.done c.in_ok-element.ensures d) c.tail.result c.tail.ensures.done

pub tail-returns-in-Some-clause-stops : goal.tail-returns-in-Some-clause-stops
tail-returns-in-Some-clause-stops t c = err_by (λ stop s. passes stop s (λ end f. tails_element_stop c.in-Some.ensures.some c.in_ok-index.ensures.done c.in_ok-element.ensures f)) c.tail.result c.tail.ensures.stops

pub tail-returns-in_err-field-clause-stops : goal.tail-returns-in_err-field-clause-stops
tail-returns-in_err-field-clause-stops t c =
    let p = err_from_is_err_and c.from_residual-in_err-field.result c.from_residual-in_err-field.ensures.1 in
    rw (p.1, p.2) (passes c.in_err-field.field-0.0 (c.in_err-field.ensures.stops) (λ end f. fails_through c.in-Some-eat_sign.ensures.some f))

pub tail-returns-in-Some-eat_sign-clause-done : goal.tail-returns-in-Some-eat_sign-clause-done
tail-returns-in-Some-eat_sign-clause-done t c = ok_by (λ p d. (leads_through c.in-Some-eat_sign.ensures.some c.in_ok-field.ensures.done).done _ _ d) c.tail-in-Some-eat_sign.result c.tail-in-Some-eat_sign.ensures.done

pub tail-returns-in-Some-eat_sign-clause-stops : goal.tail-returns-in-Some-eat_sign-clause-stops
tail-returns-in-Some-eat_sign-clause-stops t c = err_by (λ stop s. passes stop s (λ end f. (leads_through c.in-Some-eat_sign.ensures.some c.in_ok-field.ensures.done).fails _ f)) c.tail-in-Some-eat_sign.result c.tail-in-Some-eat_sign.ensures.stops

pub tail-returns-in_err-field-2-clause-stops : goal.tail-returns-in_err-field-2-clause-stops
tail-returns-in_err-field-2-clause-stops t c =
    let p = err_from_is_err_and c.from_residual-in_err-field-2.result c.from_residual-in_err-field-2.ensures.1 in
    rw (p.1, p.2) (passes c.in_err-field-2.field-0.0 (c.in_err-field-2.ensures.stops) (λ end f. fails_member c.in-Some-eat_sign-2.ensures.some f))

pub tail-returns-in-Some-eat_sign-2-clause-done : goal.tail-returns-in-Some-eat_sign-2-clause-done
tail-returns-in-Some-eat_sign-2-clause-done t c = ok_by (λ p d. (leads_member c.in-Some-eat_sign-2.ensures.some c.in_ok-field-2.ensures.done).done _ _ d) c.tail-in-Some-eat_sign-2.result c.tail-in-Some-eat_sign-2.ensures.done

pub tail-returns-in-Some-eat_sign-2-clause-stops : goal.tail-returns-in-Some-eat_sign-2-clause-stops
tail-returns-in-Some-eat_sign-2-clause-stops t c = err_by (λ stop s. passes stop s (λ end f. (leads_member c.in-Some-eat_sign-2.ensures.some c.in_ok-field-2.ensures.done).fails _ f)) c.tail-in-Some-eat_sign-2.result c.tail-in-Some-eat_sign-2.ensures.stops

pub tail-returns-clause-done : goal.tail-returns-clause-done
tail-returns-clause-done t c = ends_tail c.in_default.ensures.none c.in_default-eat_sign.ensures.none c.in_default-eat_sign-2.ensures.none

-- ---- primary

pub primary-returns-in-Some-clause-done : goal.primary-returns-in-Some-clause-done
primary-returns-in-Some-clause-done t c =
    let fits : FitsSigned w64 c.in-Some.number = search rules in
    rw (to_z-of_z w64 c.in-Some.number fits) ((leads_number c.in-Some.ensures.some).done _ _ (leads_makes (done_under (λ next s. tt) (done_one c.in-Some.ensures.some))))

pub primary-returns-in-Some-eat_name-clause-done : goal.primary-returns-in-Some-eat_name-clause-done
primary-returns-in-Some-eat_name-clause-done t c = ok_by (λ p d. (leads_named c.in-Some-eat_name.ensures.some).done _ _ d) c.named.result (c.named.ensures.done c.in-Some-eat_name.ensures.some.0)

pub primary-returns-in-Some-eat_name-clause-stops : goal.primary-returns-in-Some-eat_name-clause-stops
primary-returns-in-Some-eat_name-clause-stops t c = err_by (λ stop s. passes stop s (λ end f. (leads_named c.in-Some-eat_name.ensures.some).fails _ f)) c.named.result (c.named.ensures.stops c.in-Some-eat_name.ensures.some.0)

pub primary-returns-in-Some-eat_word-clause-done : goal.primary-returns-in-Some-eat_word-clause-done
primary-returns-in-Some-eat_word-clause-done t c = ok_by (λ p d. (leads_allocated c.in-Some-eat_word.ensures.some).done _ _ (done_under (λ next s. tt) d)) c.calloc.result (c.calloc.ensures.done c.in-Some-eat_word.ensures.some.0)

pub primary-returns-in-Some-eat_word-clause-stops : goal.primary-returns-in-Some-eat_word-clause-stops
primary-returns-in-Some-eat_word-clause-stops t c = err_by (λ stop s. passes stop s (λ end f. (leads_allocated c.in-Some-eat_word.ensures.some).fails _ (fails_under (λ next s. tt) f))) c.calloc.result (c.calloc.ensures.stops c.in-Some-eat_word.ensures.some.0)

pub primary-returns-in_err-rest-clause-stops : goal.primary-returns-in_err-rest-clause-stops
primary-returns-in_err-rest-clause-stops t c =
    let p = err_from_is_err_and c.from_residual.result c.from_residual.ensures.1 in
    rw (p.1, p.2) (missing c.in_err-rest.field-0.0 c.in_err-rest.ensures.missing (λ lacks. (leads_parens c.in_default.ensures.none c.in_default-eat_name.ensures.none c.in_default-eat_word.ensures.none).fails _ (stuck_one (complete_closed RightParen) lacks)))

pub primary-returns-clause-done : goal.primary-returns-clause-done
primary-returns-clause-done t c = ok_by (λ p d. (leads_parens c.in_default.ensures.none c.in_default-eat_name.ensures.none c.in_default-eat_word.ensures.none).done _ _ ((leads_one c.in_ok-rest.ensures.found).done _ _ (done_under (λ next s. tt) d))) c.closed.result c.closed.ensures.done

pub primary-returns-clause-stops : goal.primary-returns-clause-stops
primary-returns-clause-stops t c = err_by (λ stop s. passes stop s (λ end f. (leads_parens c.in_default.ensures.none c.in_default-eat_name.ensures.none c.in_default-eat_word.ensures.none).fails _ ((leads_one c.in_ok-rest.ensures.found).fails _ (fails_under (λ next s. tt) f)))) c.closed.result c.closed.ensures.stops
