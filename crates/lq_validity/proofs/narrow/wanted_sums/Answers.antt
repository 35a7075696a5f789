use Rattle.std.proofs.Common.{[], ◌∷◌, ◌++◌, get_or, sym, subst, arith, below_more}
use Rattle.std.specs.List.{AllByRecursion}
use Rattle.std.specs.Prelude.{Contains}
use Rattle.lq_linear.proofs.LawLemmas.{all_append}
use Rattle.lq_validity.specs.Sum.{IsNear}
use Rattle.lq_validity.specs.Narrow.{wanted_for}
use Rattle.lq_validity.proofs.TableLemmas.{everywhere}
use Rattle.lq_validity.proofs.PoolLemmas.{last_in, earlier_in}
use Rattle.lq_validity.proofs.narrow.wanted_sums.Goals as goal

pub loop-divisor-preserved : goal.loop-divisor-preserved
loop-divisor-preserved c =
    let old = c.loop-divisor.wanted.items in
    let one = c.wanted_sum.result in
    let i = c.loop-divisor.divisor-index in
    let goal_row = c.args.goal.now in
    let items = c.in_ok-push.ensures.items in
    record {
      near = subst (AllByRecursion (IsNear 1329227995784915872903807060280344576)) (sym items) (all_append (IsNear 1329227995784915872903807060280344576) old (one ∷ []) c.loop-divisor.invariant.near (c.wanted_sum.ensures.near, tt));
      each = below_more (λ k. Contains c.push.new.self.items (wanted_for goal_row (get_or c.args.multipliers.now k 0))) i
          (λ k l. subst (λ x. Contains x (wanted_for goal_row (get_or c.args.multipliers.now k 0))) (sym items) (earlier_in old one (wanted_for goal_row (get_or c.args.multipliers.now k 0)) (c.loop-divisor.invariant.each k l)))
          (subst (λ x. Contains x (wanted_for goal_row (get_or c.args.multipliers.now i 0))) (sym items) (subst (Contains (old ++ one ∷ [])) c.wanted_sum.ensures.value (last_in old one)));
    }

pub returns : goal.returns
returns c = record {
  near = c.loop-divisor.invariant.near;
  each = everywhere (λ d. Contains c.loop-divisor.wanted.items (wanted_for c.args.goal.now d)) c.args.multipliers.now 0 (λ k l. c.loop-divisor.invariant.each k (omega (arith, l, c.loop-divisor-test.false)));
}
