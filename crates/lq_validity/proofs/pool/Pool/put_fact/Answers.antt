use Rattle.std.proofs.Common.{◌≡◌, [], ◌∷◌, ◌++◌, get_or, sym, ap, subst, arith, below_more}
use Rattle.std.specs.Prelude.{Contains}
use Rattle.lq_linear.proofs.LawLemmas.{all_append}
use Rattle.lq_validity.specs.declared.sum.Sum.{Sum}
use Rattle.lq_validity.specs.declared.pool.Multiple.{Multiple}
use Rattle.lq_validity.specs.Sum.{IsNear}
use Rattle.lq_validity.specs.Pool.{AreNear, multiple_at}
use Rattle.lq_validity.proofs.TableLemmas.{everywhere}
use Rattle.lq_validity.proofs.PoolLemmas.{last_in, earlier_in}
use Rattle.lq_validity.proofs.pool.Pool.put_fact.Goals as goal

pub loop-multiplier-preserved : goal.loop-multiplier-preserved
loop-multiplier-preserved c =
    let old = c.loop-multiplier.self.multiples.items in
    let new = c.put.new.self.multiples.items in
    let i = c.loop-multiplier.multiplier-index in
    let one : Multiple = record { number = c.args.number; sum = c.multiple_of.result } in
    let items = c.in_ok-put.ensures.added in
    let longer : (a : Multiple) → Contains old a → Contains new a = λ a h. subst (λ x. Contains x a) (sym items) (earlier_in old one a h) in
    let value : one ≡ multiple_at c.args.sums.now (get_or c.args.multipliers.now i 0, c.args.number) = ap (λ (s : Sum). record { number = c.args.number; sum = s }) c.multiple_of.ensures.value in
    record {
      near = subst AreNear (sym items) (all_append (λ (a : Multiple). IsNear 20769187434139310514121985316880384 a.sum) old (one ∷ []) c.loop-multiplier.invariant.near (c.multiple_of.ensures.near, tt));
      has = c.in_ok-put.ensures.sums;
      kept = λ a h. longer a (c.loop-multiplier.invariant.kept a h);
      added = below_more (λ k. Contains new (multiple_at c.args.sums.now (get_or c.args.multipliers.now k 0, c.args.number))) i
          (λ k l. longer (multiple_at c.args.sums.now (get_or c.args.multipliers.now k 0, c.args.number)) (c.loop-multiplier.invariant.added k l))
          (subst (λ x. Contains x (multiple_at c.args.sums.now (get_or c.args.multipliers.now i 0, c.args.number))) (sym items) (subst (Contains (old ++ one ∷ [])) value (last_in old one)));
    }

pub returns-after-loop-multiplier : goal.returns-after-loop-multiplier
returns-after-loop-multiplier c = record {
  near = c.loop-multiplier.invariant.near;
  has = c.loop-multiplier.invariant.has;
  kept = c.loop-multiplier.invariant.kept;
  added = λ e. everywhere (λ q. Contains c.loop-multiplier.self.multiples.items (multiple_at c.args.sums.now (q, c.args.number))) c.args.multipliers.now 0 (λ k l. c.loop-multiplier.invariant.added k (omega (arith, l, c.loop-multiplier-test.false)));
}
