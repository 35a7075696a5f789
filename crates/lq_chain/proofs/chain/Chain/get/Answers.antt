use Rattle.std.proofs.Common.{◌≡◌, ◌/◌, ◌%◌, sym, subst, refl, arith, List, ◌<◌, ◌^◌, length, slice_get, Some}
use Rattle.lq_chain.specs.Pieces.{joined}
use Rattle.lq_chain.proofs.Joined.{joined-get, joined-get_last, joined-few, found-within, past-end}
use Rattle.lq_chain.proofs.chain.Chain.get.Goals as goal

pub returns-in-Some-clause-value : goal.returns-in-Some-clause-value
returns-in-Some-clause-value g c =
    let found = joined-get c.self.inside.pieces c.self.inside.last c.in-Some.piece.now c.self.invariant.whole (c.args.at / 256) (c.args.at % 256) c.args.at (omega arith) (omega arith) (sym c.in-Some.ensures.value) in
    cc (c.element_at.ensures, c.as_slice.ensures, c.get-in-Some.ensures, c.self.view_is)

pub returns-in-None-clause-value : goal.returns-in-None-clause-value
returns-in-None-clause-value g c =
    let past = past-end c.self.inside.pieces (c.args.at / 256) c.in-None.ensures.value in
    let found = joined-get_last c.self.inside.pieces c.self.inside.last c.self.invariant.whole c.args.at (omega arith) in
    cc (c.element_at-in-None.ensures, c.as_slice-in-None.ensures, c.len.ensures, c.self.view_is)

pub returns-in-Some-clause-within : goal.returns-in-Some-clause-within
returns-in-Some-clause-within g c = found-within _ _ _ (returns-in-Some-clause-value g c)

pub returns-in-None-clause-within : goal.returns-in-None-clause-within
returns-in-None-clause-within g c = found-within _ _ _ (returns-in-None-clause-value g c)

pub returns-in-Some-clause-few : goal.returns-in-Some-clause-few
returns-in-Some-clause-few g c = rw (← c.self.view_is) (joined-few c.self.inside.pieces c.self.inside.last c.self.invariant)

pub returns-in-None-clause-few : goal.returns-in-None-clause-few
returns-in-None-clause-few g c = rw (← c.self.view_is) (joined-few c.self.inside.pieces c.self.inside.last c.self.invariant)
