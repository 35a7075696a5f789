use Rattle.std.proofs.Common.{arith, length-append}
use Rattle.lq_chain.specs.Pieces.{joined}
use Rattle.lq_chain.proofs.Joined.{joined-length}
use Rattle.lq_chain.proofs.chain.Chain.len.Goals as goal

pub returns : goal.returns
returns g c = rw (← c.self.view_is) (omega (arith, length-append (joined c.self.inside.pieces) c.self.inside.last, joined-length c.self.inside.pieces c.self.invariant.whole, c.len.ensures, c.len-2.ensures))
