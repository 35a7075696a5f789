use Rattle.lq_parser.proofs.FaultPlaces.{byte_here, byte_past}
use Rattle.lq_parser.proofs.spelling.byte_at.Goals as goal

pub returns-in-Some : goal.returns-in-Some
returns-in-Some c = byte_here c.args.text.now c.args.tokens.now c.args.index c.in-Some.token.now c.in-Some.ensures.lookup.3.0 c.in-Some.ensures.lookup.1

pub returns-in-None : goal.returns-in-None
returns-in-None c = byte_past c.args.text.now c.args.tokens.now c.args.index c.in-None.ensures.lookup.3
