use Rattle.bus_wire.proofs.Reading.{lawful_read, reply_read}
use Rattle.bus_wire.proofs.check.read_reply.Goals as goal

pub of-requires : goal.of-requires
of-requires c = let x = lawful_read c.args.ask.now c.args.bytes.now c.in_ok-shape.shape c.in_ok-shape.ensures.ok in (x.0, x.1)

pub returns-clause-ok : goal.returns-clause-ok
returns-clause-ok c = reply_read c.args.ask.now c.args.bytes.now c.in_ok-shape.shape c.of.result c.in_ok-shape.ensures.ok c.of.ensures
