use Rattle.std.proofs.Common.{arith}
use Rattle.bus_http.proofs.Drawings.{draws_behind}
use Rattle.bus_http.proofs.inbox.fill.Goals as goal

pub returns-in-Ok-clause-draws : goal.returns-in-Ok-clause-draws
returns-in-Ok-clause-draws g c =
    draws_behind _ _ _ _ c.args.used c.in-Ok.count _ c.args.room.now c.read.new.buf (omega (arith, c.requires)) (c.in-Ok.ensures.bound).0 (c.in-Ok.ensures.bytes).0 c.in-Ok.ensures.given
