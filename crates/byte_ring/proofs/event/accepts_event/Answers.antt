use Rattle.std.proofs.Common.{◌∙◌}
use Rattle.byte_ring.proofs.Standing.{test_read}
use Rattle.byte_ring.proofs.event.accepts_event.Goals as goal

pub returns : goal.returns
returns g c = λ e rest there is. c.accepts.ensures ∙ test_read (g.F.Accepts.test c.args.filter.now) c.args.bytes.now c.args.at c.short.result c.long.result e rest c.short.ensures c.long.ensures there is
