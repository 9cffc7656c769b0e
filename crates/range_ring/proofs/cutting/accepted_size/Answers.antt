use Rattle.range_ring.proofs.Counted.{counts_begin}
use Rattle.range_ring.proofs.cutting.accepted_size.Goals as goal

pub loop-event-init : goal.loop-event-init
loop-event-init g c = counts_begin (g.F.Accepts.test c.args.filter.now) c.args.events.now c.again-left.result c.requires c.again-left.ensures
