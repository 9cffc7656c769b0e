use Rattle.bus_wire.proofs.Wanting.{changes_held}
use Rattle.bus_wire.proofs.check.changes_shape.Goals as goal

pub returns : goal.returns
returns c = changes_held c.args.target c.args.cursor.now c.args.filter.now c.args.bytes.now c.in_ok-count.count c.in_ok-count._scn c.in_ok-count.more c.in_ok-count.ensures
