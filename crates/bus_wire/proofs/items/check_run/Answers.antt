use Rattle.std.proofs.Common.{refl}
use Rattle.bus_wire.specs.Walk.{wanted_of}
use Rattle.bus_wire.proofs.Walking.{begins}
use Rattle.bus_wire.proofs.items.check_run.Goals as goal

pub loop-next-init : goal.loop-next-init
loop-next-init c = begins c.args.wanted.now c.args.bytes.now (record { items = c.args.wanted.now; count = 0; rest = c.args.bytes }) refl refl refl

pub loop-next-smaller : goal.loop-next-smaller
loop-next-smaller c = (c.in-Some.ensures (wanted_of c.args.wanted.now) c.args.bytes.now c.loop-next.invariant).1

pub loop-next-preserved : goal.loop-next-preserved
loop-next-preserved c = (c.in-Some.ensures (wanted_of c.args.wanted.now) c.args.bytes.now c.loop-next.invariant).0
