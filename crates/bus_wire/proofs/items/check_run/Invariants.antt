use Rattle.std.proofs.Common.{length}
use Rattle.bus_wire.specs.Walk.{wanted_of, IsWalked}
use Rattle.bus_wire.proofs.items.check_run.Given as goal

abbrev pub invariant-loop-next : goal.invariant-loop-next
invariant-loop-next l = IsWalked (wanted_of l.wanted) l.bytes l.walk

abbrev pub decreases-loop-next : goal.decreases-loop-next
decreases-loop-next l = length l.walk.rest.now
