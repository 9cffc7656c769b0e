use Rattle.std.proofs.Common.{◌-◌, length}
use Rattle.bus_wire.specs.Run.{IsReached}
use Rattle.bus_wire.proofs.run.check_windows.Given as goal

abbrev pub invariant-loop : goal.invariant-loop
invariant-loop l = IsReached l.windows l.run

abbrev pub decreases-loop : goal.decreases-loop
decreases-loop l = length l.windows.bytes.now - l.run.place
