use Rattle.std.proofs.Common.{◌≡◌, length}
use Rattle.bus_link.proofs.opening.open_doors.Given as goal

abbrev pub invariant-loop-number : goal.invariant-loop-number
invariant-loop-number l = length l.opening.made ≡ l.number
