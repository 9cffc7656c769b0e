use Rattle.std.proofs.Common.{All}
use Rattle.bus_link.specs.Memory.{IsNewWire}
use Rattle.node_rows.proofs.wires.accepted.Given as goal

abbrev pub invariant-loop-line : goal.invariant-loop-line
invariant-loop-line l = All IsNewWire l.made.items
