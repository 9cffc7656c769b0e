use Rattle.std.proofs.Common.{All}
use Rattle.bus_link.specs.Memory.{IsNewWire}
use Rattle.link_rows.proofs.memory.conns.Given as goal

abbrev pub invariant-loop-byte : goal.invariant-loop-byte
invariant-loop-byte l = All IsNewWire l.made.items
