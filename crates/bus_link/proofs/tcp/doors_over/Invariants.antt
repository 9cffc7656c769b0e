use Rattle.std.proofs.Common.{◌≡◌, length, All}
use Rattle.bus_link.specs.Tcp.{IsNewCount}
use Rattle.bus_link.proofs.tcp.doors_over.Given as goal

abbrev pub invariant-loop : goal.invariant-loop
invariant-loop g l = record {
  count : length l.made.items ≡ l.counter;
  fresh : All IsNewCount l.made.items;
}
