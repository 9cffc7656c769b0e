use Rattle.std.proofs.Common.{◌-◌, ◌<◌, ◌≤◌, length, take}
use Rattle.bus_types.specs.Timeline.{end_from}
use Rattle.byte_ring.proofs.kept.Kept.place_after.Given as goal

abbrev pub invariant-halves : goal.invariant-halves
invariant-halves l = record {
  some : l.low < l.high;
  within : l.high ≤ length l.self.windows;
  low : end_from l.self.floor (take l.low l.self.windows) ≤ l.scn;
  high : l.scn < end_from l.self.floor (take l.high l.self.windows);
}

abbrev pub decreases-halves : goal.decreases-halves
decreases-halves l = l.high - l.low
