use Rattle.std.proofs.Common.{◌+◌, ◌*◌, ◌≤◌, length}
use Rattle.bus_types.specs.Change.{Test}
use Rattle.byte_ring.proofs.Running.{InFull}
use Rattle.byte_ring.proofs.run.run_in_full.Given as goal

abbrev pub invariant-loop-count : goal.invariant-loop-count
invariant-loop-count l = record {
  within : l.bytes ≤ l.max;
  small : l.bytes ≤ l.count * 1048576;
  few : l.from + l.count ≤ length l.kept.windows;
  run : (test : Test) → InFull test l.kept.windows l.from l.count l.bytes l.max;
}
