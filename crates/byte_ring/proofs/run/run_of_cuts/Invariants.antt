use Rattle.std.proofs.Common.{◌+◌, ◌-◌, ◌≤◌, drop, length}
use Rattle.bus_types.specs.declared.limits.TheConstants.{MAX_SCN}
use Rattle.bus_types.specs.Cut.{cuts}
use Rattle.bus_types.specs.Relay.{longest_run, most_windows}
use Rattle.plain_buffer.specs.Run.{Tells}
use Rattle.byte_ring.proofs.run.run_of_cuts.Given as goal

abbrev pub invariant-loop-count : goal.invariant-loop-count
invariant-loop-count g l = record {
  within : l.bytes ≤ l.max;
  range : l.last ≤ MAX_SCN;
  few : l.from + l.count ≤ length l.kept.windows;
  tells : Tells l.count l.last l.bytes (longest_run (most_windows - l.count) (l.max - l.bytes) (cuts (g.F.Accepts.test l.filter) (drop (l.from + l.count) l.kept.windows)))
      (longest_run most_windows l.max (cuts (g.F.Accepts.test l.filter) (drop l.from l.kept.windows)));
}
