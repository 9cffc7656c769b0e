use Rattle.std.proofs.Common.{◌≡◌, ◌+◌, ◌-◌, ◌*◌, ◌≤◌, ◌++◌}
use Rattle.bus_types.specs.Timeline.{end_of}
use Rattle.generated_windows.specs.Generated.{generated}
use Rattle.history_core.proofs.generate.commit_generated.Given as goal

abbrev pub invariant-loop-i : goal.invariant-loop-i
invariant-loop-i l = record {
  rest : l.source.windows ++ generated (l.count - l._i) l.state (end_of l.source.windows) ≡ l.fn.source.windows ++ generated l.count l.seed (end_of l.fn.source.windows);
  low : end_of l.source.windows ≤ end_of l.fn.source.windows + 3 * l._i;
  passed : l.source.passed ≡ l.fn.source.passed;
}
