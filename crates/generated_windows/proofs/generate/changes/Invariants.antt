use Rattle.std.proofs.Common.{◌≡◌, ◌-◌, ◌++◌}
use Rattle.generated_windows.specs.Generated.{generated_changes, after_changes}
use Rattle.generated_windows.proofs.generate.changes.Given as goal

abbrev pub invariant-loop-i : goal.invariant-loop-i
invariant-loop-i l = record {
  changes : l.changes.items ++ generated_changes (l.count - l._i) l.state ≡ generated_changes l.count l.fn.state;
  state : after_changes (l.count - l._i) l.state ≡ after_changes l.count l.fn.state;
}
