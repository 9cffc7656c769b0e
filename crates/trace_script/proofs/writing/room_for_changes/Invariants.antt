use Rattle.std.proofs.Common.{drop}
use Rattle.std.specs.List.{AllByRecursion}
use Rattle.bus_types.specs.Change.{AreChanges}
use Rattle.trace_script.specs.Spelling.{AreBytesOf}
use Rattle.trace_script.proofs.writing.room_for_changes.Given as goal

abbrev pub invariant-loop-change : goal.invariant-loop-change
invariant-loop-change l = record {
  within : AreChanges (drop l.change-index l.changes) → AreChanges l.changes;
  bytes : AllByRecursion (λ c. AreBytesOf c.put) (drop l.change-index l.changes) → AllByRecursion (λ c. AreBytesOf c.put) l.changes;
}
