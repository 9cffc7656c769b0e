use Rattle.std.proofs.Common.{◌≡◌, ◌+◌, ◌*◌, ◌≤◌, drop}
use Rattle.bus_types.specs.Change.{changes_size, AreChanges}
use Rattle.bus_types.proofs.window.size_of.Given as goal

abbrev pub invariant-loop-change : goal.invariant-loop-change
invariant-loop-change l = record {
  sum : l.size + changes_size (drop l.change-index l.changes) ≡ changes_size l.changes;
  fit : AreChanges (drop l.change-index l.changes) → AreChanges l.changes;
  small : l.size ≤ 65559 * l.change-index;
}
