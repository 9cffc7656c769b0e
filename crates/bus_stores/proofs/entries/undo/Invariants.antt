use Rattle.std.proofs.Common.{◌≡◌, ◌≤◌, length, map, take}
use Rattle.bus_stores.specs.Entries.{rows_in, entry_of, undone, HaveRoom}
use Rattle.bus_stores.proofs.entries.undo.Given as goal

abbrev pub invariant-back : goal.invariant-back
invariant-back l = record {
  within : l.left ≤ length l.changes;
  rows : undone (rows_in l.entries.entries) (map entry_of (take l.left l.changes)) ≡ undone (rows_in l.fn.entries.entries) (map entry_of (take l.fn.made l.fn.changes));
  room : HaveRoom l.entries.entries (map entry_of (take l.left l.changes));
}

abbrev pub decreases-back : goal.decreases-back
decreases-back l = l.left
