use Rattle.std.proofs.Common.{◌≡◌, length, map, take, drop}
use Rattle.bus_types.specs.Table.{rows_after}
use Rattle.bus_stores.specs.Entries.{rows_in, entry_of, undone, HaveRoom}
use Rattle.bus_stores.proofs.entries.write.Given as goal

abbrev pub invariant-loop-at : goal.invariant-loop-at
invariant-loop-at l = record {
  as_many : length l.changes ≡ length l.fn.changes;
  rows : rows_after (rows_in l.entries.entries) (drop l.at l.changes) ≡ rows_after (rows_in l.fn.entries.entries) l.fn.changes;
  undone : undone (rows_in l.entries.entries) (map entry_of (take l.at l.changes)) ≡ rows_in l.fn.entries.entries;
  room : HaveRoom l.entries.entries (map entry_of (take l.at l.changes));
}
