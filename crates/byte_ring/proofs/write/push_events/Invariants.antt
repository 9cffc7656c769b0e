use Rattle.std.proofs.Common.{◌≡◌, ◌+◌, ◌≤◌, ◌++◌, drop, length}
use Rattle.bus_types.specs.Change.{changes_size}
use Rattle.event_codec.specs.Bytes.{changes_bytes}
use Rattle.byte_ring.proofs.write.push_events.Given as goal

abbrev pub invariant-loop-change : goal.invariant-loop-change
invariant-loop-change l = record {
  bytes : l.circle.bytes ++ changes_bytes l.scn (drop l.change-index l.changes) ≡ l.fn.circle.bytes ++ changes_bytes l.scn l.changes;
  room : l.circle.room ≡ l.fn.circle.room;
  fits : length l.circle.bytes + changes_size (drop l.change-index l.changes) ≤ l.circle.room;
}
